-- How many events a main branch gives: three at most for each unit removed, and one at the end. Assumes nothing.
use mathlib.Core.Bool.{Bool, false, true}
use mathlib.Core.List.{List, [], ◌∷◌}
use mathlib.Core.Path.{◌≡◌, refl}
use Prim.Native.Nat.{◌+◌, zero-le, ℕ}
use lib.Ieee.{Float, lt}
use Rattle.ieee.specs.Binary64.{+∞, 1e-6f, 1f, ◌⊕◌, ◌⊖◌}
use Rattle.branch.specs.CumulativeIn.{arrived_by, final_total}
use Rattle.branch.specs.MainBranch.{Drained, Main, at_peak, drain, drain_from, final_fullness, finish, look_at_end, removal_events, remove_events, remove_unit}
use Rattle.branch.specs.declared.AccessUnit.{AccessUnit}
use Rattle.bounds.specs.Events.{FewEvents}
use Rattle.bounds.proofs.Count.{AtMost, at_most_append, at_most_when, no_unit_lem, one_event, one_unit}
use Rattle.events.specs.declared.Event.TheVariants.{Overflow, Underflow, Delay}

removal_few : (size : Float) (b : Main) (u : AccessUnit) → AtMost 3 (remove_events size b u)
unfolding remove_events removal_events
removal_few size b u =
    let arrived = arrived_by b.inflow u.decode_time in
    let fullness = arrived ⊖ b.removed in
    let required = b.required ⊕ u.bytes in
    let age = u.decode_time ⊖ u.first_input_time in
    at_most_append (at_most_when (lt (size ⊕ 1f) fullness) (Overflow fullness))
    (at_most_append (at_most_when (lt (arrived ⊕ 1f) required) (Underflow u.decode_time (required ⊖ arrived))) (at_most_when (lt (1f ⊕ 1e-6f) age) (Delay u.decode_time age)))

abbrev DrainFew : ℕ → ℕ → Drained → Type 0
DrainFew k n d = FewEvents k n d.events d.branch.units

from_by : (size t : Float) (u : AccessUnit) (us : List AccessUnit) (b : Main) (z : Bool) → lt t u.decode_time ≡ z
    → DrainFew 0 (b.units + 1) (drain_from size t us (remove_unit b u us)) → DrainFew 0 b.units (drain_from size t (u ∷ us) b)
unfolding drain_from
from_by size t u us b true e q = simp e (no_unit_lem (record { few = zero-le }))
from_by size t u us b false e q = simp e (one_unit (removal_few size b u) q)

from_few : (size t : Float) (us : List AccessUnit) (b : Main) → DrainFew 0 b.units (drain_from size t us b)
unfolding drain_from remove_unit
from_few size t [] b = no_unit_lem (record { few = zero-le })
from_few size t (u ∷ us) b = from_by size t u us b (lt t u.decode_time) refl (from_few size t us (remove_unit b u us))

pub drain_few : (size t : Float) (b : Main) → FewEvents 0 b.units (drain size t b).events (drain size t b).branch.units
unfolding drain
drain_few size t b = from_few size t b.pending b

pub finish_main_few : (size : Float) (b : Main) → FewEvents 1 b.units (finish size b).events (finish size b).branch.units
unfolding finish look_at_end at_peak final_fullness
finish_main_few size b =
    let d = (drain size +∞ b).branch in
    let fullness = final_total d.inflow ⊖ d.removed in
    one_event (drain_few size +∞ b) (at_most_when (lt (size ⊕ 1f) fullness) (Overflow fullness))
