-- The events of a main branch: every figure in seconds is a binary64 above zero, whatever the state. Assumes nothing.
use Prim.Native.Nat.{ℕ}
use mathlib.Core.Path.{◌≡◌, refl}
use mathlib.Core.Bool.{Bool, true, false}
use mathlib.Core.List.{List, [], ◌∷◌}
use lib.Ieee.{Float, lt}
use Rattle.ieee.specs.Binary64.{◌⊕◌, ◌⊖◌, +∞, 1f}
use Rattle.events.specs.declared.Event.TheVariants.{Overflow, Underflow}
use Rattle.events.specs.Event.{when}
use Rattle.branch.specs.declared.AccessUnit.{AccessUnit}
use Rattle.branch.specs.declared.Delivered.{Delivered}
use Rattle.branch.specs.CumulativeIn.{arrived_by}
use Rattle.branch.specs.MainBranch.{Main, removal_events, remove_events, remove_unit, drain_from, drain, final_fullness, look_at_end, finish, Fed, close_au, packet_step, end_step, main_step}
use Rattle.summary.specs.Violation.{SecondsAboveZero}
use Rattle.legal.proofs.Cases.{each_when}
use Rattle.legal.proofs.Events.{AllAbove, none_above, both_above, delay_above}

overflow_above : (size x : Float) → AllAbove (when (lt (size ⊕ 1f) x) (Overflow x))
overflow_above size x = each_when SecondsAboveZero (lt (size ⊕ 1f) x) (Overflow x) (λ e. tt)

removal_above : (size arrived fullness required : Float) (u : AccessUnit) → AllAbove (removal_events size arrived fullness required u)
unfolding removal_events
removal_above size arrived fullness required u =
    both_above (when (lt (size ⊕ 1f) fullness) (Overflow fullness)) _ (overflow_above size fullness)
    (both_above (when (lt (arrived ⊕ 1f) required) (Underflow u.decode_time (required ⊖ arrived))) _
    (each_when SecondsAboveZero (lt (arrived ⊕ 1f) required) (Underflow u.decode_time (required ⊖ arrived)) (λ e. tt))
    (delay_above u))

remove_above : (size : Float) (b : Main) (u : AccessUnit) → AllAbove (remove_events size b u)
unfolding remove_events
remove_above size b u =
    removal_above size (arrived_by b.inflow u.decode_time) (arrived_by b.inflow u.decode_time ⊖ b.removed) (b.required ⊕ u.bytes) u

from_by : (size f : Float) (u : AccessUnit) (us : List AccessUnit) (b : Main) (z : Bool) → lt f u.decode_time ≡ z
    → AllAbove (drain_from size f us (remove_unit b u us)).events → AllAbove (drain_from size f (u ∷ us) b).events
unfolding drain_from
from_by size f u us b true z h = simp z none_above
from_by size f u us b false z h = simp z (both_above (remove_events size b u) _ (remove_above size b u) h)

from_above : (size f : Float) (us : List AccessUnit) (b : Main) → AllAbove (drain_from size f us b).events
unfolding drain_from
from_above size f [] b = none_above
from_above size f (u ∷ us) b = from_by size f u us b (lt f u.decode_time) refl (from_above size f us (remove_unit b u us))

drain_above : (size f : Float) (b : Main) → AllAbove (drain size f b).events
unfolding drain
drain_above size f b = from_above size f b.pending b

finish_above : (size : Float) (b : Main) → AllAbove (finish size b).events
unfolding finish look_at_end
finish_above size b = both_above (drain size +∞ b).events _ (drain_above size +∞ b) (overflow_above size (final_fullness (drain size +∞ b).branch))

end_above : (size : Float) (f : Fed) (z : Bool) → f.full ≡ z → AllAbove (end_step size f).events
unfolding end_step
end_above size f true z = simp z none_above
end_above size f false z = simp z (finish_above size f.branch)

-- one step: a packet, or the end
pub main_above : (size : Float) (depth : ℕ) (d : Delivered) (end : Bool) (t : Float) (b : Main) → AllAbove (main_step size depth d end t b).events
unfolding main_step packet_step
main_above size depth d true t b = end_above size (close_au depth b) (close_au depth b).full refl
main_above size depth d false t b = drain_above size t b
