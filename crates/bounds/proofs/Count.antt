-- How many events a branch gives: of a call of `leak_until` one at most, of a video unit's removal two, of a main unit's three. Assumes nothing.
use mathlib.Core.Bool.{Bool, cond, false, true}
use mathlib.Core.List.{List, [], ◌++◌, ◌∷◌}
use mathlib.Core.Path.{◌≡◌, refl, subst, sym}
use Prim.Native.Nat.{◌*◌, ◌+◌, ◌≤◌, zero-le, ℕ}
use native.Mathlib.Nat.{add-le-add, le_refl}
use native.Mathlib.Omega.{arith}
use lib.Ieee.{Float, eq, le, lt}
use lib.ListN.{length, length-append}
use Rattle.ieee.specs.Binary64.{1e-6f, 1f, ◌⊕◌, ◌⊖◌, -∞}
use Rattle.branch.specs.VideoBranch.{Advanced, Leak, Video, VideoRates, advance, advance_from, drain_time, finish_video, leak_events, mb_fullness, ran, remove_events, remove_unit}
use Rattle.branch.specs.declared.AccessUnit.{AccessUnit}
use Rattle.bounds.specs.Events.{FewEvents}
use Rattle.bounds.proofs.Advance.{leaked_to}
use Rattle.events.specs.declared.Event.{Event}
use Rattle.events.specs.declared.Event.TheVariants.{Overflow, Underflow, Delay, MbBusy}
use Rattle.events.specs.Event.{when}

pub record AtMost (n : ℕ) (es : List Event) : Type 0 where
  pub few : length es ≤ n

pub at_most_when : (b : Bool) (e : Event) → AtMost 1 (when b e)
at_most_when true e = record { few = le_refl 1 }
at_most_when false e = record { few = zero-le }

pub at_most_append : {m n : ℕ} {xs ys : List Event} → AtMost m xs → AtMost n ys → AtMost (m + n) (xs ++ ys)
at_most_append {m} {n} {xs} {ys} h k = record { few = subst (λ (l : ℕ). l ≤ m + n) (sym (length-append xs ys)) (add-le-add h.few k.few) }

-- ---- the video branch
leak_few : (r : VideoRates) (t : Float) (s : Leak) → AtMost 1 (leak_events r t s)
unfolding leak_events
leak_few r t s = go (eq s.proc_time -∞)
  where
    go : (b : Bool) → AtMost 1 (cond b [] (when (lt (r.mb_size ⊕ 1f) (mb_fullness (ran r t s) t)) (Overflow (mb_fullness (ran r t s) t))))
    go true = record { few = zero-le }
    go false = at_most_when (lt (r.mb_size ⊕ 1f) (mb_fullness (ran r t s) t)) (Overflow (mb_fullness (ran r t s) t))

removal_few : (v : Video) (u : AccessUnit) → AtMost 2 (remove_events v u)
unfolding remove_events
removal_few v u =
    let missing = (v.eb_required ⊕ u.bytes) ⊖ v.leak.flow.eb_in in
    let age = u.decode_time ⊖ u.first_input_time in
    at_most_append (at_most_when (lt (v.leak.flow.eb_in ⊕ 1f) (v.eb_required ⊕ u.bytes)) (Underflow u.decode_time missing))
    (at_most_when (lt (1f ⊕ 1e-6f) age) (Delay u.decode_time age))

pub no_unit_lem : {k n : ℕ} {es : List Event} → AtMost k es → FewEvents k n es n
no_unit_lem {k} {n} {es} h = record { few = less (length es) k n h.few }
  where
    less : (x k n : ℕ) → x ≤ k → x + 3 * n ≤ 3 * n + k
    less x k n h = omega arith

pub one_unit : {k n m : ℕ} {xs ys : List Event} → AtMost 3 xs → FewEvents k (n + 1) ys m → FewEvents k n (xs ++ ys) m
one_unit {k} {n} {m} {xs} {ys} h q = record { few = subst (λ (l : ℕ). l + 3 * n ≤ 3 * m + k) (sym (length-append xs ys)) (three (length xs) (length ys) n m k h.few q.few) }
  where
    three : (x y n m k : ℕ) → x ≤ 3 → y + 3 * (n + 1) ≤ 3 * m + k → x + y + 3 * n ≤ 3 * m + k
    three x y n m k h g = omega arith

pub one_event : {k n m : ℕ} {xs ys : List Event} → FewEvents k n xs m → AtMost 1 ys → FewEvents (k + 1) n (xs ++ ys) m
one_event {k} {n} {m} {xs} {ys} q h = record { few = subst (λ (l : ℕ). l + 3 * n ≤ 3 * m + (k + 1)) (sym (length-append xs ys)) (one (length xs) (length ys) n m k h.few q.few) }
  where
    one : (x y n m k : ℕ) → y ≤ 1 → x + 3 * n ≤ 3 * m + k → x + y + 3 * n ≤ 3 * m + (k + 1)
    one x y n m k h g = omega arith

abbrev AdvanceFew : ℕ → ℕ → Advanced → Type 0
AdvanceFew k n d = FewEvents k n d.events d.branch.units

from_by : (r : VideoRates) (t : Float) (u : AccessUnit) (us : List AccessUnit) (v : Video) (b : Bool) → le u.decode_time t ≡ b
    → AdvanceFew 1 (v.units + 1) (advance_from r t us (remove_unit (leaked_to r u.decode_time v) u us))
    → AdvanceFew 1 v.units (advance_from r t (u ∷ us) v)
unfolding advance_from
from_by r t u us v true e q = simp e (one_unit (at_most_append (leak_few r u.decode_time v.leak) (removal_few (leaked_to r u.decode_time v) u)) q)
from_by r t u us v false e q = simp e (no_unit_lem (leak_few r t v.leak))

from_few : (r : VideoRates) (t : Float) (us : List AccessUnit) (v : Video) → AdvanceFew 1 v.units (advance_from r t us v)
unfolding advance_from remove_unit
from_few r t [] v = no_unit_lem (leak_few r t v.leak)
from_few r t (u ∷ us) v = from_by r t u us v (le u.decode_time t) refl (from_few r t us (remove_unit (leaked_to r u.decode_time v) u us))

pub advance_few : (r : VideoRates) (t : Float) (v : Video) → FewEvents 1 v.units (advance r t v).events (advance r t v).branch.units
unfolding advance
advance_few r t v = from_few r t v.pending v

pub finish_video_few : (r : VideoRates) (v : Video) → FewEvents 2 v.units (finish_video r v).events (finish_video r v).branch.units
unfolding finish_video
finish_video_few r v =
    let longest = (advance r (drain_time r v) v).branch.leak.longest_busy in
    one_event (advance_few r (drain_time r v) v) (at_most_when (lt (1f ⊕ 1e-6f) longest) (MbBusy longest))
