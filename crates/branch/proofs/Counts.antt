-- How many units a main branch has removed or has pending: a step adds one at most. So the count of removed units stays small.
use Prim.Native.Nat.{ℕ, suc, ◌+◌, ◌≤◌}
use mathlib.Core.Path.{◌≡◌, refl}
use mathlib.Core.Bool.{Bool, true, false}
use mathlib.Core.List.{List, [], ◌∷◌}
use native.Mathlib.Omega.{arith}
use lib.ListN.{length}
use lib.Ieee.{Float, lt}
use Rattle.std.specs.Prelude.{Option}
use Rattle.ieee.specs.Binary64.{0f, +∞}
use Rattle.branch.specs.declared.Run.{Run}
use Rattle.branch.specs.declared.AccessUnit.{AccessUnit}
use Rattle.branch.specs.declared.Delivered.{Delivered}
use Rattle.branch.specs.CumulativeIn.{run_refused}
use Rattle.branch.specs.MainBranch.{Main, remove_unit, drain_from, drain, at_peak, look_at_end, finish, Fed, Step, and_then, waiting, close_au, open_unit, add_bytes, add_run, stamp_of, deliver, packet_step, end_step, main_step}
use Rattle.branch.proofs.UnitCounts.{either}
use Rattle.branch.proofs.UnitCounts as unit-counts

abbrev pub units_in : Main → ℕ
units_in m = m.units + length m.pending

-- a removal takes a unit from the pending ones to the removed
drain_by : (size f : Float) (u : AccessUnit) (us : List AccessUnit) (m : Main) (c : Bool) → lt f u.decode_time ≡ c → m.pending ≡ u ∷ us →
    units_in (drain_from size f us (remove_unit m u us)).branch ≡ m.units + 1 + length us → units_in (drain_from size f (u ∷ us) m).branch ≡ m.units + suc (length us)
unfolding drain_from
drain_by size f u us m true e p h = simp (e, p)
drain_by size f u us m false e p h = simp e (omega arith)

drained_counts : (size f : Float) (us : List AccessUnit) (m : Main) → m.pending ≡ us → units_in (drain_from size f us m).branch ≡ m.units + length us
unfolding drain_from remove_unit
drained_counts size f [] m p = simp p
drained_counts size f (u ∷ us) m p = drain_by size f u us m (lt f u.decode_time) refl p (drained_counts size f us (remove_unit m u us) refl)

pub drain_counts : (size f : Float) (m : Main) → units_in (drain size f m).branch ≡ units_in m
unfolding drain
drain_counts size f m = drained_counts size f m.pending m refl

finish_counts : (size : Float) (m : Main) → units_in (finish size m).branch ≡ units_in m
unfolding finish look_at_end at_peak
finish_counts size m = drain_counts size +∞ m

-- a push adds one at most
abbrev AtMost : ℕ → Fed → Type 0
AtMost n f = units_in f.branch ≤ n

close_counts : (depth : ℕ) (m : Main) → units_in (close_au depth m).branch ≤ units_in m + 1
unfolding close_au
close_counts depth m = unit-counts.close_counts depth (waiting m)

open_counts : (depth : ℕ) (o : Option AccessUnit) (m : Main) → units_in (open_unit depth o m).branch ≤ units_in m + 1
unfolding open_unit
open_counts depth o m = unit-counts.open_counts depth o (waiting m)

-- a run adds none
run_counts : (depth : ℕ) (r : Run) (n : ℕ) (m : Main) → units_in m ≤ n → units_in (add_run depth r m).branch ≤ n
unfolding add_run add_bytes
run_counts depth r n m h = either (AtMost n) (lt 0f r.bytes) _ _ (either (AtMost n) (run_refused depth m.inflow r) _ _ h h) h

deliver_counts : (depth : ℕ) (d : Delivered) (m : Main) → units_in (deliver depth d m).branch ≤ units_in m + 1
unfolding deliver and_then
deliver_counts depth d m =
    let n = units_in m + 1 in
    unit-counts.deliver_counts units_in (λ (f : Fed). f.branch) (λ (f : Fed). f.full) n (open_unit depth (stamp_of d) m) (add_run depth d.head) (add_run depth d.rest) (add_run depth d.body) (open_counts depth (stamp_of d) m) (run_counts depth d.head n) (run_counts depth d.rest n) (run_counts depth d.body n)

end_counts : (size : Float) (f : Fed) (n : ℕ) → units_in f.branch ≤ n → units_in (end_step size f).branch ≤ n
unfolding end_step
end_counts size f n h = let g = finish_counts size f.branch in either (λ (s : Step). units_in s.branch ≤ n) f.full _ _ h (omega arith)

-- one step
pub step_counts : (size : Float) (depth : ℕ) (d : Delivered) (end : Bool) (t : Float) (m : Main) → units_in (main_step size depth d end t m).branch ≤ units_in m + 1
unfolding main_step packet_step
step_counts size depth d true t m = end_counts size (close_au depth m) (units_in m + 1) (close_counts depth m)
step_counts size depth d false t m =
    let g = drain_counts size t m in
    let k : units_in (deliver depth d (drain size t m).branch).branch ≤ units_in (drain size t m).branch + 1 = deliver_counts depth d (drain size t m).branch in
    omega arith
