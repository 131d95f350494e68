-- How many units a video branch has removed or has pending: a step adds one at most. So the count of removed units stays small.
use Prim.Native.Nat.{ℕ, suc, ◌+◌, ◌≤◌}
use mathlib.Core.Path.{◌≡◌, refl}
use mathlib.Core.Bool.{Bool, true, false, ◌&&◌, ◌||◌}
use mathlib.Core.List.{List, [], ◌∷◌}
use native.Mathlib.Omega.{arith}
use lib.ListN.{length}
use lib.Dec.{eqb}
use lib.Ieee.{Float, le}
use Rattle.std.specs.Prelude.{Option}
use Rattle.ieee.specs.Binary64.{0f}
use Rattle.branch.specs.declared.Run.{Run}
use Rattle.branch.specs.declared.AccessUnit.{AccessUnit}
use Rattle.branch.specs.declared.Delivered.{Delivered}
use Rattle.branch.specs.CumulativeIn.{run_refused}
use Rattle.branch.specs.MainBranch.{stamp_of}
use Rattle.branch.specs.VideoBranch.{VideoRates, Video, remove_unit, advance_from, advance, drain_time, finish_video, push_video}
use Rattle.branch.specs.VideoStep.{VideoChain, VideoFed, VideoStep, and_then, waiting, close_au, open_unit, add_run, deliver, packet_step, end_step, video_step}
use Rattle.branch.proofs.VideoAdvance.{leaked}
use Rattle.branch.proofs.UnitCounts.{either}
use Rattle.branch.proofs.UnitCounts as unit-counts

abbrev pub units_in : Video → ℕ
units_in v = v.units + length v.pending

-- a removal takes a unit from the pending ones to the removed
from_by : (r : VideoRates) (f : Float) (u : AccessUnit) (us : List AccessUnit) (v : Video) (c : Bool) → le u.decode_time f ≡ c → v.pending ≡ u ∷ us
    → units_in (advance_from r f us (remove_unit (leaked r u.decode_time v) u us)).branch ≡ v.units + 1 + length us → units_in (advance_from r f (u ∷ us) v).branch ≡ v.units + suc (length us)
unfolding advance_from
from_by r f u us v true e p h = simp e (omega arith)
from_by r f u us v false e p h = simp (e, p)

from_counts : (r : VideoRates) (f : Float) (us : List AccessUnit) (v : Video) → v.pending ≡ us → units_in (advance_from r f us v).branch ≡ v.units + length us
unfolding advance_from remove_unit
from_counts r f [] v p = simp p
from_counts r f (u ∷ us) v p = from_by r f u us v (le u.decode_time f) refl p (from_counts r f us (remove_unit (leaked r u.decode_time v) u us) refl)

pub advance_counts : (r : VideoRates) (f : Float) (v : Video) → units_in (advance r f v).branch ≡ units_in v
unfolding advance
advance_counts r f v = from_counts r f v.pending v refl

finish_counts : (r : VideoRates) (v : Video) → units_in (finish_video r v).branch ≡ units_in v
unfolding finish_video
finish_counts r v = advance_counts r (drain_time r v) v

close_counts : (depth : ℕ) (c : VideoChain) → units_in (close_au depth c).chain.branch ≤ units_in c.branch + 1
unfolding close_au
close_counts depth c = unit-counts.close_counts depth (waiting c)

open_counts : (depth : ℕ) (o : Option AccessUnit) (c : VideoChain) → units_in (open_unit depth o c).chain.branch ≤ units_in c.branch + 1
unfolding open_unit
open_counts depth o c = unit-counts.open_counts depth o (waiting c)

-- a run adds none
abbrev AtMost : ℕ → VideoFed → Type 0
AtMost n f = units_in f.chain.branch ≤ n

push_counts : (v : Video) (r : Run) (header : Bool) (n : ℕ) → units_in v ≤ n → units_in (push_video v r header) ≤ n
unfolding push_video
push_counts v r header n h = either (λ (x : Video). units_in x ≤ n) (le r.bytes 0f) _ _ h h

run_counts : (depth : ℕ) (header : Bool) (r : Run) (n : ℕ) (c : VideoChain) → units_in c.branch ≤ n → units_in (add_run depth header r c).chain.branch ≤ n
unfolding add_run
run_counts depth header r n c h =
    let x : units_in (push_video c.branch r header) ≤ n = push_counts c.branch r header n h in
    either (AtMost n) (le r.bytes 0f) _ _ h (either (AtMost n) (run_refused depth c.branch.leak.mb_in r || (header && eqb (length c.branch.leak.flow.marks) depth)) _ _ h x)

deliver_counts : (depth : ℕ) (d : Delivered) (c : VideoChain) → units_in (deliver depth d c).chain.branch ≤ units_in c.branch + 1
unfolding deliver and_then
deliver_counts depth d c =
    let n = units_in c.branch + 1 in
    unit-counts.deliver_counts (λ (x : VideoChain). units_in x.branch) (λ (f : VideoFed). f.chain) (λ (f : VideoFed). f.full) n (open_unit depth (stamp_of d) c) (add_run depth true d.head) (add_run depth true d.rest) (add_run depth false d.body) (open_counts depth (stamp_of d) c) (run_counts depth true d.head n) (run_counts depth true d.rest n) (run_counts depth false d.body n)

end_counts : (r : VideoRates) (f : VideoFed) (n : ℕ) → units_in f.chain.branch ≤ n → units_in (end_step r f).chain.branch ≤ n
unfolding end_step
end_counts r f n h = let g = finish_counts r f.chain.branch in either (λ (s : VideoStep). units_in s.chain.branch ≤ n) f.full _ _ h (omega arith)

-- a step adds one at most
pub step_counts : (r : VideoRates) (depth : ℕ) (d : Delivered) (end : Bool) (t : Float) (c : VideoChain) → units_in (video_step r depth d end t c).chain.branch ≤ units_in c.branch + 1
unfolding video_step packet_step
step_counts r depth d true t c = end_counts r (close_au depth c) (units_in c.branch + 1) (close_counts depth c)
step_counts r depth d false t c = rw (← advance_counts r t c.branch) (deliver_counts depth d (record { branch = (advance r t c.branch).branch; open_au = c.open_au }))
