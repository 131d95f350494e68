-- MBn's longest busy stretch begins at 0 and becomes only the larger of itself and a difference: every step keeps it a binary64. Assumes nothing.
use Prim.Native.Nat.{ℕ, zero, suc}
use mathlib.Core.Path.{◌≡◌, refl}
use mathlib.Core.Bool.{Bool, true, false, cond, ◌&&◌, ◌||◌}
use mathlib.Core.List.{List, [], ◌∷◌}
use lib.Dec.{T, eqb}
use lib.ListN.{length}
use lib.Ieee.{Float, binary64, fits, of_bits, lt, le, eq}
use lib.Ieee.Fits.{sub-fits}
use Rattle.ieee.specs.Binary64.{◌⊕◌, ◌⊖◌, -∞, 0f, 1f, 1e-6f}
use Rattle.ieee.specs.MaxMin.{max_of}
use Rattle.ieee.proofs.MaxMin.{max_fits}
use Rattle.branch.specs.declared.Run.{Run}
use Rattle.branch.specs.declared.AccessUnit.{AccessUnit}
use Rattle.branch.specs.declared.Delivered.{Delivered}
use Rattle.std.specs.Prelude.{Option, Some, None}
use Rattle.branch.specs.CumulativeIn.{run_refused, settle, time_of_cumulative}
use Rattle.branch.specs.MainBranch.{stamp_of}
use Rattle.branch.specs.VideoBranch.{VideoRates, Leak, longest_seen, looked, stalled, gone, Turned, on, break, arriving, pace_take, filled, paced, backlogged, step, mb_fullness, eb_room, turn, turns, budget, closed, started, ran, leak_until, transfer, Video, with_removed, remove_unit, advance_from, advance, drain_time, finish_video, pushed_leak, push_video}
use Rattle.branch.specs.VideoStep.{VideoChain, new_video, VideoFed, fed, refused, and_then, close_au, open_unit, add_run, deliver, packet_step, end_step, video_step}
use Rattle.branch.proofs.VideoAdvance.{leaked}
use Rattle.legal.specs.Legal.{BusyFits}
use Rattle.legal.proofs.Cases.{either}

-- the leak of a turn, of a branch and of a chain
abbrev TurnFits : Turned → Type 0
TurnFits u = BusyFits u.leak

abbrev VideoFits : Video → Type 0
VideoFits v = BusyFits v.leak

abbrev FedFits : VideoFed → Type 0
FedFits f = BusyFits f.chain.branch.leak

-- a stretch that is over
longer : (longest since now : Float) (idle : Bool) → T (fits binary64 longest) → T (fits binary64 (cond idle longest (max_of longest (now ⊖ since))))
longer longest since now idle h =
    either (λ (x : Float). T (fits binary64 x)) idle longest (max_of longest (now ⊖ since)) h (max_fits binary64 longest (now ⊖ since) h (sub-fits binary64 now since))

looked_fits : (s : Leak) → BusyFits s → BusyFits (looked s)
unfolding looked longest_seen
looked_fits s h =
    either (λ (x : Float). T (fits binary64 x)) (lt 1f (mb_fullness s s.proc_time)) s.longest_busy _ h (longer s.longest_busy s.busy_since s.proc_time (eq s.busy_since -∞) h)

-- ---- a turn
filled_fits : (s : Leak) (t bytes : Float) (a : Option Float) → BusyFits s → BusyFits (filled s t bytes a).leak
unfolding filled gone
filled_fits s t bytes (Some x) h = h
filled_fits s t bytes None h = h

paced_fits : (s : Leak) (t available room : Float) → BusyFits s → BusyFits (paced s t available room).leak
unfolding paced gone
paced_fits s t available room h =
    either TurnFits (lt (pace_take s t available room ⊕ 1f) (arriving s t available)) _ _
    (filled_fits s t (max_of (pace_take s t available room) 0f) (time_of_cumulative (settle s.mb_in t) (transfer s.flow (max_of (pace_take s t available room) 0f)).transferred) h) h

step_fits : (r : VideoRates) (t : Float) (s : Leak) (available room : Float) → BusyFits s → BusyFits (step r t s available room).leak
unfolding step stalled backlogged
step_fits r t s available room h =
    either TurnFits (le room 1f) (break (stalled s t)) _ h
    (either TurnFits (le available 1f) (paced s t available room) (on (backlogged r s t available room)) (paced_fits s t available room h) h)

turn_fits : (r : VideoRates) (t : Float) (s : Leak) → BusyFits s → BusyFits (turn r t s).leak
unfolding turn
turn_fits r t s h =
    either TurnFits (lt s.proc_time (t ⊖ 1e-6f)) _ _ (step_fits r t (looked s) (mb_fullness s s.proc_time) (eb_room r s.flow) (looked_fits s h)) h

turns_fits : (n : ℕ) (r : VideoRates) (t : Float) (u : Turned) → BusyFits u.leak → BusyFits (turns n r t u).leak
unfolding turns
turns_fits zero r t u h = h
turns_fits (suc n) r t u h = either TurnFits u.more (turns n r t (turn r t u.leak)) u (turns_fits n r t (turn r t u.leak) (turn_fits r t u.leak h)) h

-- ---- leak_until
ran_fits : (r : VideoRates) (t : Float) (s : Leak) → BusyFits s → BusyFits (ran r t s)
unfolding ran
ran_fits r t s h = turns_fits budget r t (on s) h

closed_fits : (s : Leak) (t : Float) → BusyFits s → BusyFits (closed s t)
unfolding closed
closed_fits s t h = longer s.longest_busy s.busy_since t (eq s.busy_since -∞) h

pub until_fits : (r : VideoRates) (t : Float) (s : Leak) → BusyFits s → BusyFits (leak_until r t s)
unfolding leak_until started
until_fits r t s h = either BusyFits (eq s.proc_time -∞) (started s t) (closed (ran r t s) t) h (closed_fits (ran r t s) t (ran_fits r t s h))

-- ---- the branch
pub removed_fits : (v : Video) (u : AccessUnit) (us : List AccessUnit) → BusyFits v.leak → BusyFits (remove_unit v u us).leak
unfolding remove_unit with_removed
removed_fits v u us h = h

from_by : (r : VideoRates) (f : Float) (u : AccessUnit) (us : List AccessUnit) (v : Video) (b : Bool) → le u.decode_time f ≡ b
    → BusyFits (advance_from r f us (remove_unit (leaked r u.decode_time v) u us)).branch.leak → BusyFits (leak_until r f v.leak) → BusyFits (advance_from r f (u ∷ us) v).branch.leak
unfolding advance_from
from_by r f u us v true e h k = simp e h
from_by r f u us v false e h k = simp e k

pub from_fits : (r : VideoRates) (f : Float) (us : List AccessUnit) (v : Video) → BusyFits v.leak → BusyFits (advance_from r f us v).branch.leak
unfolding advance_from
from_fits r f [] v h = until_fits r f v.leak h
from_fits r f (u ∷ us) v h =
    let x = leaked r u.decode_time v in
    from_by r f u us v (le u.decode_time f) refl
    (from_fits r f us (remove_unit x u us) (removed_fits x u us (until_fits r u.decode_time v.leak h)))
    (until_fits r f v.leak h)

pub advance_fits : (r : VideoRates) (f : Float) (v : Video) → BusyFits v.leak → BusyFits (advance r f v).branch.leak
unfolding advance
advance_fits r f v h = from_fits r f v.pending v h

-- ---- the chain
pub new_fits : BusyFits new_video.branch.leak
unfolding new_video of_bits fits
new_fits = tt

-- a close and a stamp change the units alone
pub close_fits : (depth : ℕ) (c : VideoChain) → BusyFits c.branch.leak → BusyFits (close_au depth c).chain.branch.leak
unfolding close_au
close_fits depth c h = h

then_fits : (x : VideoFed) (g : VideoChain → VideoFed) → BusyFits x.chain.branch.leak → ((c : VideoChain) → BusyFits c.branch.leak → BusyFits (g c).chain.branch.leak)
    → BusyFits (and_then x g).chain.branch.leak
unfolding and_then
then_fits x g h k = either FedFits x.full x (g x.chain) h (k x.chain h)

open_fits : (depth : ℕ) (o : Option AccessUnit) (c : VideoChain) → BusyFits c.branch.leak → BusyFits (open_unit depth o c).chain.branch.leak
unfolding open_unit
open_fits depth o c h = h

push_fits : (v : Video) (r : Run) (header : Bool) → BusyFits v.leak → BusyFits (push_video v r header).leak
unfolding push_video pushed_leak
push_fits v r header h = either VideoFits (le r.bytes 0f) v _ h h

run_fits : (depth : ℕ) (header : Bool) (r : Run) (c : VideoChain) → BusyFits c.branch.leak → BusyFits (add_run depth header r c).chain.branch.leak
unfolding add_run
run_fits depth header r c h =
    either FedFits (le r.bytes 0f) (fed c) _ h
    (either FedFits (run_refused depth c.branch.leak.mb_in r || (header && eqb (length c.branch.leak.flow.marks) depth)) (refused c) _ h (push_fits c.branch r header h))

pub deliver_fits : (depth : ℕ) (d : Delivered) (c : VideoChain) → BusyFits c.branch.leak → BusyFits (deliver depth d c).chain.branch.leak
unfolding deliver
deliver_fits depth d c h =
    then_fits (open_unit depth (stamp_of d) c) _ (open_fits depth (stamp_of d) c h) (λ n i.
    then_fits (add_run depth true d.head n) _ (run_fits depth true d.head n i) (λ o j.
    then_fits (add_run depth true d.rest o) (add_run depth false d.body) (run_fits depth true d.rest o j) (λ p k.
    run_fits depth false d.body p k)))

end_fits : (r : VideoRates) (f : VideoFed) (b : Bool) → f.full ≡ b → BusyFits f.chain.branch.leak → BusyFits (end_step r f).chain.branch.leak
unfolding end_step finish_video
end_fits r f true e h = simp e h
end_fits r f false e h = simp e (advance_fits r (drain_time r f.chain.branch) f.chain.branch h)

-- one step: a packet, or the end
pub video_step_fits : (r : VideoRates) (depth : ℕ) (d : Delivered) (end : Bool) (t : Float) (c : VideoChain) → BusyFits c.branch.leak
    → BusyFits (video_step r depth d end t c).chain.branch.leak
unfolding video_step packet_step
video_step_fits r depth d true t c h = end_fits r (close_au depth c) (close_au depth c).full refl (close_fits depth c h)
video_step_fits r depth d false t c h =
    deliver_fits depth d (record { branch = (advance r t c.branch).branch; open_au = c.open_au }) (advance_fits r t c.branch h)
