-- The bounds of the branches are within those that a report asks for. Assumes nothing.
use mathlib.Core.Logic.{◌⊎◌, inl, inr}
use Prim.Native.Nat.{◌+◌, ◌<◌, ◌≤◌, ℕ}
use native.Mathlib.Nat.{le-add_right, le_of_lt, le_trans, lt_of_le_of_lt}
use lib.Dec.{lit<, lit≤}
use lib.Ieee.{Float, eq, le, lt}
use lib.ListN.{length}
use Rattle.ieee.specs.Interval.{In, minus, plain, zero_float}
use Rattle.ieee.proofs.Growth.{widen_at}
use Rattle.ieee.proofs.Interval.{widen_low}
use Rattle.ieee.proofs.Truncation.{truncation_le}
use Rattle.fifo.specs.Bounds.{peak_limit}
use Rattle.branch.specs.MainBranch.{Main}
use Rattle.branch.specs.VideoBranch.{Video}
use Rattle.branch.specs.declared.sys_branch.SysBranch.{SysBranch}
use Rattle.bounds.specs.Events.{EventIn, busy_limit, delay_limit, earliest_time, latest_time, missing_limit}
use Rattle.bounds.specs.Figures.{Bytes, EventFigures, MainFigures, Seconds, VideoFigures, bytes_limit, seconds_limit}
use Rattle.bounds.specs.Main.{MainBounded}
use Rattle.bounds.specs.Runs.{byte_limit, longest_window}
use Rattle.bounds.specs.Sys.{SysBounded}
use Rattle.bounds.specs.Video.{Running, Unstarted, VideoIn, eb_peak_limit}
use Rattle.events.specs.declared.Event.{Event}
use Rattle.events.specs.declared.Event.TheVariants.{Overflow, Underflow, Delay, TbOverflow, TbBusy, MbBusy}

-- so many bytes at most, a closed number
bytes_of : (n : ℕ) {x : Float} → n < bytes_limit → In zero_float x (plain n) → Bytes x
unfolding le lt eq
bytes_of n {x} h i =
    record {
      bounds = widen_low zero_float (widen_at 0 bytes_limit (widen_low (minus 0) i tt) (lit≤ tt) (le_of_lt h)) tt;
      whole = lt_of_le_of_lt (truncation_le 64 n i) h;
    }

seconds_of : (m n : ℕ) {x : Float} → m ≤ seconds_limit → n ≤ seconds_limit → In (minus m) x (plain n) → Seconds x
seconds_of m n h k i = widen_at seconds_limit seconds_limit i h k

nonneg_seconds : (n : ℕ) {x : Float} → n ≤ seconds_limit → In zero_float x (plain n) → Seconds x
unfolding le lt eq
nonneg_seconds n h i = seconds_of 0 n (lit≤ tt) h (widen_low (minus 0) i tt)

pub event_figures : (e : Event) → EventIn e → EventFigures e
event_figures (Overflow x) i = bytes_of byte_limit (lit< tt) i
event_figures (Underflow d x) i = (seconds_of earliest_time latest_time (lit≤ tt) (lit≤ tt) i.0, bytes_of missing_limit (lit< tt) i.1)
event_figures (Delay d x) i = (seconds_of earliest_time latest_time (lit≤ tt) (lit≤ tt) i.0, nonneg_seconds delay_limit (lit≤ tt) i.1)
event_figures (TbOverflow x) i = bytes_of peak_limit (lit< tt) i
event_figures (TbBusy x) i = nonneg_seconds longest_window (lit≤ tt) i
event_figures (MbBusy x) i = nonneg_seconds busy_limit (lit≤ tt) i

pub video_figures : {L n q p a : ℕ} {v : Video} → VideoIn L n q p a v → VideoFigures p v
video_figures {L} {n} {q} {p} {a} {v} b =
    record {
      mb_peak = bytes_of byte_limit (lit< tt) (go b.leak).0;
      eb_peak = bytes_of eb_peak_limit (lit< tt) (go b.leak).1;
      max_delay = nonneg_seconds delay_limit (lit≤ tt) b.delay;
      units = le_trans (le-add_right v.units (length v.pending)) b.counted;
    }
  where
    go : Unstarted n v.leak ⊎ Running n L (a + v.units) v.leak → In zero_float v.leak.mb_peak (plain byte_limit) × In zero_float v.leak.flow.eb_peak (plain eb_peak_limit)
    go (inl x) = (x.parts.peak, x.parts.flow.peak)
    go (inr x) = (x.parts.peak, x.parts.flow.peak)

pub main_figures : {n q p : ℕ} {b : Main} → MainBounded n q p b → MainFigures p b
main_figures {n} {q} {p} {b} m =
    record {
      peak = bytes_of byte_limit (lit< tt) m.peak;
      max_delay = nonneg_seconds delay_limit (lit≤ tt) m.delay;
      units = le_trans (le-add_right b.units (length b.pending)) m.counted;
    }

pub sys_peak : {n : ℕ} {s : SysBranch} → SysBounded n s → Bytes s.peak
sys_peak {n} b = bytes_of n (lt_of_le_of_lt b.few (lit< tt)) b.peak
