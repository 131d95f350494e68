-- Bounds of the video branch. What has left MBn is not ahead of what has arrived by more than 2^24 bytes and the roundings of the turns: the leak takes
-- what arrives between two times whatever has left before, so that without such a bound nothing would hold what leaves to what arrives.
use Rattle.std.specs.Prelude.{true, [], ◌⊎◌, ◌≡◌, ◌*◌, ◌+◌, ◌^◌, ◌≤◌, ℕ, T, Float, length}
use Rattle.std.specs.Float.{binary64}
use Rattle.std.specs.Float.Ieee.{eq, fits, le}
use Rattle.std.specs.Float.Ieee.Scale.{finite}
use Rattle.ieee.specs.Binary64.{0f, -∞}
use Rattle.ieee.specs.Interval.{In, minus, plain, zero_float}
use Rattle.ieee.specs.Progress.{place}
use Rattle.ieee.specs.Units.{neg_units, pos_units, ulp}
use Rattle.ieee.specs.Whole.{Is}
use Rattle.branch.specs.CumulativeIn.{arrived_by}
use Rattle.branch.specs.VideoBranch.{Advanced, Leak, Transfer, Video, VideoRates}
use Rattle.bounds.specs.Events.{EventsIn, UpTo, busy_limit, delay_limit, earliest_time}
use Rattle.bounds.specs.Marks.{Marked}
use Rattle.bounds.specs.Runs.{InflowIn, byte_limit}
use Rattle.bounds.specs.Units.{Units}

-- ---- rates, sizes and times
-- Rbxn from 8,000 bit/s on, and sizes from 1 byte to 2^30
pub record RatesIn (r : VideoRates) : Type 0 where
  pub rbx : In (plain 1000) r.rbx (plain (2 ^ 27))
  pub mb : In (plain 1) r.mb_size (plain (2 ^ 30))
  pub eb : In (plain 1) r.eb_size (plain (2 ^ 30))
  pub eb_fits : T (fits binary64 r.eb_size)

-- ---- transfer
-- what has left MBn: 2^24 bytes that have arrived, 2^24 ahead of them, and 1 for the roundings
abbrev pub transfer_limit : ℕ
transfer_limit = 2 ^ 25 + 1

-- EBn's count of bytes from the start is at most its size and what was removed
abbrev pub eb_in_limit : ℕ
eb_in_limit = 2 ^ 30 + 2 ^ 25 + 1

abbrev pub eb_peak_limit : ℕ
eb_peak_limit = 2 ^ 34

-- as coarse as the roundings of EBn's counts ask
abbrev pub EbCount : Float → Type 0
EbCount x = In (minus (2 ^ 32)) x (plain (2 ^ 32))

-- n bytes are queued. Dropping header bytes may leave EBn's count below zero, by a byte for each half byte that has left MBn and for each of e turns
pub record TransferIn (n e : ℕ) (f : Transfer) : Type 0 where
  pub marks : Marked n f.marks 0
  pub few : length f.marks ≤ n
  pub transferred : In zero_float f.transferred (plain transfer_limit)
  pub transferred_fits : T (fits binary64 f.transferred)
  pub eb_finite : T (finite f.eb_in)
  pub eb_fits : T (fits binary64 f.eb_in)
  pub eb_low : neg_units binary64 f.eb_in ≤ (place 0 1 f.transferred + e) * 2 ^ 1074 + pos_units binary64 f.eb_in
  pub eb_high : T (le f.eb_in (plain eb_in_limit))
  pub removed : EbCount f.eb_removed
  pub removed_high : T (le f.eb_removed (plain (2 ^ 25)))
  pub removed_fits : T (fits binary64 f.eb_removed)
  pub peak : In zero_float f.eb_peak (plain eb_peak_limit)

-- ---- the leak
-- so long does it take at most to move 2^24 bytes at Rbxn
abbrev pub leak_time : ℕ
leak_time = 16778

-- the leak's clock before the end, the time up to which the end advances, and the clock then
abbrev pub proc_limit : ℕ
proc_limit = 130000

abbrev pub drain_limit : ℕ
drain_limit = 148000

abbrev pub last_limit : ℕ
last_limit = 165000

-- no busy stretch, or its start
abbrev pub Since : Float → Type 0
Since x = (eq x -∞ ≡ true) ⊎ In (minus earliest_time) x (plain (2 ^ 18))

-- how far what has left may be ahead of what has arrived, in units of 2^-1074: 2^24 bytes, and a rounding for each of e turns
abbrev pub ahead_limit : ℕ → ℕ
ahead_limit e = 2 ^ 24 * 2 ^ 1074 + e * ulp binary64 30

pub record LeakIn (n e : ℕ) (s : Leak) : Type 0 where
  pub inflow : InflowIn n s.mb_in.runs s.mb_in.settled
  pub flow : TransferIn n e s.flow
  pub since : Since s.busy_since
  pub longest : In zero_float s.longest_busy (plain busy_limit)
  pub peak : In zero_float s.mb_peak (plain byte_limit)

-- before the first call of `leak_until`, and after it
pub record Unstarted (n : ℕ) (s : Leak) : Type 0 where
  pub parts : LeakIn n 0 s
  pub time : s.proc_time ≡ -∞
  pub transferred : s.flow.transferred ≡ 0f

pub record Running (n L e : ℕ) (s : Leak) : Type 0 where
  pub parts : LeakIn n e s
  pub time : UpTo L s.proc_time
  pub time_fits : T (fits binary64 s.proc_time)
  pub ahead : pos_units binary64 s.flow.transferred ≤ pos_units binary64 (arrived_by s.mb_in s.proc_time) + ahead_limit e

-- ---- the branch
-- so many turns may round: a call of `leak_until` counts for one
abbrev pub turn_limit : ℕ
turn_limit = 2 ^ 22

-- the loop of `leak_until` takes so many turns at most: each but the last two moves half a byte, and 2^24 + 1 bytes at most leave
abbrev pub loop_limit : ℕ
loop_limit = 2 ^ 25 + 4

-- n bytes are queued, q bytes in p units have come, a times the branch has advanced, and the leak's clock is within L
pub record VideoIn (L n q p a : ℕ) (v : Video) : Type 0 where
  pub few : n ≤ byte_limit
  pub units_few : q ≤ byte_limit
  pub leak : Unstarted n v.leak ⊎ Running n L (a + v.units) v.leak
  pub queued : Is v.queued n
  pub removed : ℕ
  pub required : Is v.eb_required removed
  pub required_fits : T (fits binary64 v.eb_required)
  pub pending : Units q v.pending removed
  pub counted : v.units + length v.pending ≤ p
  pub delay : In zero_float v.max_delay (plain delay_limit)

abbrev pub VideoBounded : ℕ → ℕ → ℕ → ℕ → Video → Type 0
VideoBounded = VideoIn proc_limit

-- what an advance gives
pub record AdvancedIn (L n q p a : ℕ) (d : Advanced) : Type 0 where
  pub branch : VideoIn L n q p a d.branch
  pub events : EventsIn d.events

-- a branch into which nothing has come
unfoldable pub new_video : Video
new_video =
    record {
      leak = record {
        mb_in = record { runs = []; settled = 0f };
        flow = record { marks = []; transferred = 0f; eb_in = 0f; eb_removed = 0f; eb_peak = 0f };
        busy_since = -∞;
        longest_busy = 0f;
        mb_peak = 0f;
        proc_time = -∞;
      };
      queued = 0f;
      eb_required = 0f;
      pending = [];
      max_delay = 0f;
      units = 0;
    }
