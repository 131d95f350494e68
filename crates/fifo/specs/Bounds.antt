-- Bounds of the FIFO's figures under document 01's limits: of a FIFO into which n bytes have come, and of the window in which k more leave.
-- Those of times are whole numbers of 2^-14 s, which binary64 holds: a sum that is at most such a bound rounds to at most that bound.
use Rattle.std.specs.Prelude.{◌≡◌, ℕ, ◌+◌, ◌*◌, ◌^◌, ◌<◌, ◌≤◌, true, false, T, ◌⊎◌, negsuc, Float}
use Rattle.std.specs.Float.{inf, fin, binary64}
use Rattle.std.specs.Float.Ieee.{sub, le, lt, fits}
use Rattle.ieee.specs.Interval.{In, plain, minus}
use Rattle.ieee.specs.Whole.{Is}
use Rattle.fifo.specs.declared.FluidFifo.{FluidFifo}
use Rattle.fifo.specs.declared.Pushed.{Pushed}

-- arrivals lie within so many seconds of 0
abbrev pub arrival_limit : ℕ
arrival_limit = 17408

-- a byte takes at most so many times 2^-14 s to leave, as the rate is at least 1,000 bytes/s
abbrev pub byte_time : ℕ
byte_time = 17

-- a recording has 2^24 bytes at most, and 2^10 are to spare
abbrev pub byte_limit : ℕ
byte_limit = 2 ^ 24 + 2 ^ 10

abbrev pub peak_limit : ℕ
peak_limit = 2 ^ 43

-- 2^-27 s: the shortest window
abbrev pub shortest_span : Float
shortest_span = fin false 1 (negsuc 26)

-- n bytes have left by 17,408 s + n * 17 / 2^14 s; the longest stretch to then is from -17,408 s on
abbrev pub latest_end : ℕ → Float
latest_end n = fin false (arrival_limit * 2 ^ 14 + byte_time * n) (negsuc 13)

abbrev pub longest_stretch : ℕ → Float
longest_stretch n = fin false (2 * arrival_limit * 2 ^ 14 + byte_time * n) (negsuc 13)

-- a time among the arrivals
abbrev pub ArrivalTime : Float → Type 0
ArrivalTime t = In (minus arrival_limit) t (plain arrival_limit)

-- k bytes, k above 0, that come from t0 to t1
pub record Arrival (k : ℕ) (t0 t1 bytes : Float) : Type 0 where
  pub start : ArrivalTime t0
  pub start_fits : T (fits binary64 t0)
  pub end : ArrivalTime t1
  pub end_fits : T (fits binary64 t1)
  pub whole : Is bytes k
  pub some : 0 < k

-- nothing has come, or n bytes have
pub record Unused (f : FluidFifo) : Type 0 where
  pub done : f.virtual_done ≡ inf true
  pub since : f.busy_since ≡ inf true

pub record Used (n : ℕ) (f : FluidFifo) : Type 0 where
  pub done : In (minus arrival_limit) f.virtual_done (latest_end n)
  pub since : ArrivalTime f.busy_since

pub record Bounded (n : ℕ) (f : FluidFifo) : Type 0 where
  pub few : n ≤ byte_limit
  pub rate : In (plain 1000) f.rate (plain 125000000)
  pub busy : Unused f ⊎ Used n f
  pub peak : In (plain 0) f.peak (plain peak_limit)
  pub longest_busy : In (plain 0) f.longest_busy (longest_stretch n)
  pub rate_fits : T (fits binary64 f.rate)
  pub done_fits : T (fits binary64 f.virtual_done)
  pub since_fits : T (fits binary64 f.busy_since)
  pub peak_fits : T (fits binary64 f.peak)
  pub longest_fits : T (fits binary64 f.longest_busy)

-- what a push into f gives, where n bytes had come before and k come from t0 to t1: windows follow each other and last 2^-27 s at least
pub record Window (n k : ℕ) (f : FluidFifo) (t0 t1 : Float) (p : Pushed) : Type 0 where
  pub start : In (minus arrival_limit) p.start (latest_end n)
  pub start_fits : T (fits binary64 p.start)
  pub end : In (minus arrival_limit) p.end (latest_end (n + k))
  pub end_fits : T (fits binary64 p.end)
  pub span : In shortest_span (sub binary64 p.end p.start) (plain 52226)
  pub in_order : T (lt p.start p.end)
  pub after_done : T (le f.virtual_done p.start)
  pub after_t0 : T (le t0 p.start)
  pub after_t1 : T (le t1 p.end)
  pub done : p.fifo.virtual_done ≡ p.end
