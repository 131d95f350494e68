-- Bounds of the clock's figures under document 01's limits. Those of times are whole numbers of 2 ^ -14 s, which binary64
-- holds: a sum that is at most such a bound rounds to at most that bound.
use Rattle.std.specs.Prelude.{◌≡◌, ℕ, ◌+◌, ◌*◌, ◌/◌, ◌^◌, ◌≤◌, true, false, T, List, [], ◌∷◌, ℤ, negsuc}
use Rattle.std.specs.Float.{fin, binary64}
use Rattle.std.specs.Float.Ieee.{fits}
use Rattle.ieee.specs.Binary64.{◌⊖◌}
use Rattle.ieee.specs.Interval.{In, plain}
use Rattle.clock.specs.Pcr.{pcr_modulus}
use Rattle.arrival.specs.declared.RateInterval.{RateInterval}
use Rattle.arrival.specs.declared.Sample.{Sample}
use Rattle.arrival.specs.ArrivalClock.{seconds}

-- the longest recording
abbrev pub byte_limit : ℕ
byte_limit = 2 ^ 24

-- the greatest raw PCR: base 2 ^ 33 - 1, extension 511
abbrev pub raw_limit : ℕ
raw_limit = pcr_modulus + 211

-- a raw PCR, and the steps of a recording at 1,000 bytes/s
abbrev pub extended_limit : ℕ
extended_limit = 3050000000000

abbrev pub unit : ℤ
unit = negsuc 13

-- a byte takes at most 17 units to arrive, as the rate is 1,000 bytes/s at least
abbrev pub units_of : ℕ → ℕ
units_of bytes = 17 * bytes

-- arrivals lie within so many seconds of 0
abbrev pub arrival_limit : ℕ
arrival_limit = 17408

-- samples in the order of their positions, from one on
abbrev pub InOrder : ℕ → List Sample → Type 0
InOrder before [] = before ≤ byte_limit
InOrder before (s ∷ ss) = (before ≤ s.position) × (s.ticks ≤ raw_limit) × InOrder s.position ss

pub record IntervalWithin (i : RateInterval) : Type 0 where
  pub start_within : i.start_pos ≤ byte_limit
  pub rate_within : In (plain 1000) i.rate (plain 1000000000)
  pub time_within : In (fin true 0 unit) i.start_time (fin false (units_of i.start_pos) unit)
  pub time_fits : T (fits binary64 i.start_time)
  pub extended : ℕ
  pub extended_within : extended ≤ extended_limit
  pub offset_is : i.pts_offset ≡ i.start_time ⊖ seconds extended
  pub reference_is : i.pcr_ref_90k ≡ extended / 300

abbrev pub AllWithin : List RateInterval → Type 0
AllWithin [] = Unit {0}
AllWithin (i ∷ is) = IntervalWithin i × AllWithin is
