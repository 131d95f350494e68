-- Bounds of the main branch.
use Rattle.std.specs.Prelude.{◌+◌, ◌^◌, ◌≤◌, ℕ, Float, length}
use Rattle.ieee.specs.Interval.{In, minus, plain, zero_float}
use Rattle.ieee.specs.Whole.{Is}
use Rattle.branch.specs.MainBranch.{Drained, Main}
use Rattle.bounds.specs.Events.{EventsIn, delay_limit}
use Rattle.bounds.specs.Runs.{InflowIn, byte_limit}
use Rattle.bounds.specs.Units.{Units}

-- n bytes have come, and q bytes in p units
pub record MainBounded (n q p : ℕ) (b : Main) : Type 0 where
  pub few : n ≤ byte_limit
  pub units_few : q ≤ byte_limit
  pub inflow : InflowIn n b.inflow.runs b.inflow.settled
  pub removed : In (minus 0) b.removed (plain byte_limit)
  pub whole : ℕ
  pub required : Is b.required whole
  pub pending : Units q b.pending whole
  pub counted : b.units + length b.pending ≤ p
  pub peak : In zero_float b.peak (plain byte_limit)
  pub delay : In zero_float b.max_delay (plain delay_limit)

-- what a drain gives
pub record DrainedIn (n q p : ℕ) (d : Drained) : Type 0 where
  pub branch : MainBounded n q p d.branch
  pub events : EventsIn d.events

-- BSn
abbrev pub SizeIn : Float → Type 0
SizeIn x = In (plain 1) x (plain (2 ^ 30))
