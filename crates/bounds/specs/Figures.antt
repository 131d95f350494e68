-- What a report asks of every figure: it is finite, bytes are below 2^44 and seconds within ±200,000.
use Rattle.std.specs.Prelude.{◌<◌, ◌^◌, ◌≤◌, ℕ, Float}
use Rattle.std.specs.Float.Ieee.{to_unsigned}
use Rattle.ieee.specs.Interval.{In, minus, plain, zero_float}
use Rattle.branch.specs.MainBranch.{Main}
use Rattle.branch.specs.VideoBranch.{Video}
use Rattle.events.specs.declared.Event.{Event}
use Rattle.events.specs.declared.Event.TheVariants.{Overflow, Underflow, Delay, TbOverflow, TbBusy, MbBusy}

abbrev pub bytes_limit : ℕ
bytes_limit = 2 ^ 44

abbrev pub seconds_limit : ℕ
seconds_limit = 200000

-- a figure in bytes, and the whole number that a report has of it
pub record Bytes (x : Float) : Type 0 where
  pub bounds : In zero_float x (plain bytes_limit)
  pub whole : to_unsigned 64 x < bytes_limit

abbrev pub Seconds : Float → Type 0
Seconds x = In (minus seconds_limit) x (plain seconds_limit)

-- of an event
abbrev pub EventFigures : Event → Type 0
EventFigures (Overflow x) = Bytes x
EventFigures (Underflow d x) = Seconds d × Bytes x
EventFigures (Delay d x) = Seconds d × Seconds x
EventFigures (TbOverflow x) = Bytes x
EventFigures (TbBusy x) = Seconds x
EventFigures (MbBusy x) = Seconds x

-- of a chain with p access units
pub record VideoFigures (p : ℕ) (v : Video) : Type 0 where
  pub mb_peak : Bytes v.leak.mb_peak
  pub eb_peak : Bytes v.leak.flow.eb_peak
  pub max_delay : Seconds v.max_delay
  pub units : v.units ≤ p

pub record MainFigures (p : ℕ) (b : Main) : Type 0 where
  pub peak : Bytes b.peak
  pub max_delay : Seconds b.max_delay
  pub units : b.units ≤ p
