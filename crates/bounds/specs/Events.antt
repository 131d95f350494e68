-- Bounds of what the branches find: the figures of an event are finite, bytes below 2^44 and seconds within ±200,000.
use Rattle.std.specs.Prelude.{List, [], ◌∷◌, ◌*◌, ◌+◌, ◌^◌, ◌≤◌, ℕ, Float, length}
use Rattle.ieee.specs.Interval.{In, minus, plain, zero_float}
use Rattle.fifo.specs.Bounds.{peak_limit}
use Rattle.bounds.specs.Runs.{byte_limit, longest_window}
use Rattle.events.specs.declared.Event.{Event}
use Rattle.events.specs.declared.Event.TheVariants.{Overflow, Underflow, Delay, TbOverflow, TbBusy, MbBusy}

-- decode times, and the arrivals up to which a branch advances, lie from -48,000 s to 113,000 s
abbrev pub earliest_time : ℕ
earliest_time = 48000

abbrev pub latest_time : ℕ
latest_time = 113000

-- a time of a branch, up to A
abbrev pub UpTo : ℕ → Float → Type 0
UpTo A t = In (minus earliest_time) t (plain A)

-- MBn's longest busy stretch, and an access unit's longest delay, from the first arrival on
abbrev pub busy_limit : ℕ
busy_limit = 196000

abbrev pub delay_limit : ℕ
delay_limit = 130408

-- so far below zero may rounding bring EBn's count, and so many bytes may then be missing
abbrev pub eb_loss_limit : ℕ
eb_loss_limit = 2 ^ 27

abbrev pub missing_limit : ℕ
missing_limit = byte_limit + eb_loss_limit

abbrev pub EventIn : Event → Type 0
EventIn (Overflow x) = In zero_float x (plain byte_limit)
EventIn (Underflow d x) = UpTo latest_time d × In zero_float x (plain missing_limit)
EventIn (Delay d x) = UpTo latest_time d × In zero_float x (plain delay_limit)
EventIn (TbOverflow x) = In zero_float x (plain peak_limit)
EventIn (TbBusy x) = In zero_float x (plain longest_window)
EventIn (MbBusy x) = In zero_float x (plain busy_limit)

pub data EventsIn : List Event → Type 0 where
  no_events : EventsIn []
  an_event : {e : Event} {es : List Event} → EventIn e → EventsIn es → EventsIn (e ∷ es)

-- a branch that had removed so many units before and so many after gave three events at most for each unit, and k more
pub record FewEvents (k before : ℕ) (events : List Event) (after : ℕ) : Type 0 where
  pub few : length events + 3 * before ≤ 3 * after + k
