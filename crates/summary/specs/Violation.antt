-- The violation that an event of a chain is: where and with which fields the Rust's branches and `analyze_tstd` call `record`.
-- Chains 0 to 7 are those of the streams, chain 8 is the system's (and so would be any past it).
use Rattle.std.specs.Prelude.{ℕ, ◌+◌, ◌-◌, ◌*◌, ◌/◌, ◌%◌, cond, get_or, T, ltb, Float, Option, Some, None}
use Rattle.std.specs.Float.{binary64}
use Rattle.std.specs.Float.Ieee.{fits, to_unsigned}
use Rattle.std.specs.Float.Ieee.Positive.{above}
use Rattle.report.specs.declared.violation.TStdViolation.{TStdViolation}
use Rattle.report.specs.declared.violation.TStdViolation.TheVariants.{TbOverflow, TbBusyOverOneSecond, MainOverflow, MainUnderflow, MbOverflow, MbBusyOverOneSecond, EbUnderflow, DelayOverOneSecond, BsysOverflow}
use Rattle.profile.specs.declared.model.TStdBranch.{TStdBranch}
use Rattle.profile.specs.declared.model.TStdBranch.TheVariants.{Main, Video}
use Rattle.profile.specs.declared.config.TStdStream.{TStdStream}
use Rattle.profile.specs.declared.config.TStdConfig.{TStdConfig}
use Rattle.profile.specs.Config.{unused_stream, system_pids}
use Rattle.events.specs.declared.Event.{Event}
use Rattle.events.specs.declared.Event.TheVariants.{Overflow, Underflow, Delay, TbOverflow as TbOverflowEvent, TbBusy, MbBusy}
use Rattle.events.specs.Event.{kind_of, event_of}

-- a figure in bytes, `as u64`
abbrev pub whole_bytes : Float → ℕ
whole_bytes b = to_unsigned 64 b

-- Bn over BSn, or MBn over MBSn
unfoldable pub overflow_in : TStdBranch → ℕ → ℕ → TStdViolation
overflow_in (Main size) pid n = MainOverflow pid n size
overflow_in (Video rbx mb eb) pid n = MbOverflow pid n mb

-- an access unit that is not whole in Bn, or in EBn
unfoldable pub underflow_in : TStdBranch → ℕ → Float → ℕ → TStdViolation
underflow_in (Main size) pid t n = MainUnderflow pid t n
underflow_in (Video rbx mb eb) pid t n = EbUnderflow pid t n

-- An event of the chain with the PID, by the branch of its stream. The system chain has none: TBsys's events have the first system PID, Bsys's
-- none, and it finds no other kind: these count as Bsys's.
unfoldable pub chain_violation : ℕ → Option TStdBranch → Event → TStdViolation
chain_violation pid b (TbOverflowEvent x) = TbOverflow pid (whole_bytes x)
chain_violation pid b (TbBusy d) = TbBusyOverOneSecond pid d
chain_violation pid (Some b) (Overflow x) = overflow_in b pid (whole_bytes x)
chain_violation pid (Some b) (Underflow t x) = underflow_in b pid t (whole_bytes x)
chain_violation pid (Some b) (Delay t d) = DelayOverOneSecond pid t d
chain_violation pid (Some b) (MbBusy d) = MbBusyOverOneSecond pid d
chain_violation pid None (Overflow x) = BsysOverflow (whole_bytes x)
chain_violation pid None (Underflow t x) = BsysOverflow (whole_bytes x)
chain_violation pid None (Delay t d) = BsysOverflow (whole_bytes d)
chain_violation pid None (MbBusy d) = BsysOverflow (whole_bytes d)

abbrev pub stream_violation : TStdStream → Event → TStdViolation
stream_violation s e = chain_violation s.pid (Some s.model.branch) e

abbrev pub system_violation : ℕ → Event → TStdViolation
system_violation pid e = chain_violation pid None e

-- the first system PID, or 0 where there is none
abbrev pub system_pid : TStdConfig → ℕ
system_pid c = get_or (system_pids c) 0 0

unfoldable pub violation_of : TStdConfig → ℕ → Event → TStdViolation
violation_of c chain e = cond (ltb chain 8) (stream_violation (get_or c.streams chain unused_stream) e) (system_violation (system_pid c) e)

-- ---- by slot

-- each chain has six slots, from slot 1 on
abbrev pub slot_of : ℕ → Event → ℕ
slot_of chain e = 1 + 6 * chain + kind_of e

unfoldable pub slot_violation : TStdConfig → ℕ → Float → Float → TStdViolation
slot_violation c k figure decode = violation_of c ((k - 1) / 6) (event_of ((k - 1) % 6) figure decode)

-- ---- what the two ways of reporting ask of an event to agree: a figure in seconds is a binary64 above zero, as every one that is
-- over a threshold is (of zeros of both signs `f64::max` keeps the first, so that their order would matter)
abbrev pub AboveZero : Float → Type 0
AboveZero s = T (fits binary64 s) × T (above s)

abbrev pub SecondsAboveZero : Event → Type 0
SecondsAboveZero (Overflow b) = Unit
SecondsAboveZero (Underflow t b) = Unit
SecondsAboveZero (Delay t d) = AboveZero d
SecondsAboveZero (TbOverflowEvent b) = Unit
SecondsAboveZero (TbBusy d) = AboveZero d
SecondsAboveZero (MbBusy d) = AboveZero d
