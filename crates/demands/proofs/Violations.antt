-- The violation of an event within bounds has figures, limit and decode time within the bounds of a report. Assumes nothing.
use Prim.Native.Nat.{ℕ, ◌^◌, ◌<◌}
use native.Mathlib.Nat.{lt_of_le_of_lt}
use native.Mathlib.Omega.{arith}
use mathlib.Core.Path.{◌≡◌}
use mathlib.Core.Logic.{◌⊎◌, inl, inr}
use mathlib.Core.Bool.{cond}
use mathlib.Core.List.{List, [], ◌∷◌}
use borrow.Author.Tests.{lt-ltb}
use lib.ListN.{length, get_or}
use lib.Dec.{ltb, lit<}
use lib.Ieee.{Float, of_bits, le}
use Rattle.ieee.specs.Binary64.{0f}
use Rattle.ieee.specs.Interval.{In, plain, minus, zero_float}
use Rattle.ieee.proofs.Interval.{closed_in}
use Rattle.ieee.proofs.Truncation.{truncation_le}
use Rattle.events.specs.declared.Event.{Event}
use Rattle.events.specs.declared.Event.TheVariants.{Overflow, Underflow, Delay, TbOverflow, TbBusy, MbBusy}
use Rattle.bounds.specs.Events.{EventIn, busy_limit, delay_limit}
use Rattle.bounds.proofs.Figures.{event_figures}
use Rattle.report.specs.declared.violation.TStdViolation.{TStdViolation}
use Rattle.report.specs.Violation.{fields_of, FieldsHave}
use Rattle.report.specs.Record.{Each}
use Rattle.profile.specs.declared.model.TStdBranch.{TStdBranch}
use Rattle.profile.specs.declared.model.TStdBranch.TheVariants.{Main, Video}
use Rattle.profile.specs.declared.config.TStdStream.{TStdStream}
use Rattle.profile.specs.declared.config.TStdConfig.{TStdConfig}
use Rattle.profile.specs.Config.{streams_of, unused_stream}
use Rattle.profile.specs.Limits.{replay_limits}
use Rattle.profile.proofs.Within.{Within, StreamWithin, BranchWithin}
use Rattle.summary.specs.Violation.{whole_bytes, overflow_in, underflow_in, chain_violation, stream_violation, system_violation, system_pid, violation_of}
use Rattle.summary.specs.Summary.{Found, violations_of}
use Rattle.demands.specs.Refused.{stream_of}
use Rattle.demands.specs.State.{FoundHolds}
use Rattle.demands.proofs.Ends.{counted, stream_there}
use Rattle.demands.specs.Accepted.{Below, TimeWithin}

abbrev pub Bounded : TStdViolation → Type 0
Bounded v = FieldsHave Below TimeWithin Below TimeWithin v

pub zero_time : TimeWithin 0f
unfolding of_bits le
zero_time = closed_in (minus 200000) 0f (plain 200000) tt

whole_below : (n : ℕ) {x : Float} → n < 2 ^ 44 → In zero_float x (plain n) → Below (whole_bytes x)
whole_below n h i = lt_of_le_of_lt (truncation_le 64 n i) h

overflow_bounded : (b : TStdBranch) (pid n : ℕ) → BranchWithin b → Below n → Bounded (overflow_in b pid n)
unfolding overflow_in fields_of
overflow_bounded (Main size) pid n w h = record { limit = omega (arith, w.most); decode = zero_time; figure = h }
overflow_bounded (Video rbx mb eb) pid n w h = record { limit = omega (arith, w.1.0.most); decode = zero_time; figure = h }

underflow_bounded : (b : TStdBranch) (pid : ℕ) (t : Float) (n : ℕ) → TimeWithin t → Below n → Bounded (underflow_in b pid t n)
unfolding underflow_in fields_of
underflow_bounded (Main size) pid t n d h = record { limit = omega arith; decode = d; figure = h }
underflow_bounded (Video rbx mb eb) pid t n d h = record { limit = omega arith; decode = d; figure = h }

stream_bounded : (s : TStdStream) (e : Event) → StreamWithin s → EventIn e → Bounded (stream_violation s e)
unfolding chain_violation fields_of
stream_bounded s (Overflow b) w i = overflow_bounded s.model.branch s.pid _ w.branch (event_figures (Overflow b) i).whole
stream_bounded s (Underflow t b) w i = let f = event_figures (Underflow t b) i in underflow_bounded s.model.branch s.pid t _ f.0 f.1.whole
stream_bounded s (Delay t d) w i = let f = event_figures (Delay t d) i in record { limit = omega arith; decode = f.0; figure = f.1 }
stream_bounded s (TbOverflow b) w i = record { limit = omega arith; decode = zero_time; figure = (event_figures (TbOverflow b) i).whole }
stream_bounded s (TbBusy d) w i = record { limit = omega arith; decode = zero_time; figure = event_figures (TbBusy d) i }
stream_bounded s (MbBusy d) w i = record { limit = omega arith; decode = zero_time; figure = event_figures (MbBusy d) i }

system_bounded : (pid : ℕ) (e : Event) → EventIn e → Bounded (system_violation pid e)
unfolding chain_violation fields_of
system_bounded pid (Overflow b) i = record { limit = omega arith; decode = zero_time; figure = (event_figures (Overflow b) i).whole }
system_bounded pid (TbOverflow b) i = record { limit = omega arith; decode = zero_time; figure = (event_figures (TbOverflow b) i).whole }
system_bounded pid (TbBusy d) i = record { limit = omega arith; decode = zero_time; figure = event_figures (TbBusy d) i }
system_bounded pid (Underflow t b) i = record { limit = omega arith; decode = zero_time; figure = (event_figures (Underflow t b) i).1.whole }
system_bounded pid (Delay t d) i = record { limit = omega arith; decode = zero_time; figure = whole_below delay_limit (lit< tt) i.1 }
system_bounded pid (MbBusy d) i = record { limit = omega arith; decode = zero_time; figure = whole_below busy_limit (lit< tt) i }

module _ (c : TStdConfig) (within : Within replay_limits c) where
  -- what holds of a stream's violation and of the system's holds of an event's
  pub by_place : (P : TStdViolation → Type 0) (f : Found) → FoundHolds c f
      → (f.chain < length (streams_of c) → P (stream_violation (stream_of c f.chain) f.event)) → P (system_violation (system_pid c) f.event) → P (violation_of c f.chain f.event)
  unfolding violation_of
  by_place P f h p q = go h.place
    where
      go : (f.chain < length (streams_of c)) ⊎ (f.chain ≡ 8)
          → P (cond (ltb f.chain 8) (stream_violation (get_or c.streams f.chain unused_stream) f.event) (system_violation (system_pid c) f.event))
      go (inl k) =
          let n : f.chain < 8 = omega (arith, counted c f.chain k, within.stream_count) in
          rw (lt-ltb f.chain 8 n, stream_there c f.chain k) (p k)
      go (inr e) = rw e q

  pub violations_bounded : (fs : List Found) → Each (FoundHolds c) fs → Each Bounded (violations_of c fs)
  unfolding violations_of Each
  violations_bounded [] h = tt
  violations_bounded (f ∷ fs) h = (
    by_place Bounded f h.0
        (λ k. stream_bounded (stream_of c f.chain) f.event (within.streams f.chain k) h.0.event)
        (system_bounded (system_pid c) f.event h.0.event),
    violations_bounded fs h.1,
  )
