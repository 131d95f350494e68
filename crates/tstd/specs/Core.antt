-- The replay of a recording as the code gives it: the answer that the definition's outcome is, and what the lent work then holds.
use Rattle.std.specs.Prelude.{◌≡◌, ℕ, ◌^◌, ◌≤◌, Bool, false, cond, List, ◌++◌, length, ◌==◌, nat_le, Float, Some, Result, Ok, Err}
use Rattle.std.specs.Float.Ieee.{lt}
use Rattle.ieee.specs.Binary64.{◌⊖◌, 0f}
use Rattle.error.specs.declared.Refusal.{Refusal}
use Rattle.error.specs.Code.{code_of}
use Rattle.packet.specs.declared.TsPacketLayout.{TsPacketLayout}
use Rattle.packet.specs.Layout.{layout_of}
use Rattle.recording.specs.Read.{read_of}
use Rattle.events.specs.declared.Slots.{Slots}
use Rattle.events.specs.Slots.{noted_all}
use Rattle.report.specs.declared.TStdReport.{TStdReport}
use Rattle.profile.specs.declared.config.TStdConfig.{TStdConfig}
use Rattle.profile.specs.Config.{streams_of}
use Rattle.profile.specs.Limits.{replay_limits}
use Rattle.profile.specs.Work.{needed_of}
use Rattle.profile.proofs.Within.{Within}
use Rattle.summary.specs.Summary.{summary}
use Rattle.answer.specs.declared.Answer.{Answer}
use Rattle.answer.specs.Answer.{accepted_answer, refused_answer}
use Rattle.model.specs.Chain.{tb_events}
use Rattle.model.specs.Replay.{Outcome, accepted, refused_with, streams_read, with_layout, replay}
use Rattle.tstd.specs.declared.run.Ran.{Ran as RanState}
use Rattle.tstd.specs.Clear.{zeroed}
use Rattle.tstd.specs.Figures.{rows_from, system_rows}

-- ---- the contract of `replay`

unfoldable pub answered : Outcome → Result Answer Refusal
answered (accepted r fs) = Ok (accepted_answer r fs)
answered (refused_with x) = Err x

-- a refusal leaves the report as it was before
unfoldable pub answer_for : TStdReport → Outcome → Answer
answer_for before (accepted r fs) = accepted_answer r fs
answer_for before (refused_with x) = refused_answer before x

-- numbers 1 to 4 leave the work unchanged
unfoldable pub keeps_work : Outcome → Bool
keeps_work (accepted r fs) = false
keeps_work (refused_with x) = nat_le (code_of x).number 4

-- the outcome of the definition for a recording l and the lengths of work and row that are lent
abbrev pub outcome_of : List ℕ → TStdConfig → (times places row : ℕ) → Outcome
outcome_of l c times places row =
    replay replay_limits c (record { times = times; places = places; row = row }) (read_of (streams_read c) l)

-- what is left of lent work of which a replay needs the first n entries
abbrev pub left_of : {A : Type 0} → A → Outcome → ℕ → List A → List A
left_of z o n l = cond (keeps_work o) l (zeroed z n l)

pub record Replayed (l : List ℕ) (c : TStdConfig) (times : List Float) (places : List ℕ) (row_len : ℕ) (before : TStdReport) (answer : Answer) (times' : List Float) (places' : List ℕ)
    : Type 0 where
  pub outcome : answer ≡ answer_for before (outcome_of l c (length times) (length places) row_len)
  pub times_are : times' ≡ left_of 0f (outcome_of l c (length times) (length places) row_len) (needed_of c).times times
  pub places_are : places' ≡ left_of 0 (outcome_of l c (length times) (length places) row_len) (needed_of c).places places

-- the same before a refusal takes the report
pub record Ended (l : List ℕ) (c : TStdConfig) (times : List Float) (places : List ℕ) (row_len : ℕ) (answer : Result Answer Refusal) (times' : List Float) (places' : List ℕ) : Type 0 where
  pub outcome : answer ≡ answered (outcome_of l c (length times) (length places) row_len)
  pub times_are : times' ≡ left_of 0f (outcome_of l c (length times) (length places) row_len) (needed_of c).times times
  pub places_are : places' ≡ left_of 0 (outcome_of l c (length times) (length places) row_len) (needed_of c).places places

-- ---- behind the checks, at the layout that is found

pub record Fitting (c : TStdConfig) (l : List ℕ) (y : TsPacketLayout) (times : List Float) (places : List ℕ) : Type 0 where
  pub within : Within replay_limits c
  pub slots : length c.streams ≡ 8
  pub times_fit : (needed_of c).times ≤ length times
  pub places_fit : (needed_of c).places ≤ length places
  pub long : length l ≤ 2 ^ 24
  pub found : layout_of l ≡ Some y

-- what the replay needs of the work is left to be cleared
pub record ReplayedAt (c : TStdConfig) (l : List ℕ) (y : TsPacketLayout) (times : List Float) (places : List ℕ) (answer : Result Answer Refusal) (times' : List Float) (places' : List ℕ)
    : Type 0 where
  pub outcome : answer ≡ answered (with_layout c (read_of (streams_read c) l) (Some y))
  pub times_are : zeroed 0f (needed_of c).times times' ≡ zeroed 0f (needed_of c).times times
  pub places_are : zeroed 0 (needed_of c).places places' ≡ zeroed 0 (needed_of c).places places

-- ---- the answer behind pass 2

-- the system chain's transport buffer is looked at last, where there are system PIDs
unfoldable pub last_slots : TStdConfig → RanState → Slots
last_slots c r = cond (c.system_count == 0) r.slots (noted_all 49 (tb_events r.system.tb) r.slots)

unfoldable pub report_in : TStdConfig → RanState → ℕ → TStdReport
report_in c r samples =
    let x = summary c (last_slots c r) in
    record {
      violations = x.violations;
      violation_count = x.violation_count;
      violation_events = x.violation_events;
      pcr_samples = samples;
      modelled_seconds = cond (lt r.times.first_time r.times.last_time) (r.times.last_time ⊖ r.times.first_time) 0f;
    }

unfoldable pub accepted_of : TStdConfig → RanState → ℕ → Answer
accepted_of c r samples =
    accepted_answer (report_in c r samples) (rows_from 0 (streams_of c) r.chains ++ system_rows c r.system)
