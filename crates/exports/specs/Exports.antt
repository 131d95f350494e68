-- What a call of the C boundary answers, and what the lent words then hold.
use Rattle.std.specs.Prelude.{ℕ, ◌/◌, ◌≡◌, cond, ◌&&◌, List, length, eqb, leb, Float, Result, Ok, Err}
use Rattle.ieee.specs.Binary64.{0f}
use Rattle.error.specs.declared.Refusal.{Refusal}
use Rattle.report.specs.Report.{empty_report}
use Rattle.profile.specs.Limits.{replay_limits, within_limits}
use Rattle.profile.specs.declared.config.TStdConfig.{TStdConfig}
use Rattle.profile.specs.declared.work.WorkSize.{WorkSize}
use Rattle.profile.specs.Range.{max_recording}
use Rattle.profile.specs.Work.{needed_of, covers}
use Rattle.answer.specs.declared.Answer.{Answer}
use Rattle.words.specs.Config.{profile_fits, config_at}
use Rattle.words.specs.Row.{record_len}
use Rattle.words.specs.Report.{report_len}
use Rattle.words.specs.Answer.{Told}
use Rattle.model.specs.Replay.{Outcome, refused_with}
use Rattle.tstd.specs.Core.{answer_for, outcome_of, left_of}

-- number 1 for words that are no profile or one outside its limits, then number 2 for a report of another length, else what the
-- replay gives; a row is counted in records
unfoldable pub call_outcome : (l ws : List ℕ) (times places row report : ℕ) → Outcome
call_outcome l ws times places row report =
    cond (profile_fits ws && within_limits replay_limits (config_at ws))
    (cond (eqb report report_len) (outcome_of l (config_at ws) times places row) (refused_with Refusal.WorkTooShort))
    (refused_with Refusal.OutsideLimits)

-- the profile of the words, or the first of these refusals
unfoldable pub profile_for : (ws : List ℕ) (report : ℕ) → Result TStdConfig Refusal
profile_for ws report =
    cond (profile_fits ws && within_limits replay_limits (config_at ws))
    (cond (eqb report report_len) (Ok (config_at ws)) (Err Refusal.WorkTooShort))
    (Err Refusal.OutsideLimits)

-- document 01's tests for numbers 1, 2 and 3 in their order, with the report among what number 2 is for: in this order the call's
-- outcome comes about (proofs/Order, in_order)
unfoldable pub check_with : TStdConfig → (lent : WorkSize) → (report recording : ℕ) → Result WorkSize Refusal
check_with c lent report recording =
    cond (within_limits replay_limits c)
    (cond (covers lent (needed_of c) && eqb report report_len)
    (cond (leb recording max_recording)
    (Ok (needed_of c))
    (Err Refusal.RecordingTooLong))
    (Err Refusal.WorkTooShort))
    (Err Refusal.OutsideLimits)

-- the answer before it is told in words
pub record Answered (l ws : List ℕ) (times : List Float) (places : List ℕ) (row report : ℕ) (answer : Answer) (times' : List Float) (places' : List ℕ) : Type 0 where
  pub outcome : answer ≡ answer_for empty_report (call_outcome l ws (length times) (length places) row report)
  pub times_are : times' ≡ left_of 0f (call_outcome l ws (length times) (length places) row report) (needed_of (config_at ws)).times times
  pub places_are : places' ≡ left_of 0 (call_outcome l ws (length times) (length places) row report) (needed_of (config_at ws)).places places

-- the outcome of a call by the lengths that are lent
abbrev pub outcome_in : (l ws : List ℕ) (times : List Float) (places row report : List ℕ) → Outcome
outcome_in l ws times places row report =
    call_outcome l ws (length times) (length places) (length row / record_len) (length report)

pub record Exported (l ws : List ℕ) (times : List Float) (places row report : List ℕ) (word : ℕ) (times' : List Float) (places' row' report' : List ℕ) : Type 0 where
  pub told : Told (answer_for empty_report (outcome_in l ws times places row report)) word row row' report report'
  pub times_are : times' ≡ left_of 0f (outcome_in l ws times places row report) (needed_of (config_at ws)).times times
  pub places_are : places' ≡ left_of 0 (outcome_in l ws times places row report) (needed_of (config_at ws)).places places
