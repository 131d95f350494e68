-- What `analyze_tstd` answers and what it leaves in what the caller lends, by the outcome of the replay's definition.
use Rattle.std.specs.Prelude.{Result, Ok, Err}
use Rattle.std.specs.Prelude.{ℕ, ◌≡◌, List, ◌++◌, length, take, drop, Float}
use Rattle.ieee.specs.Binary64.{0f}
use Rattle.error.specs.declared.Refusal.{Refusal}
use Rattle.report.specs.declared.TStdReport.{TStdReport}
use Rattle.report.specs.declared.TStdChainStats.{TStdChainStats}
use Rattle.profile.specs.declared.config.TStdConfig.{TStdConfig}
use Rattle.profile.specs.Work.{needed_of}
use Rattle.answer.specs.declared.Figures.{Figures}
use Rattle.model.specs.Replay.{Outcome, accepted, refused_with}
use Rattle.tstd.specs.Core.{outcome_of, left_of}

-- what the caller lends
pub record Lent : Type 0 where
  pub times : List Float
  pub places : List ℕ
  pub row : List TStdChainStats
  pub report : TStdReport

abbrev pub lending : List Float → List ℕ → List TStdChainStats → TStdReport → Lent
lending times places row report = record { times = times; places = places; row = row; report = report }

-- the outcome of the definition of the replay at document 01's limits; of what is lent only the lengths enter
abbrev pub outcome_for : List ℕ → TStdConfig → Lent → Outcome
outcome_for l c lent = outcome_of l c (length lent.times) (length lent.places) (length lent.row)

-- accepted, or the refusal; `code_told` gives number, place and PID
unfoldable pub result_for : Outcome → Result Unit Refusal
result_for (accepted r fs) = Ok tt
result_for (refused_with x) = Err x

-- a refusal leaves the report as it was
unfoldable pub report_for : Outcome → TStdReport → TStdReport
report_for (accepted r fs) before = r
report_for (refused_with x) before = before

-- the figures come first, one record per chain, and the row's surplus records stay; a refusal leaves the row as it was
unfoldable pub row_for : Outcome → List TStdChainStats → List TStdChainStats
row_for (accepted r fs) before = fs ++ drop (length fs) before
row_for (refused_with x) before = before

pub record Analyzed (l : List ℕ) (c : TStdConfig) (lent left : Lent) (told : Result Unit Refusal) : Type 0 where
  pub answer : told ≡ result_for (outcome_for l c lent)
  pub report : left.report ≡ report_for (outcome_for l c lent) lent.report
  pub row : left.row ≡ row_for (outcome_for l c lent) lent.row
  -- numbers 1 to 4 leave the work unchanged; every other answer zeroes what the replay needs of it
  pub times : left.times ≡ left_of 0f (outcome_for l c lent) (needed_of c).times lent.times
  pub places : left.places ≡ left_of 0 (outcome_for l c lent) (needed_of c).places lent.places

-- the row when the figures' records in use are written to its front
unfoldable pub written : Figures → List TStdChainStats → List TStdChainStats
written f row = take f.count f.rows ++ drop f.count row
