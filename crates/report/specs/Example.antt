-- Document 01's figure for merging: overflows of one PID, 4000 then 3900, are one violation of 4000 and two events.
use Rattle.std.specs.Prelude.{ℕ, List, [], ◌∷◌, map}
use Rattle.report.specs.declared.violation.TStdViolation.{TStdViolation}
use Rattle.report.specs.declared.violation.TStdViolation.TheVariants.{TbOverflow, MainOverflow, MbOverflow}
use Rattle.report.specs.declared.ViolationLine.{ViolationLine}
use Rattle.report.specs.Report.{empty_report}
use Rattle.report.specs.Record.{lines_of, record_all}

-- events, the violations of the report that they make, and its count of events
pub record Row : Type 0 where
  pub recorded_events : List TStdViolation
  pub violations : List TStdViolation
  pub count : ℕ

-- 4000 then 3900 of one kind of overflow
abbrev pub twice : (ℕ → TStdViolation) → Row
twice overflow = record { recorded_events = overflow 4000 ∷ overflow 3900 ∷ []; violations = overflow 4000 ∷ []; count = 2 }

unfoldable pub rows : List Row
rows = twice (TbOverflow 257) ∷ twice (λ (n : ℕ). MainOverflow 257 n 3584) ∷ twice (λ (n : ℕ). MbOverflow 257 n 10000) ∷ []

-- what recording the row's events makes
unfoldable pub made : Row → Row
made row =
    record {
      recorded_events = row.recorded_events;
      violations = map (λ (l : ViolationLine). l.violation) (lines_of (record_all empty_report row.recorded_events));
      count = (record_all empty_report row.recorded_events).violation_events;
    }
