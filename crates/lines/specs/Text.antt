-- The text of an answer (document 01, the line program).
use Rattle.std.specs.Prelude.{ℕ, List, [], ◌∷◌, ◌++◌, take, Result, Ok, Err}
use Rattle.error.specs.declared.Refusal.{Refusal}
use Rattle.error.specs.Code.{code_of}
use Rattle.error.specs.declared.Code.{Code}
use Rattle.report.specs.declared.violation.Figure.{Figure}
use Rattle.report.specs.declared.violation.Figure.TheVariants.{Bytes, Seconds}
use Rattle.report.specs.declared.violation.ViolationFields.{ViolationFields}
use Rattle.report.specs.declared.ViolationLine.{ViolationLine}
use Rattle.report.specs.declared.TStdReport.{TStdReport}
use Rattle.report.specs.declared.TStdChainStats.{TStdChainStats}
use Rattle.report.specs.Violation.{fields_of}
use Rattle.answer.specs.declared.Figures.{Figures}
use Rattle.answer.specs.declared.Answer.{Answer}
use Rattle.lines.specs.Decimal.{ascii, decimal, microseconds}

-- fields parted by commas
unfoldable pub fields : List (List ℕ) → List ℕ
fields [] = []
fields (f ∷ []) = f
fields (f ∷ g ∷ gs) = f ++ (ascii "," ++ fields (g ∷ gs))

unfoldable pub line : List (List ℕ) → List ℕ
line fs = fields fs ++ ascii "\n"

-- the lines of a list, one after the other
unfoldable pub each : {A : Type 0} → (A → List ℕ) → List A → List ℕ
each f [] = []
each f (x ∷ xs) = f x ++ each f xs

unfoldable pub refused_line : Code → List ℕ
refused_line c = line (ascii "refused" ∷ decimal c.number ∷ decimal c.place ∷ [])

unfoldable pub report_line : TStdReport → List ℕ
report_line r = line (ascii "report" ∷ decimal r.violation_events ∷ decimal r.pcr_samples ∷ microseconds r.modelled_seconds ∷ [])

-- a peak or missing bytes, or seconds or a delay in microseconds
unfoldable pub figure_text : Figure → List ℕ
figure_text (Bytes n) = decimal n
figure_text (Seconds s) = microseconds s

unfoldable pub fields_line : ViolationFields → List ℕ
fields_line v = line (ascii "violation" ∷ decimal v.kind ∷ decimal v.pid ∷ decimal v.limit ∷ microseconds v.decode_time ∷ figure_text v.figure ∷ [])

unfoldable pub violation_line : ViolationLine → List ℕ
violation_line l = fields_line (fields_of l.violation)

unfoldable pub chain_line : TStdChainStats → List ℕ
chain_line c =
    line
    (ascii "chain" ∷ decimal c.pid ∷ decimal c.peak_tb_bytes ∷ decimal c.peak_main_bytes ∷ decimal c.peak_eb_bytes ∷ decimal c.access_units ∷ microseconds c.max_delay_seconds ∷ [])

-- the lines and the records in use
unfoldable pub violation_lines : TStdReport → List ℕ
violation_lines r = each violation_line (take r.violation_count r.violations)

unfoldable pub chain_lines : Figures → List ℕ
chain_lines f = each chain_line (take f.count f.rows)

unfoldable pub accepted_text : TStdReport → Figures → List ℕ
accepted_text r f = report_line r ++ (violation_lines r ++ chain_lines f)

unfoldable pub outcome_text : Result Figures Refusal → TStdReport → List ℕ
outcome_text (Ok figures) r = accepted_text r figures
outcome_text (Err x) r = refused_line (code_of x)

unfoldable pub text_of : Answer → List ℕ
text_of a = outcome_text a.outcome a.report
