-- The report in words: four, then five for each of its 64 lines. A line that is not in use is five zeros in the report of a
-- replay. The words are stated over the function that gives the bits of a figure in seconds: a replay takes `bits_of`, and
-- `leaves` a function that keeps a not-a-number.
use Rattle.std.specs.Prelude.{ℕ, cond, length, eqb, Float}
use mathlib.Core.List.{List, [], ◌∷◌, flat_map}
use Rattle.report.specs.declared.violation.Figure.{Figure}
use Rattle.report.specs.declared.violation.Figure.TheVariants.{Bytes, Seconds}
use Rattle.report.specs.declared.violation.ViolationFields.{ViolationFields}
use Rattle.report.specs.declared.ViolationLine.{ViolationLine}
use Rattle.report.specs.declared.TStdReport.{TStdReport}
use Rattle.report.specs.Violation.{fields_of}

abbrev pub report_len : ℕ
report_len = 324

-- bytes whole, seconds as bits
unfoldable pub figure_word : (Float → ℕ) → Figure → ℕ
figure_word bits (Bytes n) = n
figure_word bits (Seconds s) = bits s

-- kind, PID, limit, decode time and figure
unfoldable pub fields_words : (Float → ℕ) → ViolationFields → List ℕ
fields_words bits f = f.kind ∷ f.pid ∷ f.limit ∷ bits f.decode_time ∷ figure_word bits f.figure ∷ []

unfoldable pub line_words : (Float → ℕ) → ViolationLine → List ℕ
line_words bits l = fields_words bits (fields_of l.violation)

unfoldable pub report_words : (Float → ℕ) → TStdReport → List ℕ
report_words bits r =
    r.violation_events
    ∷ r.pcr_samples
    ∷ bits r.modelled_seconds
    ∷ r.violation_count
    ∷ flat_map (line_words bits) r.violations

-- words of another length stay as they are
unfoldable pub report_after : (Float → ℕ) → TStdReport → List ℕ → List ℕ
report_after bits r ws = cond (eqb (length ws) report_len) (report_words bits r) ws
