-- `TStdReport::record` on words: a report in four and five for each of 64 lines, as the replay tells it, and a line in five. Here a
-- figure in seconds is its bits also where it is a not-a-number, so that a line can be read back.
use Rattle.std.specs.Prelude.{◌≡◌, ℕ, ◌+◌, ◌*◌, ◌%◌, Bool, cond, ◌&&◌, List, map, length, ◌==◌, from_bits, slice_index, to_bits, Float, Result, Ok, Err}
use Rattle.std.specs.Float.{binary64}
use Rattle.error.specs.declared.Refusal.{Refusal}
use Rattle.error.specs.Code.{code_of}
use Rattle.report.specs.declared.violation.TStdViolation.{TStdViolation}
use Rattle.report.specs.declared.violation.TStdViolation.TheVariants.{TbOverflow, TbBusyOverOneSecond, MainOverflow, MainUnderflow, MbOverflow, MbBusyOverOneSecond, EbUnderflow, DelayOverOneSecond, BsysOverflow}
use Rattle.report.specs.declared.ViolationLine.{ViolationLine}
use Rattle.report.specs.declared.TStdReport.{TStdReport}
use Rattle.report.specs.declared.Recorded.{Recorded}
use Rattle.report.specs.Record.{recorded}
use Rattle.std.specs.List.{range_with_len}
use Rattle.words.specs.Report.{report_words}
use Rattle.leaves.specs.Leaves.{Leaf, done}

-- ---- read
unfoldable pub bytes_kind : (kind pid limit : ℕ) → Float → ℕ → TStdViolation
bytes_kind kind pid limit time n =
    cond (kind == 0) (TbOverflow pid n)
    (cond (kind == 2) (MainOverflow pid n limit)
    (cond (kind == 3) (MainUnderflow pid time n)
    (cond (kind == 4) (MbOverflow pid n limit)
    (cond (kind == 6) (EbUnderflow pid time n) (BsysOverflow n)))))

-- by the number of its kind; 8 and above are BsysOverflow
unfoldable pub violation_of : (kind pid limit : ℕ) → Float → ℕ → TStdViolation
violation_of kind pid limit time figure =
    cond (kind == 1) (TbBusyOverOneSecond pid (from_bits binary64 figure))
    (cond (kind == 5) (MbBusyOverOneSecond pid (from_bits binary64 figure))
    (cond (kind == 7) (DelayOverOneSecond pid time (from_bits binary64 figure)) (bytes_kind kind pid limit time figure)))

unfoldable pub violation_at : List ℕ → ℕ → TStdViolation
violation_at ws at =
    violation_of (slice_index ws at) (slice_index ws (at + 1) % 65536) (slice_index ws (at + 2)) (from_bits binary64 (slice_index ws (at + 3))) (slice_index ws (at + 4))

unfoldable pub line_of : List ℕ → ℕ → ViolationLine
line_of ws i = record { violation = violation_at ws (4 + 5 * i) }

unfoldable pub lines_at : List ℕ → List ViolationLine
lines_at ws = map (line_of ws) (range_with_len 0 64)

unfoldable pub report_at : List ℕ → TStdReport
report_at ws =
    record {
      violations = lines_at ws;
      violation_count = slice_index ws 3;
      violation_events = slice_index ws 0;
      pcr_samples = slice_index ws 1;
      modelled_seconds = from_bits binary64 (slice_index ws 2);
    }

-- ---- a line recorded: number 2 for words of another length, and a refusal leaves the report as it was
unfoldable pub record_leaf : Result Unit Refusal → TStdReport → List ℕ → Leaf
record_leaf (Ok u) after ws = done (report_words (to_bits binary64) after)
record_leaf (Err x) after ws = record { number = (code_of x).number; words = ws }

abbrev pub recorded_leaf : Recorded → List ℕ → Leaf
recorded_leaf r ws = record_leaf r.answer r.report ws

abbrev pub are_words : (ws line : List ℕ) → Bool
are_words ws line = length ws == 324 && length line == 5

unfoldable pub record_of : (ws line : List ℕ) → Leaf
record_of ws line =
    cond (are_words ws line) (recorded_leaf (recorded (report_at ws) (violation_at line 0)) ws) (record { number = (code_of Refusal.WorkTooShort).number; words = ws })

pub record Records (ws line : List ℕ) (number : ℕ) (ws' : List ℕ) : Type 0 where
  pub is : number ≡ (record_of ws line).number
  pub holds : ws' ≡ (record_of ws line).words
