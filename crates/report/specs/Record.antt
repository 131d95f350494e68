-- What recording an event makes of a report (TStdReport::record of the Rust, with document 01's limits), and of a list of events.
use Rattle.std.specs.Prelude.{ℕ, ◌+◌, Bool, true, cond, not, ◌&&◌, ◌||◌, List, [], ◌∷◌, ◌++◌, length, take, drop, ltb, eqb}
use Rattle.error.specs.Code.{code_numbered}
use Rattle.error.specs.declared.Code.{Code}
use Rattle.error.specs.declared.Refusal.{Refusal}
use Rattle.report.specs.declared.violation.Key.{Key}
use Rattle.report.specs.declared.violation.TStdViolation.{TStdViolation}
use Rattle.report.specs.declared.ViolationLine.{ViolationLine}
use Rattle.report.specs.declared.TStdReport.{TStdReport}
use Rattle.std.specs.Prelude.{Ok, Err}
use Rattle.report.specs.declared.Recorded.{Recorded}
use Rattle.report.specs.Violation.{key_of, same_key, merge_of}
use Rattle.report.specs.Keys.{has_key}

unfoldable pub keys_of : List ViolationLine → List Key
keys_of [] = []
keys_of (l ∷ ls) = key_of l.violation ∷ keys_of ls

-- the first line of the event's key takes the worse figure; without one the event is a new line at the end
unfoldable pub record_line : List ViolationLine → TStdViolation → List ViolationLine
record_line [] v = record { violation = v } ∷ []
record_line (l ∷ ls) v = cond (same_key (key_of l.violation) (key_of v)) (record { violation = merge_of l.violation v } ∷ ls) (l ∷ record_line ls v)

unfoldable pub record_lines : List ViolationLine → List TStdViolation → List ViolationLine
record_lines ls [] = ls
record_lines ls (v ∷ vs) = record_lines (record_line ls v) vs

-- the lines in use
abbrev pub lines_of : TStdReport → List ViolationLine
lines_of r = take r.violation_count r.violations

abbrev pub most_events : ℕ
most_events = 18446744073709551615

-- over 64 lines, events at 2^64 - 1, or a new key and 64 lines
unfoldable pub refuses : TStdReport → TStdViolation → Bool
refuses r v = (ltb 64 r.violation_count || eqb r.violation_events most_events) || (not (has_key (keys_of (lines_of r)) (key_of v)) && eqb r.violation_count 64)

-- the report with these lines, one event more, and the records behind them as they were
unfoldable pub with_lines : TStdReport → List ViolationLine → TStdReport
with_lines r ls = record { violations = ls ++ drop (length ls) r.violations; violation_count = length ls; violation_events = r.violation_events + 1; pcr_samples = r.pcr_samples; modelled_seconds = r.modelled_seconds }

unfoldable pub recorded : TStdReport → TStdViolation → Recorded
recorded r v =
    cond (refuses r v)
    (record { answer = Err Refusal.OutsideLimits; report = r })
    (record { answer = Ok tt; report = with_lines r (record_line (lines_of r) v) })

-- number, place and PID of the answer: 1, 0, 0 for a refusal, else 0, 0, 0
unfoldable pub record_code : TStdReport → TStdViolation → Code
record_code r v = cond (refuses r v) (code_numbered 1) (code_numbered 0)

-- the events of a list, one after the other
unfoldable pub record_all : TStdReport → List TStdViolation → TStdReport
record_all r [] = r
record_all r (v ∷ vs) = record_all (recorded r v).report vs

-- none of the events is refused
unfoldable pub accepts : TStdReport → List TStdViolation → Bool
accepts r [] = true
accepts r (v ∷ vs) = not (refuses r v) && accepts (recorded r v).report vs

-- each of a list
unfoldable pub Each : {A : Type 0} → (A → Type 0) → List A → Type 0
Each P [] = Unit
Each P (x ∷ xs) = P x × Each P xs

unfoldable pub event_keys : List TStdViolation → List Key
event_keys [] = []
event_keys (v ∷ vs) = key_of v ∷ event_keys vs
