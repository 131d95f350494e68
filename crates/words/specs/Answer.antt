-- The answer in words. One word has the number in 8 bits, the PID in 16 and the place in 40; a place that 40 bits do not hold
-- is told as the largest. A refusal leaves row and report as they are.
use Rattle.std.specs.Prelude.{ℕ, ◌+◌, ◌*◌, ◌^◌, min, ◌≡◌, List, Result, Ok, Err}
use Rattle.error.specs.declared.Code.{Code}
use Rattle.error.specs.declared.Refusal.{Refusal}
use Rattle.error.specs.Code.{code_told}
use Rattle.report.specs.declared.TStdReport.{TStdReport}
use Rattle.answer.specs.declared.Figures.{Figures}
use Rattle.answer.specs.declared.Answer.{Answer}
use Rattle.words.specs.Bits.{bits_of}
use Rattle.words.specs.Row.{chains_of, row_after}
use Rattle.words.specs.Report.{report_after}

abbrev pub most_place : ℕ
most_place = 1099511627775

unfoldable pub answer_word : Code → ℕ
answer_word c = c.number + 256 * c.pid + 2 ^ 24 * min c.place most_place

unfoldable pub row_told : Result Figures Refusal → List ℕ → List ℕ
row_told (Ok figures) row = row_after (chains_of figures) row
row_told (Err x) row = row

unfoldable pub report_told : Result Figures Refusal → TStdReport → List ℕ → List ℕ
report_told (Ok figures) report ws = report_after bits_of report ws
report_told (Err x) report ws = ws

-- the word, and row and report before and after
pub record Told (a : Answer) (told : ℕ) (row₀ row₁ words₀ words₁ : List ℕ) : Type 0 where
  pub word : told ≡ answer_word (code_told a.outcome)
  pub row : row₁ ≡ row_told a.outcome row₀
  pub report : words₁ ≡ report_told a.outcome a.report words₀
