-- Document 01's figure for the line program, the text of the answer to nine packets; and microseconds about zero.
use Rattle.std.specs.Prelude.{ℕ, List, [], ◌∷◌}
use Prim.Native.String.{String}
use Rattle.std.specs.Float.{binary64}
use Rattle.std.specs.Float.Ieee.{of_bits}
use Rattle.report.specs.Report.{empty_report, empty_stats}
use Rattle.report.specs.declared.TStdReport.{TStdReport}
use Rattle.answer.specs.Answer.{accepted_answer}
use Rattle.answer.specs.declared.Answer.{Answer}
use Rattle.lines.specs.Decimal.{ascii, microseconds}

-- two PCR samples; 1692 bytes at 2048 bytes/s take 423 / 512 s
unfoldable pub nine_report : TStdReport
nine_report = record { violations = empty_report.violations; violation_count = 0; violation_events = 0; pcr_samples = 2; modelled_seconds = of_bits binary64 0x3fea_7000_0000_0000 }

unfoldable pub nine_answer : Answer
nine_answer = accepted_answer nine_report (empty_stats 257 ∷ empty_stats 0 ∷ [])

unfoldable pub nine_text : List ℕ
nine_text = ascii "report,0,2,826171\nchain,257,0,0,0,0,0\nchain,0,0,0,0,0,0\n"

-- seconds by their bits, and their text in microseconds
pub record Row : Type 0 where
  pub bits : ℕ
  pub text : String

-- both zeros, 5e-7 and 1e-6 of both signs, and both infinities
unfoldable pub rows : List Row
rows =
    record { bits = 0; text = "0" }
    ∷ record { bits = 0x8000_0000_0000_0000; text = "0" }
    ∷ record { bits = 0x3ea0_c6f7_a0b5_ed8d; text = "0" }
    ∷ record { bits = 0xbea0_c6f7_a0b5_ed8d; text = "0" }
    ∷ record { bits = 0x3eb0_c6f7_a0b5_ed8d; text = "1" }
    ∷ record { bits = 0xbeb0_c6f7_a0b5_ed8d; text = "-1" }
    ∷ record { bits = 0x7ff0_0000_0000_0000; text = "9223372036854775807" }
    ∷ record { bits = 0xfff0_0000_0000_0000; text = "-9223372036854775808" }
    ∷ []

abbrev pub row_text : Row → List ℕ
row_text r = ascii r.text

abbrev pub row_made : Row → List ℕ
row_made r = microseconds (of_bits binary64 r.bits)
