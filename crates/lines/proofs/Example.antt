-- The text of the nine packets is document 01's, and microseconds about zero come row by row. Assumes nothing.
use mathlib.Core.Path.{◌≡◌, refl}
use mathlib.Core.List.{map}
use lib.Ieee.{of_bits, mul, to_signed}
use Rattle.report.specs.Report.{empty_report, empty_stats}
use Rattle.answer.specs.Answer.{figures_of, accepted_answer}
use Rattle.lines.specs.Decimal.{digits_in, decimal, integer, microseconds}
use Rattle.lines.specs.Text.{fields, line, each, report_line, chain_line, violation_lines, chain_lines, accepted_text, outcome_text, text_of}
use Rattle.lines.specs.Example.{nine_report, nine_answer, nine_text, rows, row_text, row_made}

pub nine_packets : text_of nine_answer ≡ nine_text
unfolding nine_report nine_answer nine_text accepted_answer figures_of empty_report empty_stats text_of outcome_text accepted_text report_line violation_lines chain_lines chain_line each line fields microseconds integer decimal digits_in to_signed mul of_bits
nine_packets = refl

pub about_zero : map row_made rows ≡ map row_text rows
unfolding rows microseconds integer decimal digits_in to_signed mul of_bits
about_zero = refl
