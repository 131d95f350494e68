-- The report before any event, the figures of a chain before any packet, and conformance.
use Rattle.std.specs.Prelude.{ℕ, Bool, replicate, eqb}
use Rattle.ieee.specs.Binary64.{0f}
use Rattle.report.specs.declared.violation.TStdViolation.TheVariants.{TbOverflow}
use Rattle.report.specs.declared.ViolationLine.{ViolationLine}
use Rattle.report.specs.declared.TStdReport.{TStdReport}
use Rattle.report.specs.declared.TStdChainStats.{TStdChainStats}

-- what an unused record holds
abbrev pub unused_line : ViolationLine
unused_line = record { violation = TbOverflow 0 0 }

unfoldable pub empty_report : TStdReport
empty_report = record { violations = replicate 64 unused_line; violation_count = 0; violation_events = 0; pcr_samples = 0; modelled_seconds = 0f }

unfoldable pub empty_stats : ℕ → TStdChainStats
empty_stats p = record { pid = p; peak_tb_bytes = 0; peak_main_bytes = 0; peak_eb_bytes = 0; access_units = 0; max_delay_seconds = 0f }

-- the table has no lines
abbrev pub conformant : TStdReport → Bool
conformant r = eqb r.violation_count 0
