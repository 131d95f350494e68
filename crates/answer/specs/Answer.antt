-- The answer to a refused and to an accepted recording.
use Rattle.std.specs.Prelude.{◌-◌, List, ◌++◌, length, replicate, Ok, Err}
use Rattle.error.specs.declared.Refusal.{Refusal}
use Rattle.report.specs.declared.TStdReport.{TStdReport}
use Rattle.report.specs.declared.TStdChainStats.{TStdChainStats}
use Rattle.report.specs.Report.{empty_stats}
use Rattle.answer.specs.declared.Figures.{Figures}
use Rattle.answer.specs.declared.Answer.{Answer}

-- the records behind the chains' are empty
unfoldable pub figures_of : List TStdChainStats → Figures
figures_of fs = record { rows = fs ++ replicate (9 - length fs) (empty_stats 0); count = length fs }

unfoldable pub refused_answer : TStdReport → Refusal → Answer
refused_answer before x = record { outcome = Err x; report = before }

unfoldable pub accepted_answer : TStdReport → List TStdChainStats → Answer
accepted_answer r fs = record { outcome = Ok (figures_of fs); report = r }
