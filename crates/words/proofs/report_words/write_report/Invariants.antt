-- `write_report` meets its contract. The invariant: the first lines are written (`Written`). Assumes nothing.
use Rattle.words.specs.Report.{line_words}
use Rattle.words.proofs.Stores.{Written}
use Rattle.words.proofs.report_words.write_report.Given as goal

abbrev pub invariant-loop-i : goal.invariant-loop-i
invariant-loop-i g l = Written (line_words g.S.SecondsWord.told) 5 4 l.line-items l.initial.words l.words l.i
