-- `write_report` meets its contract. The invariant: the first lines are written (`Written`). Assumes nothing.
use native.Mathlib.Omega.{arith}
use mathlib.Core.Path.{◌∙◌}
use lib.ListN.{length-map}
use Rattle.words.specs.Report.{line_words}
use Rattle.words.proofs.Stores.{written_none}
use Rattle.words.proofs.Report.{line_size, that_length, report_ends}
use Rattle.words.proofs.report_words.write_report.Goals as goal

pub loop-i-init : goal.loop-i-init
loop-i-init g c = written_none (line_words g.S.SecondsWord.told) 5 4 (line_size _) _ _

pub returns : goal.returns
returns g c =
    let size = c.if-words-ne-REPORT_WORDS.false in
    report_ends g.S.SecondsWord.told c.args.report c.args.words.now size _ c.word.ensures _ c.loop-i.i (grind (arith, length-map)) c.loop-i.invariant (omega arith)
    ∙ that_length _ c.args.report c.args.words.now size
