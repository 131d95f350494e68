-- `write` meets its contract: the memory comes back as the last line left it.
use mathlib.Core.Path.{refl, sym}
use native.Mathlib.Omega.{arith}
use borrow.Author.Rules.{rules}
use Rattle.lines.specs.Text.{accepted_text, outcome_text, text_of}
use Rattle.lines.proofs.Written.{behind, left}
use Rattle.lines.proofs.write.Goals as goal

pub returns-in-Err : goal.returns-in-Err
unfolding text_of outcome_text
returns-in-Err c =
    let w = c.write_refused.ensures in
    rw (c.in-Err.is, sym c.code.ensures) (w.0, w.1, omega (arith, w.2))

pub returns : goal.returns
unfolding text_of outcome_text accepted_text
returns c =
    let w = behind c.report_line.ensures (behind c.violation_lines.ensures c.chain_lines.ensures) in
    rw c.in-Ok.is (left refl w (search (rules, sym w.same_reference)))
