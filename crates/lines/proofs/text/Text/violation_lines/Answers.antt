-- `violation_lines` meets its contract. Assumes nothing.
use mathlib.Core.Path.{ap}
use native.Mathlib.Omega.{arith}
use Rattle.lines.specs.Text.{fields_line, violation_line}
use Rattle.lines.proofs.Written.{same_text}
use Rattle.lines.proofs.Lines.{next_line}
use Rattle.lines.proofs.text.Text.violation_lines.Goals as goal

pub loop-line-preserved : goal.loop-line-preserved
unfolding violation_line
loop-line-preserved c =
    next_line violation_line 115 _ _ c.loop-line.invariant _ (omega arith) (same_text c.violation_line.ensures (ap fields_line c.fields.ensures))
