-- `violation_line` meets its contract. Assumes nothing.
use Rattle.lines.specs.Text.{fields_line}
use Rattle.lines.proofs.Fields.{first, field, ended}
use Rattle.lines.proofs.text.Text.violation_line.Goals as goal

pub returns : goal.returns
unfolding fields_line
returns c =
    ended (field (field (field (field (field (first c.bytes.ensures) (rw c.from.ensures at c.number_field.ensures)) (rw c.from-2.ensures at c.number_field-2.ensures)) c.number_field-3.ensures) c.micros_field.ensures) c.figure_field.ensures) c.byte.ensures
