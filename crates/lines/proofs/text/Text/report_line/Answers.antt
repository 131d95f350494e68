-- `report_line` meets its contract. Assumes nothing.
use Rattle.lines.specs.Text.{report_line}
use Rattle.lines.proofs.Fields.{first, field, ended}
use Rattle.lines.proofs.text.Text.report_line.Goals as goal

pub returns : goal.returns
unfolding report_line
returns c =
    ended (field (field (field (first c.bytes.ensures) c.number_field.ensures) c.number_field-2.ensures) c.micros_field.ensures) c.byte.ensures
