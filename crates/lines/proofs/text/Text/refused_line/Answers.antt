-- `refused_line` meets its contract. Assumes nothing.
use Rattle.lines.specs.Text.{refused_line}
use Rattle.lines.proofs.Fields.{first, field, ended}
use Rattle.lines.proofs.text.Text.refused_line.Goals as goal

pub returns : goal.returns
unfolding refused_line
returns c =
    ended (field (field (first c.bytes.ensures) (rw c.from.ensures at c.number_field.ensures)) c.number_field-2.ensures) c.byte.ensures
