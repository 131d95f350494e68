-- `chain_line` meets its contract. Assumes nothing.
use Rattle.lines.specs.Text.{chain_line}
use Rattle.lines.proofs.Fields.{first, field, ended}
use Rattle.lines.proofs.text.Text.chain_line.Goals as goal

pub returns : goal.returns
unfolding chain_line
returns c =
    ended (field (field (field (field (field (field (first c.bytes.ensures) (rw c.from.ensures at c.number_field.ensures)) c.number_field-2.ensures) c.number_field-3.ensures) c.number_field-4.ensures) c.number_field-5.ensures) c.micros_field.ensures) c.byte.ensures
