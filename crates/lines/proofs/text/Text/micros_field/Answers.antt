-- `micros_field` meets its contract. Assumes nothing.
use Rattle.lines.proofs.Written.{behind}
use Rattle.lines.proofs.text.Text.micros_field.Goals as goal

pub returns : goal.returns
returns c = behind c.byte.ensures c.micros.ensures
