-- `rows::Rows::set_scanner` meets its contract. Assumes nothing.
use mathlib.Core.Path.{refl}
use Rattle.rows.proofs.Rows.set_scanner.Goals as goal

pub returns : goal.returns
returns c = rw c.set_scanner.ensures refl
