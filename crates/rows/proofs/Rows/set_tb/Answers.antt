-- `rows::Rows::set_tb` meets its contract. Assumes nothing.
use mathlib.Core.Path.{refl}
use Rattle.rows.proofs.Rows.set_tb.Goals as goal

pub returns : goal.returns
returns c = rw c.set_tb.ensures refl
