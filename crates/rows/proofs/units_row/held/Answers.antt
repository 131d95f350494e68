-- `rows::units_row::held` meets its contract. Assumes nothing.
use lib.Ieee.{of_bits}
use mathlib.Core.Path.{refl}
use Rattle.rows.specs.Rows.{held}
use Rattle.rows.proofs.units_row.held.Goals as goal

pub returns-in-None : goal.returns-in-None
unfolding held of_bits
returns-in-None c = rw c.in-None.is refl
