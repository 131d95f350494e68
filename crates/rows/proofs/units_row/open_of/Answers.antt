-- `rows::units_row::open_of` meets its contract. Assumes nothing.
use lib.Ieee.{of_bits, ne}
use Rattle.branch.specs.Units.{open_of}
use Rattle.rows.proofs.units_row.open_of.Goals as goal

pub returns-then-u : goal.returns-then-u
unfolding open_of of_bits ne
returns-then-u c = simp c.if-u.true

pub returns : goal.returns
unfolding open_of of_bits ne
returns c = simp c.if-u.false
