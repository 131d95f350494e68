-- `rows::main_row::set_main` meets its contract. Assumes nothing.
use Rattle.rows.specs.Rows.{stored_main_floats, stored_main_counts}
use Rattle.branch.specs.Stores.{store_from}
use mathlib.Core.Path.{refl}
use borrow.Author.Tests.{lt-ltb}
use Rattle.rows.proofs.main_row.set_main.Goals as goal

pub returns : goal.returns
unfolding stored_main_floats stored_main_counts store_from
returns c = rw (lt-ltb _ 8 c.if-i-ge-CHAINS.false, c.set_ring-2.ensures, c.set_ring.ensures, c.held-unit.ensures) (refl, refl)
