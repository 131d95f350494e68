-- `rows::tb_row::set_tb` meets its contract. Assumes nothing.
use Rattle.rows.specs.Rows.{stored_tb}
use Rattle.branch.specs.Stores.{store_from}
use mathlib.Core.Path.{refl}
use borrow.Author.Tests.{lt-ltb}
use Rattle.rows.proofs.tb_row.set_tb.Goals as goal

pub returns : goal.returns
unfolding stored_tb store_from
returns c = rw (lt-ltb _ 8 c.if-i-ge-CHAINS.false) refl
