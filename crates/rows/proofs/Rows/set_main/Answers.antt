-- `rows::Rows::set_main` meets its contract. Assumes nothing.
use mathlib.Core.Path.{refl}
use Rattle.rows.proofs.Rows.set_main.Goals as goal

pub returns : goal.returns
returns c = rw (c.set_main.ensures.0, c.set_main.ensures.1) refl
