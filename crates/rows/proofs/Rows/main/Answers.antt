-- `rows::Rows::main` meets its contract. Assumes nothing.
use Rattle.rows.proofs.Rows.main.Goals as goal

pub returns : goal.returns
returns c = c.main_of.ensures
