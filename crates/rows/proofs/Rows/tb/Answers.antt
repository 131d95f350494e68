-- `rows::Rows::tb` meets its contract. Assumes nothing.
use Rattle.rows.proofs.Rows.tb.Goals as goal

pub returns : goal.returns
returns c = c.tb_of.ensures
