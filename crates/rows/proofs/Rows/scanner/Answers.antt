-- `rows::Rows::scanner` meets its contract. Assumes nothing.
use Rattle.rows.proofs.Rows.scanner.Goals as goal

pub returns : goal.returns
returns c = c.scanner_of.ensures
