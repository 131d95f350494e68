-- `figures` meets its contract. The invariant: the rows of the first i streams are held. Assumes nothing.
use Rattle.tstd.proofs.Rows.{Filled}
use Rattle.tstd.proofs.figures.figures.Given as goal

abbrev pub invariant-loop-i : goal.invariant-loop-i
invariant-loop-i l = Filled l.chains l.config.streams l.n l.i l.rows
