-- `branch::inflow::CumulativeIn::push_run` meets its contract. Assumes nothing.
use Rattle.branch.proofs.Inflows.{run_empty, run_pushed}
use Rattle.branch.proofs.inflow.CumulativeIn.push_run.Goals as goal

pub returns-then-not-run : goal.returns-then-not-run
returns-then-not-run c = run_empty _ _ _ _ c.requires c.if-not-run.true

pub returns : goal.returns
returns c = run_pushed _ _ _ _ _ c.requires _ _ c.if-not-run.false (rw c.from.ensures at c.push.ensures)
