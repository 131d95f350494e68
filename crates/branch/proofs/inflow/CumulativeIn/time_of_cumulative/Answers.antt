-- `branch::inflow::CumulativeIn::time_of_cumulative` meets its contract. Assumes nothing.
use lib.Ieee.{of_bits}
use Rattle.branch.proofs.Inflows.{time_forgotten}
use Rattle.branch.proofs.inflow.CumulativeIn.time_of_cumulative.Goals as goal

pub returns-then-self-eq0 : goal.returns-then-self-eq0
unfolding of_bits
returns-then-self-eq0 c =
    time_forgotten c.args.work.now c.args.w c.args.self _ c.if-target-self.true c.if-self-eq0.true
