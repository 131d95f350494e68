-- `branch::inflow::CumulativeIn::final_total` meets its contract. Assumes nothing.
use native.Mathlib.Omega.{arith}
use Rattle.branch.specs.CumulativeIn.{final_total}
use Rattle.branch.proofs.Inflows.{final_more, final_ends}
use Rattle.branch.proofs.inflow.CumulativeIn.final_total.Goals as goal

pub loop-i-preserved : goal.loop-i-preserved
loop-i-preserved c = rw c.run_at-sum.ensures (final_more c.loop-i.invariant (omega arith))

pub returns : goal.returns
unfolding final_total
returns c = rw (final_ends c.loop-i.invariant (omega arith))
