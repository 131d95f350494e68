-- `branch::inflow::CumulativeIn::settle` meets its contract. Assumes nothing.
use native.Mathlib.Omega.{arith}
use Rattle.branch.proofs.Inflows.{settle_more}
use Rattle.branch.proofs.inflow.CumulativeIn.settle.Goals as goal

pub loop-q-preserved : goal.loop-q-preserved
loop-q-preserved c =
    let l = c.loop-q in rw (c.pop.ensures, c.run_at-run.ensures) (settle_more _ _ _ c.args.self _ _ l.invariant (omega arith) (cc))
