-- `branch::inflow::CumulativeIn::total` meets its contract. Assumes nothing.
use native.Mathlib.Omega.{arith}
use Rattle.branch.proofs.Inflows.{total_more, total_stops, total_ends}
use Rattle.branch.proofs.inflow.CumulativeIn.total.Goals as goal

pub returns-then-run-t : goal.returns-then-run-t
returns-then-run-t c = total_stops _ c.loop-i.invariant (omega arith) (cc)

pub loop-i-preserved : goal.loop-i-preserved
loop-i-preserved c =
    rw (c.fraction_by.ensures, c.run_at-run.ensures) (total_more _ c.loop-i.invariant (omega arith) (rw c.run_at-run.ensures at c.if-run-t.false))

pub returns : goal.returns
returns c = total_ends _ c.loop-i.invariant (omega arith)
