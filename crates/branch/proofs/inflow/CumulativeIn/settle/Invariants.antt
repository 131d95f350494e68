-- `branch::inflow::CumulativeIn::settle` meets its contract. Assumes nothing.
use Rattle.branch.proofs.Inflows.{Settling}
use Rattle.branch.proofs.inflow.CumulativeIn.settle.Given as goal

abbrev pub invariant-loop-q : goal.invariant-loop-q
invariant-loop-q l = Settling l.work l.w l.t l.initial.q l.initial.sum l.q l.sum

abbrev pub decreases-loop-q : goal.decreases-loop-q
decreases-loop-q l = l.q.count
