-- `branch::inflow::CumulativeIn::total` meets its contract. Assumes nothing.
use Rattle.branch.specs.InflowInWork.{runs_of}
use Rattle.branch.specs.CumulativeIn.{total_of}
use Rattle.branch.proofs.Inflows.{Totals}
use Rattle.branch.proofs.inflow.CumulativeIn.total.Given as goal

abbrev pub invariant-loop-i : goal.invariant-loop-i
invariant-loop-i l = Totals l.work l.w l.self.runs l.t l.i l.sum (total_of (runs_of l.work l.w l.self.runs) l.initial.sum l.t)
