-- `branch::inflow::CumulativeIn::time_of_cumulative` meets its contract. Assumes nothing.
use Rattle.branch.specs.InflowInWork.{runs_of}
use Rattle.branch.specs.CumulativeIn.{time_from}
use Rattle.branch.proofs.Inflows.{Times}
use Rattle.branch.proofs.inflow.CumulativeIn.time_of_cumulative.Given as goal

abbrev pub invariant-loop-i : goal.invariant-loop-i
invariant-loop-i l = Times l.work l.w l.self.runs l.target l.i l.sum (time_from (runs_of l.work l.w l.self.runs) l.initial.sum l.target)
