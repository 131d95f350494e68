-- `branch::inflow::CumulativeIn::final_total` meets its contract. Assumes nothing.
use Rattle.branch.specs.InflowInWork.{runs_of}
use Rattle.branch.specs.CumulativeIn.{bytes_from}
use Rattle.branch.proofs.Inflows.{Finals}
use Rattle.branch.proofs.inflow.CumulativeIn.final_total.Given as goal

abbrev pub invariant-loop-i : goal.invariant-loop-i
invariant-loop-i l = Finals l.work l.w l.self.runs l.i l.sum (bytes_from (runs_of l.work l.w l.self.runs) l.initial.sum)
