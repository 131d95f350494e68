-- `run` meets its contract. The invariant: behind k packets the arrays, the work and the slots are the state that the definition reaches (`Looping`).
-- The measure: the packets left. Assumes nothing.
use Rattle.std.proofs.Common.{◌-◌}
use Rattle.tstd.specs.Run.{pass_of}
use Rattle.tstd.proofs.Looping.{LoopInv}
use Rattle.tstd.proofs.run.run.Given as goal

abbrev pub invariant-loop-k : goal.invariant-loop-k
invariant-loop-k l = LoopInv (pass_of l.config l.bytes l.layout l.count l.initial.work l.clock) l.k l.at l.work l.chains l.system l.times l.slots

abbrev pub decreases-loop-k : goal.decreases-loop-k
decreases-loop-k l = l.count - l.k
