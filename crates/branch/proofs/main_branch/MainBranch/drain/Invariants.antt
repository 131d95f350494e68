-- `branch::main_branch::MainBranch::drain` meets its contract. Assumes nothing.
use Rattle.branch.proofs.Removals.{Draining}
use Rattle.branch.proofs.main_branch.MainBranch.drain.Given as goal

abbrev pub invariant-loop-u : goal.invariant-loop-u
invariant-loop-u l = Draining l.work l.p l.k l.frontier l.initial.self l.initial.slots l.self l.slots

abbrev pub decreases-loop-u : goal.decreases-loop-u
decreases-loop-u l = l.self.units.pending.count
