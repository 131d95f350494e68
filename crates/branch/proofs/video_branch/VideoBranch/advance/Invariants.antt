-- `branch::video_branch::VideoBranch::advance` meets its contract. Assumes nothing.
use Rattle.branch.proofs.VideoAdvance.{Advancing}
use Rattle.branch.proofs.video_branch.VideoBranch.advance.Given as goal

abbrev pub invariant-loop-u : goal.invariant-loop-u
invariant-loop-u l = Advancing l.work l.m l.frontier l.k l.initial.self l.initial.slots l.self l.slots

abbrev pub decreases-loop-u : goal.decreases-loop-u
decreases-loop-u l = l.self.units.pending.count
