-- `branch::leak::Flow::header_bytes` meets its contract. Assumes nothing.
use Rattle.branch.proofs.HeaderMarks.{Passing}
use Rattle.branch.proofs.leak.Flow.header_bytes.Given as goal

abbrev pub invariant-loop-q : goal.invariant-loop-q
invariant-loop-q l = Passing l.work l.w l.self.transferred l.end l.initial.q l.q l.sum

abbrev pub decreases-loop-q : goal.decreases-loop-q
decreases-loop-q l = l.q.count
