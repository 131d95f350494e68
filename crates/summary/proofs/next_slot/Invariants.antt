-- `next_slot` meets its contract. The invariant: the slots below k are passed (`Scanned`). Assumes nothing.
use Rattle.summary.proofs.Next.{Scanned}
use Rattle.summary.proofs.next_slot.Given as goal

abbrev pub invariant-loop-k : goal.invariant-loop-k
invariant-loop-k l = Scanned l.slots.firsts l.slots.events l.after l.k l.best
