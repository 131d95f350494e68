-- `report_of` meets its contract. The invariant: the slots up to event `after` are recorded (`Summed`).
-- The measure: the events left up to the count. Assumes nothing.
use Rattle.summary.proofs.Summed.{sum_next, sum_ends}
use Rattle.summary.proofs.report_of.Goals as goal

pub loop-k-preserved : goal.loop-k-preserved
loop-k-preserved c =
    rw (c.record_in.ensures.0, c.violation.ensures)
    (sum_next _ _ _ _ c.loop-k.invariant _ (rw c.in-Some.is at c.next_slot.ensures))

pub returns : goal.returns
returns c = sum_ends _ _ _ _ c.loop-k.invariant (rw c.in_default.is at c.next_slot.ensures)
