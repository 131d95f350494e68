-- `report_of` meets its contract. The invariant: the slots up to event `after` are recorded (`Summed`).
-- The measure: the events left up to the count. Assumes nothing.
use Prim.Native.Nat.{◌-◌}
use Rattle.summary.proofs.Summed.{Summed}
use Rattle.summary.proofs.report_of.Given as goal

abbrev pub invariant-loop-k : goal.invariant-loop-k
invariant-loop-k l = Summed l.config l.slots l.report l.after

abbrev pub decreases-loop-k : goal.decreases-loop-k
decreases-loop-k l = l.slots.events - l.after
