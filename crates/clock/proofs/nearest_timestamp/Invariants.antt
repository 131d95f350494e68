-- `nearest_timestamp` meets its contract. The loop's invariant: best is the nearest in the epochs tried, the measure how many are left.
-- Assumes nothing.
use Prim.Native.Nat.{◌-◌, ◌≤◌}
use Rattle.clock.proofs.Search.{Searched}
use Rattle.clock.proofs.nearest_timestamp.Given as goal

abbrev pub invariant-loop-epoch : goal.invariant-loop-epoch
invariant-loop-epoch l = Searched l.raw_timestamp l.reference l.lowest l.best l.epoch × (l.epoch ≤ l.end)

abbrev pub decreases-loop-epoch : goal.decreases-loop-epoch
decreases-loop-epoch l = l.end - l.epoch
