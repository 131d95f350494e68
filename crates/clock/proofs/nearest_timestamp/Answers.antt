-- `nearest_timestamp` meets its contract. The loop's invariant: best is the nearest in the epochs tried, the measure how many are left.
-- Assumes nothing.
use native.Mathlib.Omega.{arith}
use Rattle.clock.proofs.Search.{ended}
use Rattle.clock.proofs.nearest_timestamp.Goals as goal

pub returns : goal.returns
returns c = ended c.loop-epoch.invariant.0 (omega arith) (omega arith)
