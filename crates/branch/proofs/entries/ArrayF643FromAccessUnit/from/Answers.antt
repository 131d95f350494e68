-- The floats of a unit are the definition's. It is told here, so that another order is refused by the floats that it gives.
use Rattle.std.proofs.Common.{refl}
use Rattle.branch.proofs.entries.ArrayF643FromAccessUnit.from.Goals as goal

pub returns : goal.returns
returns c = refl
