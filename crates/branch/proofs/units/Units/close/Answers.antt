-- `branch::units::Units::close` meets its contract. Assumes nothing.
use Rattle.branch.proofs.UnitQueues.{close_pushed}
use Rattle.branch.proofs.units.Units.close.Goals as goal

pub returns : goal.returns
returns c = close_pushed _ _ _ _ c.requires _ c.in-Some.is _ _ (rw c.from.ensures at c.push.ensures) c.in_ok-push.was
