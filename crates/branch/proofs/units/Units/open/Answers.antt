-- `branch::units::Units::open` meets its contract. Assumes nothing.
use mathlib.Core.Path.{sym, ◌∙◌}
use Rattle.branch.proofs.UnitQueues.{open_refused, open_next}
use Rattle.branch.proofs.units.Units.open.Goals as goal

pub returns-in_err-close : goal.returns-in_err-close
returns-in_err-close c = open_refused _ _ _ _ _ _ _ (sym c.stamped.ensures ∙ c.in-Some.is) _ c.close.ensures _ _ c.in_err-close.was c.from_residual.ensures.0

pub returns : goal.returns
returns c = open_next _ _ _ _ _ _ _ (sym c.stamped.ensures ∙ c.in-Some.is) _ c.close.ensures c.in_ok-close.was
