-- `branch::main_branch::MainBranch::deliver` meets its contract. Assumes nothing.
use Rattle.branch.specs.MainBranch.{deliver}
use Rattle.branch.proofs.Feeding.{units_opened, fed_stop, fed_next}
use Rattle.branch.proofs.main_branch.MainBranch.deliver.Goals as goal

pub returns-in_err-open : goal.returns-in_err-open
unfolding deliver
returns-in_err-open c =
    fed_stop _ _ _ _ _ _ _ (units_opened _ _ _ _ _ c.units_place.ensures c.requires _ _ _ c.open.ensures) _ _ _ c.in_err-open.was c.from_residual.ensures.0

pub returns-in_err-add_run : goal.returns-in_err-add_run
unfolding deliver
returns-in_err-add_run c =
    fed_next _ _ _ _ _ _ _ (units_opened _ _ _ _ _ c.units_place.ensures c.requires _ _ _ c.open.ensures) _ _ _ _ c.in_ok-open.was (fed_stop _ _ _ _ _ _ _ c.add_run.ensures _ _ _ c.in_err-add_run.was c.from_residual-in_err-add_run.ensures.0)

pub returns-in_err-add_run-2 : goal.returns-in_err-add_run-2
unfolding deliver
returns-in_err-add_run-2 c =
    fed_next _ _ _ _ _ _ _ (units_opened _ _ _ _ _ c.units_place.ensures c.requires _ _ _ c.open.ensures) _ _ _ _ c.in_ok-open.was (fed_next _ _ _ _ _ _ _ c.add_run.ensures _ _ _ _ c.in_ok-add_run.was (fed_stop _ _ _ _ _ _ _ c.add_run-2.ensures _ _ _ c.in_err-add_run-2.was c.from_residual-in_err-add_run-2.ensures.0))

pub returns : goal.returns
unfolding deliver
returns c =
    fed_next _ _ _ _ _ _ _ (units_opened _ _ _ _ _ c.units_place.ensures c.requires _ _ _ c.open.ensures) _ _ _ _ c.in_ok-open.was (fed_next _ _ _ _ _ _ _ c.add_run.ensures _ _ _ _ c.in_ok-add_run.was (fed_next _ _ _ _ _ _ _ c.add_run-2.ensures _ _ _ _ c.in_ok-add_run-2.was c.add_run-3.ensures))
