-- `branch::main_branch::MainBranch::add_run` meets its contract. Assumes nothing.
use Rattle.branch.proofs.Feeding.{add_full, add_pushed}
use Rattle.branch.proofs.main_branch.MainBranch.add_run.Goals as goal

pub returns-in_err-push_run : goal.returns-in_err-push_run
returns-in_err-push_run c =
    add_full _ _ _ _ _ c.if-not-run.false _ c.runs_place.ensures c.requires _ _ c.push_run.ensures _ _ c.in_err-push_run.was c.from_residual.ensures.0

pub returns : goal.returns
returns c = add_pushed _ _ _ _ _ c.if-not-run.false _ c.runs_place.ensures c.requires _ _ c.push_run.ensures _ c.in_ok-push_run.was c.grow.ensures
