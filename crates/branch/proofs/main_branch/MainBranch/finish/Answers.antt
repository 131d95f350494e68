-- `branch::main_branch::MainBranch::finish` meets its contract. Assumes nothing.
use mathlib.Core.Path.{sym, ◌∙◌}
use native.Mathlib.Omega.{arith}
use lib.Ieee.{of_bits}
use Rattle.branch.proofs.MainSteps.{closed_lies, closed_bound, finish_refused, finish_made}
use Rattle.branch.proofs.main_branch.MainBranch.finish.Goals as goal

pub returns-in_err-close : goal.returns-in_err-close
returns-in_err-close c =
    finish_refused _ _ _ _ (sym c.ready.ensures ∙ c.if-not-ready.false) _ c.units_place.ensures _ _ _ c.close.ensures _ _ _ c.in_err-close.was c.from_residual.ensures.0

pub drain-requires-clause-branch_lies : goal.drain-requires-clause-branch_lies
drain-requires-clause-branch_lies c =
    closed_lies _ _ _ _ (sym c.ready.ensures ∙ c.if-not-ready.false) _ c.units_place.ensures _ _ _ c.close.ensures

pub drain-requires-clause-count_bound : goal.drain-requires-clause-count_bound
drain-requires-clause-count_bound c =
    closed_bound c.args.work.now _ _ _ (sym c.ready.ensures ∙ c.if-not-ready.false) _ c.units_place.ensures _ _ _ c.close.ensures (omega arith)

pub returns : goal.returns
unfolding of_bits
returns c =
    finish_made _ _ _ _ (sym c.ready.ensures ∙ c.if-not-ready.false) _ c.units_place.ensures _ _ _ c.close.ensures _ _ _ _ _ c.in_ok-close.was c.drain.ensures c.look_at_end.ensures
