-- `branch::main_branch::MainBranch::drain` meets its contract. Assumes nothing.
use Rattle.branch.proofs.Removals.{drain_turns, drain_less}
use Rattle.branch.proofs.main_branch.MainBranch.drain.Goals as goal

pub loop-u-smaller : goal.loop-u-smaller
loop-u-smaller c = drain_less _ _ _ _ _ _ _ _ c.loop-u.invariant _ c.units_place.ensures _ c.first.ensures _ c.in-Some.is _ _ c.remove.ensures

pub loop-u-preserved : goal.loop-u-preserved
loop-u-preserved c =
    drain_turns _ _ _ _ _ _ _ _ c.loop-u.invariant _ c.units_place.ensures _ c.first.ensures _ c.in-Some.is _ _ c.if-u-frontier.false c.remove.ensures
