-- `branch::leak::Leak::paced` meets its contract. Assumes nothing.
use Rattle.branch.proofs.VideoTurns.{paced_fills, paced_unfound, paced_through}
use Rattle.branch.proofs.leak.Leak.paced.Goals as goal

pub returns-in-Some : goal.returns-in-Some
returns-in-Some c =
    paced_fills _ _ _ _ _ _ _ _ _ _ _ c.requires c.arrived_by-got.ensures c.max.ensures c.min-take.ensures c.max-2.ensures c.transfer-flow.ensures _ _ _ c.if-take-arriving.true c.time_of_cumulative.ensures c.in-Some.is c.max-next.ensures

pub returns-in_default : goal.returns-in_default
returns-in_default c =
    paced_unfound _ _ _ _ _ _ _ _ _ _ _ c.requires c.arrived_by-got.ensures c.max.ensures c.min-take.ensures c.max-2.ensures c.transfer-flow.ensures _ c.if-take-arriving.true c.time_of_cumulative.ensures c.in_default.is

pub returns-else-take-arriving : goal.returns-else-take-arriving
returns-else-take-arriving c =
    paced_through _ _ _ _ _ _ _ _ _ _ _ c.requires c.arrived_by-got.ensures c.max.ensures c.min-take.ensures c.max-2.ensures c.transfer-flow.ensures c.if-take-arriving.false
