-- `branch::leak::Turned::reached` meets its contract. Assumes nothing.
use Rattle.branch.proofs.VideoTurns.{reached_by, reached_again}
use Rattle.branch.proofs.leak.Turned.reached.Goals as goal

pub returns-in-Some : goal.returns-in-Some
returns-in-Some c = reached_again _ _ _ _ _ c.requires.leak_lies (c.requires.settled_at _ c.in-Some.is)

pub returns : goal.returns
returns c = reached_by _ _ _ _ _ c.requires.leak_lies c.arrived_by-got.ensures
