-- `branch::leak::Leak::turn` meets its contract. Assumes nothing.
use Rattle.branch.specs.VideoBranch.{eb_room}
use Rattle.branch.specs.VideoInWork.{flow_of}
use Rattle.branch.proofs.VideoTurns.{stalled_turn, paced_turn, backlogged_turn}
use Rattle.branch.proofs.leak.Leak.turn.Goals as goal

pub returns-then-room : goal.returns-then-room
unfolding eb_room flow_of
returns-then-room c =
    stalled_turn _ _ _ _ _ _ _ _ c.look-s.ensures.leak c.look-s.ensures.available _ c.if-room.true c.stalled.ensures

pub returns-then-s : goal.returns-then-s
unfolding eb_room flow_of
returns-then-s c =
    paced_turn _ _ _ _ _ _ _ _ c.look-s.ensures.leak c.look-s.ensures.available _ c.if-room.false c.if-s.true c.paced.ensures

pub returns : goal.returns
unfolding eb_room flow_of
returns c =
    backlogged_turn _ _ _ _ _ _ _ _ c.look-s.ensures.leak c.look-s.ensures.available _ c.if-room.false c.if-s.false c.backlogged.ensures
