-- `branch::leak::Leak::backlogged` meets its contract. Assumes nothing.
use Rattle.branch.proofs.VideoTurns.{backlogged_by}
use Rattle.branch.specs.VideoInWork.{leak_of, rates_of}
use Rattle.branch.proofs.leak.Leak.backlogged.Goals as goal

pub returns : goal.returns
unfolding leak_of
returns c =
    let a = c.args in
    let x = c.transfer.ensures in
    let S = leak_of a.work.now a.m a.self in
    record {
      lies = record { runs = c.requires.runs; marks = x.lies };
      state = backlogged_by (rates_of a.m) S a.t a.available a.room _ _ _ _ c.min.ensures c.min-take.ensures x.state c.max.ensures;
    }
