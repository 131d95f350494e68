-- `branch::leak::Leak::closed` meets its contract. Assumes nothing.
use Rattle.branch.proofs.VideoTurns.{closed_state_lem}
use Rattle.branch.proofs.leak.Leak.closed.Goals as goal

pub returns : goal.returns
returns c =
    record { leak = closed_state_lem _ _ _ _ _ _ c.longest_until.ensures c.max.ensures c.max-2.ensures; events = c.note_when.ensures }
