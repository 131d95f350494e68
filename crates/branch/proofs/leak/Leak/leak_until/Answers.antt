-- `branch::leak::Leak::leak_until` meets its contract. Assumes nothing.
use lib.Ieee.{of_bits}
use Rattle.branch.proofs.VideoTurns.{leak_first, leak_rest}
use Rattle.branch.proofs.leak.Leak.leak_until.Goals as goal

pub returns-then-self : goal.returns-then-self
unfolding of_bits
returns-then-self c = leak_first _ _ _ _ _ _ c.requires.leak_lies (c.if-self.true)

pub returns : goal.returns
unfolding of_bits
returns c =
    leak_rest _ _ _ _ _ _ _ _ _ _ _ (c.if-self.false) c.turns-s.ensures c.reached-total.ensures c.closed.ensures
