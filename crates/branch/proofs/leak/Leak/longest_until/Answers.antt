-- `branch::leak::Leak::longest_until` meets its contract. Assumes nothing.
use lib.Ieee.{of_bits}
use Rattle.branch.proofs.leak.Leak.longest_until.Goals as goal

pub returns-then-self : goal.returns-then-self
unfolding of_bits
returns-then-self c = simp (c.if-self.true)

pub returns : goal.returns
unfolding of_bits
returns c = simp (c.if-self.false) c.max.ensures
