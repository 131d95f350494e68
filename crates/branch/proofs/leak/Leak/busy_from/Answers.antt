-- `branch::leak::Leak::busy_from` meets its contract. Assumes nothing.
use lib.Ieee.{of_bits}
use Rattle.branch.proofs.leak.Leak.busy_from.Goals as goal

pub returns-then-fullness : goal.returns-then-fullness
unfolding of_bits
returns-then-fullness c = simp (c.if-self.true, c.if-fullness.true)

pub returns-then-self : goal.returns-then-self
unfolding of_bits
returns-then-self c = simp (c.if-self.true, c.if-fullness.false)

pub returns : goal.returns
unfolding of_bits
returns c = simp (c.if-self.false)
