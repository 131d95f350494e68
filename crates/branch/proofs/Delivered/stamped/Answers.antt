-- `branch::Delivered::stamped` meets its contract. Assumes nothing.
use lib.Ieee.{of_bits}
use Rattle.branch.specs.Units.{stamp_of, open_of}
use Rattle.branch.proofs.Delivered.stamped.Goals as goal

pub returns-then-self : goal.returns-then-self
unfolding stamp_of open_of of_bits
returns-then-self c = simp c.if-self.true

pub returns : goal.returns
unfolding stamp_of open_of of_bits
returns c = simp c.if-self.false
