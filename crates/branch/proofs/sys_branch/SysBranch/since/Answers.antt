-- `branch::sys_branch::SysBranch::since` meets its contract. Assumes nothing.
use lib.Ieee.{of_bits}
use Rattle.branch.specs.SysBranch.{since}
use Rattle.branch.proofs.sys_branch.SysBranch.since.Goals as goal

pub returns-then-self : goal.returns-then-self
unfolding since of_bits
returns-then-self c = simp (c.if-self.true)

pub returns : goal.returns
unfolding since of_bits
returns c = simp (c.if-self.false)
