-- `ieee::min` meets its contract. Assumes nothing.
use Rattle.ieee.specs.MaxMin.{min_of}
use Rattle.ieee.proofs.min.Goals as goal

pub returns-then-b-a : goal.returns-then-b-a
unfolding min_of
returns-then-b-a c = simp c.if-b-a.true

pub returns : goal.returns
unfolding min_of
returns c = simp c.if-b-a.false
