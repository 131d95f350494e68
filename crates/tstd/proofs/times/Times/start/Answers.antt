-- `start` meets its contract. Assumes nothing.
use lib.Ieee.{of_bits}
use Rattle.tstd.proofs.times.Times.start.Goals as goal

pub returns : goal.returns
unfolding of_bits
returns c = rw c.start.ensures
