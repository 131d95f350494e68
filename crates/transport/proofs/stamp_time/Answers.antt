-- `transport::stamp_time` meets its contract. Assumes nothing.
use lib.Ieee.{of_bits}
use Rattle.transport.proofs.stamp_time.Goals as goal

pub returns-in-None : goal.returns-in-None
unfolding of_bits
returns-in-None c = rw c.in-None.is
