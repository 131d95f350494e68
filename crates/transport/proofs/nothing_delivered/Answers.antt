-- `transport::nothing_delivered` meets its contract. Assumes nothing.
use lib.Ieee.{of_bits}
use Rattle.transport.proofs.nothing_delivered.Goals as goal

pub returns : goal.returns
unfolding of_bits
returns c = rw c.no_run-none.ensures
