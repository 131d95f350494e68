-- `FluidFifo::new` meets its contract. Assumes nothing.
use lib.Ieee.{of_bits}
use Rattle.fifo.specs.FluidFifo.{new}
use Rattle.fifo.proofs.FluidFifo.new.Goals as goal

pub returns : goal.returns
unfolding new of_bits
returns c = rw (c.nearest_u64_to_f64.ensures)
