-- The definition of `push` gives document 01's figures, row by row. Assumes nothing.
use Rattle.std.proofs.Common.{◌≡◌, true, refl}
use lib.Ieee.{of_bits, of_int, add, sub, mul, div, lt, le, ne, eq}
use Rattle.ieee.specs.MaxMin.{max_of}
use Rattle.fifo.specs.FluidFifo.{new, exit_start, exit_end, backlog_at_t1, busy_since, longest_before, fed, pushed}
use Rattle.fifo.specs.Figures.{rows, agrees}

pub figures : agrees (new 8000) rows ≡ true
unfolding agrees rows new pushed fed exit_start exit_end backlog_at_t1 busy_since longest_before max_of of_bits of_int add sub mul div lt le ne eq
figures = refl
