-- The figures of document 01 hold, by computation.
use Rattle.std.proofs.Common.{◌≡◌, true, refl}
use lib.Ieee.{of_bits, of_int, add, sub, mul, div, lt, le, eq, ne, round, units, odd, size, span, climb, sum, neg}
use Rattle.arrival.specs.ArrivalClock.{close, build_from, build}
use Rattle.arrival.specs.Times.{advance_to, time_of}
use Rattle.arrival.specs.Figures.{clock_rows, all_hold}

pub figures : all_hold clock_rows ≡ true
unfolding all_hold clock_rows build build_from close advance_to time_of of_bits of_int add sub mul div lt le eq ne round units odd size span climb sum neg
figures = refl
