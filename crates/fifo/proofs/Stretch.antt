-- The busy-stretch bookkeeping by its cases: the first bytes, bytes after an idle gap, bytes without one. Assumes nothing.
use Rattle.std.proofs.Common.{◌≡◌, true, false}
use lib.Ieee.{Float, binary64, sub}
use Rattle.ieee.specs.MaxMin.{max_of}
use Rattle.fifo.specs.FluidFifo.{never_busy, idle_before, busy_since, longest_before}
use Rattle.fifo.specs.declared.FluidFifo.{FluidFifo}

-- the start of the stretch, and the longest of the closed ones
pub record Stretch (f : FluidFifo) (t0 since longest : Float) : Type 0 where
  pub since_is : busy_since f t0 ≡ since
  pub longest_is : longest_before f t0 ≡ longest

module _ (f : FluidFifo) (t0 : Float) where
  pub at_first : never_busy f ≡ true → Stretch f t0 t0 f.longest_busy
  unfolding busy_since longest_before
  at_first n = record { since_is = simp n; longest_is = simp n }

  pub after_gap :
      never_busy f ≡ false → idle_before f t0 ≡ true →
      Stretch f t0 t0 (max_of f.longest_busy (sub binary64 f.virtual_done f.busy_since))
  unfolding busy_since longest_before
  after_gap n g = record { since_is = simp (n, g); longest_is = simp (n, g) }

  pub without_gap : never_busy f ≡ false → idle_before f t0 ≡ false → Stretch f t0 f.busy_since f.longest_busy
  unfolding busy_since longest_before
  without_gap n g = record { since_is = simp (n, g); longest_is = simp (n, g) }
