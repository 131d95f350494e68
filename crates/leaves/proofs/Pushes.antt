-- A push on a state in figures. Assumes nothing.
use Rattle.std.proofs.Common.{◌≡◌, ◌<◌, ◌≤◌, List, length, le-leb}
use borrow.Author.Tests.{lt-leb}
use lib.Ieee.{Float}
use Rattle.fifo.specs.declared.Pushed.{Pushed}
use Rattle.fifo.specs.FluidFifo.{pushed}
use Rattle.leaves.specs.Leaves.{stored, fifo_figures, fifo_at, window_figures, Pushes}
use Rattle.leaves.proofs.Stored.{no_room}

module _ (state : List Float) (from to bytes : Float) (out : List Float) where
  pub pushes_none : length state < 5 → Pushes state from to bytes out state out
  unfolding fifo_figures
  pushes_none h = record { state_holds = no_room _ state h; out_holds = rw (lt-leb 5 (length state) h) }

  pub pushes : 5 ≤ length state → (p : Pushed) → p ≡ pushed (fifo_at state) from to bytes → (state' out' : List Float)
      → state' ≡ stored (fifo_figures p.fifo) state → out' ≡ stored (window_figures p) out → Pushes state from to bytes out state' out'
  pushes h p is state' out' s o = record { state_holds = rw (← is) s; out_holds = rw (le-leb 5 (length state) h, ← is) o }
