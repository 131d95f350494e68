-- Document 01's figures of the FIFO as a table, and what it means that the definition of `push` gives them.
use Rattle.std.specs.Prelude.{ℕ, Bool, true, ◌&&◌, List, [], ◌∷◌, pos, Float}
use Rattle.std.specs.Float.{binary64}
use Rattle.std.specs.Float.Ieee.{of_int, div, eq}
use Rattle.fifo.specs.FluidFifo.{pushed}
use Rattle.fifo.specs.declared.FluidFifo.{FluidFifo}

-- a push, the window in which its bytes leave, and the FIFO's peak after it: times in ms, the rest in bytes
pub record Row : Type 0 where
  pub t0 : ℕ
  pub t1 : ℕ
  pub bytes : ℕ
  pub start : ℕ
  pub end : ℕ
  pub peak : ℕ

-- the pushes into one FIFO of 8,000 bit/s, in order; the second leaves the peak of the first
unfoldable pub rows : List Row
rows =
    record { t0 = 0; t1 = 500; bytes = 1000; start = 0; end = 1000; peak = 500 }
    ∷ record { t0 = 2000; t1 = 2250; bytes = 500; start = 2000; end = 2500; peak = 500 }
    ∷ []

abbrev pub bytes_of : ℕ → Float
bytes_of n = of_int binary64 (pos n)

abbrev pub seconds : ℕ → Float
seconds ms = div binary64 (of_int binary64 (pos ms)) (of_int binary64 (pos 1000))

-- each row holds, its push going into the FIFO that the rows before it leave
unfoldable pub agrees : FluidFifo → List Row → Bool
agrees f [] = true
agrees f (r ∷ rs) =
    let p = pushed f (seconds r.t0) (seconds r.t1) (bytes_of r.bytes) in
    eq p.start (seconds r.start) && eq p.end (seconds r.end) && eq p.fifo.peak (bytes_of r.peak) && agrees p.fifo rs
