-- The ways of a packet through `arrive`: runs outside the packet, no payload, no header bytes, and any other. Assumes nothing.
use mathlib.Core.Path.{◌≡◌, ◌∙◌}
use mathlib.Core.Bool.{true, false}
use Prim.Native.Nat.{ℕ, ◌+◌, ◌≤◌}
use native.Mathlib.Nat.{add-zero}
use native.Mathlib.Omega.{arith}
use lib.Ieee.{Float}
use borrow.Author.Tests.{eq-eqb, ne_eqb, le-leb, leb-true}
use Rattle.ieee.specs.Binary64.{◌⊖◌, 188f}
use Rattle.scanner.specs.declared.Runs.{Runs}
use Rattle.scanner.specs.State.{only_body}
use Rattle.fifo.specs.declared.FluidFifo.{FluidFifo}
use Rattle.fifo.specs.FluidFifo.{pushed}
use Rattle.transport.specs.Arrive.{float, frac, no_run, nothing, through, delivery, arrive, fits_in, arrive_in}
use Rattle.transport.specs.Transport.{byte_time}

-- content alone is one run behind the header bytes
pub content_delivery : (tb : FluidFifo) (a n : ℕ) (at : ℕ → Float) (decode : Float)
    → delivery tb a (only_body n) at decode ≡ record {
      tb = (through tb (at a) (at (a + n)) n).tb;
      delivered = record { decode_time = decode; first_input_time = at a; head = no_run; rest = no_run; body = (through tb (at a) (at (a + n)) n).run };
    }
unfolding through
content_delivery tb a n at decode = simp add-zero

module _ (a : ℕ) (r : Runs) where
  pub fits_in_lem : a + r.head + r.rest + r.body ≤ 188 → fits_in a r ≡ true
  unfolding fits_in
  fits_in_lem h = le-leb _ 188 h

  pub in_packet_lem : fits_in a r ≡ true → a + r.head + r.rest + r.body ≤ 188
  unfolding fits_in
  in_packet_lem e = leb-true _ 188 e

module _ (tb : FluidFifo) (a : ℕ) (r : Runs) (t0 u decode : Float) where
  abbrev at : ℕ → Float
  at k = byte_time t0 (u ⊖ t0) k

  abbrev header : FluidFifo
  header = (pushed tb t0 (at a) (float a)).fifo

  pub outside_way : fits_in a r ≡ false → arrive_in tb a r t0 u decode ≡ record { tb = tb; delivered = nothing }
  unfolding arrive_in
  outside_way e = rw e

  pub inside_way : fits_in a r ≡ true → arrive_in tb a r t0 u decode ≡ arrive tb a r t0 u decode
  unfolding arrive_in
  inside_way e = rw e

  pub empty_way : a ≡ 188 → arrive tb a r t0 u decode ≡ record { tb = (pushed tb t0 u 188f).fifo; delivered = nothing }
  unfolding arrive
  empty_way e = rw (eq-eqb a 188 e)

  pub headed_way : (a ≡ 188 → ⊥) → arrive tb a r t0 u decode ≡ delivery header a r at decode
  unfolding arrive frac
  headed_way d = rw (ne_eqb a 188 d)

  pub plain_way : (a ≡ 188 → ⊥) → r.head + r.rest ≡ 0 → arrive tb a r t0 u decode ≡ delivery header a (only_body r.body) at decode
  plain_way d e =
      let h : r.head ≡ 0 = omega arith in
      let k : r.rest ≡ 0 = omega arith in
      headed_way d
      ∙ λ i. delivery header a (record { head = h i; decode_ts = r.decode_ts; rest = k i; body = r.body }) at decode
