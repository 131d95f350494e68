-- What a caller of `arrive` uses: the answer with the scanner, whole and by its parts, where that keeps an open unit. Assumes nothing.
use Rattle.std.specs.Prelude.{Option, Some, None}
use mathlib.Core.Path.{◌≡◌, refl, sym, ◌∙◌, ap}
use mathlib.Core.Bool.{Bool, true, false, cond}
use mathlib.Core.List.{List}
use Prim.Native.Nat.{ℕ, ◌+◌, ◌-◌, ◌^◌, ◌<◌, ◌≤◌}
use native.Mathlib.Omega.{arith}
use lib.Dec.{eqb}
use lib.ListN.{length}
use lib.Ieee.{Float}
use borrow.Author.Tests.{eq-eqb, ne_eqb, eqb-true}
use Rattle.ieee.specs.Binary64.{ -∞}
use Rattle.clock.specs.Timestamp.{timestamp_modulus}
use Rattle.packet.specs.Packet.{payload_of}
use Rattle.scanner.specs.declared.Runs.{Runs}
use Rattle.scanner.specs.declared.Fed.{Fed}
use Rattle.scanner.specs.declared.PesScanner.{PesScanner}
use Rattle.scanner.specs.Unit.{Open, next_open, runs_in}
use Rattle.scanner.specs.State.{in_header, unfed_runs, scanner_of, open_of, fed_of}
use Rattle.scanner.proofs.Steps.{fed_runs, fed_scanner, unfed_is}
use Rattle.arrival.specs.declared.RateInterval.{RateInterval}
use Rattle.arrival.specs.Bounds.{IntervalWithin}
use Rattle.arrival.proofs.Stamps.{decode_time_is}
use Rattle.arrival.proofs.DecodeTimes.{reference_within}
use Rattle.fifo.specs.declared.FluidFifo.{FluidFifo}
use Rattle.transport.specs.declared.Arrived.{Arrived}
use Rattle.transport.specs.Arrive.{stamp_time, arrive, arrive_in}
use Rattle.transport.specs.Transport.{Transport, Passed, stamp_answer, arrived_with, arrived_of}
use Rattle.transport.proofs.Payloads.{within, payload_end, payload_length, next_empty}
use Rattle.transport.proofs.Ways.{fits_in_lem, inside_way, empty_way}

-- A reference that `extend_near` takes; an interval within the limits has one.
abbrev pub Extendable : RateInterval → Type 0
Extendable i = i.pcr_ref_90k < 2 ^ 64 - timestamp_modulus

pub within_extendable : (i : RateInterval) → IntervalWithin i → Extendable i
within_extendable i w = omega (arith, reference_within i 0 w)

pub stamp_answer_lem : (i : RateInterval) (ts : Option ℕ) → Extendable i → stamp_answer i ts ≡ stamp_time i ts
stamp_answer_lem i None h = refl
stamp_answer_lem i (Some raw) h = decode_time_is i raw h

-- A packet of a stream whose scanner keeps the open unit o.
module _ (t : Transport) (o : Open) (keeps : t.scanner ≡ scanner_of o) (w : List ℕ) (start : ℕ) (bit : Bool) (t0 u : Float) (i : RateInterval) where
  abbrev payload : List ℕ
  payload = payload_of w start

  abbrev arrived : Passed
  arrived = arrived_of t w start bit t0 u i

  abbrev runs : Runs
  runs = runs_in (next_open o bit payload) (length payload)

  -- the scanner keeps the unit behind the payload; that is o where the payload begins at 188
  pub arrive_scanner : arrived.transport.scanner ≡ scanner_of (next_open o bit payload)
  unfolding arrived_of
  arrive_scanner = rw keeps (go (eqb start 188) refl)
    where
      go : (b : Bool) → eqb start 188 ≡ b → cond b (scanner_of o) (fed_of (open_of (scanner_of o)) bit payload).scanner ≡ scanner_of (next_open o bit payload)
      go true e = sym (rw (eqb-true start 188 e) (ap scanner_of (next_empty o bit w)))
      go false e = fed_scanner o bit payload

  fed_by : (fed_of (open_of t.scanner) bit payload).runs ≡ runs
  fed_by = rw keeps (fed_runs o bit payload)

  -- whole: the scanner, and `arrive` by the unit's runs
  pub arrive_runs : arrived ≡ arrived_with (scanner_of (next_open o bit payload)) (arrive t.tb start runs t0 u (stamp_answer i runs.decode_ts))
  unfolding arrived_of
  arrive_runs =
      ap (λ (r : Runs). arrived_with arrived.transport.scanner (arrive t.tb start r t0 u (stamp_answer i r.decode_ts))) fed_by
      ∙ ap (λ (s : PesScanner). arrived_with s (arrive t.tb start runs t0 u (stamp_answer i runs.decode_ts))) arrive_scanner

  -- by an interval whose reference `extend_near` takes
  module _ (e : Extendable i) where
    stamped : arrive t.tb start runs t0 u (stamp_answer i runs.decode_ts) ≡ arrive t.tb start runs t0 u (stamp_time i runs.decode_ts)
    stamped = ap (arrive t.tb start runs t0 u) (stamp_answer_lem i runs.decode_ts e)

    pub arrive_tb : arrived.transport.tb ≡ (arrive t.tb start runs t0 u (stamp_time i runs.decode_ts)).tb
    arrive_tb = ap (λ (x : Passed). x.transport.tb) arrive_runs ∙ ap (λ (x : Arrived). x.tb) stamped

    pub arrive_delivered : arrived.delivered ≡ (arrive t.tb start runs t0 u (stamp_time i runs.decode_ts)).delivered
    arrive_delivered = ap (λ (x : Passed). x.delivered) arrive_runs ∙ ap (λ (x : Arrived). x.delivered) stamped

-- The runs of a scanner that is fed a packet's payload lie in the packet.
pub fed_fits : (tb : FluidFifo) (o : Open) (bit : Bool) (w : List ℕ) (start : ℕ) (t0 u decode : Float) → start ≤ 188
    → arrive_in tb start (fed_of o bit (payload_of w start)).runs t0 u decode ≡ arrive tb start (fed_of o bit (payload_of w start)).runs t0 u decode
fed_fits tb o bit w start t0 u decode h =
    inside_way tb start _ t0 u decode (fits_in_lem start (fed_of o bit (payload_of w start)).runs (omega (arith, within o bit (payload_of w start), payload_end w start)))

-- The answer from the code's `arrive`, in each of its caller's three ways.
module _ (tb : FluidFifo) (s : PesScanner) (w : List ℕ) (start : ℕ) (t0 u : Float) (i : RateInterval) where
  abbrev stream : Transport
  stream = record { tb = tb; scanner = s }

  -- without payload the scanner is left alone
  pub empty_arrives : (bit : Bool) (r : Runs) (decode : Float) → start ≡ 188 → r.head + r.rest + r.body ≡ 0
      → arrived_of stream w start bit t0 u i ≡ arrived_with s (arrive_in tb start r t0 u decode)
  unfolding arrived_of
  empty_arrives bit r decode e z =
      rw (eq-eqb start 188 e)
      (ap (arrived_with s) (empty_way tb start _ t0 u _ e ∙ sym (inside_way tb start r t0 u decode (fits_in_lem start r (omega arith)) ∙ empty_way tb start r t0 u decode e)))

  -- the scanner is fed the payload
  pub scanned_arrives : (bit : Bool) → start < 188
      → arrived_of stream w start bit t0 u i
      ≡ arrived_with (fed_of (open_of s) bit (payload_of w start)).scanner (arrive_in tb start (fed_of (open_of s) bit (payload_of w start)).runs t0 u (stamp_answer i (fed_of (open_of s) bit (payload_of w start)).runs.decode_ts))
  unfolding arrived_of
  scanned_arrives bit h =
      rw (ne_eqb start 188 (λ e. omega arith))
      (ap (arrived_with (fed_of (open_of s) bit (payload_of w start)).scanner) (sym (fed_fits tb (open_of s) bit w start t0 u _ (omega arith))))

  -- a payload that starts no unit and has no header bytes leaves the scanner as it is
  pub unfed_arrives : (o : Open) → s ≡ scanner_of o → in_header s ≡ false → length w ≤ 188 → start < 188
      → arrived_of stream w start false t0 u i ≡ arrived_with s (arrive_in tb start (unfed_runs s (length w - start)) t0 u -∞)
  unfolding unfed_runs
  unfed_arrives o keeps outside l h =
      scanned_arrives false h
      ∙ ap (λ (f : Fed). arrived_with f.scanner (arrive_in tb start f.runs t0 u (stamp_answer i f.runs.decode_ts))) fed
    where
      fed : fed_of (open_of s) false (payload_of w start) ≡ record { runs = unfed_runs s (length w - start); scanner = s }
      fed = rw (keeps, ← payload_length w start l) (unfed_is o (payload_of w start) (rw keeps at outside))
