-- A stream's scanner and transport buffer behind a packet: the scanner is fed, or it stays as it is. Assumes nothing.
use Rattle.std.proofs.Common.{◌≡◌, ℕ, ◌+◌, ◌-◌, ◌<◌, ◌≤◌, Bool, true, false, ◌&&◌, ◌||◌, ltb, List, length, sym, refl, ap, ◌∙◌, true≢false, arith, ltb-false, ltb-true}
use Rattle.std.proofs.lemmas.Bool.{and_parts}
use Rattle.header.specs.declared.PacketHeader.{PacketHeader}
use Rattle.scanner.specs.declared.PesScanner.{PesScanner}
use Rattle.scanner.specs.declared.Runs.{Runs}
use Rattle.scanner.specs.Unit.{Open}
use Rattle.scanner.specs.State.{in_header, unfed_runs, scanner_of}
use Rattle.scanner.proofs.Steps.{unfed_empty}
use Rattle.arrival.specs.declared.PacketArrival.{PacketArrival}
use Rattle.transport.specs.declared.Arrived.{Arrived}
use Rattle.transport.specs.Arrive.{arrive_in}
use Rattle.transport.specs.Transport.{Passed, stamp_answer, arrived_with, arrived_of}
use Rattle.transport.proofs.Arrivals.{scanned_arrives, unfed_arrives, empty_arrives}
use Rattle.tstd.specs.declared.chain.Chain.{Chain}
use Rattle.tstd.specs.Chain.{scans_in, scanned, arrived}

no_bytes : (s : PesScanner) (n : ℕ) (r : Runs) → n ≡ 0 → r ≡ unfed_runs s n → r.head + r.rest + r.body ≡ 0
no_bytes s n r z e = rw (e ∙ ap (unfed_runs s) z ∙ unfed_empty s)

module _ (c : Chain) (w : List ℕ) (h : PacketHeader) (a : PacketArrival) (o : Open) (is : c.scanner ≡ scanner_of o) (few : length w ≤ 188) (start : h.payload_start ≤ 188) where
  abbrev theirs : Passed
  theirs = arrived_of (record { tb = c.tb; scanner = c.scanner }) w h.payload_start h.payload_unit_start a.t0 a.t1 a.cursor.interval

  abbrev ours : PesScanner → Runs → Passed
  ours s r = arrived_with s (arrive_in c.tb h.payload_start r a.t0 a.t1 (stamp_answer a.cursor.interval r.decode_ts))

  -- a scanner that is not fed: the packet has no payload, or one that starts no unit and has no header bytes
  keeps : (x y z : Bool) → ltb h.payload_start 188 ≡ x → h.payload_unit_start ≡ y → in_header c.scanner ≡ z → (x && (y || z)) ≡ false
      → ours c.scanner (unfed_runs c.scanner (length w - h.payload_start)) ≡ theirs
  unfolding unfed_runs
  keeps false y z ex ey ez t =
      let e : h.payload_start ≡ 188 = omega (arith, ltb-false h.payload_start 188 ex) in
      let r = unfed_runs c.scanner (length w - h.payload_start) in
      let none = no_bytes c.scanner (length w - h.payload_start) r (omega arith) refl in
      sym (empty_arrives c.tb c.scanner w h.payload_start a.t0 a.t1 a.cursor.interval h.payload_unit_start r _ e none)
  keeps true true z ex ey ez t = absurd (true≢false t)
  keeps true false true ex ey ez t = absurd (true≢false t)
  keeps true false false ex ey ez t =
      rw ey (sym (unfed_arrives c.tb c.scanner w h.payload_start a.t0 a.t1 a.cursor.interval o is ez few (ltb-true _ _ ex)))

  by_test : (t : Bool) → scans_in c.scanner h ≡ t → ours (scanned c.scanner w h).scanner (scanned c.scanner w h).runs ≡ theirs
  unfolding scanned scans_in
  by_test true e =
      let l : h.payload_start < 188 = ltb-true _ _ (and_parts _ _ e).0 in
      rw e (sym (scanned_arrives c.tb c.scanner w h.payload_start a.t0 a.t1 a.cursor.interval h.payload_unit_start l))
  by_test false e = rw e (keeps _ _ _ refl refl refl e)

  -- where the scanner keeps an open unit, scanner, transport buffer and what is delivered are the definition's
  pub front_is : (d : Arrived) (s : PesScanner) → d ≡ arrived c w h a → s ≡ (scanned c.scanner w h).scanner
      → record { transport = record { tb = d.tb; scanner = s }; delivered = d.delivered } ≡ theirs
  unfolding arrived
  front_is d s e f = rw (e, f) (by_test (scans_in c.scanner h) refl)
