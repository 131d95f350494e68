-- Packets without a field on the PCR PID, by their bytes: those of another PID, and those without an adaptation field.
-- Assumes nothing.
use Rattle.std.specs.Prelude.{Option, None, Result, Ok, Err}
use Prim.Native.Nat.{ℕ, ◌+◌, ◌*◌, ◌/◌, ◌%◌, ◌≤◌, ◌<◌}
use mathlib.Core.Path.{◌≡◌, refl, sym, ap, ◌∙◌}
use mathlib.Core.Bool.{Bool, true, false}
use mathlib.Core.List.{List}
use native.Mathlib.Omega.{arith}
use lib.Dec.{eqb}
use lib.ListN.{length, get_or, take, drop, length-take, length-drop}
use lib.Seq.{get_or-take, get_or-drop}
use borrow.Author.Tests.{eqb-true, eqb-false}
use Rattle.syntax.proofs.Bytes.{Bytes, bytes_take, bytes_drop}
use Rattle.packet.specs.declared.AdaptationField.{AdaptationField}
use Rattle.packet.specs.declared.TsPacket.{TsPacket}
use Rattle.packet.specs.declared.TsError.{TsError}
use Rattle.packet.specs.Packet.{parse_of, packet_of}
use Rattle.packet.proofs.Header.{packet_by, parse_sync, parse_bare}
use Rattle.packet.proofs.Parsed.{Shape, bare_packet, field_packet, shape}
use Rattle.arrival.specs.Samples.{field_on}
use Rattle.arrival.proofs.Passing.{field_unparsed, field_elsewhere, field_here}

-- the PID of a packet that parses
module _ (w : List ℕ) (h : Bytes w) where
  pid_in : (f : Option AdaptationField) (from : ℕ) → (packet_of w f from).pid ≡ get_or w 1 0 % 32 * 256 + get_or w 2 0
  pid_in f from = ap (λ (p : TsPacket). p.pid) (packet_by w h f from)

  pid_by : (p : TsPacket) → parse_of w ≡ Ok p → p.pid ≡ get_or w 1 0 % 32 * 256 + get_or w 2 0
  pid_by p is = go (shape w p is)
    where
      go : Shape w p → p.pid ≡ get_or w 1 0 % 32 * 256 + get_or w 2 0
      go (bare_packet e) = ap (λ (q : TsPacket). q.pid) e ∙ pid_in _ _
      go (field_packet fits e) = ap (λ (q : TsPacket). q.pid) e ∙ pid_in _ _

-- a packet without an adaptation field has none on any PID
field_absent : (pcrPid : ℕ) {p : Result TsPacket TsError} {q : TsPacket} → p ≡ Ok q → q.adaptation_field ≡ None
    → field_on pcrPid p ≡ None
field_absent pcrPid {p} {q} is none = go (eqb q.pid pcrPid) refl
  where
    go : (t : Bool) → eqb q.pid pcrPid ≡ t → field_on pcrPid p ≡ None
    go true e = field_here pcrPid is (eqb-true q.pid pcrPid e) none
    go false e = field_elsewhere pcrPid is (eqb-false q.pid pcrPid e)

module _ (pcrPid : ℕ) (w : List ℕ) (h : Bytes w) where
  elsewhere_absent : (get_or w 1 0 % 32 * 256 + get_or w 2 0 ≡ pcrPid → ⊥) → field_on pcrPid (parse_of w) ≡ None
  elsewhere_absent n = go (parse_of w) refl
    where
      go : (p : Result TsPacket TsError) → parse_of w ≡ p → field_on pcrPid (parse_of w) ≡ None
      go (Ok q) e = field_elsewhere pcrPid e (λ g. n (sym (pid_by w h q e) ∙ g))
      go (Err why) e = field_unparsed pcrPid e

  bare_absent : 188 ≤ length w → (get_or w 3 0 / 32 % 2 ≡ 1 → ⊥) → field_on pcrPid (parse_of w) ≡ None
  unfolding packet_of
  bare_absent long n = go (eqb (get_or w 0 0) 0x47) refl
    where
      go : (t : Bool) → eqb (get_or w 0 0) 0x47 ≡ t → field_on pcrPid (parse_of w) ≡ None
      go true e = field_absent pcrPid (parse_bare w h long (eqb-true (get_or w 0 0) 0x47 e) n) refl
      go false e = field_unparsed pcrPid (parse_sync w h long (eqb-false (get_or w 0 0) 0x47 e))

-- the packet at a place, by the recording's bytes there
module _ (pcrPid : ℕ) (l : List ℕ) (h : Bytes l) (place : ℕ) where
  packet_byte : (j : ℕ) → j < 188 → get_or (take 188 (drop place l)) j 0 ≡ get_or l (place + j) 0
  packet_byte j b = get_or-take 188 (drop place l) j 0 b ∙ get_or-drop place l j 0

  packet_bytes : Bytes (take 188 (drop place l))
  packet_bytes = bytes_take 188 (drop place l) (bytes_drop place l h)

  pub elsewhere_at : (get_or l (place + 1) 0 % 32 * 256 + get_or l (place + 2) 0 ≡ pcrPid → ⊥)
      → field_on pcrPid (parse_of (take 188 (drop place l))) ≡ None
  elsewhere_at n = elsewhere_absent pcrPid _ packet_bytes (rw (packet_byte 1 (omega arith), packet_byte 2 (omega arith)) n)

  pub bare_at : place + 188 ≤ length l → (get_or l (place + 3) 0 / 32 % 2 ≡ 1 → ⊥)
      → field_on pcrPid (parse_of (take 188 (drop place l))) ≡ None
  bare_at fits n =
      bare_absent pcrPid _ packet_bytes (rw (length-take 188 (drop place l), length-drop place l) (omega arith)) (rw (packet_byte 3 (omega arith)) n)
