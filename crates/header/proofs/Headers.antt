-- A packet's header by its bytes, and what a header says of the parse. Assumes nothing.
use Prim.Native.Nat.{ℕ, ◌+◌, ◌*◌, ◌/◌, ◌%◌, ◌-◌, ◌≤◌, ◌<◌}
use mathlib.Core.Path.{◌≡◌, refl, sym}
use mathlib.Core.List.{List}
use mathlib.Core.Bool.{Bool, true, false, cond}
use native.Mathlib.Omega.{arith}
use lib.Dec.{eqb}
use lib.ListN.{length, get_or, take, drop}
use borrow.Author.Tests.{eqb-true, eqb-false}
use Rattle.syntax.proofs.Bytes.{Bytes}
use Rattle.std.specs.Prelude.{Option, Some, None, Result, Ok, Err, is_ok, ⊤}
use Rattle.std.proofs.lemmas.Option.{none-some}
use Rattle.packet.specs.declared.Truncated.{Truncated}
use Rattle.packet.specs.declared.TsPacket.{TsPacket}
use Rattle.packet.specs.declared.TsError.{TsError}
use Rattle.packet.specs.AdaptationField.{adaptation_field_of, field_in, field_room, field_of}
use Rattle.packet.specs.Packet.{with_field, parse_of}
use Rattle.packet.proofs.Cases.{truncated}
use Rattle.packet.proofs.Header.{packet_by, parse_sync, parse_bare, parse_over, parse_field}
use Rattle.header.specs.declared.PacketHeader.{PacketHeader}
use Rattle.header.specs.Header.{header_of}

-- ---- by the bytes
module _ (w : List ℕ) where
  -- by bytes 1 to 3, where header and adaptation field end at `from`
  abbrev pub parsed : ℕ → Option PacketHeader
  parsed from =
      Some
      (record {
        pid = get_or w 1 0 % 32 * 256 + get_or w 2 0;
        payload_unit_start = eqb (get_or w 1 0 / 64 % 2) 1;
        payload_start = cond (eqb (get_or w 3 0 / 16 % 2) 1) from 188;
      })

  -- the same of a parsed adaptation field, by its room
  by_room : Bytes w → (from : ℕ) (part : List ℕ) (r : Result ⊤ Truncated)
      → header_of (with_field w from (field_in part r)) ≡ cond (is_ok r) (parsed from) None
  unfolding header_of with_field field_in
  by_room h from part (Ok x) = rw (packet_by w h (Some (adaptation_field_of part)) from)
  by_room h from part (Err t) = refl

  pub short_unparsed : length w < 188 → header_of (parse_of w) ≡ None
  unfolding header_of
  short_unparsed l = rw (truncated w l)

  module _ (h : Bytes w) (long : 188 ≤ length w) where
    pub sync_unparsed : (get_or w 0 0 ≡ 0x47 → ⊥) → header_of (parse_of w) ≡ None
    unfolding header_of
    sync_unparsed n = rw (parse_sync w h long n)

    pub bare_header : get_or w 0 0 ≡ 0x47 → (get_or w 3 0 / 32 % 2 ≡ 1 → ⊥) → header_of (parse_of w) ≡ parsed 4
    unfolding header_of
    bare_header s n = rw (parse_bare w h long s n, packet_by w h None 4)

    module _ (on : get_or w 3 0 / 32 % 2 ≡ 1) where
      -- a field that ends behind byte 188, whatever the sync byte
      pub overlong_unparsed : 183 < get_or w 4 0 → header_of (parse_of w) ≡ None
      unfolding header_of
      overlong_unparsed over = go (eqb (get_or w 0 0) 0x47) refl
        where
          go : (t : Bool) → eqb (get_or w 0 0) 0x47 ≡ t → header_of (parse_of w) ≡ None
          go true e = rw (parse_over w h long (eqb-true (get_or w 0 0) 0x47 e) on (get_or w 4 0) refl (omega arith))
          go false e = sync_unparsed (eqb-false (get_or w 0 0) 0x47 e)

      -- a field that ends at `from`, and whether it has room
      pub field_header : get_or w 0 0 ≡ 0x47 → (from : ℕ) → from ≡ 5 + get_or w 4 0 → from ≤ 188
          → (held : Bool) → held ≡ is_ok (field_room (take (from - 4) (drop 4 w)))
          → header_of (parse_of w) ≡ cond held (parsed from) None
      unfolding field_of
      field_header s from is fits held e =
          let n : from ≡ 4 + (get_or w 4 0 + 1) = omega arith in
          rw (e, n, parse_field w h long s on (get_or w 4 0) refl (omega arith) _ refl) (by_room h _ _ _)

-- ---- what a header says of the parse
-- it failed
pub record Fails (p : Result TsPacket TsError) : Type 0 where
  pub error : TsError
  pub is : p ≡ Err error

-- it is a packet with these values
pub record IsPacket (p : Result TsPacket TsError) (pid : ℕ) (start : Bool) (from : ℕ) : Type 0 where
  pub packet : TsPacket
  pub is : p ≡ Ok packet
  pub pid_is : pid ≡ packet.pid
  pub start_is : start ≡ packet.payload_unit_start
  pub from_is : from ≡ packet.payload_start

pub unparsed_fails : (p : Result TsPacket TsError) → header_of p ≡ None → Fails p
unfolding header_of
unparsed_fails (Ok h) e = absurd (none-some _ (sym e))
unparsed_fails (Err x) e = record { error = x; is = refl }

pub parsed_packet : (p : Result TsPacket TsError) {h : PacketHeader} → header_of p ≡ Some h
    → IsPacket p h.pid h.payload_unit_start h.payload_start
unfolding header_of
parsed_packet (Ok h) e = record { packet = h; is = refl; pid_is = cc; start_is = cc; from_is = cc }
parsed_packet (Err x) e = absurd (none-some _ e)
