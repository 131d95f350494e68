-- What a parse that succeeds has: a PID of 13 bits, a payload start from 4 to 188, clock references of 33 and 9 bits.
-- Assumes nothing.
use Prim.Native.Nat.{ℕ, ◌+◌, ◌*◌, ◌^◌, ◌<◌, ◌≤◌}
use mathlib.Core.Path.{◌≡◌, refl, sym, ap, subst, ◌∙◌}
use mathlib.Core.Bool.{Bool, true, false, cond}
use mathlib.Core.List.{List}
use mathlib.Core.Logic.{◌⊎◌, inl, inr}
use native.Mathlib.Omega.{arith}
use lib.ListN.{length, take, drop}
use borrow.Author.Tests.{ltb-false}
use Rattle.syntax.specs.Bits.{bits}
use Rattle.syntax.specs.Table.{field}
use Rattle.syntax.specs.Packet.{table_2_2}
use Rattle.syntax.proofs.Bits.{bound}
use Rattle.syntax.proofs.Packet.{places}
use Rattle.syntax.proofs.AdaptationField as laws
use Rattle.packet.specs.declared.ClockReference.{ClockReference}
use Rattle.packet.specs.declared.AdaptationField.{AdaptationField}
use Rattle.packet.specs.declared.TsPacket.{TsPacket}
use Rattle.std.proofs.lemmas.Option.{none-some, cond_some}
use Rattle.std.specs.Prelude.{Option, Some, None, Result, Ok, Err, ⊤}
use Rattle.packet.specs.declared.Truncated.{Truncated}
use Rattle.packet.specs.declared.TsError.{TsError}
use Rattle.packet.specs.AdaptationField.{is_set, pcr_of, opcr_of, adaptation_field_of, field_in, field_room, field_of, pcr_ticks}
use Rattle.packet.specs.Packet.{has_payload, packet_of, with_field, field_length, parse_of}
use Rattle.packet.proofs.Cases.{Way, way, is_truncated, is_bad_sync, is_bare, is_overlong, is_fitting, truncated, bad_sync, bare, overlong, fitting}

-- an adaptation field that parses has the values of table 2-6
in_room : (raw : List ℕ) (r : Result ⊤ Truncated) (f : AdaptationField) → field_in raw r ≡ Ok f → f ≡ adaptation_field_of raw
unfolding field_in
in_room raw (Ok x) f p = cc
in_room raw (Err t) f p = cc

field_values : (raw : List ℕ) (f : AdaptationField) → field_of raw ≡ Ok f → f ≡ adaptation_field_of raw
unfolding field_of
field_values raw f e = in_room raw (field_room raw) f e

-- a packet that parses: without an adaptation field, or with one that fits
pub data Shape (w : List ℕ) (h : TsPacket) : Type 0 where
  bare_packet : h ≡ packet_of w None 4 → Shape w h
  field_packet : 4 + field_length w ≤ 188
      → h ≡ packet_of w (Some (adaptation_field_of (take (field_length w) (drop 4 w)))) (4 + field_length w) → Shape w h

module _ (w : List ℕ) (h : TsPacket) (is : parse_of w ≡ Ok h) where
  other : {e : TsError} → parse_of w ≡ Err e → ⊥
  other p = cc

  with_field_lem : 4 + field_length w ≤ 188 → (x : Result AdaptationField Truncated) → field_of (take (field_length w) (drop 4 w)) ≡ x
      → parse_of w ≡ with_field w (4 + field_length w) x → Shape w h
  unfolding with_field
  with_field_lem fits (Err t) e p = absurd (other p)
  with_field_lem fits (Ok f) e p =
      let q : h ≡ packet_of w (Some f) (4 + field_length w) = cc in
      field_packet fits
      (q ∙ ap (λ (g : AdaptationField). packet_of w (Some g) (4 + field_length w)) (field_values (take (field_length w) (drop 4 w)) f e))

  pub shape : Shape w h
  shape = go (way w)
    where
      go : Way w → Shape w h
      go (is_truncated l) = absurd (other (truncated w l))
      go (is_bad_sync l s) = absurd (other (bad_sync w l s))
      go (is_overlong l s c o) = absurd (other (overlong w l s c o))
      go (is_bare l s c) =
          let p = bare w l s c in
          bare_packet (cc)
      go (is_fitting l s c o) =
          let p = fitting w l s c o in
          with_field_lem (ltb-false 188 (4 + field_length w) o) (field_of (take (field_length w) (drop 4 w))) refl p

  pub at_least : 188 ≤ length w
  at_least = go (way w)
    where
      go : Way w → 188 ≤ length w
      go (is_truncated l) = absurd (other (truncated w l))
      go (is_bad_sync l s) = l
      go (is_overlong l s c o) = l
      go (is_bare l s c) = l
      go (is_fitting l s c o) = l

-- a field of table 2-6 that may be absent is below what its bits can write
small : (t : Bool) (v s-bits n : ℕ) → v ≡ cond t s-bits 0 → s-bits < n → v < n
small true v b n e l = omega arith
small false v b n e l = omega arith

pub record Small (c : ClockReference) : Type 0 where
  pub base : c.base < 2 ^ 33
  pub extension : c.extension < 512

-- a clock reference by its flag and its place
small_clock : (raw : List ℕ) (on : Bool) (at : ℕ) (c : ClockReference) → c.base ≡ cond on (bits raw at 33) 0
    → c.extension ≡ cond on (bits raw (at + 39) 9) 0 → Small c
small_clock raw on at c b e =
    record { base = small on _ _ (2 ^ 33) b (bound raw at 33); extension = small on _ _ 512 e (bound raw (at + 39) 9) }

pub record Parsed (h : TsPacket) : Type 0 where
  pub pid_small : h.pid < 8192
  pub scrambling_small : h.transport_scrambling_control < 4
  pub continuity_small : h.continuity_counter < 16
  pub start_low : 4 ≤ h.payload_start
  pub start_high : h.payload_start ≤ 188
  pub clock_small : (f : AdaptationField) (c : ClockReference) → h.adaptation_field ≡ Some f
      → (f.pcr ≡ Some c) ⊎ (f.opcr ≡ Some c) → Small c

-- the bounds of a packet whose adaptation field's clock references are small
of_packet : (w : List ℕ) (m : Option AdaptationField) (from : ℕ) → 4 ≤ from → from ≤ 188
    → ((f : AdaptationField) (c : ClockReference) → m ≡ Some f → (f.pcr ≡ Some c) ⊎ (f.opcr ≡ Some c) → Small c)
    → Parsed (packet_of w m from)
unfolding packet_of
of_packet w m from low high s =
    record {
      pid_small = rw (places w).pid (bound w 11 13);
      scrambling_small = rw (places w).transport_scrambling_control (bound w 24 2);
      continuity_small = rw (places w).continuity_counter (bound w 28 4);
      start_low = from_low (has_payload (field table_2_2 w "adaptation_field_control"));
      start_high = from_high (has_payload (field table_2_2 w "adaptation_field_control"));
      clock_small = s;
    }
  where
    from_low : (t : Bool) → 4 ≤ cond t from 188
    from_low true = low
    from_low false = omega arith

    from_high : (t : Bool) → cond t from 188 ≤ 188
    from_high true = high
    from_high false = omega arith

-- the clock references of an adaptation field's values
module _ (raw : List ℕ) (f : AdaptationField) (c : ClockReference)
    (is : Some (adaptation_field_of raw) ≡ Some f) where
  values : adaptation_field_of raw ≡ f
  values = cc

  there : (get : AdaptationField → Option ClockReference) (on : Bool) (r : ClockReference)
      → get (adaptation_field_of raw) ≡ cond on (Some r) None → Small r → get f ≡ Some c → Small c
  there get on r e s b = subst Small (cond_some on r c (sym e ∙ ap get values ∙ b)).1 s

  clock_there : (f.pcr ≡ Some c) ⊎ (f.opcr ≡ Some c) → Small c
  unfolding adaptation_field_of
  clock_there (inl e) =
      there (λ (g : AdaptationField). g.pcr) (is_set raw "PCR_flag") (pcr_of raw) refl
      (small_clock raw _ _ _ (laws.program_clock_reference_base raw) (laws.program_clock_reference_extension raw)) e
  clock_there (inr e) =
      there (λ (g : AdaptationField). g.opcr) (is_set raw "OPCR_flag") (opcr_of raw) refl
      (small_clock raw _ _ _ (laws.original_program_clock_reference_base raw) (laws.original_program_clock_reference_extension raw)) e

pub parsed : (w : List ℕ) (h : TsPacket) → parse_of w ≡ Ok h → Parsed h
parsed w h is = go (shape w h is)
  where
    go : Shape w h → Parsed h
    go (bare_packet e) = rw e (of_packet w None 4 (omega arith) (omega arith) (λ f c a b. absurd (none-some f a)))
    go (field_packet fits e) =
        let raw = take (field_length w) (drop 4 w) in
        rw e
        (of_packet w (Some (adaptation_field_of raw)) (4 + field_length w) (omega arith) fits (clock_there raw))

-- ticks of a clock reference: an extension of 300 to 511 can pass a multiple of 300
pub ticks_small : (c : ClockReference) → Small c → pcr_ticks c < 2 ^ 33 * 300 + 212
unfolding pcr_ticks
ticks_small c s = omega (arith, s.base, s.extension)
