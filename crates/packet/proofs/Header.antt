-- The definitions of `Packet` by the bytes of the header, and case by case.
-- Assumes nothing.
use Prim.Native.Nat.{ℕ, ◌+◌, ◌-◌, ◌*◌, ◌/◌, ◌%◌, ◌≤◌, ◌<◌}
use mathlib.Core.Path.{◌≡◌, refl, sym, ap, ◌∙◌}
use mathlib.Core.List.{List}
use mathlib.Core.Bool.{Bool, true, false, cond, ◌||◌}
use native.Mathlib.Omega.{arith}
use lib.Dec.{eqb, ltb}
use lib.ListN.{length, get_or, take, drop}
use lib.Seq.{get_or-drop}
use borrow.Author.Tests.{eq-eqb, ne_eqb, eqb-true, eqb-false, lt-ltb, le-ltb}
use Rattle.syntax.specs.Table.{field}
use Rattle.syntax.specs.Packet.{table_2_2}
use Rattle.syntax.proofs.Bits.{byte}
use Rattle.syntax.proofs.Bytes.{Bytes, bytes_drop}
use Rattle.syntax.proofs.Packet as laws
use Rattle.syntax.proofs.AdaptationField.{adaptation_field_length}
use Rattle.std.specs.Prelude.{Option, None}
use Rattle.std.specs.Prelude.{Result, Ok, Err}
use Rattle.packet.specs.declared.AdaptationField.{AdaptationField}
use Rattle.packet.specs.declared.Truncated.{Truncated}
use Rattle.packet.specs.declared.TsError.{TsError}
use Rattle.packet.specs.AdaptationField.{cut, field_of}
use Rattle.packet.specs.Packet.{has_adaptation_field, has_payload, packet_of, with_field, field_length, parse_of}
use Rattle.packet.proofs.Cases.{bad_sync, bare, overlong, fitting}

either : (x y z : Bool) → (x ≡ true → z ≡ true) → (y ≡ true → z ≡ true) → (x ≡ false → z ≡ true → y ≡ true) → x || y ≡ z
either true y z a b c = sym (a refl)
either false true z a b c = sym (b refl)
either false false true a b c = c refl refl
either false false false a b c = refl

-- the two bits of adaptation_field_control apart
payload_bit : (b : ℕ) → has_payload (b / 16 % 4) ≡ eqb (b / 16 % 2) 1
payload_bit b =
    either (eqb (b / 16 % 4) 1) (eqb (b / 16 % 4) 3) (eqb (b / 16 % 2) 1)
    (λ e. eq-eqb (b / 16 % 2) 1 (omega (arith, eqb-true (b / 16 % 4) 1 e)))
    (λ e. eq-eqb (b / 16 % 2) 1 (omega (arith, eqb-true (b / 16 % 4) 3 e)))
    (λ n e. eq-eqb (b / 16 % 4) 3 (omega (arith, eqb-false (b / 16 % 4) 1 n, eqb-true (b / 16 % 2) 1 e)))

field_bit : (b : ℕ) → has_adaptation_field (b / 16 % 4) ≡ eqb (b / 32 % 2) 1
field_bit b =
    either (eqb (b / 16 % 4) 2) (eqb (b / 16 % 4) 3) (eqb (b / 32 % 2) 1)
    (λ e. eq-eqb (b / 32 % 2) 1 (omega (arith, eqb-true (b / 16 % 4) 2 e)))
    (λ e. eq-eqb (b / 32 % 2) 1 (omega (arith, eqb-true (b / 16 % 4) 3 e)))
    (λ n e. eq-eqb (b / 16 % 4) 3 (omega (arith, eqb-false (b / 16 % 4) 2 n, eqb-true (b / 32 % 2) 1 e)))

module _ (w : List ℕ) (h : Bytes w) where
  pub packet_by : (f : Option AdaptationField) (from : ℕ)
      → packet_of w f from
      ≡ record {
        pid = get_or w 1 0 % 32 * 256 + get_or w 2 0;
        payload_unit_start = eqb (get_or w 1 0 / 64 % 2) 1;
        transport_error = eqb (get_or w 1 0 / 128 % 2) 1;
        transport_priority = eqb (get_or w 1 0 / 32 % 2) 1;
        transport_scrambling_control = get_or w 3 0 / 64;
        continuity_counter = get_or w 3 0 % 16;
        adaptation_field = f;
        payload_start = cond (eqb (get_or w 3 0 / 16 % 2) 1) from 188;
      }
  unfolding packet_of
  packet_by f from =
      λ i.
      record {
        pid = laws.pid w h i;
        payload_unit_start = eqb (laws.payload_unit_start_indicator w h i) 1;
        transport_error = eqb (laws.transport_error_indicator w h i) 1;
        transport_priority = eqb (laws.transport_priority w h i) 1;
        transport_scrambling_control = laws.transport_scrambling_control w h i;
        continuity_counter = laws.continuity_counter w h i;
        adaptation_field = f;
        payload_start = cond ((ap has_payload (laws.adaptation_field_control w h) ∙ payload_bit (get_or w 3 0)) i) from 188;
      }

  field_on_lem : has_adaptation_field (field table_2_2 w "adaptation_field_control") ≡ eqb (get_or w 3 0 / 32 % 2) 1
  field_on_lem = ap has_adaptation_field (laws.adaptation_field_control w h) ∙ field_bit (get_or w 3 0)

  field_length_lem : field_length w ≡ get_or w 4 0 + 1
  field_length_lem =
      ap (λ (n : ℕ). n + 1) (adaptation_field_length (drop 4 w) ∙ byte (drop 4 w) 0 (bytes_drop 4 w h 0) ∙ get_or-drop 4 w 0 0)

  sync_on : eqb (field table_2_2 w "sync_byte") 0x47 ≡ eqb (get_or w 0 0) 0x47
  sync_on = ap (λ (b : ℕ). eqb b 0x47) (laws.sync_byte w h)

  module _ (long : 188 ≤ length w) where
    pub parse_sync : (get_or w 0 0 ≡ 0x47 → ⊥) → parse_of w ≡ Err (TsError.BadSyncByte (get_or w 0 0))
    parse_sync n = bad_sync w long (sync_on ∙ ne_eqb (get_or w 0 0) 0x47 n) ∙ ap (λ (b : ℕ). Err (TsError.BadSyncByte b)) (laws.sync_byte w h)

    module _ (s : get_or w 0 0 ≡ 0x47) where
      synced : eqb (field table_2_2 w "sync_byte") 0x47 ≡ true
      synced = sync_on ∙ eq-eqb (get_or w 0 0) 0x47 s

      pub parse_bare : (get_or w 3 0 / 32 % 2 ≡ 1 → ⊥) → parse_of w ≡ Ok (packet_of w None 4)
      parse_bare n = bare w long synced (field_on_lem ∙ ne_eqb (get_or w 3 0 / 32 % 2) 1 n)

      module _ (on : get_or w 3 0 / 32 % 2 ≡ 1) (n : ℕ) (is : n ≡ get_or w 4 0) where
        there : has_adaptation_field (field table_2_2 w "adaptation_field_control") ≡ true
        there = field_on_lem ∙ eq-eqb (get_or w 3 0 / 32 % 2) 1 on

        total : field_length w ≡ n + 1
        total = field_length_lem ∙ ap (λ (x : ℕ). x + 1) (sym is)

        pub parse_over : 188 < 4 + (n + 1) → parse_of w ≡ Err (TsError.Truncated (cut 184 (n + 1)))
        parse_over g =
            overlong w long synced there (ap (λ (t : ℕ). ltb 188 (4 + t)) total ∙ lt-ltb 188 (4 + (n + 1)) g) ∙ ap (λ (t : ℕ). Err (TsError.Truncated (cut 184 t))) total

        pub parse_field : 4 + (n + 1) ≤ 188 → (x : Result AdaptationField Truncated) → x ≡ field_of (take (4 + (n + 1) - 4) (drop 4 w))
            → parse_of w ≡ with_field w (4 + (n + 1)) x
        parse_field g x e =
            let k : 4 + (n + 1) - 4 ≡ n + 1 = omega arith in
            fitting w long synced there (ap (λ (t : ℕ). ltb 188 (4 + t)) total ∙ le-ltb 188 (4 + (n + 1)) g)
            ∙ rw total (ap (with_field w (4 + (n + 1))) (sym (rw k at e)))
