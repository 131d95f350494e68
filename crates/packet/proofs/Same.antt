-- The parse depends on nothing behind the payload's start: packets of 188 bytes that agree before the first one's payload parse alike.
-- Assumes nothing.
use Prim.Native.Nat.{ℕ, ◌+◌, ◌<◌, ◌≤◌}
use mathlib.Core.Path.{◌≡◌, refl, sym, ◌∙◌, ap}
use mathlib.Core.Bool.{Bool, true, false, cond}
use mathlib.Core.List.{List}
use native.Mathlib.Omega.{arith}
use lib.Dec.{eqb, ltb}
use lib.ListN.{length, get_or, take, drop, length-take, length-drop}
use lib.Seq.{ext_get_or, get_or-take, get_or-drop}
use borrow.Author.Tests.{ltb-false}
use Rattle.syntax.specs.Table.{field}
use Rattle.syntax.specs.Packet.{table_2_2}
use Rattle.syntax.proofs.Bits.{alike}
use Rattle.syntax.proofs.Packet.{places}
use Rattle.syntax.proofs.AdaptationField.{adaptation_field_length}
use Rattle.std.specs.Prelude.{Option, Some, None}
use Rattle.std.specs.Prelude.{Result, Ok, Err}
use Rattle.packet.specs.declared.AdaptationField.{AdaptationField}
use Rattle.packet.specs.declared.Truncated.{Truncated}
use Rattle.packet.specs.declared.TsPacket.{TsPacket}
use Rattle.packet.specs.declared.TsError.{TsError}
use Rattle.packet.specs.AdaptationField.{field_of}
use Rattle.packet.specs.Packet.{has_adaptation_field, has_payload, packet_of, with_field, field_length, parse_of, payload_from}
use Rattle.packet.proofs.Cases.{Way, way, is_truncated, is_bad_sync, is_bare, is_overlong, is_fitting, bad_sync, bare, overlong, fitting}

-- lists of one length that agree below n, from a place on
pub part_same : (w v : List ℕ) (n at k : ℕ) → length w ≡ length v → at + k ≤ length w → at + k ≤ n
    → ((j : ℕ) → j < n → get_or w j 0 ≡ get_or v j 0) → take k (drop at w) ≡ take k (drop at v)
part_same w v n at k len fits low same = ext_get_or 0 (take k (drop at w)) (take k (drop at v)) (simp (length-take, length-drop, len)) each
  where
    each : (i : ℕ) → i < length (take k (drop at w)) → get_or (take k (drop at w)) i 0 ≡ get_or (take k (drop at v)) i 0
    each i h =
        let l : i < k = omega (arith, length-take k (drop at w), length-drop at w) in
        get_or-take k (drop at w) i 0 l ∙ get_or-drop at w i 0 ∙ same (at + i) (omega arith)
        ∙ sym (get_or-drop at v i 0) ∙ sym (get_or-take k (drop at v) i 0 l)

-- the header's fields are those of its four bytes
module _ (w v : List ℕ) (same : (j : ℕ) → j < 4 → get_or w j 0 ≡ get_or v j 0) where
  sync_same : field table_2_2 w "sync_byte" ≡ field table_2_2 v "sync_byte"
  sync_same = (places w).sync_byte ∙ alike w v 0 8 (λ i a b. same i (omega arith)) ∙ sym (places v).sync_byte

  control_same : field table_2_2 w "adaptation_field_control" ≡ field table_2_2 v "adaptation_field_control"
  control_same =
      (places w).adaptation_field_control ∙ alike w v 26 2 (λ i a b. same i (omega arith)) ∙ sym (places v).adaptation_field_control

  packet_same : (f : Option AdaptationField) (from : ℕ) → packet_of w f from ≡ packet_of v f from
  unfolding packet_of
  packet_same f from =
      λ i.
      record {
        pid = ((places w).pid ∙ alike w v 11 13 (λ i a b. same i (omega arith)) ∙ sym (places v).pid) i;
        payload_unit_start =
            eqb
            (((places w).payload_unit_start_indicator ∙ alike w v 9 1 (λ i a b. same i (omega arith)) ∙ sym (places v).payload_unit_start_indicator) i)
            1;
        transport_error =
            eqb (((places w).transport_error_indicator ∙ alike w v 8 1 (λ i a b. same i (omega arith)) ∙ sym (places v).transport_error_indicator) i) 1;
        transport_priority =
            eqb (((places w).transport_priority ∙ alike w v 10 1 (λ i a b. same i (omega arith)) ∙ sym (places v).transport_priority) i) 1;
        transport_scrambling_control =
            ((places w).transport_scrambling_control ∙ alike w v 24 2 (λ i a b. same i (omega arith)) ∙ sym (places v).transport_scrambling_control) i;
        continuity_counter =
            ((places w).continuity_counter ∙ alike w v 28 4 (λ i a b. same i (omega arith)) ∙ sym (places v).continuity_counter) i;
        adaptation_field = f;
        payload_start = cond (has_payload (control_same i)) from 188;
      }

-- the payload begins behind header and adaptation field
pub start_after : (w : List ℕ) (f : Option AdaptationField) (from : ℕ) → from ≤ 188 → from ≤ payload_from (Ok (packet_of w f from))
unfolding payload_from packet_of
start_after w f from h = go (has_payload (field table_2_2 w "adaptation_field_control"))
  where
    go : (t : Bool) → from ≤ cond t from 188
    go true = omega arith
    go false = h

module _ (w v : List ℕ) (wide : length w ≡ 188) (wide' : length v ≡ 188)
    (same : (j : ℕ) → j < payload_from (parse_of w) → get_or w j 0 ≡ get_or v j 0) where
  -- where the first fails, the two are one
  failed : {x : Result TsPacket TsError} → parse_of w ≡ x → payload_from x ≡ 188 → parse_of w ≡ parse_of v
  failed p e = ap parse_of (ext_get_or 0 w v (omega arith) (λ i h. same i (rw (p, e) (omega arith))))

  below : (n : ℕ) → n ≤ payload_from (parse_of w) → (j : ℕ) → j < n → get_or w j 0 ≡ get_or v j 0
  below n h j l = same j (omega arith)

  as_field : eqb (field table_2_2 w "sync_byte") 0x47 ≡ true
      → has_adaptation_field (field table_2_2 w "adaptation_field_control") ≡ true → 4 + field_length w ≤ 188
      → ltb 188 (4 + field_length w) ≡ false → (x : Result AdaptationField Truncated) → field_of (take (field_length w) (drop 4 w)) ≡ x → parse_of w ≡ parse_of v
  unfolding with_field payload_from
  as_field s c fits o (Err t) e =
      failed (fitting w (omega arith) s c o ∙ ap (with_field w (4 + field_length w)) e) refl
  as_field s c fits o (Ok f) e =
      let p : parse_of w ≡ Ok (packet_of w (Some f) (4 + field_length w)) =
      fitting w (omega arith) s c o ∙ ap (with_field w (4 + field_length w)) e in
      let low : 4 + field_length w ≤ payload_from (parse_of w) = rw p (start_after w (Some f) (4 + field_length w) fits) in
      let head = below 4 (omega arith) in
      let e4 : field_length w ≡ field_length v =
      ap (λ (n : ℕ). n + 1)
      (adaptation_field_length (drop 4 w)
      ∙ alike (drop 4 w) (drop 4 v) 0 8 (λ i a b. get_or-drop 4 w i 0 ∙ same (4 + i) (omega arith) ∙ sym (get_or-drop 4 v i 0))
      ∙ sym (adaptation_field_length (drop 4 v))) in
      let part : take (field_length w) (drop 4 w) ≡ take (field_length v) (drop 4 v) =
      part_same w v (payload_from (parse_of w)) 4 (field_length w) (omega arith) (omega arith) low same
      ∙ ap (λ (n : ℕ). take n (drop 4 v)) e4 in
      p ∙ packet_path head e4
      ∙ sym
      (fitting v (omega arith) (ap (λ (b : ℕ). eqb b 0x47) (sym (sync_same w v head)) ∙ s)
      (ap has_adaptation_field (sym (control_same w v head)) ∙ c) (ap (λ (n : ℕ). ltb 188 (4 + n)) (sym e4) ∙ o)
      ∙ ap (with_field v (4 + field_length v)) (ap field_of (sym part) ∙ e))
    where
      packet_path : ((j : ℕ) → j < 4 → get_or w j 0 ≡ get_or v j 0) → field_length w ≡ field_length v
          → ◌≡◌ {A = Result TsPacket TsError} (Ok (packet_of w (Some f) (4 + field_length w))) (Ok (packet_of v (Some f) (4 + field_length v)))
      packet_path head e4 =
          ap Ok
          (packet_same w v head (Some f) (4 + field_length w)
          ∙ ap (λ (n : ℕ). packet_of v (Some f) (4 + n)) e4)

  pub parse_same : parse_of w ≡ parse_of v
  unfolding payload_from
  parse_same = go (way w)
    where
      go : Way w → parse_of w ≡ parse_of v
      go (is_truncated l) = absurd (omega arith)
      go (is_bad_sync l s) = failed (bad_sync w l s) refl
      go (is_overlong l s c o) = failed (overlong w l s c o) refl
      go (is_fitting l s c o) = as_field s c (ltb-false 188 (4 + field_length w) o) o _ refl
      go (is_bare l s c) =
          let p = bare w l s c in
          let low : 4 ≤ payload_from (parse_of w) = rw p (start_after w None 4 (omega arith)) in
          let head = below 4 low in
          p ∙ ap Ok (packet_same w v head None 4)
          ∙ sym
          (bare v (omega arith) (ap (λ (b : ℕ). eqb b 0x47) (sym (sync_same w v head)) ∙ s)
          (ap has_adaptation_field (sym (control_same w v head)) ∙ c))
