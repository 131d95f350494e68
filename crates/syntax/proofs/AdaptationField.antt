-- Table 2-6: where each part of the adaptation field begins, and its fields by that place. Assumes nothing.
use Prim.Native.Nat.{ℕ, ◌+◌, ◌-◌, ◌*◌, ◌/◌, ◌%◌, ◌^◌, ◌<◌}
use Prim.Native.String.{String}
use mathlib.Core.Path.{◌≡◌, refl, sym, ap, ap₂, ◌∙◌}
use mathlib.Core.Bool.{Bool, true, false, cond, ◌&&◌, false≢true}
use mathlib.Core.List.{List, [], ◌∷◌}
use native.Mathlib.Nat.{add-zero, add_assoc}
use native.Mathlib.Omega.{arith}
use lib.Dec.{eqb, ltb}
use lib.ListN.{take, drop, get_or}
use borrow.Author.Tests.{lt-ltb}
use Rattle.syntax.specs.Bits.{bits}
use Rattle.syntax.specs.Table.{Fields, flag, field, fields_from, offset, offset_from}
use Rattle.syntax.specs.AdaptationField.{has_flags, extended, table_2_6}
use Rattle.syntax.proofs.Bits.{byte, within}
use Rattle.syntax.proofs.Table.{end_from, absent, place, before, field_from, field_before, none_before, place_from, offset_from_lem}

-- The bit behind rows of one condition, and their width.
abbrev behind : Bool → ℕ → List ℕ → ℕ
behind c o [] = o
behind c o (w ∷ ws) = behind c (o + cond c w 0) ws

abbrev sum : List ℕ → ℕ
sum [] = 0
sum (w ∷ ws) = w + sum ws

behind_is : (c : Bool) (o : ℕ) (ws : List ℕ) → behind c o ws ≡ cond c (o + sum ws) o
behind_is true o [] = sym (add-zero o)
behind_is false o [] = refl
behind_is true o (w ∷ ws) = behind_is true (o + w) ws ∙ add_assoc o w (sum ws)
behind_is false o (w ∷ ws) = behind_is false (o + 0) ws ∙ add-zero o

-- the bit behind rows that are there
abbrev ahead : ℕ → List ℕ → ℕ
ahead o [] = o
ahead o (w ∷ ws) = o + sum (w ∷ ws)

inside : (s : List ℕ) (c : Bool) (o : ℕ) (ws : List ℕ) (w z : ℕ)
    → cond c (bits s (behind c o ws) w) z ≡ cond c (bits s (ahead o ws) w) z
inside s c o [] w z = refl
inside s true o (v ∷ ws) w z = ap (λ (p : ℕ). bits s p w) (behind_is true o (v ∷ ws))
inside s false o (v ∷ ws) w z = refl

second : (c : Bool) (o z : ℕ) → c ≡ true → cond c (o + cond c 8 0) z ≡ o + 8
second true o z h = refl
second false o z h = absurd (false≢true h)

-- a step of n bytes under a condition
pub byte_step : (c : Bool) (o k n : ℕ) → o ≡ 8 * k → cond c (o + 8 * n) o ≡ 8 * cond c (k + n) k
byte_step true o k n h = omega arith
byte_step false o k n h = h

module _ (s : List ℕ) where
  abbrev value : Fields
  value = field table_2_6 s

  -- where the parts begin
  abbrev pub pcr_at : ℕ
  pcr_at = place table_2_6 s 9

  abbrev pub opcr_at : ℕ
  opcr_at = place table_2_6 s 12

  abbrev pub splice_at : ℕ
  splice_at = place table_2_6 s 15

  abbrev pub private_at : ℕ
  private_at = place table_2_6 s 16

  abbrev pub extension_at : ℕ
  extension_at = place table_2_6 s 18

  abbrev pub ltw_at : ℕ
  ltw_at = place table_2_6 s 23

  abbrev pub rate_at : ℕ
  rate_at = place table_2_6 s 25

  abbrev pub seamless_at : ℕ
  seamless_at = place table_2_6 s 27

  -- a flag that no row from k on has is set before row k as it is in the whole
  flag_before : (k : ℕ) (n : String) → absent n (drop k table_2_6) ≡ true → flag n (before table_2_6 s k) ≡ flag n value
  flag_before k n a = ap (λ (v : ℕ). eqb v 1) (field_before table_2_6 s k n a)

  extended_before : (k : ℕ) (n : String) → absent "adaptation_field_extension_flag" (drop k table_2_6) ≡ true
      → absent n (drop k table_2_6) ≡ true → extended n (before table_2_6 s k) ≡ extended n value
  extended_before k n a b = ap₂ ◌&&◌ (flag_before k "adaptation_field_extension_flag" a) (flag_before k n b)

  -- a run of rows of one condition begins at row k: a field in it, and where the next run begins
  in_run : (k : ℕ) (n : String) (c : Fields → Bool) (ws : List ℕ) (w : ℕ)
      → ((o : ℕ) (f : Fields) → fields_from (drop k table_2_6) s o f n ≡ cond (c f) (bits s (behind (c f) o ws) w) (f n))
      → c (before table_2_6 s k) ≡ c value
      → absent n (take k table_2_6) ≡ true
      → value n ≡ cond (c value) (bits s (ahead (place table_2_6 s k) ws) w) 0
  in_run k n c ws w h e a =
      let f = before table_2_6 s k in
      field_from table_2_6 s k n
      ∙ h (place table_2_6 s k) f
      ∙ inside s (c f) (place table_2_6 s k) ws w (f n)
      ∙ ap₂ (λ (b : Bool) (z : ℕ). cond b (bits s (ahead (place table_2_6 s k) ws) w) z) e (none_before table_2_6 s k n a)

  past_run : (k m : ℕ) (c : Fields → Bool) (ws : List ℕ)
      → ((o : ℕ) (f : Fields) → end_from (take m (drop k table_2_6)) s o f ≡ behind (c f) o ws)
      → c (before table_2_6 s k) ≡ c value
      → place table_2_6 s (k + m) ≡ cond (c value) (place table_2_6 s k + sum ws) (place table_2_6 s k)
  past_run k m c ws h e =
      place_from table_2_6 s k m
      ∙ h (place table_2_6 s k) (before table_2_6 s k)
      ∙ behind_is (c (before table_2_6 s k)) (place table_2_6 s k) ws
      ∙ ap (λ (b : Bool). cond b (place table_2_6 s k + sum ws) (place table_2_6 s k)) e

  -- the length, and the flags behind it
  pub adaptation_field_length : value "adaptation_field_length" ≡ bits s 0 8
  unfolding field fields_from table_2_6
  adaptation_field_length = refl

  flags_before : has_flags (before table_2_6 s 1) ≡ has_flags value
  unfolding table_2_6
  flags_before = ap (λ (v : ℕ). ltb 0 v) (field_before table_2_6 s 1 "adaptation_field_length" refl)

  flags_at : place table_2_6 s 1 ≡ 8
  unfolding place table_2_6
  flags_at = refl

  in_flags : (n : String) (ws : List ℕ)
      → ((o : ℕ) (f : Fields) → fields_from (drop 1 table_2_6) s o f n ≡ cond (has_flags f) (bits s (behind (has_flags f) o ws) 1) (f n))
      → absent n (take 1 table_2_6) ≡ true → value n ≡ cond (has_flags value) (bits s (ahead 8 ws) 1) 0
  in_flags n ws h a =
      in_run 1 n has_flags ws 1 h flags_before a ∙ ap (λ (o : ℕ). cond (has_flags value) (bits s (ahead o ws) 1) 0) flags_at

  pub discontinuity_indicator : value "discontinuity_indicator" ≡ cond (has_flags value) (bits s 8 1) 0
  unfolding fields_from table_2_6
  discontinuity_indicator = in_flags "discontinuity_indicator" [] (λ o f. refl) refl

  pub random_access_indicator : value "random_access_indicator" ≡ cond (has_flags value) (bits s 9 1) 0
  unfolding fields_from table_2_6
  random_access_indicator = in_flags "random_access_indicator" (1 ∷ []) (λ o f. refl) refl

  pub elementary_stream_priority_indicator : value "elementary_stream_priority_indicator"
      ≡ cond (has_flags value) (bits s 10 1) 0
  unfolding fields_from table_2_6
  elementary_stream_priority_indicator = in_flags "elementary_stream_priority_indicator" (1 ∷ 1 ∷ []) (λ o f. refl) refl

  pub pcr_flag : value "PCR_flag" ≡ cond (has_flags value) (bits s 11 1) 0
  unfolding fields_from table_2_6
  pcr_flag = in_flags "PCR_flag" (1 ∷ 1 ∷ 1 ∷ []) (λ o f. refl) refl

  pub opcr_flag : value "OPCR_flag" ≡ cond (has_flags value) (bits s 12 1) 0
  unfolding fields_from table_2_6
  opcr_flag = in_flags "OPCR_flag" (1 ∷ 1 ∷ 1 ∷ 1 ∷ []) (λ o f. refl) refl

  pub splicing_point_flag : value "splicing_point_flag" ≡ cond (has_flags value) (bits s 13 1) 0
  unfolding fields_from table_2_6
  splicing_point_flag = in_flags "splicing_point_flag" (1 ∷ 1 ∷ 1 ∷ 1 ∷ 1 ∷ []) (λ o f. refl) refl

  pub transport_private_data_flag : value "transport_private_data_flag" ≡ cond (has_flags value) (bits s 14 1) 0
  unfolding fields_from table_2_6
  transport_private_data_flag = in_flags "transport_private_data_flag" (1 ∷ 1 ∷ 1 ∷ 1 ∷ 1 ∷ 1 ∷ []) (λ o f. refl) refl

  pub adaptation_field_extension_flag : value "adaptation_field_extension_flag" ≡ cond (has_flags value) (bits s 15 1) 0
  unfolding fields_from table_2_6
  adaptation_field_extension_flag = in_flags "adaptation_field_extension_flag" (1 ∷ 1 ∷ 1 ∷ 1 ∷ 1 ∷ 1 ∷ 1 ∷ []) (λ o f. refl) refl

  -- at a length above 0, the flags by byte 1
  pub has_flags_lem : get_or s 0 0 < 256 → 0 < get_or s 0 0 → has_flags value ≡ true
  has_flags_lem b h = rw (adaptation_field_length, byte s 0 b) (lt-ltb 0 (get_or s 0 0) h)

  pub flag_byte : (a : ℕ) {v : ℕ} → v ≡ cond (has_flags value) (bits s (8 + a) 1) 0 → has_flags value ≡ true → a < 8
      → v ≡ get_or s 1 0 / 2 ^ (7 - a) % 2
  flag_byte a e h l =
      let p : 8 - a - 1 ≡ 7 - a = omega arith in
      e ∙ rw (h, within s 1 a 1 (omega arith), p)

  pub pcr_place : pcr_at ≡ cond (has_flags value) 16 8
  unfolding table_2_6
  pcr_place =
      past_run 1 8 has_flags (1 ∷ 1 ∷ 1 ∷ 1 ∷ 1 ∷ 1 ∷ 1 ∷ 1 ∷ []) (λ o f. refl) flags_before
      ∙ ap (λ (o : ℕ). cond (has_flags value) (o + 8) o) flags_at

  -- PCR
  pcr_before : flag "PCR_flag" (before table_2_6 s 9) ≡ flag "PCR_flag" value
  unfolding table_2_6
  pcr_before = flag_before 9 "PCR_flag" refl

  pub program_clock_reference_base : value "program_clock_reference_base"
      ≡ cond (flag "PCR_flag" value) (bits s pcr_at 33) 0
  unfolding fields_from table_2_6
  program_clock_reference_base =
      in_run 9 "program_clock_reference_base" (flag "PCR_flag") [] 33 (λ o f. refl) pcr_before refl

  pub program_clock_reference_extension : value "program_clock_reference_extension"
      ≡ cond (flag "PCR_flag" value) (bits s (pcr_at + 39) 9) 0
  unfolding fields_from table_2_6
  program_clock_reference_extension =
      in_run 9 "program_clock_reference_extension" (flag "PCR_flag") (33 ∷ 6 ∷ []) 9 (λ o f. refl) pcr_before refl

  pub opcr_place : opcr_at ≡ cond (flag "PCR_flag" value) (pcr_at + 48) pcr_at
  unfolding table_2_6
  opcr_place = past_run 9 3 (flag "PCR_flag") (33 ∷ 6 ∷ 9 ∷ []) (λ o f. refl) pcr_before

  -- OPCR
  opcr_before : flag "OPCR_flag" (before table_2_6 s 12) ≡ flag "OPCR_flag" value
  unfolding table_2_6
  opcr_before = flag_before 12 "OPCR_flag" refl

  pub original_program_clock_reference_base : value "original_program_clock_reference_base"
      ≡ cond (flag "OPCR_flag" value) (bits s opcr_at 33) 0
  unfolding fields_from table_2_6
  original_program_clock_reference_base =
      in_run 12 "original_program_clock_reference_base" (flag "OPCR_flag") [] 33 (λ o f. refl) opcr_before refl

  pub original_program_clock_reference_extension : value "original_program_clock_reference_extension"
      ≡ cond (flag "OPCR_flag" value) (bits s (opcr_at + 39) 9) 0
  unfolding fields_from table_2_6
  original_program_clock_reference_extension =
      in_run 12 "original_program_clock_reference_extension" (flag "OPCR_flag") (33 ∷ 6 ∷ []) 9 (λ o f. refl) opcr_before refl

  pub splice_place : splice_at ≡ cond (flag "OPCR_flag" value) (opcr_at + 48) opcr_at
  unfolding table_2_6
  splice_place = past_run 12 3 (flag "OPCR_flag") (33 ∷ 6 ∷ 9 ∷ []) (λ o f. refl) opcr_before

  -- splice_countdown
  splice_before : flag "splicing_point_flag" (before table_2_6 s 15) ≡ flag "splicing_point_flag" value
  unfolding table_2_6
  splice_before = flag_before 15 "splicing_point_flag" refl

  pub splice_countdown : value "splice_countdown" ≡ cond (flag "splicing_point_flag" value) (bits s splice_at 8) 0
  unfolding fields_from table_2_6
  splice_countdown =
      in_run 15 "splice_countdown" (flag "splicing_point_flag") [] 8 (λ o f. refl) splice_before refl

  pub private_place : private_at ≡ cond (flag "splicing_point_flag" value) (splice_at + 8) splice_at
  unfolding table_2_6
  private_place = past_run 15 1 (flag "splicing_point_flag") (8 ∷ []) (λ o f. refl) splice_before

  -- transport_private_data
  private_before : flag "transport_private_data_flag" (before table_2_6 s 16) ≡ flag "transport_private_data_flag" value
  unfolding table_2_6
  private_before = flag_before 16 "transport_private_data_flag" refl

  pub transport_private_data_length : value "transport_private_data_length"
      ≡ cond (flag "transport_private_data_flag" value) (bits s private_at 8) 0
  unfolding fields_from table_2_6
  transport_private_data_length =
      in_run 16 "transport_private_data_length" (flag "transport_private_data_flag") [] 8 (λ o f. refl) private_before refl

  pub extension_place : extension_at
      ≡ cond (flag "transport_private_data_flag" value) (private_at + 8 * (1 + value "transport_private_data_length")) private_at
  unfolding fields_from table_2_6
  extension_place =
      let f = before table_2_6 s 16 in
      let c = flag "transport_private_data_flag" f in
      let e : 8 + (8 * value "transport_private_data_length" + 0) ≡ 8 * (1 + value "transport_private_data_length") = omega arith in
      place_from table_2_6 s 16 2
      ∙ behind_is c private_at (8 ∷ 8 * cond c (bits s private_at 8) (f "transport_private_data_length") ∷ [])
      ∙ ap₂ (λ (b : Bool) (v : ℕ). cond b (private_at + (8 + (8 * v + 0))) private_at) private_before
      (sym (field_from table_2_6 s 16 "transport_private_data_length"))
      ∙ ap (λ (w : ℕ). cond (flag "transport_private_data_flag" value) (private_at + w) private_at) e

  pub private_data_place : flag "transport_private_data_flag" value ≡ true → offset table_2_6 s "private_data_byte" ≡ private_at + 8
  unfolding offset_from table_2_6
  private_data_place h = offset_from_lem table_2_6 s 16 "private_data_byte" refl ∙ second _ _ _ (private_before ∙ h)

  -- adaptation_field_extension
  extension_before : flag "adaptation_field_extension_flag" (before table_2_6 s 18) ≡ flag "adaptation_field_extension_flag" value
  unfolding table_2_6
  extension_before = flag_before 18 "adaptation_field_extension_flag" refl

  pub adaptation_field_extension_length : value "adaptation_field_extension_length"
      ≡ cond (flag "adaptation_field_extension_flag" value) (bits s extension_at 8) 0
  unfolding fields_from table_2_6
  adaptation_field_extension_length =
      in_run 18 "adaptation_field_extension_length" (flag "adaptation_field_extension_flag") [] 8 (λ o f. refl) extension_before refl

  pub ltw_flag : value "ltw_flag" ≡ cond (flag "adaptation_field_extension_flag" value) (bits s (extension_at + 8) 1) 0
  unfolding fields_from table_2_6
  ltw_flag =
      in_run 18 "ltw_flag" (flag "adaptation_field_extension_flag") (8 ∷ []) 1 (λ o f. refl) extension_before refl

  pub piecewise_rate_flag : value "piecewise_rate_flag"
      ≡ cond (flag "adaptation_field_extension_flag" value) (bits s (extension_at + 9) 1) 0
  unfolding fields_from table_2_6
  piecewise_rate_flag =
      in_run 18 "piecewise_rate_flag" (flag "adaptation_field_extension_flag") (8 ∷ 1 ∷ []) 1 (λ o f. refl) extension_before refl

  pub seamless_splice_flag : value "seamless_splice_flag"
      ≡ cond (flag "adaptation_field_extension_flag" value) (bits s (extension_at + 10) 1) 0
  unfolding fields_from table_2_6
  seamless_splice_flag =
      in_run 18 "seamless_splice_flag" (flag "adaptation_field_extension_flag") (8 ∷ 1 ∷ 1 ∷ []) 1 (λ o f. refl) extension_before refl

  pub ltw_place : ltw_at ≡ cond (flag "adaptation_field_extension_flag" value) (extension_at + 16) extension_at
  unfolding table_2_6
  ltw_place = past_run 18 5 (flag "adaptation_field_extension_flag") (8 ∷ 1 ∷ 1 ∷ 1 ∷ 5 ∷ []) (λ o f. refl) extension_before

  -- ltw
  ltw_before : extended "ltw_flag" (before table_2_6 s 23) ≡ extended "ltw_flag" value
  unfolding table_2_6
  ltw_before = extended_before 23 "ltw_flag" refl refl

  pub ltw_valid_flag : value "ltw_valid_flag" ≡ cond (extended "ltw_flag" value) (bits s ltw_at 1) 0
  unfolding fields_from table_2_6
  ltw_valid_flag =
      in_run 23 "ltw_valid_flag" (extended "ltw_flag") [] 1 (λ o f. refl) ltw_before refl

  pub ltw_offset : value "ltw_offset" ≡ cond (extended "ltw_flag" value) (bits s (ltw_at + 1) 15) 0
  unfolding fields_from table_2_6
  ltw_offset =
      in_run 23 "ltw_offset" (extended "ltw_flag") (1 ∷ []) 15 (λ o f. refl) ltw_before refl

  pub rate_place : rate_at ≡ cond (extended "ltw_flag" value) (ltw_at + 16) ltw_at
  unfolding table_2_6
  rate_place = past_run 23 2 (extended "ltw_flag") (1 ∷ 15 ∷ []) (λ o f. refl) ltw_before

  -- piecewise_rate
  rate_before : extended "piecewise_rate_flag" (before table_2_6 s 25) ≡ extended "piecewise_rate_flag" value
  unfolding table_2_6
  rate_before = extended_before 25 "piecewise_rate_flag" refl refl

  pub piecewise_rate : value "piecewise_rate" ≡ cond (extended "piecewise_rate_flag" value) (bits s (rate_at + 2) 22) 0
  unfolding fields_from table_2_6
  piecewise_rate =
      in_run 25 "piecewise_rate" (extended "piecewise_rate_flag") (2 ∷ []) 22 (λ o f. refl) rate_before refl

  pub seamless_place : seamless_at ≡ cond (extended "piecewise_rate_flag" value) (rate_at + 24) rate_at
  unfolding table_2_6
  seamless_place = past_run 25 2 (extended "piecewise_rate_flag") (2 ∷ 22 ∷ []) (λ o f. refl) rate_before

  -- seamless splice
  seamless_before : extended "seamless_splice_flag" (before table_2_6 s 27) ≡ extended "seamless_splice_flag" value
  unfolding table_2_6
  seamless_before = extended_before 27 "seamless_splice_flag" refl refl

  pub splice_type : value "splice_type" ≡ cond (extended "seamless_splice_flag" value) (bits s seamless_at 4) 0
  unfolding fields_from table_2_6
  splice_type =
      in_run 27 "splice_type" (extended "seamless_splice_flag") [] 4 (λ o f. refl) seamless_before refl

  pub dts_next_au_high : value "DTS_next_AU[32..30]"
      ≡ cond (extended "seamless_splice_flag" value) (bits s (seamless_at + 4) 3) 0
  unfolding fields_from table_2_6
  dts_next_au_high =
      in_run 27 "DTS_next_AU[32..30]" (extended "seamless_splice_flag") (4 ∷ []) 3 (λ o f. refl) seamless_before refl

  pub dts_next_au_middle : value "DTS_next_AU[29..15]"
      ≡ cond (extended "seamless_splice_flag" value) (bits s (seamless_at + 8) 15) 0
  unfolding fields_from table_2_6
  dts_next_au_middle =
      in_run 27 "DTS_next_AU[29..15]" (extended "seamless_splice_flag") (4 ∷ 3 ∷ 1 ∷ []) 15 (λ o f. refl) seamless_before refl

  pub dts_next_au_low : value "DTS_next_AU[14..0]"
      ≡ cond (extended "seamless_splice_flag" value) (bits s (seamless_at + 24) 15) 0
  unfolding fields_from table_2_6
  dts_next_au_low =
      in_run 27 "DTS_next_AU[14..0]" (extended "seamless_splice_flag") (4 ∷ 3 ∷ 1 ∷ 15 ∷ 1 ∷ []) 15 (λ o f. refl) seamless_before refl
