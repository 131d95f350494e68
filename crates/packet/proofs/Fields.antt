-- Where the code finds the fields of table 2-6: each optional field at its own place or behind the one before it.
-- Assumes nothing.
use Prim.Native.Nat.{ℕ, ◌+◌, ◌*◌}
use Prim.Native.String.{String}
use mathlib.Core.Path.{◌≡◌, refl, sym, ap, ap₂, ◌∙◌}
use mathlib.Core.List.{List}
use mathlib.Core.Bool.{Bool, true, false, cond, ◌&&◌, false≢true}
use native.Mathlib.Omega.{arith}
use lib.Dec.{eqb}
use lib.ListN.{get_or, drop}
use Rattle.syntax.specs.Bits.{bits}
use Rattle.syntax.specs.Table.{flag, field, offset, offset_from}
use Rattle.syntax.specs.AdaptationField.{has_flags, table_2_6}
use Rattle.syntax.proofs.Bits.{byte}
use Rattle.syntax.proofs.Bytes.{Bytes}
use Rattle.syntax.proofs.Table.{absent, before, field_before, offset_from_lem}
use Rattle.syntax.proofs.AdaptationField as laws
use Rattle.packet.specs.AdaptationField.{read, is_set}

-- the first and the second row of a group whose condition holds
first : (c : Bool) (o z : ℕ) → c ≡ true → cond c o z ≡ o
first true o z h = refl
first false o z h = absurd (false≢true h)

second : (c : Bool) (o w z : ℕ) → c ≡ true → cond c (o + cond c w 0) z ≡ o + w
second true o w z h = refl
second false o w z h = absurd (false≢true h)

-- a field of n bytes or none, behind what ends at byte a
scaled : (t : Bool) (x w a n : ℕ) → x ≡ 8 * a → w ≡ 8 * n → cond t (x + w) x ≡ 8 * cond t (a + n) a
scaled true x w a n e h = omega arith
scaled false x w a n e h = e

module _ (s : List ℕ) where
  abbrev at : String → ℕ
  at n = offset table_2_6 s n

  -- a flag that stands before row k is set there as in the whole
  set_before : (k : ℕ) (n : String) → absent n (drop k table_2_6) ≡ true → is_set s n ≡ true → flag n (before table_2_6 s k) ≡ true
  set_before k n a on = ap (λ (v : ℕ). eqb v 1) (field_before table_2_6 s k n a) ∙ on

  -- in a field of length 0 no flag is set
  module _ (short : has_flags (field table_2_6 s) ≡ false) where
    unset : (a v : ℕ) → v ≡ cond (has_flags (field table_2_6 s)) (bits s a 1) 0 → eqb v 1 ≡ false
    unset a v e = rw (e, short)

    pub no_discontinuity : is_set s "discontinuity_indicator" ≡ false
    no_discontinuity = unset 8 (read s "discontinuity_indicator") (laws.discontinuity_indicator s)

    pub no_random_access : is_set s "random_access_indicator" ≡ false
    no_random_access = unset 9 (read s "random_access_indicator") (laws.random_access_indicator s)

    pub no_priority : is_set s "elementary_stream_priority_indicator" ≡ false
    no_priority = unset 10 (read s "elementary_stream_priority_indicator") (laws.elementary_stream_priority_indicator s)

    pub no_pcr : is_set s "PCR_flag" ≡ false
    no_pcr = unset 11 (read s "PCR_flag") (laws.pcr_flag s)

    pub no_opcr : is_set s "OPCR_flag" ≡ false
    no_opcr = unset 12 (read s "OPCR_flag") (laws.opcr_flag s)

    pub no_splicing : is_set s "splicing_point_flag" ≡ false
    no_splicing = unset 13 (read s "splicing_point_flag") (laws.splicing_point_flag s)

    pub no_private : is_set s "transport_private_data_flag" ≡ false
    no_private = unset 14 (read s "transport_private_data_flag") (laws.transport_private_data_flag s)

    pub no_extension : is_set s "adaptation_field_extension_flag" ≡ false
    no_extension = unset 15 (read s "adaptation_field_extension_flag") (laws.adaptation_field_extension_flag s)

  -- a field whose flag is set, by its offset
  module _ (on : is_set s "PCR_flag" ≡ true) where
    pcr_offset : at "program_clock_reference_base" ≡ laws.pcr_at s
    unfolding offset_from table_2_6
    pcr_offset = offset_from_lem table_2_6 s 9 "program_clock_reference_base" refl ∙ first _ _ _ (set_before 9 "PCR_flag" refl on)

  module _ (on : is_set s "OPCR_flag" ≡ true) where
    pub opcr_offset : at "original_program_clock_reference_base" ≡ laws.opcr_at s
    unfolding offset_from table_2_6
    opcr_offset = offset_from_lem table_2_6 s 12 "original_program_clock_reference_base" refl ∙ first _ _ _ (set_before 12 "OPCR_flag" refl on)

  module _ (on : is_set s "splicing_point_flag" ≡ true) where
    countdown_offset : at "splice_countdown" ≡ laws.splice_at s
    unfolding offset_from table_2_6
    countdown_offset = offset_from_lem table_2_6 s 15 "splice_countdown" refl ∙ first _ _ _ (set_before 15 "splicing_point_flag" refl on)

    pub countdown_read : read s "splice_countdown" ≡ bits s (at "splice_countdown") 8
    countdown_read = laws.splice_countdown s ∙ rw (on, countdown_offset)

  module _ (on : is_set s "transport_private_data_flag" ≡ true) where
    private_offset : at "transport_private_data_length" ≡ laws.private_at s
    unfolding offset_from table_2_6
    private_offset = offset_from_lem table_2_6 s 16 "transport_private_data_length" refl ∙ first _ _ _ (set_before 16 "transport_private_data_flag" refl on)

    pub private_length : read s "transport_private_data_length" ≡ bits s (at "transport_private_data_length") 8
    private_length = laws.transport_private_data_length s ∙ rw (on, private_offset)

    -- the private data follow their length
    pub private_bytes : at "private_data_byte" ≡ at "transport_private_data_length" + 8
    private_bytes = laws.private_data_place s on ∙ rw private_offset

  -- the extension that begins at byte d
  module _ (on : is_set s "adaptation_field_extension_flag" ≡ true) (d : ℕ) (begins : at "adaptation_field_extension_length" ≡ 8 * d) where
    extension_offset : laws.extension_at s ≡ 8 * d
    unfolding offset_from table_2_6
    extension_offset =
        sym (offset_from_lem table_2_6 s 18 "adaptation_field_extension_length" refl ∙ first _ _ _ (set_before 18 "adaptation_field_extension_flag" refl on)) ∙ begins

    pub extension_length : read s "adaptation_field_extension_length" ≡ bits s (8 * d) 8
    extension_length = laws.adaptation_field_extension_length s ∙ rw (on, extension_offset)

    pub ltw_flag_offset : at "ltw_flag" ≡ 8 * d + 8
    unfolding offset_from table_2_6
    ltw_flag_offset =
        offset_from_lem table_2_6 s 18 "ltw_flag" refl ∙ second _ _ _ _ (set_before 18 "adaptation_field_extension_flag" refl on)
        ∙ ap (λ (o : ℕ). o + 8) extension_offset

    pub ltw_flag : read s "ltw_flag" ≡ bits s (8 * d + 8) 1
    ltw_flag = laws.ltw_flag s ∙ rw (on, extension_offset)

    pub rate_flag : read s "piecewise_rate_flag" ≡ bits s (8 * d + 9) 1
    rate_flag = laws.piecewise_rate_flag s ∙ rw (on, extension_offset)

    pub splice_flag : read s "seamless_splice_flag" ≡ bits s (8 * d + 10) 1
    splice_flag = laws.seamless_splice_flag s ∙ rw (on, extension_offset)

    -- ltw, piecewise rate and seamless splice follow its byte of flags
    abbrev pub at_rate : ℕ
    at_rate = cond (is_set s "ltw_flag") (d + 2 + 2) (d + 2)

    abbrev pub at_splice : ℕ
    at_splice = cond (is_set s "piecewise_rate_flag") (at_rate + 3) at_rate

    ltw_place : laws.ltw_at s ≡ 8 * (d + 2)
    ltw_place = laws.ltw_place s ∙ rw (on, extension_offset) (omega arith)

    rate_place : laws.rate_at s ≡ 8 * at_rate
    rate_place = laws.rate_place s ∙ rw on (scaled (is_set s "ltw_flag") (laws.ltw_at s) 16 (d + 2) 2 ltw_place refl)

    splice_place : laws.seamless_at s ≡ 8 * at_splice
    splice_place = laws.seamless_place s ∙ rw on (scaled (is_set s "piecewise_rate_flag") (laws.rate_at s) 24 at_rate 3 rate_place refl)

    module _ (f : is_set s "ltw_flag" ≡ true) where
      pub ltw_offset : at "ltw_valid_flag" ≡ 8 * (d + 2)
      unfolding offset_from table_2_6
      ltw_offset =
          offset_from_lem table_2_6 s 23 "ltw_valid_flag" refl
          ∙ first _ _ _ (ap₂ ◌&&◌ (set_before 23 "adaptation_field_extension_flag" refl on) (set_before 23 "ltw_flag" refl f)) ∙ ltw_place

      pub ltw_valid : read s "ltw_valid_flag" ≡ bits s (8 * (d + 2)) 1
      ltw_valid = laws.ltw_valid_flag s ∙ rw (on, f, ltw_place)

      pub ltw_read : read s "ltw_offset" ≡ bits s (8 * (d + 2) + 1) 15
      ltw_read = laws.ltw_offset s ∙ rw (on, f, ltw_place)

    module _ (f : is_set s "piecewise_rate_flag" ≡ true) where
      pub rate_offset : at "piecewise_rate" ≡ 8 * at_rate + 2
      unfolding offset_from table_2_6
      rate_offset =
          offset_from_lem table_2_6 s 25 "piecewise_rate" refl
          ∙ second _ _ _ _ (ap₂ ◌&&◌ (set_before 25 "adaptation_field_extension_flag" refl on) (set_before 25 "piecewise_rate_flag" refl f))
          ∙ ap (λ (o : ℕ). o + 2) rate_place

      pub rate_read : read s "piecewise_rate" ≡ bits s (8 * at_rate + 2) 22
      rate_read = laws.piecewise_rate s ∙ rw (on, f, rate_place)

    module _ (f : is_set s "seamless_splice_flag" ≡ true) where
      pub splice_offset : at "splice_type" ≡ 8 * at_splice
      unfolding offset_from table_2_6
      splice_offset =
          offset_from_lem table_2_6 s 27 "splice_type" refl
          ∙ first _ _ _ (ap₂ ◌&&◌ (set_before 27 "adaptation_field_extension_flag" refl on) (set_before 27 "seamless_splice_flag" refl f))
          ∙ splice_place

      pub splice_type : read s "splice_type" ≡ bits s (8 * at_splice) 4
      splice_type = laws.splice_type s ∙ rw (on, f, splice_place)

      pub dts_high : read s "DTS_next_AU[32..30]" ≡ bits s (8 * at_splice + 4) 3
      dts_high = laws.dts_next_au_high s ∙ rw (on, f, splice_place)

      pub dts_middle : read s "DTS_next_AU[29..15]" ≡ bits s (8 * at_splice + 8) 15
      dts_middle = laws.dts_next_au_middle s ∙ rw (on, f, splice_place)

      pub dts_low : read s "DTS_next_AU[14..0]" ≡ bits s (8 * at_splice + 24) 15
      dts_low = laws.dts_next_au_low s ∙ rw (on, f, splice_place)

  -- where the optional fields begin: each behind the one before it
  module _ (long : has_flags (field table_2_6 s) ≡ true) (h : Bytes s) where
    abbrev pub at_opcr : ℕ
    at_opcr = cond (is_set s "PCR_flag") (2 + 6) 2

    abbrev pub at_countdown : ℕ
    at_countdown = cond (is_set s "OPCR_flag") (at_opcr + 6) at_opcr

    abbrev pub at_private : ℕ
    at_private = cond (is_set s "splicing_point_flag") (at_countdown + 1) at_countdown

    abbrev pub at_extension : ℕ
    at_extension = cond (is_set s "transport_private_data_flag") (at_private + (1 + get_or s at_private 0)) at_private

    pub pcr_place : laws.pcr_at s ≡ 8 * 2
    pcr_place = laws.pcr_place s ∙ rw long

    opcr_place : laws.opcr_at s ≡ 8 * at_opcr
    opcr_place = laws.opcr_place s ∙ scaled (is_set s "PCR_flag") (laws.pcr_at s) 48 2 6 pcr_place refl

    countdown_place : laws.splice_at s ≡ 8 * at_countdown
    countdown_place = laws.splice_place s ∙ scaled (is_set s "OPCR_flag") (laws.opcr_at s) 48 at_opcr 6 opcr_place refl

    private_place : laws.private_at s ≡ 8 * at_private
    private_place = laws.private_place s ∙ scaled (is_set s "splicing_point_flag") (laws.splice_at s) 8 at_countdown 1 countdown_place refl

    private_count : is_set s "transport_private_data_flag" ≡ true → read s "transport_private_data_length" ≡ get_or s at_private 0
    private_count on = laws.transport_private_data_length s ∙ rw (on, private_place) (byte s at_private (h at_private))

    extension_place : laws.extension_at s ≡ 8 * at_extension
    extension_place = laws.extension_place s ∙ go (is_set s "transport_private_data_flag") refl
      where
        go : (t : Bool) → is_set s "transport_private_data_flag" ≡ t
            → cond t (laws.private_at s + 8 * (1 + read s "transport_private_data_length")) (laws.private_at s)
            ≡ 8 * cond t (at_private + (1 + get_or s at_private 0)) at_private
        go true e =
            rw (private_count e)
            (scaled true (laws.private_at s) (8 * (1 + get_or s at_private 0)) at_private (1 + get_or s at_private 0) private_place refl)
        go false e = private_place

    pub at_pcr : is_set s "PCR_flag" ≡ true → at "program_clock_reference_base" ≡ 8 * 2
    at_pcr on = pcr_offset on ∙ pcr_place

    pub at_opcr_lem : is_set s "OPCR_flag" ≡ true → at "original_program_clock_reference_base" ≡ 8 * at_opcr
    at_opcr_lem on = opcr_offset on ∙ opcr_place

    pub at_countdown_lem : is_set s "splicing_point_flag" ≡ true → at "splice_countdown" ≡ 8 * at_countdown
    at_countdown_lem on = countdown_offset on ∙ countdown_place

    pub at_private_lem : is_set s "transport_private_data_flag" ≡ true → at "transport_private_data_length" ≡ 8 * at_private
    at_private_lem on = private_offset on ∙ private_place

    pub at_extension_lem : is_set s "adaptation_field_extension_flag" ≡ true → at "adaptation_field_extension_length" ≡ 8 * at_extension
    unfolding offset_from table_2_6
    at_extension_lem on =
        offset_from_lem table_2_6 s 18 "adaptation_field_extension_length" refl
        ∙ first _ _ _ (set_before 18 "adaptation_field_extension_flag" refl on) ∙ extension_place
