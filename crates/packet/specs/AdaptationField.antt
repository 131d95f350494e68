-- The adaptation field (H.222.0, 2.4.3.4 and 2.4.3.5): its values are the fields of table 2-6. Which bytes must be there, and in
-- which order that is tested, goes by `parse_adaptation_field` and `parse_extension` of the Rust.
use Rattle.std.specs.Prelude.{ℕ, ◌+◌, ◌-◌, ◌*◌, ◌/◌, List, Bool, cond, ◌&&◌, length, ℤ, pos, negsuc, ltb, Some, None, Result, Ok, Err, ⊤}
use Prim.Native.String.{String}
use Rattle.syntax.specs.Table.{field, offset, flag}
use Rattle.syntax.specs.AdaptationField.{table_2_6, dts_next_au}
use Rattle.packet.specs.declared.ClockReference.{ClockReference}
use Rattle.packet.specs.declared.AdaptationFieldExtension.{AdaptationFieldExtension}
use Rattle.packet.specs.declared.AdaptationField.{AdaptationField}
use Rattle.packet.specs.declared.Truncated.{Truncated}

-- tcimsbf: a number of eight bits in two's complement
unfoldable pub tcimsbf8 : ℕ → ℤ
tcimsbf8 n = cond (ltb n 128) (pos n) (negsuc (255 - n))

-- ticks of 27 MHz: base × 300 + extension
unfoldable pub pcr_ticks : ClockReference → ℕ
pcr_ticks c = c.base * 300 + c.extension

abbrev pub cut : ℕ → ℕ → Truncated
cut have need = record { have = have; need = need }

-- a field that is there from a byte on wants n bytes before the limit: else the answer is what it has and needs
unfoldable pub wants : ℕ → Bool → ℕ → ℕ → Result ⊤ Truncated → Result ⊤ Truncated
wants limit on at n rest = cond (on && ltb limit (at + n)) (Err (cut (limit - at) n)) rest

-- the bytes of an adaptation field, its length byte first
module _ (raw : List ℕ) where
  abbrev pub read : String → ℕ
  read n = field table_2_6 raw n

  abbrev pub is_set : String → Bool
  is_set n = flag n (field table_2_6 raw)

  -- the byte in which a field begins
  abbrev pub place : String → ℕ
  place n = offset table_2_6 raw n / 8

  -- a flag of the extension; in one of length 0 there is none
  abbrev pub extended : String → Bool
  extended n = is_set "adaptation_field_extension_flag" && (ltb 0 (read "adaptation_field_extension_length") && is_set n)

  abbrev pub extension_end : ℕ
  extension_end = place "ltw_flag" + read "adaptation_field_extension_length"

  unfoldable pub extension_fields_room : Result ⊤ Truncated
  extension_fields_room =
      wants extension_end (extended "ltw_flag") (place "ltw_valid_flag") 2
      (wants extension_end (extended "piecewise_rate_flag") (place "piecewise_rate") 3
      (wants extension_end (extended "seamless_splice_flag") (place "splice_type") 5 (Ok tt)))

  unfoldable pub extension_room : Result ⊤ Truncated
  extension_room =
      wants (length raw) (is_set "adaptation_field_extension_flag") (place "adaptation_field_extension_length") 1
      (wants (length raw) (is_set "adaptation_field_extension_flag") (place "ltw_flag") (read "adaptation_field_extension_length")
      extension_fields_room)

  unfoldable pub data_room : Result ⊤ Truncated
  data_room =
      wants (length raw) (is_set "transport_private_data_flag") (place "transport_private_data_length") 1
      (wants (length raw) (is_set "transport_private_data_flag") (place "private_data_byte") (read "transport_private_data_length")
      extension_room)

  unfoldable pub room_of : Result ⊤ Truncated
  room_of =
      wants (length raw) (is_set "PCR_flag") (place "program_clock_reference_base") 6
      (wants (length raw) (is_set "OPCR_flag") (place "original_program_clock_reference_base") 6
      (wants (length raw) (is_set "splicing_point_flag") (place "splice_countdown") 1 data_room))

  abbrev pub pcr_of : ClockReference
  pcr_of = record { base = read "program_clock_reference_base"; extension = read "program_clock_reference_extension" }

  abbrev pub opcr_of : ClockReference
  opcr_of = record { base = read "original_program_clock_reference_base"; extension = read "original_program_clock_reference_extension" }

  unfoldable pub extension_of : AdaptationFieldExtension
  extension_of =
      record {
        length = read "adaptation_field_extension_length";
        ltw = cond (extended "ltw_flag") (Some (record { valid = is_set "ltw_valid_flag"; offset = read "ltw_offset" })) None;
        piecewise_rate =
            cond (extended "piecewise_rate_flag") (Some (read "piecewise_rate")) None;
        seamless_splice =
            cond (extended "seamless_splice_flag") (Some (record { splice_type = read "splice_type"; dts_next_au = dts_next_au raw })) None;
      }

  unfoldable pub adaptation_field_of : AdaptationField
  adaptation_field_of =
      record {
        length = read "adaptation_field_length";
        discontinuity_indicator = is_set "discontinuity_indicator";
        random_access_indicator = is_set "random_access_indicator";
        elementary_stream_priority_indicator = is_set "elementary_stream_priority_indicator";
        pcr = cond (is_set "PCR_flag") (Some pcr_of) None;
        opcr = cond (is_set "OPCR_flag") (Some opcr_of) None;
        splice_countdown =
            cond (is_set "splicing_point_flag") (Some (tcimsbf8 (read "splice_countdown"))) None;
        transport_private_data =
            cond (is_set "transport_private_data_flag")
            (Some (record { start = place "private_data_byte"; len = read "transport_private_data_length" }))
            None;
        adaptation_field_extension =
            cond (is_set "adaptation_field_extension_flag") (Some extension_of) None;
      }

  unfoldable pub field_in : Result ⊤ Truncated → Result AdaptationField Truncated
  field_in (Ok x) = Ok adaptation_field_of
  field_in (Err t) = Err t

  -- a field of length 0 has no flags, so that no part is there; any other wants its byte of flags
  unfoldable pub field_room : Result ⊤ Truncated
  field_room = wants (length raw) (ltb 0 (read "adaptation_field_length")) 0 2 room_of

  unfoldable pub field_of : Result AdaptationField Truncated
  field_of = field_in field_room
