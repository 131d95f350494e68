-- Table 2-6: the adaptation field (H.222.0, 2.4.3.4), its length byte first. Stuffing behind it is not read.
-- Later editions name the first of the extension's five reserved bits af_descriptor_not_present_flag; no place here depends on it.
use Rattle.std.specs.Prelude.{ℕ, List, [], ◌∷◌, Bool}
use Prim.Native.String.{String}
use Rattle.syntax.specs.Table.{Fields, Row, row, row_of_bytes, always, flag, above0, both, field}
use Rattle.syntax.specs.TimeStamp.{stamp33}

-- the flags stand in a field of length above 0
abbrev pub has_flags : Fields → Bool
has_flags = above0 "adaptation_field_length"

abbrev pub extended : String → Fields → Bool
extended n = both (flag "adaptation_field_extension_flag") (flag n)

unfoldable pub table_2_6 : List Row
table_2_6 =
    row "adaptation_field_length" always 8
    ∷ row "discontinuity_indicator" has_flags 1
    ∷ row "random_access_indicator" has_flags 1
    ∷ row "elementary_stream_priority_indicator" has_flags 1
    ∷ row "PCR_flag" has_flags 1
    ∷ row "OPCR_flag" has_flags 1
    ∷ row "splicing_point_flag" has_flags 1
    ∷ row "transport_private_data_flag" has_flags 1
    ∷ row "adaptation_field_extension_flag" has_flags 1
    ∷ row "program_clock_reference_base" (flag "PCR_flag") 33
    ∷ row "reserved" (flag "PCR_flag") 6
    ∷ row "program_clock_reference_extension" (flag "PCR_flag") 9
    ∷ row "original_program_clock_reference_base" (flag "OPCR_flag") 33
    ∷ row "reserved" (flag "OPCR_flag") 6
    ∷ row "original_program_clock_reference_extension" (flag "OPCR_flag") 9
    ∷ row "splice_countdown" (flag "splicing_point_flag") 8
    ∷ row "transport_private_data_length" (flag "transport_private_data_flag") 8
    ∷ row_of_bytes "private_data_byte" (flag "transport_private_data_flag") "transport_private_data_length"
    ∷ row "adaptation_field_extension_length" (flag "adaptation_field_extension_flag") 8
    ∷ row "ltw_flag" (flag "adaptation_field_extension_flag") 1
    ∷ row "piecewise_rate_flag" (flag "adaptation_field_extension_flag") 1
    ∷ row "seamless_splice_flag" (flag "adaptation_field_extension_flag") 1
    ∷ row "reserved" (flag "adaptation_field_extension_flag") 5
    ∷ row "ltw_valid_flag" (extended "ltw_flag") 1
    ∷ row "ltw_offset" (extended "ltw_flag") 15
    ∷ row "reserved" (extended "piecewise_rate_flag") 2
    ∷ row "piecewise_rate" (extended "piecewise_rate_flag") 22
    ∷ row "splice_type" (extended "seamless_splice_flag") 4
    ∷ row "DTS_next_AU[32..30]" (extended "seamless_splice_flag") 3
    ∷ row "marker_bit" (extended "seamless_splice_flag") 1
    ∷ row "DTS_next_AU[29..15]" (extended "seamless_splice_flag") 15
    ∷ row "marker_bit" (extended "seamless_splice_flag") 1
    ∷ row "DTS_next_AU[14..0]" (extended "seamless_splice_flag") 15
    ∷ row "marker_bit" (extended "seamless_splice_flag") 1
    ∷ []

unfoldable pub dts_next_au : List ℕ → ℕ
dts_next_au s = stamp33 (field table_2_6 s) "DTS_next_AU[32..30]" "DTS_next_AU[29..15]" "DTS_next_AU[14..0]"
