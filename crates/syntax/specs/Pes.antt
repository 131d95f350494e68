-- Table 2-21: the start of a PES packet (H.222.0, 2.4.3.6), up to the DTS, for a stream_id that has the optional header.
-- A time stamp is 33 bits in three parts, each before a marker bit.
use Rattle.std.specs.Prelude.{ℕ, List, [], ◌∷◌, Bool}
use Rattle.syntax.specs.Table.{Fields, Row, row, always, equals, field}
use Rattle.syntax.specs.TimeStamp.{stamp33}

-- PTS_DTS_flags '10': a PTS; '11': a PTS and a DTS
abbrev pts_only : Fields → Bool
pts_only = equals "PTS_DTS_flags" 2

abbrev pts_and_dts : Fields → Bool
pts_and_dts = equals "PTS_DTS_flags" 3

unfoldable pub table_2_21 : List Row
table_2_21 =
    row "packet_start_code_prefix" always 24
    ∷ row "stream_id" always 8
    ∷ row "PES_packet_length" always 16
    ∷ row "'10'" always 2
    ∷ row "PES_scrambling_control" always 2
    ∷ row "PES_priority" always 1
    ∷ row "data_alignment_indicator" always 1
    ∷ row "copyright" always 1
    ∷ row "original_or_copy" always 1
    ∷ row "PTS_DTS_flags" always 2
    ∷ row "ESCR_flag" always 1
    ∷ row "ES_rate_flag" always 1
    ∷ row "DSM_trick_mode_flag" always 1
    ∷ row "additional_copy_info_flag" always 1
    ∷ row "PES_CRC_flag" always 1
    ∷ row "PES_extension_flag" always 1
    ∷ row "PES_header_data_length" always 8
    ∷ row "'0010'" pts_only 4
    ∷ row "PTS[32..30]" pts_only 3
    ∷ row "marker_bit" pts_only 1
    ∷ row "PTS[29..15]" pts_only 15
    ∷ row "marker_bit" pts_only 1
    ∷ row "PTS[14..0]" pts_only 15
    ∷ row "marker_bit" pts_only 1
    ∷ row "'0011'" pts_and_dts 4
    ∷ row "PTS[32..30]" pts_and_dts 3
    ∷ row "marker_bit" pts_and_dts 1
    ∷ row "PTS[29..15]" pts_and_dts 15
    ∷ row "marker_bit" pts_and_dts 1
    ∷ row "PTS[14..0]" pts_and_dts 15
    ∷ row "marker_bit" pts_and_dts 1
    ∷ row "'0001'" pts_and_dts 4
    ∷ row "DTS[32..30]" pts_and_dts 3
    ∷ row "marker_bit" pts_and_dts 1
    ∷ row "DTS[29..15]" pts_and_dts 15
    ∷ row "marker_bit" pts_and_dts 1
    ∷ row "DTS[14..0]" pts_and_dts 15
    ∷ row "marker_bit" pts_and_dts 1
    ∷ []

unfoldable pub pts : List ℕ → ℕ
pts s = stamp33 (field table_2_21 s) "PTS[32..30]" "PTS[29..15]" "PTS[14..0]"

unfoldable pub dts : List ℕ → ℕ
dts s = stamp33 (field table_2_21 s) "DTS[32..30]" "DTS[29..15]" "DTS[14..0]"
