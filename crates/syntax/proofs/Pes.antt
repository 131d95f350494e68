-- Table 2-21: the places of the fields before the stamps, and the stamps by PTS_DTS_flags. Assumes nothing.
use Prim.Native.Nat.{ℕ, ◌+◌, ◌*◌, ◌/◌, ◌^◌, ◌<◌}
use mathlib.Core.Path.{◌≡◌, refl, sym, ap, ◌∙◌}
use mathlib.Core.List.{List}
use native.Mathlib.Omega.{arith}
use lib.ListN.{get_or, take, drop}
use Rattle.syntax.specs.Bits.{bits}
use Rattle.syntax.specs.Table.{Fields, field, fields_from, no_fields}
use Rattle.syntax.specs.TimeStamp.{stamp33, timestamp}
use Rattle.syntax.specs.Pes.{table_2_21, pts, dts}
use Rattle.syntax.proofs.Bits.{byte}
use Rattle.syntax.proofs.Bytes.{head}
use Rattle.syntax.proofs.Table.{end_from}
use Rattle.syntax.proofs.TimeStamp.{timestamp_drop}

-- each field before the stamps is the bits at its place
pub record Places (s : List ℕ) : Type 0 where
  pub packet_start_code_prefix : field table_2_21 s "packet_start_code_prefix" ≡ bits s 0 24
  pub stream_id : field table_2_21 s "stream_id" ≡ bits s 24 8
  pub pes_packet_length : field table_2_21 s "PES_packet_length" ≡ bits s 32 16
  pub pes_scrambling_control : field table_2_21 s "PES_scrambling_control" ≡ bits s 50 2
  pub pes_priority : field table_2_21 s "PES_priority" ≡ bits s 52 1
  pub data_alignment_indicator : field table_2_21 s "data_alignment_indicator" ≡ bits s 53 1
  pub copyright : field table_2_21 s "copyright" ≡ bits s 54 1
  pub original_or_copy : field table_2_21 s "original_or_copy" ≡ bits s 55 1
  pub pts_dts_flags : field table_2_21 s "PTS_DTS_flags" ≡ bits s 56 2
  pub escr_flag : field table_2_21 s "ESCR_flag" ≡ bits s 58 1
  pub es_rate_flag : field table_2_21 s "ES_rate_flag" ≡ bits s 59 1
  pub dsm_trick_mode_flag : field table_2_21 s "DSM_trick_mode_flag" ≡ bits s 60 1
  pub additional_copy_info_flag : field table_2_21 s "additional_copy_info_flag" ≡ bits s 61 1
  pub pes_crc_flag : field table_2_21 s "PES_CRC_flag" ≡ bits s 62 1
  pub pes_extension_flag : field table_2_21 s "PES_extension_flag" ≡ bits s 63 1
  pub pes_header_data_length : field table_2_21 s "PES_header_data_length" ≡ bits s 64 8

pub places : (s : List ℕ) → Places s
unfolding field fields_from table_2_21
places s =
    record {
      packet_start_code_prefix = refl;
      stream_id = refl;
      pes_packet_length = refl;
      pes_scrambling_control = refl;
      pes_priority = refl;
      data_alignment_indicator = refl;
      copyright = refl;
      original_or_copy = refl;
      pts_dts_flags = refl;
      escr_flag = refl;
      es_rate_flag = refl;
      dsm_trick_mode_flag = refl;
      additional_copy_info_flag = refl;
      pes_crc_flag = refl;
      pes_extension_flag = refl;
      pes_header_data_length = refl;
    }

-- the fields that the scanner reads, by their bytes
pub stream_id : (s : List ℕ) → get_or s 3 0 < 256 → field table_2_21 s "stream_id" ≡ get_or s 3 0
stream_id s h = (places s).stream_id ∙ byte s 3 h

pub pts_dts_flags : (s : List ℕ) → get_or s 7 0 < 256 → field table_2_21 s "PTS_DTS_flags" ≡ get_or s 7 0 / 64
pts_dts_flags s h = (places s).pts_dts_flags ∙ head s 7 2 h (omega arith)

pub pes_header_data_length : (s : List ℕ) → get_or s 8 0 < 256 → field table_2_21 s "PES_header_data_length" ≡ get_or s 8 0
pes_header_data_length s h = (places s).pes_header_data_length ∙ byte s 8 h

-- Behind the first 17 rows, at bit 72, stand the seven rows of a PTS alone, those of a PTS before a DTS, and those of that DTS.
-- The stamp of seven rows that begin at bit o:
abbrev stamp_from : List ℕ → ℕ → ℕ
stamp_from s o = bits s (o + 4) 3 * 2 ^ 30 + bits s (o + 4 + 3 + 1) 15 * 2 ^ 15 + bits s (o + 4 + 3 + 1 + 15 + 1) 15

module _ (s : List ℕ) (o : ℕ) (f : Fields) where
  abbrev from : ℕ → Fields
  from n = fields_from (drop n table_2_21) s o f

  abbrev end : ℕ → ℕ
  end n = end_from (take 7 (drop n table_2_21)) s o f

  pts_alone : f "PTS_DTS_flags" ≡ 2 → stamp33 (from 17) "PTS[32..30]" "PTS[29..15]" "PTS[14..0]" ≡ stamp_from s o
  unfolding stamp33 fields_from table_2_21
  pts_alone h = rw h

  no_pts_alone : f "PTS_DTS_flags" ≡ 3 → end 17 ≡ o + 0 + 0 + 0 + 0 + 0 + 0 + 0
  unfolding table_2_21
  no_pts_alone h = rw h

  pts_before : f "PTS_DTS_flags" ≡ 3 → stamp33 (from 24) "PTS[32..30]" "PTS[29..15]" "PTS[14..0]" ≡ stamp_from s o
  unfolding stamp33 fields_from table_2_21
  pts_before h = rw h

  pts_before_end : f "PTS_DTS_flags" ≡ 3 → end 24 ≡ o + 4 + 3 + 1 + 15 + 1 + 15 + 1
  unfolding table_2_21
  pts_before_end h = rw h

  dts_behind : f "PTS_DTS_flags" ≡ 3 → stamp33 (from 31) "DTS[32..30]" "DTS[29..15]" "DTS[14..0]" ≡ stamp_from s o
  unfolding stamp33 fields_from table_2_21
  dts_behind h = rw h

-- at flags '10' the PTS is the stamp at byte 9; at '11' too, and the DTS is the one at byte 14
pub pts_10 : (s : List ℕ) → field table_2_21 s "PTS_DTS_flags" ≡ 2 → pts s ≡ timestamp (drop 9 s)
unfolding pts stamp33 field fields_from table_2_21
pts_10 s h = pts_alone s 72 (fields_from (take 17 table_2_21) s 0 no_fields) h ∙ sym (timestamp_drop s 9)

module _ (s : List ℕ) (h : field table_2_21 s "PTS_DTS_flags" ≡ 3) where
  abbrev f₁ : Fields
  f₁ = fields_from (take 17 table_2_21) s 0 no_fields

  abbrev f₂ : Fields
  f₂ = fields_from (take 7 (drop 17 table_2_21)) s 72 f₁

  abbrev f₃ : Fields
  f₃ = fields_from (take 7 (drop 24 table_2_21)) s (end s 72 f₁ 17) f₂

  pub pts_11 : pts s ≡ timestamp (drop 9 s)
  unfolding pts stamp33 field fields_from table_2_21
  pts_11 = pts_before s (end s 72 f₁ 17) f₂ h ∙ ap (stamp_from s) (no_pts_alone s 72 f₁ h) ∙ sym (timestamp_drop s 9)

  pub dts_11 : dts s ≡ timestamp (drop 14 s)
  unfolding dts stamp33 field fields_from table_2_21
  dts_11 =
      dts_behind s (end s (end s 72 f₁ 17) f₂ 24) f₃ h
      ∙ ap (stamp_from s) (pts_before_end s (end s 72 f₁ 17) f₂ h)
      ∙ ap (λ (n : ℕ). stamp_from s (n + 4 + 3 + 1 + 15 + 1 + 15 + 1)) (no_pts_alone s 72 f₁ h)
      ∙ sym (timestamp_drop s 14)
