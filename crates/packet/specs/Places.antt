-- What the private functions over an adaptation field ask of the places that they are given. No public contract cites it.
use Rattle.std.specs.Prelude.{ℕ, ◌+◌, ◌*◌, ◌^◌, ◌≤◌, ◌<◌, ◌≡◌, List, true, eqb, get_or}
use Prim.Native.String.{String}
use Rattle.syntax.specs.Bits.{bits}
use Rattle.syntax.specs.Table.{offset}
use Rattle.syntax.specs.AdaptationField.{table_2_6}
use Rattle.packet.specs.AdaptationField.{is_set}
use Rattle.packet.specs.declared.Places.{Places}
use Rattle.packet.specs.declared.ClockReference.{ClockReference}
use Rattle.packet.specs.declared.PrivateData.{PrivateData}
use Rattle.packet.specs.declared.Ltw.{Ltw}
use Rattle.packet.specs.declared.SeamlessSplice.{SeamlessSplice}

-- f is the byte of flags of a field that has one; raw holds bytes, which a slice in a struct does not say by its type
pub record Flagged (raw : List ℕ) (f : ℕ) : Type 0 where
  pub bytes : (i : ℕ) → get_or raw i 0 < 256
  pub some : 0 < get_or raw 0 0
  pub flags : f ≡ get_or raw 1 0

-- a field begins at a byte if its flag is set
abbrev pub At : List ℕ → String → String → ℕ → Type 0
At raw flag n at = is_set raw flag ≡ true → offset table_2_6 raw n ≡ 8 * at

pub record Placed (raw : List ℕ) (p : Places) : Type 0 where
  pub opcr : At raw "OPCR_flag" "original_program_clock_reference_base" p.opcr
  pub splice : At raw "splicing_point_flag" "splice_countdown" p.splice_countdown
  pub private : At raw "transport_private_data_flag" "transport_private_data_length" p.private_length
  pub extension : At raw "adaptation_field_extension_flag" "adaptation_field_extension_length" p.extension
  pub opcr_near : p.opcr ≤ 8
  pub splice_near : p.splice_countdown ≤ 14
  pub private_near : p.private_length ≤ 15
  pub extension_near : p.extension ≤ 271

-- an extension begins at a byte
pub record Extended (raw : List ℕ) (at : ℕ) : Type 0 where
  pub some : 0 < get_or raw 0 0
  pub set : is_set raw "adaptation_field_extension_flag" ≡ true
  pub place : offset table_2_6 raw "adaptation_field_extension_length" ≡ 8 * at
  pub near : at ≤ 271

-- what stands at a byte, as each part
module _ (raw : List ℕ) (at : ℕ) where
  abbrev pub clock_at : ClockReference
  clock_at = record { base = bits raw (8 * at) 33; extension = bits raw (8 * at + 39) 9 }

  abbrev pub private_data_at : PrivateData
  private_data_at = record { start = at + 1; len = bits raw (8 * at) 8 }

  abbrev pub ltw_at : Ltw
  ltw_at = record { valid = eqb (bits raw (8 * at) 1) 1; offset = bits raw (8 * at + 1) 15 }

  abbrev pub splice_at : SeamlessSplice
  splice_at =
      record {
        splice_type = bits raw (8 * at) 4;
        dts_next_au = bits raw (8 * at + 4) 3 * 2 ^ 30 + bits raw (8 * at + 8) 15 * 2 ^ 15 + bits raw (8 * at + 24) 15;
      }
