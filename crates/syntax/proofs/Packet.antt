-- Table 2-2: the place of each field, and its value by the header's four bytes. Assumes nothing.
use Prim.Native.Nat.{ℕ, ◌+◌, ◌*◌, ◌/◌, ◌%◌}
use mathlib.Core.Path.{◌≡◌, refl, ◌∙◌}
use mathlib.Core.List.{List}
use native.Mathlib.Omega.{arith}
use native.Mathlib.Nat.{div-one}
use lib.ListN.{get_or}
use Rattle.syntax.specs.Bits.{bits}
use Rattle.syntax.specs.Table.{field, fields_from}
use Rattle.syntax.specs.Packet.{table_2_2}
use Rattle.syntax.proofs.Bits.{byte, within}
use Rattle.syntax.proofs.Bytes.{Bytes, number13, head}

-- each field is the bits at its place
pub record Places (s : List ℕ) : Type 0 where
  pub sync_byte : field table_2_2 s "sync_byte" ≡ bits s 0 8
  pub transport_error_indicator : field table_2_2 s "transport_error_indicator" ≡ bits s 8 1
  pub payload_unit_start_indicator : field table_2_2 s "payload_unit_start_indicator" ≡ bits s 9 1
  pub transport_priority : field table_2_2 s "transport_priority" ≡ bits s 10 1
  pub pid : field table_2_2 s "PID" ≡ bits s 11 13
  pub transport_scrambling_control : field table_2_2 s "transport_scrambling_control" ≡ bits s 24 2
  pub adaptation_field_control : field table_2_2 s "adaptation_field_control" ≡ bits s 26 2
  pub continuity_counter : field table_2_2 s "continuity_counter" ≡ bits s 28 4

pub places : (s : List ℕ) → Places s
unfolding field fields_from table_2_2
places s =
    record {
      sync_byte = refl;
      transport_error_indicator = refl;
      payload_unit_start_indicator = refl;
      transport_priority = refl;
      pid = refl;
      transport_scrambling_control = refl;
      adaptation_field_control = refl;
      continuity_counter = refl;
    }

-- each field by the header's bytes
module _ (s : List ℕ) (h : Bytes s) where
  pub sync_byte : field table_2_2 s "sync_byte" ≡ get_or s 0 0
  sync_byte = (places s).sync_byte ∙ byte s 0 (h 0)

  pub transport_error_indicator : field table_2_2 s "transport_error_indicator" ≡ get_or s 1 0 / 128 % 2
  transport_error_indicator = (places s).transport_error_indicator ∙ within s 1 0 1 (omega arith)

  pub payload_unit_start_indicator : field table_2_2 s "payload_unit_start_indicator" ≡ get_or s 1 0 / 64 % 2
  payload_unit_start_indicator = (places s).payload_unit_start_indicator ∙ within s 1 1 1 (omega arith)

  pub transport_priority : field table_2_2 s "transport_priority" ≡ get_or s 1 0 / 32 % 2
  transport_priority = (places s).transport_priority ∙ within s 1 2 1 (omega arith)

  pub pid : field table_2_2 s "PID" ≡ get_or s 1 0 % 32 * 256 + get_or s 2 0
  pid = (places s).pid ∙ number13 s 1 h

  pub transport_scrambling_control : field table_2_2 s "transport_scrambling_control" ≡ get_or s 3 0 / 64
  transport_scrambling_control = (places s).transport_scrambling_control ∙ head s 3 2 (h 3) (omega arith)

  pub adaptation_field_control : field table_2_2 s "adaptation_field_control" ≡ get_or s 3 0 / 16 % 4
  adaptation_field_control = (places s).adaptation_field_control ∙ within s 3 2 2 (omega arith)

  pub continuity_counter : field table_2_2 s "continuity_counter" ≡ get_or s 3 0 % 16
  continuity_counter = (places s).continuity_counter ∙ within s 3 4 4 (omega arith) ∙ rw (div-one (get_or s 3 0))
