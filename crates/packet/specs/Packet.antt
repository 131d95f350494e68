-- A transport packet (H.222.0, 2.4.3.2 and 2.4.3.3): its header's values are the fields of table 2-2. How a parse fails goes by
-- `TsPacket::parse` of the Rust.
use Rattle.std.specs.Prelude.{ℕ, ◌+◌, ◌-◌, List, Bool, cond, ◌||◌, length, take, drop, ltb, eqb, Option, Some, None, Result, Ok, Err}
use Rattle.syntax.specs.Table.{field, flag}
use Rattle.syntax.specs.Packet.{table_2_2}
use Rattle.syntax.specs.AdaptationField.{table_2_6}
use Rattle.packet.specs.AdaptationField.{cut, field_of}
use Rattle.packet.specs.declared.AdaptationField.{AdaptationField}
use Rattle.packet.specs.declared.TsPacket.{TsPacket}
use Rattle.packet.specs.declared.Truncated.{Truncated}
use Rattle.packet.specs.declared.TsError.{TsError}

-- adaptation_field_control (table 2-5): '10' and '11' have an adaptation field, '01' and '11' a payload; the reserved '00' is read as neither
abbrev pub has_adaptation_field : ℕ → Bool
has_adaptation_field control = eqb control 2 || eqb control 3

abbrev pub has_payload : ℕ → Bool
has_payload control = eqb control 1 || eqb control 3

-- the packet in which the bytes behind header and adaptation field begin at from
unfoldable pub packet_of : List ℕ → Option AdaptationField → ℕ → TsPacket
packet_of w f from =
    record {
      pid = field table_2_2 w "PID";
      payload_unit_start = flag "payload_unit_start_indicator" (field table_2_2 w);
      transport_error = flag "transport_error_indicator" (field table_2_2 w);
      transport_priority = flag "transport_priority" (field table_2_2 w);
      transport_scrambling_control = field table_2_2 w "transport_scrambling_control";
      continuity_counter = field table_2_2 w "continuity_counter";
      adaptation_field = f;
      payload_start = cond (has_payload (field table_2_2 w "adaptation_field_control")) from 188;
    }

unfoldable pub with_field : List ℕ → ℕ → Result AdaptationField Truncated → Result TsPacket TsError
with_field w from (Ok f) = Ok (packet_of w (Some f) from)
with_field w from (Err t) = Err (TsError.Truncated t)

-- the bytes of the adaptation field, behind the four of the header: its length byte and as many as that says
abbrev pub field_length : List ℕ → ℕ
field_length w = field table_2_6 (drop 4 w) "adaptation_field_length" + 1

unfoldable pub parse_of : List ℕ → Result TsPacket TsError
parse_of w =
    cond (ltb (length w) 188) (Err (TsError.Truncated (cut (length w) 188)))
    (cond (eqb (field table_2_2 w "sync_byte") 0x47)
    (cond (has_adaptation_field (field table_2_2 w "adaptation_field_control"))
    (cond (ltb 188 (4 + field_length w)) (Err (TsError.Truncated (cut (188 - 4) (field_length w))))
    (with_field w (4 + field_length w) (field_of (take (field_length w) (drop 4 w)))))
    (Ok (packet_of w None 4)))
    (Err (TsError.BadSyncByte (field table_2_2 w "sync_byte"))))

-- where the payload begins in a packet's 188 bytes; behind them in one that does not parse
unfoldable pub payload_from : Result TsPacket TsError → ℕ
payload_from (Ok h) = h.payload_start
payload_from (Err e) = 188

-- the payload: the bytes from its start to the packet's end
unfoldable pub payload_of : List ℕ → ℕ → List ℕ
payload_of w start = take (188 - start) (drop start w)

-- the private data: so many bytes from a byte of the adaptation field on
unfoldable pub private_data_of : List ℕ → ℕ → ℕ → List ℕ
private_data_of w start len = take len (drop (4 + start) w)
