-- What a replay asks of every packet, by its parse: that it failed, or the PID, payload_unit_start and the payload's start.
use Rattle.std.specs.Prelude.{Option, Some, None, Result, Ok, Err}
use Rattle.packet.specs.declared.TsPacket.{TsPacket}
use Rattle.packet.specs.declared.TsError.{TsError}
use Rattle.header.specs.declared.PacketHeader.{PacketHeader}

unfoldable pub header_of : Result TsPacket TsError → Option PacketHeader
header_of (Ok h) = Some (record { pid = h.pid; payload_unit_start = h.payload_unit_start; payload_start = h.payload_start })
header_of (Err e) = None
