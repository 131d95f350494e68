-- The marks of the worked recordings, by computation.
-- Assumes nothing.
use mathlib.Core.Path.{◌≡◌, refl}
use mathlib.Core.Bool.{true}
use Rattle.syntax.specs.Bits.{bit, bits}
use Rattle.syntax.specs.Table.{field, fields_from, offset, offset_from}
use Rattle.syntax.specs.Packet.{table_2_2}
use Rattle.syntax.specs.AdaptationField.{table_2_6}
use Rattle.syntax.specs.Pes.{table_2_21}
use Rattle.pes.specs.StreamId.{has_optional_header}
use Rattle.packet.specs.AdaptationField.{field_of, field_in, field_room, wants, room_of, data_room, extension_room, extension_fields_room, adaptation_field_of}
use Rattle.packet.specs.Packet.{packet_of, with_field, parse_of, payload_of}
use Rattle.packet.specs.Layout.{on_grid, layout_of, window_of}
use Rattle.scanner.specs.Unit.{content_begin_by, content_begin}
use Rattle.recording.specs.Read.{is_stream}
use Rattle.recording.specs.Content.{content_in, content, content_by}
use Rattle.recording.specs.Examples.{examples, all_hold}

pub all_hold_lem : all_hold examples ≡ true
unfolding content_in content content_by is_stream content_begin_by content_begin on_grid layout_of window_of packet_of with_field parse_of payload_of has_optional_header field fields_from offset offset_from table_2_2 table_2_6 table_2_21 bit bits field_of field_in field_room wants room_of data_room extension_room extension_fields_room adaptation_field_of
all_hold_lem = refl
