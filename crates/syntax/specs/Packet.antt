-- Table 2-2: the header of a transport packet (H.222.0, 2.4.3.2).
use Rattle.std.specs.Prelude.{List, [], ◌∷◌}
use Rattle.syntax.specs.Table.{Row, row, always}

unfoldable pub table_2_2 : List Row
table_2_2 =
    row "sync_byte" always 8
    ∷ row "transport_error_indicator" always 1
    ∷ row "payload_unit_start_indicator" always 1
    ∷ row "transport_priority" always 1
    ∷ row "PID" always 13
    ∷ row "transport_scrambling_control" always 2
    ∷ row "adaptation_field_control" always 2
    ∷ row "continuity_counter" always 4
    ∷ []
