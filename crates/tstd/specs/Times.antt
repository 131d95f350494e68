-- The times of pass 2: the arrival of a packet, and those of the first and the last byte of the packets that parse.
use Rattle.std.specs.Prelude.{Option, Some, None}
use Rattle.ieee.specs.Binary64.{+∞, -∞}
use Rattle.ieee.specs.MaxMin.{max_of, min_of}
use Rattle.header.specs.declared.PacketHeader.{PacketHeader}
use Rattle.arrival.specs.declared.PacketArrival.{PacketArrival}
use Rattle.tstd.specs.declared.times.Times.{Times}

abbrev pub start_times : PacketArrival → Times
start_times a = record { arrival = a; first_time = +∞; last_time = -∞ }

-- behind a packet that parses; a is its arrival
abbrev pub parsed_times : PacketArrival → Times → Times
parsed_times a t = record { arrival = a; first_time = min_of t.first_time a.t0; last_time = max_of t.last_time a.t1 }

-- behind a packet that does not parse, and one that does; a is its arrival
unfoldable pub next_times : Option PacketHeader → PacketArrival → Times → Times
next_times None a t = record { arrival = a; first_time = t.first_time; last_time = t.last_time }
next_times (Some h) a t = parsed_times a t
