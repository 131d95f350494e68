-- The times at which a packet's first byte comes and its last has come, under document 01's limits.
use Rattle.std.specs.Prelude.{true, false, ℕ, ◌-◌, ◌*◌, ◌^◌, T, ℤ, negsuc, Float}
use Rattle.std.specs.Float.{fin, binary64}
use Rattle.std.specs.Float.Ieee.{fits}
use Rattle.ieee.specs.Interval.{In}
use Rattle.arrival.specs.Bounds.{arrival_limit}

abbrev pub fine : ℤ
fine = negsuc 23

-- 2^-24 s short of 17,408 s: the times of the bytes in between, whose roundings may pass the packet's ends, are then within 17,408 s
abbrev pub packet_limit : ℕ
packet_limit = arrival_limit * 2 ^ 24 - 1

pub record PacketTime (t : Float) : Type 0 where
  pub within : In (fin true packet_limit fine) t (fin false packet_limit fine)
  pub fit : T (fits binary64 t)
