-- Packets behind one another that pass 1 takes at once: they lie in the recording and have no field on the PCR PID.
-- No public contract cites it.
use Rattle.std.specs.Prelude.{ℕ, ◌+◌, ◌*◌, ◌≤◌, ◌<◌, ◌≡◌, List, length, None}
use Rattle.packet.specs.declared.TsPacketLayout.{TsPacketLayout}
use Rattle.packet.specs.Packet.{parse_of}
use Rattle.recording.specs.Read.{packet_at}
use Rattle.arrival.specs.Samples.{field_on}

-- the first n packets lie in the recording, and none is longer than it
pub record Whole (y : TsPacketLayout) (l : List ℕ) (n : ℕ) : Type 0 where
  pub inside : (k : ℕ) → k < n → k * y.packet_size + y.sync_offset + 188 ≤ length l
  pub size_within : 0 < n → y.packet_size ≤ length l

-- no packet from k on and before n has a field on the PCR PID
abbrev pub NoFieldOn : ℕ → TsPacketLayout → List ℕ → ℕ → ℕ → Type 0
NoFieldOn pcrPid y l k n = (i : ℕ) → k ≤ i → i < n → field_on pcrPid (parse_of (packet_at y l i)) ≡ None
