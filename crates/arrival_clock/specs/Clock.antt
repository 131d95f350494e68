-- Pass 1 over the packets of a recording: their parses in order, the pass from before the first of them, and its answer.
use Rattle.std.specs.Prelude.{ℕ, zero, suc, ◌≡◌, List, [], ◌∷◌, Float, Result}
use Rattle.error.specs.declared.Refusal.{Refusal}
use Rattle.packet.specs.declared.TsPacket.{TsPacket}
use Rattle.packet.specs.declared.TsError.{TsError}
use Rattle.packet.specs.declared.TsPacketLayout.{TsPacketLayout}
use Rattle.packet.specs.Packet.{parse_of}
use Rattle.recording.specs.Read.{packet_at}
use Rattle.arrival.specs.declared.IntervalsMut.{IntervalsMut}
use Rattle.arrival.specs.Pass.{no_packet, answer_of, Passing, pass_packets, Written}

-- the parses of n packets from packet k on
unfoldable pub parses_from : TsPacketLayout → List ℕ → ℕ → ℕ → List (Result TsPacket TsError)
parses_from y l k zero = []
parses_from y l k (suc n) = parse_of (packet_at y l k) ∷ parses_from y l (suc k) n

abbrev pub pass_over : ℕ → ℕ → List Float → List ℕ → List (Result TsPacket TsError) → Passing
pass_over pcrPid depth times places ps = pass_packets pcrPid depth (record { pass = no_packet; times = times; places = places }) ps

-- the answer behind a pass, and what the work then holds
pub record Answers (w : Passing) (answer : Result ℕ Refusal) (before after : IntervalsMut) : Type 0 where
  pub answer_is : answer ≡ answer_of before.depth w.pass.build
  pub written : Written w.times w.places before after
