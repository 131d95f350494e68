-- The samples of a recording by what is read of it: how a parse failed does not enter. Assumes nothing.
use Rattle.std.specs.Prelude.{Option, Result, Ok, Err}
use Prim.Native.Nat.{ℕ, zero, suc, ◌+◌}
use mathlib.Core.Path.{◌≡◌, refl, ap, ◌∙◌}
use mathlib.Core.Bool.{Bool, false}
use mathlib.Core.List.{List, map, ◌++◌}
use Rattle.packet.specs.declared.AdaptationField.{AdaptationField}
use Rattle.packet.specs.declared.TsPacket.{TsPacket}
use Rattle.packet.specs.declared.TsError.{TsError}
use Rattle.packet.specs.declared.TsPacketLayout.{TsPacketLayout}
use Rattle.packet.specs.Packet.{parse_of}
use Rattle.scanner.specs.Unit.{Open}
use Rattle.recording.specs.Read.{Streams, fact_by, parse_in, packet_at, opens_at, facts_from}
use Rattle.arrival.specs.declared.Sample.{Sample}
use Rattle.arrival.specs.Samples.{field_on, seen_in, samples_from, samples_of}
use Rattle.arrival_clock.specs.Clock.{parses_from}

fact_field : (pcrPid : ℕ) (s : Streams) (opens : ℕ → Open) (w : List ℕ) (p : Result TsPacket TsError) → field_on pcrPid (parse_in (fact_by s opens w p)) ≡ field_on pcrPid p
unfolding field_on fact_by
fact_field pcrPid s opens w (Ok h) = refl
fact_field pcrPid s opens w (Err e) = refl

module _ (pcrPid : ℕ) (y : TsPacketLayout) (s : Streams) (l : List ℕ) where
  samples_from_lem : (k n start : ℕ) (pending : Bool)
      → samples_from pcrPid start pending (map parse_in (facts_from y s l k n)) ≡ samples_from pcrPid start pending (parses_from y l k n)
  unfolding samples_from parses_from
  samples_from_lem k zero start pending = refl
  samples_from_lem k (suc n) start pending =
      let seen = seen_in start pending (field_on pcrPid (parse_of (packet_at y l k))) in
      ap (λ (f : Option AdaptationField). (seen_in start pending f).sample ++ samples_from pcrPid (start + 188) (seen_in start pending f).pending (map parse_in (facts_from y s l (suc k) n)))
      (fact_field pcrPid s (opens_at y l (suc k)) (packet_at y l k) (parse_of (packet_at y l k)))
      ∙ ap (λ (ss : List Sample). seen.sample ++ ss) (samples_from_lem (suc k) n (start + 188) seen.pending)

  pub samples_read_lem : (k n : ℕ) → samples_of pcrPid (map parse_in (facts_from y s l k n)) ≡ samples_of pcrPid (parses_from y l k n)
  samples_read_lem k n = samples_from_lem k n 0 false
