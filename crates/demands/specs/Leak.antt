-- Where a replay runs the loop of `leak_until`, and that the loop ends there by its own test: at each packet of a stream, and at each stream's end.
use Rattle.std.specs.Prelude.{ℕ, ◌*◌, ◌≡◌, List, [], ◌∷◌}
use Rattle.packet.specs.declared.TsPacket.{TsPacket}
use Rattle.scanner.specs.declared.Runs.{Runs}
use Rattle.recording.specs.Read.{Fact, parsed}
use Rattle.arrival.specs.declared.RateInterval.{RateInterval}
use Rattle.arrival.specs.Times.{arrival_at}
use Rattle.profile.specs.declared.config.TStdStream.{TStdStream}
use Rattle.profile.specs.declared.config.TStdConfig.{TStdConfig}
use Rattle.profile.specs.declared.owner.Owner.{Owner}
use Rattle.profile.specs.Config.{streams_of}
use Rattle.profile.specs.Owner.{owner_of}
use Rattle.model.specs.Replay.{State, started, chain_at, stream_at}
use Rattle.model_bounds.specs.Loops.{PacketLoopsEnd, EndLoopsEnd}
use Rattle.demands.specs.Refused.{RunsTo, EndsTo}

-- in the replay of these packets on this clock, whether or not it is then refused
pub record LeakEnds (c : TStdConfig) (clock : List RateInterval) (facts : List Fact) : Type 0 where
  -- packet k, which is stream i's
  pub packets : {k : ℕ} {p : TsPacket} {r : Runs} {gs : List Fact} {s : State} (i : ℕ)
      → RunsTo c clock 0 facts (started c) k (parsed p r ∷ gs) s → owner_of c p.pid ≡ Owner.Stream i
      → PacketLoopsEnd (stream_at c i).model.branch (arrival_at clock (188 * k)) (chain_at c s i).branch
  -- the end of stream i, whose model is m's, behind all packets and the ends before it
  pub ends : {k i : ℕ} {m : TStdStream} {ms : List TStdStream} {s t : State}
      → RunsTo c clock 0 facts (started c) k [] s → EndsTo c 0 (streams_of c) s i (m ∷ ms) t
      → EndLoopsEnd m.model.branch c.queue_depth (chain_at c t i).branch
