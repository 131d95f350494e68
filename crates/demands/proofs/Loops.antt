-- In every replay whose clock is built, each loop of `leak_until` ends by its own test: at each packet, and at each stream's end. Assumes nothing.
use Prim.Native.Nat.{ℕ, suc, ◌*◌, ◌^◌, ◌≤◌}
use native.Mathlib.Omega.{arith}
use mathlib.Core.Path.{◌≡◌, refl}
use mathlib.Core.List.{List, [], ◌∷◌}
use Rattle.packet.specs.declared.TsPacket.{TsPacket}
use Rattle.scanner.specs.declared.Runs.{Runs}
use Rattle.recording.specs.Read.{Fact, parsed}
use Rattle.arrival.specs.Times.{arrival_at}
use Rattle.profile.specs.declared.config.TStdStream.{TStdStream}
use Rattle.profile.specs.declared.config.TStdConfig.{TStdConfig}
use Rattle.profile.specs.declared.owner.Owner.{Owner}
use Rattle.profile.specs.declared.work.WorkSize.{WorkSize}
use Rattle.profile.specs.Config.{streams_of}
use Rattle.profile.specs.Limits.{replay_limits}
use Rattle.profile.specs.Owner.{owner_of}
use Rattle.profile.proofs.Ownership.{owner_slot}
use Rattle.model.specs.Replay.{State, started, chain_at, stream_at}
use Rattle.model_bounds.specs.Loops.{PacketLoopsEnd, EndLoopsEnd}
use Rattle.model_bounds.proofs.Loops.{end_loops_end, packet_loops_end}
use Rattle.demands.specs.Refused.{read_in, Clocked, RunsTo, EndsTo}
use Rattle.demands.specs.Refused.{stream_of}
use Rattle.demands.specs.State.{StateHolds}
use Rattle.demands.specs.Leak.{LeakEnds}
use Rattle.demands.proofs.Ends.{stream_there, place}
use Rattle.demands.proofs.State.{started_holds, time}
use Rattle.demands.proofs.Runs.{profile_within, read_fits, clock_holds, FactsFit, runs_hold, ends_hold}

module _ (c : TStdConfig) (room : WorkSize) (l : List ℕ) (h : Clocked replay_limits c room l) where
  behind : {k : ℕ} {gs : List Fact} {s : State} → RunsTo c h.clock 0 (read_in c l).facts (started c) k gs s → StateHolds c k 0 s × FactsFit k gs
  behind r =
      let w = profile_within c room l h.laid_out in
      runs_hold c w h.clock (clock_holds c room l h.laid_out h.clock h.built) r (read_fits c room l h.laid_out) (started_holds c w)

  -- at packet k, which is stream i's
  packet_leak_ends : {k : ℕ} {p : TsPacket} {r : Runs} {gs : List Fact} {s : State} (i : ℕ)
      → RunsTo c h.clock 0 (read_in c l).facts (started c) k (parsed p r ∷ gs) s → owner_of c p.pid ≡ Owner.Stream i
      → PacketLoopsEnd (stream_at c i).model.branch (arrival_at h.clock (188 * k)) (chain_at c s i).branch
  packet_leak_ends {k} {p} {r} {gs} {s} i run o =
      let w = profile_within c room l h.laid_out in
      let ok = clock_holds c room l h.laid_out h.clock h.built in
      let b = behind run in
      let fit : 188 * suc k ≤ 2 ^ 24 = omega (arith, b.1.fit) in
      let slot = owner_slot c p.pid i o in
      rw (stream_there c i slot.in_use)
      (packet_loops_end (stream_of c i) k (arrival_at h.clock (188 * k)) (chain_at c s i) (w.streams i slot.in_use) fit (time c w h.clock ok.all ok.some (188 * k) (omega arith)) (b.0.going i (omega arith) slot.in_use))

  -- at the end of stream i, where the packets and the ends before it have run
  end_leak_ends : {k i : ℕ} {m : TStdStream} {ms : List TStdStream} {s t : State}
      → RunsTo c h.clock 0 (read_in c l).facts (started c) k [] s → EndsTo c 0 (streams_of c) s i (m ∷ ms) t
      → EndLoopsEnd m.model.branch c.queue_depth (chain_at c t i).branch
  end_leak_ends {k} {i} {m} {ms} {s} {t} run ends =
      let w = profile_within c room l h.laid_out in
      let b = behind run in
      let fit : 188 * k ≤ 2 ^ 24 = omega (arith, b.1.fit) in
      let e = ends_hold c w k fit ends refl b.0 in
      let p = place c i m ms e.1 in
      rw p.stream (end_loops_end (stream_of c i) k c.queue_depth (chain_at c t i) (w.streams i p.inside) fit (e.0.going i (omega arith) p.inside))

  pub leak_ends : LeakEnds c h.clock (read_in c l).facts
  leak_ends = record { packets = packet_leak_ends; ends = end_leak_ends }
