-- The bounds of the state behind any run of packets, and behind any run of the streams' ends. Assumes nothing.
use Rattle.std.specs.Prelude.{Ok}
use Prim.Native.Nat.{ℕ, ◌+◌, ◌*◌, ◌^◌, ◌<◌, ◌≤◌}
use native.Mathlib.Omega.{arith}
use mathlib.Core.Path.{◌≡◌, subst}
use mathlib.Core.List.{List, map}
use lib.ListN.{length, drop, length-map}
use Rattle.recording.specs.Read.{Fact, parse_in}
use Rattle.recording.proofs.Bounds.{FactsHold, read_holds}
use Rattle.arrival.specs.declared.RateInterval.{RateInterval}
use Rattle.arrival.specs.Bounds.{AllWithin}
use Rattle.arrival.specs.ArrivalClock.{build}
use Rattle.arrival.proofs.Within.{BuiltWithin, clock_within, build_counted}
use Rattle.packet.specs.Layout.{layout_of}
use Rattle.profile.specs.declared.config.TStdStream.{TStdStream}
use Rattle.profile.specs.declared.config.TStdConfig.{TStdConfig}
use Rattle.profile.specs.declared.work.WorkSize.{WorkSize}
use Rattle.profile.specs.Config.{streams_of}
use Rattle.profile.specs.Limits.{replay_limits}
use Rattle.profile.proofs.Within.{Within, limits_within}
use Rattle.model.specs.Chain.{end_step}
use Rattle.model.specs.Replay.{State, chain_at, streams_read}
use Rattle.model.proofs.Refusals.{read_size}
use Rattle.model_bounds.proofs.Chain.{end_holds}
use Rattle.demands.specs.Refused.{read_in, samples_in, LaidOut, RunsTo, there, packet, EndsTo, no_end, an_end}
use Rattle.demands.specs.Refused.{stream_of}
use Rattle.demands.specs.State.{StateHolds}
use Rattle.demands.proofs.Ends.{place, stepped_running}
use Rattle.demands.proofs.State.{end_step_holds, fact_holds}

-- ---- what is known where the clock is built
pub record ClockHolds (clock : List RateInterval) : Type 0 where
  pub all : AllWithin clock
  pub some : 0 < length clock

-- of a list of facts behind k packets
pub record FactsFit (k : ℕ) (fs : List Fact) : Type 0 where
  pub facts : FactsHold fs
  pub fit : 188 * (k + length fs) ≤ 2 ^ 24

module _ (c : TStdConfig) (room : WorkSize) (l : List ℕ) (h : LaidOut replay_limits c room l) where
  pub profile_within : Within replay_limits c
  profile_within = limits_within replay_limits c h.fit.within

  pub read_fits : FactsFit 0 (read_in c l).facts
  read_fits =
      let r = read_holds (streams_read c) l in
      record { facts = r.facts; fit = omega (arith, r.fit, read_size (streams_read c) l (layout_of l), h.fit.short) }

  pub clock_holds : (clock : List RateInterval) → build c.clock_depth (samples_in c l) ≡ Ok clock → ClockHolds clock
  clock_holds clock e =
      let n : 188 * length (map parse_in (read_in c l).facts) ≤ 2 ^ 24 = rw (length-map (read_in c l).facts parse_in) (omega (arith, read_fits.fit)) in
      let a : BuiltWithin (Ok clock) = subst BuiltWithin e (clock_within c.pcr_pid c.clock_depth (map parse_in (read_in c l).facts) n) in
      let d = build_counted c.clock_depth (samples_in c l) clock e in
      record { all = a; some = omega (arith, d.one_fewer, d.two) }

module _ (c : TStdConfig) (within : Within replay_limits c) where
  -- ---- packets
  module _ (clock : List RateInterval) (ok : ClockHolds clock) where
    pub runs_hold : {k m : ℕ} {fs gs : List Fact} {s t : State} → RunsTo c clock k fs s m gs t → FactsFit k fs → StateHolds c k 0 s → StateHolds c m 0 t × FactsFit m gs
    unfolding FactsHold
    runs_hold there f h = (h, f)
    runs_hold {k} (packet {f = f0} {fs = fs} {s = s} {s' = s'} e r) f h =
        runs_hold r (record { facts = f.facts.1; fit = omega (arith, f.fit) })
        (fact_holds c within clock ok.all ok.some k (omega (arith, f.fit)) f0 s s' f.facts.0 h e)

  -- ---- ends
  module _ (k : ℕ) (fit : 188 * k ≤ 2 ^ 24) where
    pub ends_hold : {i j : ℕ} {ms ns : List TStdStream} {s t : State} → EndsTo c i ms s j ns t → drop i (streams_of c) ≡ ms → StateHolds c k i s
        → StateHolds c k j t × (drop j (streams_of c) ≡ ns)
    ends_hold no_end d h = (h, d)
    ends_hold {i} (an_end {m = m} {ms = ms} {s = s} {s' = s'} e r) d h =
        let p = place c i m ms d in
        let x = end_step m c.queue_depth (chain_at c s i) in
        let g = stepped_running c i s x s' e in
        ends_hold r p.rest (rw g.state (end_step_holds c within k i s x fit p.inside h g.not_full (rw p.stream (end_holds (stream_of c i) k c.queue_depth (chain_at c s i) (within.streams i p.inside) fit (h.going i (omega arith) p.inside)))))
