-- The state of pass 2 with its bounds and its legal events: at the start, behind each packet and behind each stream's end; and so every event of the
-- last state is legal, and they are few enough to be counted. Assumes nothing.
use Prim.Native.Nat.{ℕ, suc, ◌+◌, ◌*◌, ◌^◌, ◌<◌, ◌≤◌}
use native.Mathlib.Omega.{arith}
use mathlib.Core.Path.{◌≡◌, refl}
use mathlib.Core.List.{List}
use lib.ListN.{length, drop}
use Rattle.recording.specs.Read.{Fact}
use Rattle.recording.proofs.Bounds.{FactHolds, FactsHold}
use Rattle.arrival.specs.declared.RateInterval.{RateInterval}
use Rattle.arrival.specs.Bounds.{AllWithin}
use Rattle.report.specs.Record.{Each, most_events}
use Rattle.profile.specs.declared.config.TStdStream.{TStdStream}
use Rattle.profile.specs.declared.config.TStdConfig.{TStdConfig}
use Rattle.profile.specs.Config.{streams_of}
use Rattle.profile.specs.Limits.{replay_limits}
use Rattle.profile.proofs.Within.{Within}
use Rattle.summary.specs.Summary.{Legal}
use Rattle.model.specs.Chain.{end_step}
use Rattle.model.specs.Replay.{State, running, started, chain_at, stepped, fact_step, ends_from, system_events}
use Rattle.model_bounds.proofs.Chain.{end_holds}
use Rattle.demands.specs.Refused.{stream_of, RunsTo, there, packet, EndsTo, no_end, an_end}
use Rattle.demands.proofs.Ends.{place, stepped_running, ends_run}
use Rattle.demands.proofs.State.{started_holds, end_step_holds, fact_holds}
use Rattle.demands.proofs.Runs.{FactsFit}
use Rattle.demands.proofs.Accepted.{last_few}
use Rattle.legal.specs.Legal.{Sound}
use Rattle.legal.proofs.Legal.{legal_starts, legal_packet, legal_end, legal_system}

module _ (c : TStdConfig) (within : Within replay_limits c) where
  pub sound_starts : Sound c 0 0 (started c)
  sound_starts = record { holds = started_holds c within; legal = legal_starts c }

  -- ---- packet k
  module _ (clock : List RateInterval) (clock_within : AllWithin clock) (some : 0 < length clock) where
    pub sound_packet : (k : ℕ) → 188 * suc k ≤ 2 ^ 24 → (f : Fact) (s t : State) → FactHolds f → Sound c k 0 s → fact_step c clock (188 * k) f s ≡ running t → Sound c (suc k) 0 t
    sound_packet k fit f s t p h e =
        record {
          holds = fact_holds c within clock clock_within some k fit f s t p h.holds e;
          legal = legal_packet c within clock k f s t h.holds h.legal e;
        }

    pub sound_runs : {k m : ℕ} {fs gs : List Fact} {s t : State} → RunsTo c clock k fs s m gs t → FactsFit k fs → Sound c k 0 s → Sound c m 0 t × FactsFit m gs
    unfolding FactsHold
    sound_runs there f h = (h, f)
    sound_runs {k} (packet {f = x} {fs = fs} {s = s} {s' = s'} e r) f h =
        sound_runs r (record { facts = f.facts.1; fit = omega (arith, f.fit) }) (sound_packet k (omega (arith, f.fit)) x s s' f.facts.0 h e)

  -- ---- behind k packets
  module _ (k : ℕ) (fit : 188 * k ≤ 2 ^ 24) where
    -- the end of stream i
    pub sound_end : (i : ℕ) (m : TStdStream) (s t : State) → i < length (streams_of c) → m ≡ stream_of c i → Sound c k i s
        → stepped c i s (end_step m c.queue_depth (chain_at c s i)) ≡ running t → Sound c k (suc i) t
    sound_end i m s t inside is h e =
        let x = end_step m c.queue_depth (chain_at c s i) in
        let g = stepped_running c i s x t e in
        let p = end_holds (stream_of c i) k c.queue_depth (chain_at c s i) (within.streams i inside) fit (h.holds.going i (omega arith) inside) in
        record {
          holds = rw g.state (end_step_holds c within k i s x fit inside h.holds g.not_full (rw is p));
          legal = legal_end c within k i m s t inside h.holds h.legal e;
        }

    ends_sound : {i j : ℕ} {ms ns : List TStdStream} {s t : State} → EndsTo c i ms s j ns t → drop i (streams_of c) ≡ ms → Sound c k i s → Sound c k j t
    ends_sound no_end d h = h
    ends_sound {i} (an_end {m = m} {ms = ms} {s = s} {s' = s'} e r) d h =
        let p = place c i m ms d in
        ends_sound r p.rest (sound_end i m s s' p.inside p.stream h e)

    -- all ends
    pub sound_ends : (s t : State) → Sound c k 0 s → ends_from c 0 (streams_of c) s ≡ running t → Sound c k (length (streams_of c)) t
    sound_ends s t h e =
        let z : 0 + length (streams_of c) ≡ length (streams_of c) = omega arith in
        rw z at (ends_sound (ends_run c (streams_of c) 0 s t e) refl h)

    -- the events of the last state
    pub sound_events : (s : State) → Sound c k (length (streams_of c)) s → Each Legal (system_events c s) × (length (system_events c s) ≤ most_events)
    sound_events s h = (legal_system c k (length (streams_of c)) s h.holds h.legal, last_few c within k fit s h.holds)
