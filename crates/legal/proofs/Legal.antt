-- Every event of the state of pass 2 is legal: at the start, behind a packet, behind a stream's end, and with the system chain's events. Assumes nothing.
use Prim.Native.Nat.{ℕ, ◌+◌, ◌*◌, ◌<◌}
use native.Mathlib.Omega.{arith}
use borrow.Author.Tests.{eqb-true, eqb-false}
use mathlib.Core.Path.{◌≡◌, refl, subst}
use mathlib.Core.Bool.{Bool, true, false}
use mathlib.Core.List.{List, [], ◌∷◌, map}
use lib.ListN.{length, get_or-map}
use lib.Seq.{get_or-set_same, get_or-set_other}
use lib.Dec.{eqb}
use Rattle.ieee.specs.Binary64.{188f}
use Rattle.packet.specs.declared.TsPacket.{TsPacket}
use Rattle.scanner.specs.declared.Runs.{Runs}
use Rattle.recording.specs.Read.{Fact, unparsed, parsed}
use Rattle.arrival.specs.declared.RateInterval.{RateInterval}
use Rattle.arrival.specs.Times.{covering, arrival_at}
use Rattle.fifo.specs.FluidFifo.{pushed}
use Rattle.branch.specs.declared.Run.{Run}
use Rattle.branch.specs.SysBranch.{rsys_of, sys_events}
use Rattle.events.specs.declared.Event.{Event}
use Rattle.report.specs.Record.{Each}
use Rattle.profile.specs.declared.config.TStdStream.{TStdStream}
use Rattle.profile.specs.declared.config.TStdConfig.{TStdConfig}
use Rattle.profile.specs.declared.owner.Owner.{Owner}
use Rattle.profile.specs.Config.{streams_of, unused_stream}
use Rattle.profile.specs.Limits.{replay_limits}
use Rattle.profile.specs.Owner.{owner_of}
use Rattle.profile.proofs.Within.{Within}
use Rattle.profile.proofs.Ownership.{owner_slot}
use Rattle.summary.specs.Summary.{Found, found, Legal}
use Rattle.model.specs.Chain.{ChainStep, new_chain, packet_step, tb_events, end_step}
use Rattle.model.specs.Replay.{State, running, started, with_events, chain_at, stream_at, stepped, timed, system_step, owned_step, fact_step, system_events}
use Rattle.demands.specs.Refused.{stream_of}
use Rattle.demands.specs.State.{StateHolds}
use Rattle.demands.proofs.Ends.{behind, same_running, stepped_running}
use Rattle.demands.proofs.Found.{each_append}
use Rattle.legal.specs.Legal.{BranchFits, StateLegal}
use Rattle.legal.proofs.Cases.{either}
use Rattle.legal.proofs.Events.{AllAbove, tb_above, sys_above}
use Rattle.legal.proofs.Chain.{ChainLegal, chain_new_fits, packet_legal, end_legal}
use Rattle.legal.proofs.Streams.{stream_low}

-- ---- the events of chain i
module _ (i : ℕ) (low : i < 9) where
  found_legal : (es : List Event) → AllAbove es → Each Legal (map (found i) es)
  unfolding Each
  found_legal [] h = tt
  found_legal (e ∷ es) h = (record { chain = low; figure = h.0 }, found_legal es h.1)

  with_legal : (fs : List Found) (es : List Event) → Each Legal fs → AllAbove es → Each Legal (with_events fs i es)
  with_legal fs es h k = each_append Legal fs (map (found i) es) h (found_legal es k)

-- ---- at the start
pub legal_starts : (c : TStdConfig) → StateLegal c (started c)
unfolding started Each
legal_starts c = record { events = tt; busy = λ j. rw (get_or-map new_chain (streams_of c) j unused_stream) (chain_new_fits (stream_of c j)) }

module _ (c : TStdConfig) (within : Within replay_limits c) where
  -- ---- a step of chain i
  behind_legal : (i : ℕ) (s : State) (x : ChainStep) → i < length (streams_of c) → length s.chains ≡ length (streams_of c) → StateLegal c s → ChainLegal x → StateLegal c (behind i s x)
  behind_legal i s x inside n h p =
      record {
        events = with_legal i (stream_low c within i inside) s.events x.events h.events p.events;
        busy = λ j. go j (eqb j i) refl;
      }
    where
      go : (j : ℕ) (t : Bool) → eqb j i ≡ t → BranchFits (chain_at c (behind i s x) j).branch
      go j true e = rw (eqb-true j i e, get_or-set_same s.chains i x.chain (new_chain unused_stream) (omega (arith, n))) p.busy
      go j false e = rw (get_or-set_other s.chains i j x.chain (new_chain unused_stream) (eqb-false j i e)) (h.busy j)

  -- ---- a packet
  module _ (clock : List RateInterval) (p : ℕ) where
    timed_legal : (s : State) → StateLegal c s → StateLegal c (timed c clock p s)
    unfolding timed
    timed_legal s h = record { events = h.events; busy = h.busy }

    system_step_legal : (s : State) → StateLegal c s → StateLegal c (system_step c clock p s)
    unfolding system_step
    system_step_legal s h =
        let x = pushed s.sys_tb (arrival_at clock p) (arrival_at clock (p + 188)) 188f in
        let run : Run = record { t0 = x.start; t1 = x.end; bytes = 188f } in
        let rsys = rsys_of (covering (p + 188) clock).rate in
        record { events = with_legal 8 (omega arith) s.events (sys_events s.sys run rsys) h.events (sys_above s.sys run rsys); busy = h.busy }

    owned_legal : (h : TsPacket) (r : Runs) (s t : State) (o : Owner) → owner_of c h.pid ≡ o → length s.chains ≡ length (streams_of c) → StateLegal c s
        → owned_step c clock p o h r s ≡ running t → StateLegal c t
    unfolding owned_step
    owned_legal h r s t (Owner.Stream i) o n k e =
        let y = packet_step (stream_at c i) c.queue_depth h r (arrival_at clock p) (arrival_at clock (p + 188)) (covering (p + 188) clock) (chain_at c s i) in
        let x = stepped_running c i s y t e in
        rw x.state
        (behind_legal i s y (owner_slot c h.pid i o).in_use n k
        (packet_legal (stream_at c i) c.queue_depth h r (arrival_at clock p) (arrival_at clock (p + 188)) (covering (p + 188) clock) (chain_at c s i) (k.busy i)))
    owned_legal h r s t Owner.System o n k e = subst (StateLegal c) (same_running e) (system_step_legal s k)
    owned_legal h r s t Owner.Nobody o n k e = subst (StateLegal c) (same_running e) k

  pub legal_packet : (clock : List RateInterval) (k : ℕ) (f : Fact) (s t : State) → StateHolds c k 0 s → StateLegal c s → fact_step c clock (188 * k) f s ≡ running t → StateLegal c t
  unfolding fact_step timed
  legal_packet clock k unparsed s t h l e = subst (StateLegal c) (same_running e) l
  legal_packet clock k (parsed x r) s t h l e =
      owned_legal clock (188 * k) x r (timed c clock (188 * k) s) t (owner_of c x.pid) refl h.count (timed_legal clock (188 * k) s l) e

  -- ---- the end of stream i, of whatever model
  pub legal_end : (k i : ℕ) (m : TStdStream) (s t : State) → i < length (streams_of c) → StateHolds c k i s → StateLegal c s
      → stepped c i s (end_step m c.queue_depth (chain_at c s i)) ≡ running t → StateLegal c t
  legal_end k i m s t inside h l e =
      let y = end_step m c.queue_depth (chain_at c s i) in
      let x = stepped_running c i s y t e in
      rw x.state
      (behind_legal i s y inside h.count l (end_legal m c.queue_depth (chain_at c s i) (h.going i (omega arith) inside).tb.longest_fits (l.busy i)))

-- ---- the system chain's transport buffer, behind all ends
pub legal_system : (c : TStdConfig) (k i : ℕ) (s : State) → StateHolds c k i s → StateLegal c s → Each Legal (system_events c s)
unfolding system_events
legal_system c k i s h l =
    either (Each Legal) (eqb c.system_count 0) s.events (with_events s.events 8 (tb_events s.sys_tb)) l.events
    (with_legal 8 (omega arith) s.events (tb_events s.sys_tb) l.events (tb_above s.sys_tb h.system.tb.longest_fits))
