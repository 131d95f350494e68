-- The bounds of the state are kept by each packet and by each stream's end. Assumes nothing.
use Prim.Native.Nat.{ℕ, suc, ◌+◌, ◌*◌, ◌^◌, ◌<◌, ◌≤◌}
use borrow.Author.Tests.{eqb-true, eqb-false}
use native.Mathlib.Omega.{arith}
use mathlib.Core.Path.{◌≡◌, refl, sym, ◌∙◌, subst}
use mathlib.Core.Logic.{inl, inr}
use mathlib.Core.Bool.{Bool, true, false}
use mathlib.Core.List.{List, [], ◌∷◌}
use lib.ListN.{length, length-map, length-set, get_or-map}
use lib.Seq.{get_or-take, get_or-set_same, get_or-set_other}
use lib.Dec.{eqb}
use lib.Ieee.{Float, of_bits, le, lt}
use Rattle.ieee.specs.Binary64.{188f, 1536f, 1f, ◌⊕◌}
use Rattle.ieee.specs.Interval.{plain}
use Rattle.ieee.specs.MaxMin.{max_of, min_of}
use Rattle.ieee.specs.Whole.{Is}
use Rattle.ieee.proofs.Interval.{widen_high}
use Rattle.ieee.proofs.MaxMin.{max_in, min_in}
use Rattle.packet.specs.declared.TsPacket.{TsPacket}
use Rattle.scanner.specs.declared.Runs.{Runs}
use Rattle.recording.specs.Read.{Fact, unparsed, parsed}
use Rattle.recording.proofs.Bounds.{FactHolds}
use Rattle.arrival.specs.declared.RateInterval.{RateInterval}
use Rattle.arrival.specs.Bounds.{IntervalWithin, AllWithin}
use Rattle.arrival.specs.Times.{covering, arrival_at}
use Rattle.arrival.proofs.Within.{covering_within, arrival_within, arrival_fits}
use Rattle.fifo.specs.Bounds.{ArrivalTime, Arrival}
use Rattle.fifo.specs.FluidFifo.{pushed}
use Rattle.fifo.proofs.Bounds.{new_bounded, push_bounded, push_window}
use Rattle.branch.specs.declared.Run.{Run}
use Rattle.branch.specs.SysBranch.{rsys_of, sys_events, filled}
use Rattle.events.specs.declared.Event.TheVariants.{Overflow}
use Rattle.bounds.specs.Runs.{WindowTime}
use Rattle.bounds.specs.Sys.{TransportRate}
use Rattle.bounds.proofs.Count.{AtMost, at_most_when}
use Rattle.bounds.proofs.Sys.{rsys_in, new_sys_lem, push_sys_lem, sys_events_lem}
use Rattle.bounds.proofs.Windows.{window_times}
use Rattle.report.specs.Record.{Each}
use Rattle.profile.specs.declared.config.TStdConfig.{TStdConfig}
use Rattle.profile.specs.declared.owner.Owner.{Owner}
use Rattle.profile.specs.Config.{streams_of, unused_stream}
use Rattle.profile.specs.Limits.{replay_limits}
use Rattle.profile.specs.Owner.{owner_of}
use Rattle.profile.proofs.Within.{Within}
use Rattle.profile.proofs.Ownership.{OwnerSlot, owner_slot}
use Rattle.model.specs.Chain.{ChainStep, new_chain, packet_step}
use Rattle.model.specs.Replay.{State, running, started, chain_at, stream_at, timed, system_step, owned_step, fact_step}
use Rattle.model_bounds.specs.Chain.{ChainHolds, ChainEnded, PacketHolds, EndHolds}
use Rattle.model_bounds.specs.Times.{PacketTime}
use Rattle.model_bounds.proofs.Times.{packet_time}
use Rattle.model_bounds.proofs.Chain.{chain_mono, chain_new, packet_holds, removed_few, removed_few_ended}
use Rattle.demands.specs.Refused.{stream_of}
use Rattle.demands.specs.State.{SystemHolds, Times, StateHolds}
use Rattle.demands.proofs.Ends.{behind, same_running, stepped_running}
use Rattle.demands.proofs.Found.{with_events_lem, events_length}

is_188 : Is 188f 188
unfolding of_bits
is_188 = (refl, refl)

module _ (c : TStdConfig) (within : Within replay_limits c) where
  -- ---- at the start
  pub started_holds : StateHolds c 0 0 (started c)
  unfolding started Each
  started_holds =
      record {
        count = length-map (streams_of c) new_chain;
        ended = λ j h k. absurd (omega arith);
        going = λ j h k. rw (get_or-map new_chain (streams_of c) j unused_stream) (chain_new (stream_of c j) (within.streams j k));
        system = record { bytes = 0; few = omega arith; tb = new_bounded 1000000 (omega arith) (omega arith); branch = new_sys_lem };
        times = inl (refl, refl);
        events = tt;
        few = omega arith;
      }

  -- ---- a state behind one packet more
  later_system : (k : ℕ) (s : State) → SystemHolds k s → SystemHolds (suc k) s
  later_system k s h = record { bytes = h.bytes; few = omega (arith, h.few); tb = h.tb; branch = h.branch }

  later : (k : ℕ) (s : State) → StateHolds c k 0 s → StateHolds c (suc k) 0 s
  later k s h =
      record {
        count = h.count;
        ended = λ j a b. absurd (omega arith);
        going = λ j a b. chain_mono (stream_of c j) k (suc k) (chain_at c s j) (omega arith) (h.going j a b);
        system = later_system k s h.system;
        times = h.times;
        events = h.events;
        few = omega (arith, h.few);
      }

  -- ---- a step of chain i
  chain_same : (i : ℕ) (s : State) (x : ChainStep) → i < length s.chains → chain_at c (behind i s x) i ≡ x.chain
  chain_same i s x h = get_or-set_same s.chains i x.chain (new_chain unused_stream) h

  chain_other : (i j : ℕ) (s : State) (x : ChainStep) → (j ≡ i → ⊥) → chain_at c (behind i s x) j ≡ chain_at c s j
  chain_other i j s x h = get_or-set_other s.chains i j x.chain (new_chain unused_stream) h

  packet_step_holds : (k i : ℕ) (s : State) (x : ChainStep) → 188 * suc k ≤ 2 ^ 24 → i < length (streams_of c) → StateHolds c k 0 s
      → PacketHolds (stream_of c i) k (chain_at c s i) x → StateHolds c (suc k) 0 (behind i s x)
  packet_step_holds k i s x fit inside h p =
      record {
        count = length-set s.chains i x.chain ∙ h.count;
        ended = λ j a b. absurd (omega arith);
        going = λ j a b. go j b (eqb j i) refl;
        system = later_system k (behind i s x) (record { bytes = h.system.bytes; few = h.system.few; tb = h.system.tb; branch = h.system.branch });
        times = h.times;
        events = with_events_lem c i (inl inside) s.events x.events h.events p.events;
        few = rw (events_length s.events i x.events) (omega (arith, h.few, p.few.few, removed_few (stream_of c i) (suc k) x.chain p.chain));
      }
    where
      go : (j : ℕ) → j < length (streams_of c) → (t : Bool) → eqb j i ≡ t → ChainHolds (stream_of c j) (suc k) (chain_at c (behind i s x) j)
      go j b true e = rw (eqb-true j i e, chain_same i s x (omega (arith, h.count))) p.chain
      go j b false e = rw (chain_other i j s x (eqb-false j i e)) (chain_mono (stream_of c j) k (suc k) (chain_at c s j) (omega arith) (h.going j (omega arith) b))

  pub end_step_holds : (k i : ℕ) (s : State) (x : ChainStep) → 188 * k ≤ 2 ^ 24 → i < length (streams_of c) → StateHolds c k i s → x.full ≡ false
      → EndHolds (stream_of c i) k (chain_at c s i) x → StateHolds c k (suc i) (behind i s x)
  end_step_holds k i s x fit inside h free p =
      record {
        count = length-set s.chains i x.chain ∙ h.count;
        ended = λ j a b. go j a b (eqb j i) refl;
        going = λ j a b. rw (chain_other i j s x (λ e. omega arith)) (h.going j (omega arith) b);
        system = record { bytes = h.system.bytes; few = h.system.few; tb = h.system.tb; branch = h.system.branch };
        times = h.times;
        events = with_events_lem c i (inl inside) s.events x.events h.events p.events;
        few = rw (events_length s.events i x.events) (omega (arith, h.few, p.few.few, removed_few_ended (stream_of c i) k x.chain (p.chain free)));
      }
    where
      go : (j : ℕ) → j < suc i → j < length (streams_of c) → (t : Bool) → eqb j i ≡ t → ChainEnded (stream_of c j) k (chain_at c (behind i s x) j)
      go j a b true e = rw (eqb-true j i e, chain_same i s x (omega (arith, h.count))) (p.chain free)
      go j a b false e = rw (chain_other i j s x (eqb-false j i e)) (h.ended j (omega (arith, eqb-false j i e)) b)

  -- ---- a packet on a clock within bounds
  module _ (clock : List RateInterval) (clock_within : AllWithin clock) (some : 0 < length clock) where
    pub interval_within : (p : ℕ) → IntervalWithin (covering p clock)
    interval_within p = go clock clock_within some
      where
        go : (is : List RateInterval) → AllWithin is → 0 < length is → IntervalWithin (covering p is)
        go [] w h = absurd (omega arith)
        go (i ∷ is) w h = covering_within p i is w

    arrival : (p : ℕ) → p ≤ 2 ^ 24 → ArrivalTime (arrival_at clock p)
    arrival p h = arrival_within (covering p clock) p (interval_within p) h

    pub time : (p : ℕ) → p + 96 ≤ 2 ^ 24 → PacketTime (arrival_at clock p)
    time p h = packet_time (covering p clock) p (interval_within p) h

    module _ (k : ℕ) (fit : 188 * suc k ≤ 2 ^ 24) where
      abbrev from : Float
      from = arrival_at clock (188 * k)

      abbrev to : Float
      to = arrival_at clock (188 * k + 188)

      times_after : (x y : Float) → Times x y → Times (min_of x from) (max_of y to)
      unfolding le
      times_after x y (inl e) = inr (
        min_in x (rw e.0 tt) (arrival (188 * k) (omega arith)),
        max_in y (rw e.1 tt) (arrival (188 * k + 188) (omega arith)),
      )
      times_after x y (inr t) = inr (
        min_in x t.0.low (arrival (188 * k) (omega arith)),
        max_in y t.1.high (arrival (188 * k + 188) (omega arith)),
      )

      timed_holds : (s : State) → StateHolds c k 0 s → StateHolds c k 0 (timed c clock (188 * k) s)
      unfolding timed
      timed_holds s h =
          record {
            count = h.count;
            ended = h.ended;
            going = h.going;
            system = record { bytes = h.system.bytes; few = h.system.few; tb = h.system.tb; branch = h.system.branch };
            times = times_after s.first_time s.last_time h.times;
            events = h.events;
            few = h.few;
          }

      -- ---- of the system
      abbrev rsys : Float
      rsys = rsys_of (covering (188 * k + 188) clock).rate

      arrived : Arrival 188 from to 188f
      arrived =
          record {
            start = arrival (188 * k) (omega arith);
            start_fits = arrival_fits (covering (188 * k) clock) (188 * k) (interval_within (188 * k)) (omega arith);
            end = arrival (188 * k + 188) (omega arith);
            end_fits = arrival_fits (covering (188 * k + 188) clock) (188 * k + 188) (interval_within (188 * k + 188)) (omega arith);
            whole = is_188;
            some = omega arith;
          }

      rate : TransportRate (covering (188 * k + 188) clock).rate
      unfolding le
      rate = widen_high (plain (2 ^ 49)) (interval_within (188 * k + 188)).rate_within tt

      module _ (s : State) (h : StateHolds c k 0 s) where
        abbrev run : Run
        run =
            let x = pushed s.sys_tb from to 188f in
            record { t0 = x.start; t1 = x.end; bytes = 188f }

        abbrev n : ℕ
        n = h.system.bytes

        room : n + 188 ≤ 2 ^ 24
        room = omega (arith, h.system.few)

        window : WindowTime run.t0 × WindowTime run.t1
        window = window_times (push_window s.sys_tb h.system.tb arrived (omega (arith, room))) (omega (arith, room))

        sys_few : AtMost 1 (sys_events s.sys run rsys)
        unfolding sys_events
        sys_few = at_most_when (lt (1536f ⊕ 1f) (filled s.sys run rsys)) (Overflow (filled s.sys run rsys))

        system_holds : StateHolds c (suc k) 0 (system_step c clock (188 * k) s)
        unfolding system_step
        system_holds =
            let l = later k s h in
            record {
              count = h.count;
              ended = l.ended;
              going = l.going;
              system = record {
                bytes = n + 188;
                few = omega (arith, h.system.few);
                tb = push_bounded s.sys_tb h.system.tb arrived (omega (arith, room));
                branch = push_sys_lem n 188 s.sys run rsys h.system.branch window.0 window.1 is_188 (rsys_in _ rate) room;
              };
              times = h.times;
              events = with_events_lem c 8 (inr refl) s.events (sys_events s.sys run rsys) h.events
                  (sys_events_lem n 188 s.sys run rsys h.system.branch window.0 window.1 is_188 (rsys_in _ rate) room);
              few = rw (events_length s.events 8 (sys_events s.sys run rsys)) (omega (arith, h.few, sys_few.few));
            }

      -- ---- of a stream
      stream_is : (i : ℕ) → i < c.stream_count → stream_at c i ≡ stream_of c i
      stream_is i h = sym (get_or-take c.stream_count c.streams i unused_stream h)

      -- what the step of the packet of a stream gives
      pub packet_of_lem : (i : ℕ) (h : TsPacket) (r : Runs) (s : State) → OwnerSlot c h.pid i → FactHolds (parsed h r) → StateHolds c k 0 s
          → PacketHolds (stream_of c i) k (chain_at c s i) (packet_step (stream_at c i) c.queue_depth h r from to (covering (188 * k + 188) clock) (chain_at c s i))
      unfolding FactHolds
      packet_of_lem i h r s slot f hs =
          rw (stream_is i slot.counted)
          (packet_holds (stream_of c i) k c.queue_depth h r from to (covering (188 * k + 188) clock) (chain_at c s i) (within.streams i slot.in_use) fit (omega (arith, f.0.start_low)) f.0.start_high f.1
          (time (188 * k) (omega arith)) (time (188 * k + 188) (omega arith)) (interval_within (188 * k + 188)) (hs.going i (omega arith) slot.in_use))

      owned_holds : (h : TsPacket) (r : Runs) (s t : State) → FactHolds (parsed h r) → StateHolds c k 0 s → (o : Owner) → owner_of c h.pid ≡ o
          → owned_step c clock (188 * k) o h r s ≡ running t → StateHolds c (suc k) 0 t
      unfolding owned_step
      owned_holds h r s t f hs (Owner.Stream i) o e =
          let slot = owner_slot c h.pid i o in
          let x = stepped_running c i s _ t e in
          rw x.state (packet_step_holds k i s _ fit slot.in_use hs (packet_of_lem i h r s slot f hs))
      owned_holds h r s t f hs Owner.System o e = subst (StateHolds c (suc k) 0) (same_running e) (system_holds s hs)
      owned_holds h r s t f hs Owner.Nobody o e = subst (StateHolds c (suc k) 0) (same_running e) (later k s hs)

      pub fact_holds : (f : Fact) (s t : State) → FactHolds f → StateHolds c k 0 s → fact_step c clock (188 * k) f s ≡ running t → StateHolds c (suc k) 0 t
      unfolding fact_step
      fact_holds unparsed s t fh hs e = subst (StateHolds c (suc k) 0) (same_running e) (later k s hs)
      fact_holds (parsed h r) s t fh hs e = owned_holds h r (timed c clock (188 * k) s) t fh (timed_holds s hs) (owner_of c h.pid) refl e
