-- The step of pass 2 by the owner of its packet: a stream's packet, its end, the system chain's packet, and a packet that no chain takes.
use Rattle.std.proofs.Common.{◌≡◌, ℕ, suc, ◌+◌, ◌*◌, ◌<◌, Bool, true, false, ◌||◌, eqb, ◌≢◌, List, [], ◌∷◌, ◌++◌, length, get_or, sym, refl, ap, ◌∙◌, true≢false, arith}
use lib.Ieee.{Float}
use Rattle.ieee.specs.Binary64.{0f, 188f}
use Rattle.ieee.specs.MaxMin.{max_of, min_of}
use Rattle.pes.specs.StreamId.{member}
use Rattle.packet.specs.declared.TsPacket.{TsPacket}
use Rattle.packet.specs.Packet.{parse_of}
use Rattle.packet.proofs.Parsed as packet-bounds
use Rattle.std.specs.Prelude.{Option, Some, None}
use Rattle.header.specs.declared.PacketHeader.{PacketHeader}
use Rattle.header.proofs.Headers.{Fails}
use Rattle.scanner.specs.declared.Runs.{Runs}
use Rattle.scanner.specs.Unit.{Open, next_open, runs_in}
use Rattle.scanner.specs.State.{scanner_of}
use Rattle.recording.specs.Read.{parsed, is_stream, packet_at, payload_in, opens_at, fact_at}
use Rattle.recording.proofs.Facts.{opens_own, opens_other, fact_stream, fact_other}
use Rattle.arrival.specs.declared.PacketArrival.{PacketArrival}
use Rattle.arrival.specs.Bounds.{IntervalWithin}
use Rattle.arrival.specs.Times.{arrival_at, covering}
use Rattle.arrival.specs.Work.{intervals_in, next_arrival}
use Rattle.arrival.proofs.Within.{covering_within}
use Rattle.arrival.proofs.Covering.{AtEnd}
use Rattle.events.specs.declared.Slots.{Slots}
use Rattle.events.specs.Slots.{noted_all}
use Rattle.fifo.specs.FluidFifo.{pushed}
use Rattle.branch.specs.declared.Run.{Run}
use Rattle.branch.specs.SysBranch.{rsys_of, sys_events}
use Rattle.profile.specs.declared.config.TStdConfig.{TStdConfig}
use Rattle.profile.specs.declared.owner.Owner.{Owner}
use Rattle.profile.specs.Config.{stream_pids}
use Rattle.profile.specs.Owner.{owner_of, contains}
use Rattle.profile.proofs.Ownership as ownership
use Rattle.profile.proofs.Ownership.{OwnerSlot, owner_slot}
use Rattle.fifo.specs.declared.FluidFifo.{FluidFifo}
use Rattle.scanner.specs.declared.PesScanner.{PesScanner}
use Rattle.transport.specs.declared.Arrived.{Arrived}
use Rattle.transport.specs.Arrive.{nothing, stamp_time, arrive}
use Rattle.transport.specs.Transport.{Transport, Passed, arrived_of}
use Rattle.transport.proofs.Arrivals.{Extendable, within_extendable, arrive_scanner, arrive_tb, arrive_delivered}
use Rattle.branch.specs.declared.Delivered.{Delivered}
use Rattle.profile.specs.declared.model.TStdBranch.{TStdBranch}
use Rattle.model.specs.Chain.{Branch, step_branch, Stepped, packet_step, tb_events, end_step}
use Rattle.model.specs.Replay as definition
use Rattle.model.specs.Replay.{State, stream_at, chain_at, streams_read, stepped, owned_step, system_step, fact_step}
use Rattle.tstd.specs.declared.times.Times.{Times}
use Rattle.tstd.specs.declared.front.SystemChain.{SystemChain}
use Rattle.tstd.specs.declared.chain.Chain.{Chain}
use Rattle.tstd.specs.Chain.{unused_chain, scanned, arrived}
use Rattle.tstd.specs.Times.{next_times}
use Rattle.tstd.specs.Front.{system_run, system_pushed}
use Rattle.tstd.specs.Run.{Pass, stream_count, depth_of, clock_of, Ready, step_of, At}
use Rattle.tstd.proofs.ChainIs.{chain_more}
use Rattle.tstd.proofs.Steps.{PacketIs, Arrives, packet_few, arrives, step_packet, step_end_at, step_unparsed, unparsed_opens, stream_used}
use Rattle.tstd.proofs.Turns.{Turned, noted_more, Moves}
use Rattle.tstd.proofs.Scanned.{front_is}

-- the streams by which a recording is read are those of the profile
contains_member : (l : List ℕ) (x : ℕ) → contains l x ≡ member x l
unfolding contains
contains_member [] x = refl
contains_member (p ∷ l) x = ap (λ (b : Bool). eqb p x || b) (contains_member l x)

read_stream : (c : TStdConfig) (pid : ℕ) → is_stream (streams_read c) pid ≡ ownership.is_stream (owner_of c pid)
unfolding is_stream
read_stream c pid = sym (contains_member (stream_pids c) pid) ∙ sym (ownership.is_stream_lem (stream_pids c) _ pid)

-- of two streams that own their PIDs a packet of the one's is none of the other's
not_owned : (c : TStdConfig) (pid i j : ℕ) → owner_of c (stream_at c j).pid ≡ Owner.Stream j → owner_of c pid ≡ Owner.Stream i → j ≢ i → pid ≡ (stream_at c j).pid → ⊥
not_owned c pid i j own o n e =
    let f : Owner.Stream i ≡ Owner.Stream j = sym o ∙ ap (owner_of c) e ∙ own in
    let h : j ≡ i = cc in
    n h

not_system : (c : TStdConfig) (pid j : ℕ) → owner_of c (stream_at c j).pid ≡ Owner.Stream j → ownership.is_stream (owner_of c pid) ≡ false → pid ≡ (stream_at c j).pid → ⊥
not_system c pid j own o e =
    let f : ownership.is_stream (owner_of c pid) ≡ true = ap ownership.is_stream (ap (owner_of c) e ∙ own) in
    true≢false (sym f ∙ o)

clock_within : (g : Pass) (ready : Ready g) (p : ℕ) → IntervalWithin (covering p (clock_of g))
unfolding intervals_in
clock_within g ready p = covering_within p _ _ ready.within

same_step : (m : TStdBranch) (depth : ℕ) (b : Branch) {d d' : Delivered} {end end' : Bool} {t t' : Float} → d ≡ d' → end ≡ end' → t ≡ t' → step_branch m depth d end t b ≡ step_branch m depth d' end' t' b
same_step m depth b e f h = rw (e, f, h) refl

module _ (g : Pass) (ready : Ready g) (k : ℕ) (w : List Float) (cs : List Chain) (system : SystemChain) (times times' : Times) (sl : Slots) (s : State) (header : Option PacketHeader)
    (now : At g ready k w cs system times sl s) (next : times' ≡ next_times header (next_arrival g.times g.places (suc g.last) times.arrival) times) (h : k < g.count) where
  -- ---- a packet that parses
  module _ (y : PacketHeader) (is : header ≡ Some y) (p : PacketIs g k y) where
    abbrev x : TsPacket
    x = p.packet

    abbrev coming : PacketArrival
    coming = next_arrival g.times g.places (suc g.last) times.arrival

    come : Arrives g ready k coming
    come = arrives g ready k times.arrival h (now.arrival (omega arith))

    times_are : times' ≡ record { arrival = coming; first_time = min_of times.first_time coming.t0; last_time = max_of times.last_time coming.t1 }
    unfolding next_times
    times_are = next ∙ ap (λ (z : Option PacketHeader). next_times z coming times) is

    abbrev timed : State
    timed = definition.timed g.config (clock_of g) (188 * k) s

    first_is : times'.first_time ≡ timed.first_time
    unfolding definition.timed
    first_is = ap (λ (z : Times). z.first_time) times_are ∙ rw (now.first, come.t0) refl

    last_is : times'.last_time ≡ timed.last_time
    unfolding definition.timed
    last_is = ap (λ (z : Times). z.last_time) times_are ∙ rw (now.last, come.t1) refl

    arrival_at_lem : AtEnd g.times g.places g.last ready.room (suc k) times'.arrival
    arrival_at_lem = rw times_are come.at

    step_owned : (r : Runs) → fact_at g.layout (streams_read g.config) g.recording k ≡ parsed x r
        → step_of g k s ≡ owned_step g.config (clock_of g) (188 * k) (owner_of g.config x.pid) x r timed
    unfolding fact_step
    step_owned r e = step_packet g k s h ∙ rw e refl

    -- of a stream
    module _ (i : ℕ) (o : owner_of g.config x.pid ≡ Owner.Stream i) (d : Arrived) (s' : PesScanner)
        (is-d : d ≡ arrived (get_or cs i unused_chain) (packet_at g.layout g.recording k) y times'.arrival) (is-s : s' ≡ (scanned (get_or cs i unused_chain).scanner (packet_at g.layout g.recording k) y).scanner) where
      abbrev old : Transport
      old = record { tb = (get_or cs i unused_chain).tb; scanner = (get_or cs i unused_chain).scanner }

      abbrev a : Passed
      a = record { transport = record { tb = d.tb; scanner = s' }; delivered = d.delivered }

      slot_is : OwnerSlot g.config x.pid i
      slot_is = owner_slot g.config x.pid i o

      owns : owner_of g.config (stream_at g.config i).pid ≡ Owner.Stream i
      owns = ap (owner_of g.config) slot_is.pid_there ∙ o

      abbrev before : Open
      before = opens_at g.layout g.recording k x.pid

      abbrev payload : List ℕ
      payload = payload_in (packet_at g.layout g.recording k) x

      abbrev runs : Runs
      runs = runs_in (next_open before x.payload_unit_start payload) (length payload)

      keeps : (get_or cs i unused_chain).scanner ≡ scanner_of before
      keeps = now.scanners (omega arith) i slot_is.counted owns ∙ ap (λ (q : ℕ). scanner_of (opens_at g.layout g.recording k q)) slot_is.pid_there

      fact_is : fact_at g.layout (streams_read g.config) g.recording k ≡ parsed x runs
      fact_is =
          fact_stream g.layout g.recording k x p.parse (streams_read g.config) (read_stream g.config x.pid ∙ ap ownership.is_stream o)
          ∙ ap (λ (z : Open). parsed x (runs_in z (length payload))) (opens_own g.layout g.recording k x p.parse)

      abbrev arrived_now : Passed
      arrived_now =
          arrived_of old (packet_at g.layout g.recording k) x.payload_start x.payload_unit_start coming.t0 coming.t1 coming.cursor.interval

      arrives_so : a ≡ arrived_now
      arrives_so =
          front_is (get_or cs i unused_chain) (packet_at g.layout g.recording k) y times'.arrival before keeps (packet_few g.layout g.recording k) (rw p.header (packet-bounds.parsed _ x p.parse).start_high) d s' is-d is-s
          ∙ ap
          (λ (z : PacketHeader).
          arrived_of old (packet_at g.layout g.recording k) z.payload_start z.payload_unit_start times'.arrival.t0 times'.arrival.t1 times'.arrival.cursor.interval)
          p.header
          ∙ ap
          (λ (z : Times).
          arrived_of old (packet_at g.layout g.recording k) x.payload_start x.payload_unit_start z.arrival.t0 z.arrival.t1 z.arrival.cursor.interval)
          times_are

      extendable : Extendable coming.cursor.interval
      extendable = within_extendable coming.cursor.interval (rw come.interval (clock_within g ready (188 * k + 188)))

      abbrev theirs : Arrived
      theirs = arrive (chain_at g.config s i).tb x.payload_start runs (arrival_at (clock_of g) (188 * k)) (arrival_at (clock_of g) (188 * k + 188)) (stamp_time (covering (188 * k + 188) (clock_of g)) runs.decode_ts)

      tb_is : (get_or cs i unused_chain).tb ≡ (chain_at g.config s i).tb
      tb_is = (now.chains i slot_is.counted).tb

      arrived_tb : d.tb ≡ theirs.tb
      arrived_tb =
          ap (λ (z : Passed). z.transport.tb) arrives_so
          ∙ arrive_tb old before keeps _ _ _ _ _ _ extendable
          ∙ rw (tb_is, come.t0, come.t1, come.interval) refl

      arrived_delivered : d.delivered ≡ theirs.delivered
      arrived_delivered =
          ap (λ (z : Passed). z.delivered) arrives_so
          ∙ arrive_delivered old before keeps _ _ _ _ _ _ extendable
          ∙ rw (tb_is, come.t0, come.t1, come.interval) refl

      start_is : times'.arrival.t0 ≡ arrival_at (clock_of g) (188 * k)
      start_is = ap (λ (z : Times). z.arrival.t0) times_are ∙ come.t0

      step_stream : (st : Stepped)
          → st ≡ step_branch (stream_at g.config i).model.branch (depth_of g) d.delivered false times'.arrival.t0 (chain_at g.config s i).branch
          → step_of g k s ≡ stepped g.config i timed (record { full = st.full; chain = record { tb = d.tb; branch = st.branch }; events = [] ++ st.events })
      unfolding owned_step packet_step definition.timed
      step_stream st e =
          let e' : st ≡ step_branch (stream_at g.config i).model.branch (depth_of g) theirs.delivered false (arrival_at (clock_of g) (188 * k)) (chain_at g.config s i).branch =
          e
          ∙ same_step (stream_at g.config i).model.branch (depth_of g) (chain_at g.config s i).branch arrived_delivered refl start_is in
          step_owned runs fact_is ∙ rw (o, arrived_tb, e') refl

      pub packet_moves : Moves g ready k s i d.tb s' d.delivered false times'.arrival.t0 times' sl sl
      unfolding definition.timed noted_all
      packet_moves =
          record {
            in_use = slot_is.counted;
            timed = timed;
            before = [];
            chains = refl;
            sys_tb = refl;
            sys = refl;
            events = refl;
            first = first_is;
            last = last_is;
            noted = refl;
            step = step_stream;
            arrival = λ c. arrival_at_lem;
            own = λ c r.
                ap (λ (z : Passed). z.transport.scanner) arrives_so
                ∙ arrive_scanner old before keeps _ _ _ _ _ _
                ∙ ap scanner_of (sym (opens_own g.layout g.recording k x p.parse) ∙ ap (opens_at g.layout g.recording (suc k)) (sym slot_is.pid_there));
            others = λ c j n l r. opens_other g.layout g.recording k x p.parse _ (λ e. not_owned g.config x.pid i j r o n e);
          }

    -- of the system chain
    module _ (o : owner_of g.config x.pid ≡ Owner.System) (system' : SystemChain) (sl' : Slots) (e : system' ≡ system_pushed system times'.arrival)
        (f : sl' ≡ noted_all 49 (sys_events system.branch (system_run system times'.arrival) (rsys_of times'.arrival.cursor.interval.rate)) sl) where
      abbrev run : Run
      run =
          let z = pushed s.sys_tb (arrival_at (clock_of g) (188 * k)) (arrival_at (clock_of g) (188 * k + 188)) 188f in
          record { t0 = z.start; t1 = z.end; bytes = 188f }

      pub system_turns : Turned g ready k s w cs system' times' sl'
      unfolding system_pushed system_step definition.timed owned_step
      system_turns =
          record {
            state = system_step g.config (clock_of g) (188 * k) timed;
            step = step_owned _ (fact_other g.layout g.recording k x p.parse (streams_read g.config) off) ∙ rw o refl;
            at = record {
              outside = now.outside;
              size = now.size;
              chains_size = now.chains_size;
              chains = λ j l. chain_more (now.chains j l) (omega arith);
              scanners = λ c j l r. now.scanners (omega arith) j l r ∙ ap scanner_of (sym (opens_other g.layout g.recording k x p.parse _ (λ z. not_system g.config x.pid j r (ap ownership.is_stream o) z)));
              system_tb = ap (λ (z : SystemChain). z.tb) e ∙ rw (times_are, now.system_tb, come.t0, come.t1) refl;
              system_branch = ap (λ (z : SystemChain). z.branch) e ∙ rw (times_are, now.system_tb, now.system_branch, come.t0, come.t1, come.interval) refl;
              first = first_is;
              last = last_is;
              slots = noted_more 8 s.events (sys_events s.sys run (rsys_of (covering (188 * k + 188) (clock_of g)).rate)) sl sl' now.slots (f ∙ rw (times_are, now.system_tb, now.system_branch, come.t0, come.t1, come.interval) refl);
              arrival = λ c. arrival_at_lem;
            };
          }
        where
          off : is_stream (streams_read g.config) x.pid ≡ false
          off = read_stream g.config x.pid ∙ ap ownership.is_stream o

    -- of nobody
    pub nobody_turns : owner_of g.config x.pid ≡ Owner.Nobody → Turned g ready k s w cs system times' sl
    unfolding definition.timed owned_step
    nobody_turns o =
        record {
          state = timed;
          step = step_owned _ (fact_other g.layout g.recording k x p.parse (streams_read g.config) (read_stream g.config x.pid ∙ ap ownership.is_stream o)) ∙ rw o refl;
          at = record {
            outside = now.outside;
            size = now.size;
            chains_size = now.chains_size;
            chains = λ j l. chain_more (now.chains j l) (omega arith);
            scanners = λ c j l r. now.scanners (omega arith) j l r ∙ ap scanner_of (sym (opens_other g.layout g.recording k x p.parse _ (λ z. not_system g.config x.pid j r (ap ownership.is_stream o) z)));
            system_tb = now.system_tb;
            system_branch = now.system_branch;
            first = first_is;
            last = last_is;
            slots = now.slots;
            arrival = λ c. arrival_at_lem;
          };
        }

  -- ---- a packet that does not parse
  pub unparsed_turns : Fails (parse_of (packet_at g.layout g.recording k)) → header ≡ None → Turned g ready k s w cs system times' sl
  unfolding next_times
  unparsed_turns f e =
      record {
        state = s;
        step = step_unparsed g k s h f;
        at = record {
          outside = now.outside;
          size = now.size;
          chains_size = now.chains_size;
          chains = λ j l. chain_more (now.chains j l) (omega arith);
          scanners = λ c j l r. now.scanners (omega arith) j l r ∙ ap scanner_of (sym (unparsed_opens g k s f _));
          system_tb = now.system_tb;
          system_branch = now.system_branch;
          first = ap (λ (z : Times). z.first_time) are ∙ now.first;
          last = ap (λ (z : Times). z.last_time) are ∙ now.last;
          slots = now.slots;
          arrival = λ c. rw are (arrives g ready k times.arrival h (now.arrival (omega arith))).at;
        };
      }
    where
      are : times' ≡ record { arrival = next_arrival g.times g.places (suc g.last) times.arrival; first_time = times.first_time; last_time = times.last_time }
      are = next ∙ rw e refl

-- ---- the end of stream i
module _ (g : Pass) (ready : Ready g) (i : ℕ) (w : List Float) (cs : List Chain) (system : SystemChain) (times : Times) (sl : Slots) (s : State)
    (now : At g ready (g.count + i) w cs system times sl s) (used : i < stream_count g) (t : FluidFifo) (x : PesScanner) (is-t : t ≡ (get_or cs i unused_chain).tb) where
  tb_here : t ≡ (chain_at g.config s i).tb
  tb_here = is-t ∙ (now.chains i used).tb

  step_ends : (st : Stepped)
      → st ≡ step_branch (stream_at g.config i).model.branch (depth_of g) nothing true 0f (chain_at g.config s i).branch
      → step_of g (g.count + i) s ≡ stepped g.config i s (record { full = st.full; chain = record { tb = t; branch = st.branch }; events = tb_events t ++ st.events })
  unfolding end_step
  step_ends st z = step_end_at g i s ∙ rw (stream_used g i used, tb_here, z) refl

  pub end_moves : Moves g ready (g.count + i) s i t x nothing true 0f times sl (noted_all (1 + 6 * i) (tb_events t) sl)
  end_moves =
      record {
        in_use = used;
        timed = s;
        before = tb_events t;
        chains = refl;
        sys_tb = refl;
        sys = refl;
        events = refl;
        first = now.first;
        last = now.last;
        noted = refl;
        step = step_ends;
        arrival = λ c. absurd (omega arith);
        own = λ c r. absurd (omega arith);
        others = λ c j n l r. absurd (omega arith);
      }
