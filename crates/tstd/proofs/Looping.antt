-- The loop over the packets of pass 2: its invariant, how it begins, the turn of each way through its body, and how it ends.
use Rattle.std.proofs.Common.{◌≡◌, ℕ, suc, ◌+◌, ◌*◌, ◌<◌, ◌≤◌, true, false, cond, leb, ◌⊎◌, List, [], length, get_or, take, drop, set, sym, refl, ap, ◌∙◌, subst, inl, inr, arith}
use lib.ListN.{length-map, get_or-map}
use lib.Ieee.{Float}
use Rattle.error.specs.declared.Refusal.{Refusal}
use Rattle.packet.specs.Packet.{parse_of}
use Rattle.std.specs.Prelude.{Option, Some, None, ⊤, Result, Err, is_err}
use Rattle.header.specs.declared.PacketHeader.{PacketHeader}
use Rattle.header.specs.Header.{header_of}
use Rattle.header.proofs.Headers.{unparsed_fails}
use Rattle.recording.specs.Read.{packet_at}
use Rattle.arrival.specs.Work.{start_of_arrival, next_arrival}
use Rattle.arrival.proofs.Covering.{starts}
use Rattle.events.specs.declared.Slots.{Slots}
use Rattle.events.specs.Slots.{noted_all}
use Rattle.branch.specs.declared.QueueFull.{QueueFull}
use Rattle.branch.specs.SysBranch.{rsys_of, sys_events}
use Rattle.branch.proofs.Rings.{next_multiple, outside_refl, outside_then, outside_wider}
use Rattle.profile.specs.declared.owner.Owner.{Owner}
use Rattle.profile.specs.Config.{streams_of, unused_stream}
use Rattle.profile.specs.declared.owner.Pids.{Pids}
use Rattle.profile.specs.Owner.{owner_of, pids_of}
use Rattle.profile.proofs.Ownership.{pids_owner}
use Rattle.summary.specs.Summary.{empty_slots, noted_found}
use Rattle.transport.specs.declared.Arrived.{Arrived}
use Rattle.scanner.proofs.Steps.{new_is as scanner-new-is}
use Rattle.model.specs.Chain as definition
use Rattle.model.specs.Chain.{step_branch}
use Rattle.model.specs.Replay.{State, started, stream_at, chain_at}
use Rattle.tstd.specs.declared.times.Times.{Times}
use Rattle.tstd.specs.declared.chain.Chain.{Chain}
use Rattle.tstd.specs.declared.front.SystemChain.{SystemChain}
use Rattle.tstd.specs.declared.run.Ran.{Ran as RanState}
use Rattle.tstd.specs.Owners.{header_owner, OwnersOf}
use Rattle.tstd.specs.Chain.{unused_chain, ChainsOf, arrived, PacketOf}
use Rattle.tstd.specs.Times.{start_times, next_times}
use Rattle.tstd.specs.Front.{new_system, system_run, system_pushed}
use Rattle.tstd.specs.Skips.{IsFree, IsUnparsed, SameInterval, free_times, unparsed_times, window_at, Passing, no_more, one_free, one_unparsed, Skips}
use Rattle.tstd.specs.Run.{Pass, stream_count, depth_of, work_length, Ready, packets_left, whole, Reached, before_all, one_more, At, queue_full, Through, RanTo}
use Rattle.tstd.proofs.Going.{packet_goes, packets_gone}
use Rattle.tstd.proofs.Steps.{PacketIs, packet_is, window_is, count_few, streams_counted, stream_used}
use Rattle.tstd.proofs.Turns.{Turned, Moves, replaced_set, stream_full, stream_turns}
use Rattle.tstd.proofs.ChainIs.{new_is, StepIs, branch_steps}
use Rattle.tstd.proofs.Skipping.{within_next}
use Rattle.tstd.proofs.Moves.{packet_moves, system_turns, nobody_turns, unparsed_turns}

pub record Looping (g : Pass) (ready : Ready g) (k at : ℕ) (w : List Float) (cs : List Chain) (system : SystemChain) (times : Times) (sl : Slots) : Type 0 where
  pub state : State
  pub now : At g ready k w cs system times sl state
  pub left : (n : ℕ) → whole g n ≡ packets_left g n k state
  pub reached : Reached g k state
  pub placed : at ≡ g.layout.sync_offset + k * g.layout.packet_size
  pub few : k ≤ g.count

-- the invariant as the loop states it
pub record LoopInv (g : Pass) (k at : ℕ) (w : List Float) (cs : List Chain) (system : SystemChain) (times : Times) (sl : Slots) : Type 0 where
  pub ready : Ready g
  pub loop : Looping g ready k at w cs system times sl

-- with what a `match` leaves in the variables
pub loop_as : {g : Pass} {k k' at at' : ℕ} {w : List Float} {cs : List Chain} {system : SystemChain} {times times' : Times} {sl : Slots}
    → times' ≡ times → at' ≡ at → k' ≡ k → LoopInv g (k + 1) (at + g.layout.packet_size) w cs system times sl
    → LoopInv g (k' + 1) (at' + g.layout.packet_size) w cs system times' sl
loop_as e f h x = rw (e, f, h) x

-- ---- its begin

module _ (g : Pass) (ready : Ready g) where
  in_work : (i : ℕ) → i < stream_count g → 8 * depth_of g * i + 8 * depth_of g ≤ length g.work
  in_work i h =
      let a = next_multiple (8 * depth_of g) i (stream_count g) h in
      let b = ready.parts in
      omega arith

  first_chain : (i : ℕ) → i < stream_count g → chain_at g.config (started g.config) i ≡ definition.new_chain (stream_at g.config i)
  unfolding started
  first_chain i h = get_or-map definition.new_chain (streams_of g.config) i unused_stream ∙ ap definition.new_chain (stream_used g i h)

  pub loop_starts : (cs : List Chain) (system : SystemChain) (times : Times) (sl : Slots) → ChainsOf g.config.streams (depth_of g) 8 cs → system ≡ new_system
      → (n : ℕ) → n ≡ suc g.last → times ≡ start_times (start_of_arrival g.times g.places n) → sl ≡ empty_slots
      → Looping g ready 0 g.layout.sync_offset g.work cs system times sl
  unfolding started new_system noted_found
  loop_starts cs system times sl ec es n en et₀ e =
      let et : times ≡ start_times (start_of_arrival g.times g.places (suc g.last)) = et₀ ∙ ap (λ (z : ℕ). start_times (start_of_arrival g.times g.places z)) en in
      let few = ready.few in
      record {
        state = started g.config;
        now = record {
          outside = outside_refl 0 (work_length g) g.work;
          size = ec.size;
          chains_size = length-map (streams_of g.config) definition.new_chain ∙ streams_counted g ready;
          chains = λ i h. rw (ec.at i (omega arith), first_chain i h) (new_is g.work (8 * depth_of g * i) (depth_of g) ready.some_depth (in_work i h) (stream_at g.config i));
          scanners = λ c i h o. rw (ec.at i (omega arith)) scanner-new-is;
          system_tb = ap (λ (z : SystemChain). z.tb) es;
          system_branch = ap (λ (z : SystemChain). z.branch) es;
          first = ap (λ (z : Times). z.first_time) et;
          last = ap (λ (z : Times). z.last_time) et;
          slots = e;
          arrival = λ c. rw et (starts g.times g.places g.last ready.room);
        };
        left = λ n. refl;
        reached = before_all;
        placed = omega arith;
        few = omega arith;
      }

-- ---- its turns

module _ (g : Pass) (ready : Ready g) (k at : ℕ) (w : List Float) (cs : List Chain) (system : SystemChain) (times : Times) (sl : Slots)
    (inv : Looping g ready k at w cs system times sl) (h : k < g.count) where
  pub loop_next : (u : List Float) (cs' : List Chain) (system' : SystemChain) (times' : Times) (sl' : Slots)
      → Turned g ready k inv.state u cs' system' times' sl' → Looping g ready (k + 1) (at + g.layout.packet_size) u cs' system' times' sl'
  loop_next u cs' system' times' sl' t =
      let e : suc k ≡ k + 1 = omega arith in
      let one : g.layout.sync_offset + suc k * g.layout.packet_size ≡ g.layout.sync_offset + k * g.layout.packet_size + g.layout.packet_size = omega arith in
      rw (← e)
      (record {
        state = t.state;
        now = t.at;
        left = packet_goes g inv.state k _ h inv.left t.step;
        reached = one_more {k = k} (omega arith) inv.reached t.step;
        placed = ap (λ (n : ℕ). n + g.layout.packet_size) inv.placed ∙ sym one;
        few = h;
      })

-- packets that no chain takes, behind one another
module _ (g : Pass) (ready : Ready g) (w : List Float) (cs : List Chain) (system : SystemChain) (sl : Slots) (owners : List ℕ)
    (is-owners : OwnersOf (pids_of g.config) owners) where
  header_at : (k at : ℕ) {t : Times} (L : Looping g ready k at w cs system t sl) (x : Option PacketHeader) → header_of (parse_of (window_at g.recording at)) ≡ x
      → header_of (parse_of (packet_at g.layout g.recording k)) ≡ x
  header_at k at L x e = ap (λ (l : List ℕ). header_of (parse_of l)) (sym (window_is g k at L.placed)) ∙ e

  free_turns : (k at : ℕ) (t : Times) (L : Looping g ready k at w cs system t sl) → k < g.count → SameInterval t.arrival → IsFree owners (window_at g.recording at)
      → Turned g ready k L.state w cs system (free_times t) sl
  unfolding next_times
  free_turns k at t L h i x =
      let p = packet_is g k x.header (header_at k at L _ x.is) in
      let o : owner_of g.config x.header.pid ≡ Owner.Nobody = sym (pids_owner g.config x.header.pid) ∙ sym (is-owners.owner x.header.pid x.small) ∙ x.nobodys in
      let o' : owner_of g.config p.packet.pid ≡ Owner.Nobody = ap (λ (y : PacketHeader). owner_of g.config y.pid) (sym p.header) ∙ o in
      let next : free_times t ≡ next_times (Some x.header) (next_arrival g.times g.places (suc g.last) t.arrival) t =
      sym (rw (within_next g.times g.places (suc g.last) t.arrival i) refl) in
      nobody_turns g ready k w cs system t (free_times t) sl L.state (Some x.header) L.now next h x.header refl p o'

  unparsed_turn : (k at : ℕ) (t : Times) (L : Looping g ready k at w cs system t sl) → k < g.count → SameInterval t.arrival → IsUnparsed (window_at g.recording at)
      → Turned g ready k L.state w cs system (unparsed_times t) sl
  unfolding next_times
  unparsed_turn k at t L h i x =
      let next : unparsed_times t ≡ next_times None (next_arrival g.times g.places (suc g.last) t.arrival) t =
      sym (rw (within_next g.times g.places (suc g.last) t.arrival i) refl) in
      unparsed_turns g ready k w cs system t (unparsed_times t) sl L.state None L.now next h (unparsed_fails _ (header_at k at L _ x.is)) refl

  pub skips_loop : {c : Times} {at₀ k₀ : ℕ} {t : Times} {at k : ℕ} → Passing g.recording g.layout.packet_size g.count owners c at₀ k₀ t at k
      → Looping g ready (k₀ + 1) (at₀ + g.layout.packet_size) w cs system c sl
      → Looping g ready (k + 1) (at + g.layout.packet_size) w cs system t sl
  skips_loop no_more L = L
  skips_loop (one_free n h i x) L₀ =
      let L = skips_loop n L₀ in
      loop_next g ready _ _ w cs system _ sl L h w cs system _ sl (free_turns _ _ _ L h i x)
  skips_loop (one_unparsed n h i x) L₀ =
      let L = skips_loop n L₀ in
      loop_next g ready _ _ w cs system _ sl L h w cs system _ sl (unparsed_turn _ _ _ L h i x)

module _ (g : Pass) (ready : Ready g) (k at : ℕ) (w : List Float) (cs : List Chain) (system : SystemChain) (times : Times) (sl : Slots)
    (inv : Looping g ready k at w cs system times sl) (h : k < g.count) where
  abbrev s : State
  s = inv.state

  module _ (window : List ℕ) (header : Option PacketHeader) (times' : Times) (is-window : window ≡ cond (leb (at + 188) (length g.recording)) (take 188 (drop at g.recording)) [])
      (is-header : header ≡ header_of (parse_of window)) (pids : Pids) (is-pids : pids ≡ pids_of g.config) (owner : Owner) (is-owner : owner ≡ header_owner pids header) (n : ℕ) (is-n : n ≡ suc g.last)
      (is-next : times' ≡ next_times header (next_arrival g.times g.places n times.arrival) times) where
    next : times' ≡ next_times header (next_arrival g.times g.places (suc g.last) times.arrival) times
    next = is-next ∙ ap (λ (z : ℕ). next_times header (next_arrival g.times g.places z times.arrival) times) is-n

    packet : window ≡ packet_at g.layout g.recording k
    packet = is-window ∙ window_is g k at inv.placed

    header_here : header_of (parse_of (packet_at g.layout g.recording k)) ≡ header
    header_here = sym (is-header ∙ ap (λ (l : List ℕ). header_of (parse_of l)) packet)

    packet_here : (y : PacketHeader) → header ≡ Some y → PacketIs g k y
    packet_here y e = packet_is g k y (header_here ∙ e)

    owner_here : (y : PacketHeader) → header ≡ Some y → (p : PacketIs g k y) → owner_of g.config p.packet.pid ≡ owner
    owner_here y e p =
        ap (λ (z : PacketHeader). owner_of g.config z.pid) (sym p.header)
        ∙ sym (pids_owner g.config y.pid)
        ∙ sym (is-owner ∙ rw (is-pids, e) refl)

    -- a packet of nobody, or one that does not parse
    module _ (free : (header ≡ None) ⊎ (owner ≡ Owner.Nobody)) where
      idle_turn : (x : Option PacketHeader) → header ≡ x → (header ≡ None) ⊎ (owner ≡ Owner.Nobody) → Turned g ready k s w cs system times' sl
      idle_turn None e f = unparsed_turns g ready k w cs system times times' sl s header inv.now next h (unparsed_fails _ (header_here ∙ e)) e
      idle_turn (Some y) e (inl f) =
          let d : Some y ≡ None = sym e ∙ f in
          absurd (cc)
      idle_turn (Some y) e (inr f) =
          let p = packet_here y e in
          nobody_turns g ready k w cs system times times' sl s header inv.now next h y e p (owner_here y e p ∙ f)

      -- with the packets behind it that no chain takes
      module _ (owners : List ℕ) (is-owners : OwnersOf pids owners) where
        pub skip_again : {t : Times} {at' k' : ℕ} → Skips g.recording g.layout.packet_size g.count owners times' at k t at' k'
            → (w₂ : List Float) (cs₂ : List Chain) (system₂ : SystemChain) (sl₂ : Slots)
            → w₂ ≡ w → cs₂ ≡ cs → system₂ ≡ system → sl₂ ≡ sl
            → LoopInv g (k' + 1) (at' + g.layout.packet_size) w₂ cs₂ system₂ t sl₂
        skip_again x w₂ cs₂ system₂ sl₂ ew ec es el =
            record {
              ready = ready;
              loop = rw (ew, ec, es, el)
                  (skips_loop g ready w cs system sl owners (rw (← is-pids) is-owners) x.passing (loop_next g ready k at w cs system times sl inv h w cs system times' sl (idle_turn header refl free)));
            }

    -- a packet of the system chain
    module _ (is-system : owner ≡ Owner.System) (system' : SystemChain) (sl' : Slots) (e : system' ≡ system_pushed system times'.arrival)
        (f : sl' ≡ noted_all 49 (sys_events system.branch (system_run system times'.arrival) (rsys_of times'.arrival.cursor.interval.rate)) sl) where
      system_turn : (x : Option PacketHeader) → header ≡ x → Turned g ready k s w cs system' times' sl'
      system_turn None q =
          let d : Owner.System ≡ Owner.Nobody = sym is-system ∙ is-owner ∙ rw q refl in
          absurd (cc)
      system_turn (Some y) q =
          let p = packet_here y q in
          system_turns g ready k w cs system times times' sl s header inv.now next h y q p (owner_here y q p ∙ is-system) system' sl' e f

      pub system_again : (w₂ : List Float) (cs₂ : List Chain) (system₂ : SystemChain) (sl₂ : Slots)
          → w₂ ≡ w → cs₂ ≡ cs → system₂ ≡ system' → sl₂ ≡ sl'
          → LoopInv g (k + 1) (at + g.layout.packet_size) w₂ cs₂ system₂ times' sl₂
      system_again w₂ cs₂ system₂ sl₂ ew ec es el =
          record { ready = ready; loop = rw (ew, ec, es, el) (loop_next g ready k at w cs system times sl inv h w cs system' times' sl' (system_turn header refl)) }

    -- a packet of stream i
    module _ (i : ℕ) (is-stream : owner ≡ Owner.Stream i) (y : PacketHeader) (is-y : header ≡ Some y) (c c' : Chain) (is-c : c ≡ get_or cs i unused_chain) (r : Result ⊤ QueueFull) (u : List Float) (sl' : Slots)
        (q : PacketOf w c window y times'.arrival (1 + 6 * i) sl r c' u sl') where
      -- the same, of the packet and the chain in the list
      here : PacketOf w (get_or cs i unused_chain) (packet_at g.layout g.recording k) y times'.arrival (1 + 6 * i) sl r c' u sl'
      here = rw (is-c, packet) at q

      abbrev d : Arrived
      d = arrived (get_or cs i unused_chain) (packet_at g.layout g.recording k) y times'.arrival

      moves : Moves g ready k s i c'.tb c'.scanner d.delivered false times'.arrival.t0 times' sl sl
      moves =
          let p = packet_here y is-y in
          rw here.tb (packet_moves g ready k w cs system times times' sl s header inv.now next h y is-y p i (owner_here y is-y p ∙ is-stream) d c'.scanner refl here.scanner)

      in_eight : i < 8
      in_eight =
          let a = ready.few in
          let b = moves.in_use in
          omega arith

      step : StepIs w u (stream_at g.config i).model.branch (8 * depth_of g * i) (depth_of g) k (1 + 6 * i) sl sl' (step_branch (stream_at g.config i).model.branch (depth_of g) d.delivered false times'.arrival.t0 (chain_at g.config s i).branch) r c'.branch
      step =
          let chain = inv.now.chains i moves.in_use in
          let few = count_few g ready in
          branch_steps w u (8 * depth_of g * i) (depth_of g) k (1 + 6 * i) sl sl' r chain.room (omega (arith, in_eight)) (omega arith) c'.branch d.delivered times'.arrival.t0 chain.branch here.branch

      -- a push met a full queue, and the loop is left
      pub stream_refuses : (u₂ : List Float) → u₂ ≡ u → is_err r ≡ true → (x : Refusal) → x ≡ queue_full g.config k i → RanTo g (Err x) u₂
      stream_refuses u₂ eu e x f =
          rw eu
          (record {
            ready = ready;
            outside = outside_then inv.now.outside (outside_wider (omega arith) (next_multiple (8 * depth_of g) i (stream_count g) moves.in_use) step.outside);
            refused = λ z same n.
                (let z-is : x ≡ z = cc in
                rw (← z-is, f)
                (packet_goes g s k _ h inv.left (stream_full g ready k w u cs cs system times times' sl sl sl' s i c' d.delivered false times'.arrival.t0 r inv.now moves step e) n));
            finishes = λ z same. absurd (cc);
          })

      -- the loop goes on
      pub stream_again : (w₂ : List Float) (cs₂ : List Chain) (system₂ : SystemChain) (sl₂ : Slots) → w₂ ≡ u → cs₂ ≡ set cs i c' → system₂ ≡ system → sl₂ ≡ sl' → is_err r ≡ false
          → LoopInv g (k + 1) (at + g.layout.packet_size) w₂ cs₂ system₂ times' sl₂
      stream_again w₂ cs₂ system₂ sl₂ ew ec es el e =
          record {
            ready = ready;
            loop = rw (ew, ec, es, el)
                (loop_next g ready k at w cs system times sl inv h u (set cs i c') system times' sl'
                (stream_turns g ready k w u cs (set cs i c') system times times' sl sl sl' s i c' d.delivered false times'.arrival.t0 r inv.now moves step (replaced_set unused_chain cs i c' inv.now.size in_eight) e));
          }

-- ---- its end

pub loop_ends : (g : Pass) (ready : Ready g) (k at : ℕ) (w : List Float) (cs : List Chain) (system : SystemChain) (times : Times) (sl : Slots)
    → Looping g ready k at w cs system times sl → g.count ≤ k → (r : RanState) → r.chains ≡ cs → r.system ≡ system → r.times ≡ times → r.slots ≡ sl
    → Through g ready 0 r w
loop_ends g ready k at w cs system times sl inv h r ec es em esl =
    let e : k ≡ g.count + 0 = (let a = inv.few in omega arith) in
    record {
      state = inv.state;
      reached = subst (λ (n : ℕ). Reached g n inv.state) e inv.reached;
      at = rw (← e, ec, es, em, esl) inv.now;
      left = packets_gone g inv.state k (omega arith) inv.left;
    }
