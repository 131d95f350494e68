-- The turns of pass 2: from what the arrays, the work and the slots are behind k steps, to what they are behind one more.
use Rattle.std.proofs.Common.{◌≡◌, ℕ, suc, ◌+◌, ◌*◌, ◌<◌, ◌≤◌, Bool, true, false, eqb, ltb, ◌≢◌, ◌⊎◌, List, ◌++◌, map, length, get_or, set, sym, refl, ap, ◌∙◌, subst, inl, inr, arith, length-set, get_or-set_other, get_or-set_same, ltb-false, ltb-true, eqb-true}
use lib.Ieee.{Float}
use borrow.Author.Tests.{eqb-false}
use Rattle.scanner.specs.State.{scanner_of}
use Rattle.recording.specs.Read.{opens_at}
use Rattle.arrival.proofs.Covering.{AtEnd}
use Rattle.events.specs.declared.Event.{Event}
use Rattle.events.specs.declared.Slots.{Slots}
use Rattle.events.specs.Slots.{noted_all}
use Rattle.events.proofs.Noted.{noted_all_append_lem}
use Rattle.std.specs.Prelude.{⊤, Result, is_err}
use Rattle.branch.specs.declared.Delivered.{Delivered}
use Rattle.branch.specs.declared.QueueFull.{QueueFull}
use Rattle.branch.proofs.Rings.{next_multiple, outside_then, outside_wider}
use Rattle.profile.specs.declared.owner.Owner.{Owner}
use Rattle.profile.specs.declared.config.TStdStream.{TStdStream}
use Rattle.profile.specs.Config.{unused_stream}
use Rattle.profile.specs.Owner.{owner_of}
use Rattle.summary.specs.Summary.{Found, found, empty_slots, noted_found}
use Rattle.summary.proofs.Agree.{noted_chain, noted_append}
use Rattle.fifo.specs.declared.FluidFifo.{FluidFifo}
use Rattle.scanner.specs.declared.PesScanner.{PesScanner}
use Rattle.model.specs.Chain as definition
use Rattle.model.specs.Chain.{step_branch, Stepped}
use Rattle.model.specs.Replay.{State, running, full, stream_at, chain_at, stepped, with_events}
use Rattle.tstd.specs.declared.times.Times.{Times}
use Rattle.tstd.specs.declared.front.SystemChain.{SystemChain}
use Rattle.tstd.specs.declared.chain.Chain.{Chain}
use Rattle.tstd.specs.Chain.{unused_chain}
use Rattle.tstd.specs.InWork.{ChainIs}
use Rattle.tstd.specs.Run.{Pass, stream_count, depth_of, Ready, step_of, ChainAt, At}
use Rattle.tstd.proofs.ChainIs.{StepIs, chain_kept, chain_more}

-- the step goes on to a state, which is that of the loop behind it
pub record Turned (g : Pass) (ready : Ready g) (k : ℕ) (s : State) (w : List Float) (cs : List Chain) (system : SystemChain) (times : Times) (sl : Slots) : Type 0 where
  pub state : State
  pub step : step_of g k s ≡ running state
  pub at : At g ready (suc k) w cs system times sl state

-- events of chain i, behind those so far
pub noted_more : (i : ℕ) (fs : List Found) (es : List Event) (sl sl' : Slots) → sl ≡ noted_found fs empty_slots → sl' ≡ noted_all (1 + 6 * i) es sl → sl' ≡ noted_found (with_events fs i es) empty_slots
noted_more i fs es sl sl' e f = f ∙ ap (noted_all (1 + 6 * i) es) e ∙ noted_chain i es (noted_found fs empty_slots) ∙ sym (noted_append fs (map (found i) es) empty_slots)

-- one element of a list, of eight, is another
pub record Replaced {A : Type 0} (d : A) (xs : List A) (i : ℕ) (x : A) (ys : List A) : Type 0 where
  pub size : length ys ≡ 8
  pub same : get_or ys i d ≡ x
  pub other : (j : ℕ) → j ≢ i → get_or ys j d ≡ get_or xs j d

pub replaced_set : {A : Type 0} (d : A) (xs : List A) (i : ℕ) (x : A) → length xs ≡ 8 → i < 8 → Replaced d xs i x (set xs i x)
replaced_set d xs i x e h =
    record { size = length-set xs i x ∙ e; same = get_or-set_same xs i x d (rw e h); other = λ j n. get_or-set_other xs i j x d n }

same_by : (j i : ℕ) (t : Bool) → eqb j i ≡ t → (j ≡ i) ⊎ (j ≢ i)
same_by j i true e = inl (eqb-true j i e)
same_by j i false e = inr (eqb-false j i e)

same_or_other : (j i : ℕ) → (j ≡ i) ⊎ (j ≢ i)
same_or_other j i = same_by j i (eqb j i) refl

-- parts of the work of two streams lie apart
apart_by : (d i j : ℕ) (t r : Bool) → ltb j i ≡ t → ltb i j ≡ r → j ≢ i → (8 * d * j + 8 * d ≤ 8 * d * i) ⊎ (8 * d * i + 8 * d ≤ 8 * d * j)
apart_by d i j true r e f n = inl (next_multiple (8 * d) j i (ltb-true j i e))
apart_by d i j false true e f n = inr (next_multiple (8 * d) i j (ltb-true i j f))
apart_by d i j false false e f n =
    let a = ltb-false j i e in
    let b = ltb-false i j f in
    let z : j ≡ i = omega arith in
    absurd (n z)

parts_apart : (d i j : ℕ) → j ≢ i → (8 * d * j + 8 * d ≤ 8 * d * i) ⊎ (8 * d * i + 8 * d ≤ 8 * d * j)
parts_apart d i j n = apart_by d i j (ltb j i) (ltb i j) refl refl n

-- a step of the stream i: `timed` is s with its times, t its transport buffer and x its scanner behind the step, `before` the events that it notes before the branch's
pub record Moves (g : Pass) (ready : Ready g) (k : ℕ) (s : State) (i : ℕ) (t : FluidFifo) (x : PesScanner) (d : Delivered) (end : Bool) (time : Float) (times : Times) (sl sl₁ : Slots) : Type 0 where
  pub in_use : i < stream_count g
  pub timed : State
  pub before : List Event
  pub chains : timed.chains ≡ s.chains
  pub sys_tb : timed.sys_tb ≡ s.sys_tb
  pub sys : timed.sys ≡ s.sys
  pub events : timed.events ≡ s.events
  pub first : times.first_time ≡ timed.first_time
  pub last : times.last_time ≡ timed.last_time
  pub noted : sl₁ ≡ noted_all (1 + 6 * i) before sl
  pub step : (st : Stepped) → st ≡ step_branch (stream_at g.config i).model.branch (depth_of g) d end time (chain_at g.config s i).branch
      → step_of g k s ≡ stepped g.config i timed (record { full = st.full; chain = record { tb = t; branch = st.branch }; events = before ++ st.events })
  pub arrival : suc k ≤ g.count → AtEnd g.times g.places g.last ready.room (suc k) times.arrival
  pub own : suc k ≤ g.count → owner_of g.config (stream_at g.config i).pid ≡ Owner.Stream i
      → x ≡ scanner_of (opens_at g.layout g.recording (suc k) (stream_at g.config i).pid)
  pub others : suc k ≤ g.count → (j : ℕ) → j ≢ i → j < stream_count g → owner_of g.config (stream_at g.config j).pid ≡ Owner.Stream j
      → opens_at g.layout g.recording (suc k) (stream_at g.config j).pid ≡ opens_at g.layout g.recording k (stream_at g.config j).pid

-- a chain in another list of chains, at the same place
same_chain : {w : List Float} {s : TStdStream} {base depth k : ℕ} {c : Chain} {x y : definition.Chain} → x ≡ y → ChainIs w s base depth k c x → ChainIs w s base depth k c y
same_chain {w} {s} {base} {depth} {k} {c} e a = subst (ChainIs w s base depth k c) e a

module _ (g : Pass) (ready : Ready g) (k : ℕ) (w u : List Float) (cs cs' : List Chain) (system : SystemChain) (times times' : Times) (sl sl₁ sl' : Slots) (s : State)
    (i : ℕ) (c : Chain) (d : Delivered) (end : Bool) (time : Float) (r : Result ⊤ QueueFull)
    (now : At g ready k w cs system times sl s) (m : Moves g ready k s i c.tb c.scanner d end time times' sl sl₁)
    (x : StepIs w u (stream_at g.config i).model.branch (8 * depth_of g * i) (depth_of g) k (1 + 6 * i) sl₁ sl' (step_branch (stream_at g.config i).model.branch (depth_of g) d end time (chain_at g.config s i).branch) r c.branch) where
  abbrev st : Stepped
  st = step_branch (stream_at g.config i).model.branch (depth_of g) d end time (chain_at g.config s i).branch

  abbrev chain : definition.Chain
  chain = record { tb = c.tb; branch = st.branch }

  -- a push met a full queue
  pub stream_full : is_err r ≡ true → step_of g k s ≡ full (stream_at g.config i).pid
  unfolding stepped
  stream_full f = m.step st refl ∙ rw (sym x.full ∙ f) refl

  abbrev after : State
  after =
      record {
        chains = set m.timed.chains i chain;
        sys_tb = m.timed.sys_tb;
        sys = m.timed.sys;
        first_time = m.timed.first_time;
        last_time = m.timed.last_time;
        events = with_events m.timed.events i (m.before ++ st.events);
      }

  steps_on : is_err r ≡ false → step_of g k s ≡ running after
  unfolding stepped
  steps_on f = m.step st refl ∙ rw (sym x.full ∙ f) refl

  noted : sl' ≡ noted_all (1 + 6 * i) (m.before ++ st.events) sl
  noted = x.slots ∙ ap (noted_all (1 + 6 * i) st.events) m.noted ∙ sym (noted_all_append_lem (1 + 6 * i) m.before st.events sl)

  module _ (rc : Replaced unused_chain cs i c cs') where
    chains_at : (j : ℕ) → j < stream_count g → (j ≡ i) ⊎ (j ≢ i) → ChainAt g (suc k) u cs' after j
    chains_at j h (inl e) =
        rw (e, rc.same)
        (same_chain (sym here) (record { tb = refl; branch = x.branch; room = rw x.outside.size (now.chains i m.in_use).room }))
      where
        here : get_or (set m.timed.chains i chain) i (definition.new_chain unused_stream) ≡ chain
        here = get_or-set_same m.timed.chains i chain (definition.new_chain unused_stream) (rw (m.chains, now.chains_size) m.in_use)
    chains_at j h (inr n) =
        rw (rc.other j n)
        (same_chain (sym there) (chain_more (chain_kept (now.chains j h) x.outside (parts_apart (depth_of g) i j n)) (omega arith)))
      where
        there : get_or (set m.timed.chains i chain) j (definition.new_chain unused_stream) ≡ chain_at g.config s j
        there = get_or-set_other m.timed.chains i j chain (definition.new_chain unused_stream) n ∙ ap (λ (l : List definition.Chain). get_or l j (definition.new_chain unused_stream)) m.chains

    scanner_at_lem : suc k ≤ g.count → (j : ℕ) → j < stream_count g → (j ≡ i) ⊎ (j ≢ i) → owner_of g.config (stream_at g.config j).pid ≡ Owner.Stream j
        → (get_or cs' j unused_chain).scanner ≡ scanner_of (opens_at g.layout g.recording (suc k) (stream_at g.config j).pid)
    scanner_at_lem n j h (inl e) o = rw (e, rc.same) (m.own n (rw e at o))
    scanner_at_lem n j h (inr f) o = rw (rc.other j f, m.others n j f h o) (now.scanners (omega arith) j h o)

    -- the step goes on
    pub stream_turns : is_err r ≡ false → Turned g ready k s u cs' system times' sl'
    stream_turns f =
        record {
          state = after;
          step = steps_on f;
          at = record {
            outside = outside_then now.outside (outside_wider (omega arith) (next_multiple (8 * depth_of g) i (stream_count g) m.in_use) x.outside);
            size = rc.size;
            chains_size = length-set m.timed.chains i chain ∙ ap length m.chains ∙ now.chains_size;
            chains = λ j h. chains_at j h (same_or_other j i);
            scanners = λ n j h o. scanner_at_lem n j h (same_or_other j i) o;
            system_tb = now.system_tb ∙ sym m.sys_tb;
            system_branch = now.system_branch ∙ sym m.sys;
            first = m.first;
            last = m.last;
            slots = noted_more i m.timed.events (m.before ++ st.events) sl sl' (now.slots ∙ ap (λ (l : List Found). noted_found l empty_slots) (sym m.events)) noted;
            arrival = m.arrival;
          };
        }
