-- The loop over the ends of the streams of pass 2: its turns, and how it ends.
use Rattle.std.proofs.Common.{◌≡◌, ℕ, suc, ◌+◌, ◌*◌, ◌<◌, true, false, List, get_or, set, refl, subst, arith}
use Rattle.std.specs.Prelude.{⊤, Result, Ok, Err, is_err}
use lib.Ieee.{Float}
use Rattle.ieee.specs.Binary64.{0f}
use Rattle.error.specs.declared.Refusal.{Refusal}
use Rattle.events.specs.declared.Slots.{Slots}
use Rattle.events.specs.Slots.{noted_all}
use Rattle.branch.specs.declared.QueueFull.{QueueFull}
use Rattle.branch.proofs.Rings.{next_multiple, outside_then, outside_wider}
use Rattle.transport.specs.Arrive.{nothing}
use Rattle.model.specs.Chain.{step_branch, tb_events}
use Rattle.model.specs.Replay.{State, stream_at, chain_at}
use Rattle.tstd.specs.declared.chain.Chain.{Chain}
use Rattle.tstd.specs.declared.run.Ran.{Ran as RanState}
use Rattle.tstd.specs.Chain.{unused_chain, EndOf}
use Rattle.tstd.specs.Run.{Pass, stream_count, depth_of, Ready, Reached, one_more, At, queue_full, Through, RanTo}
use Rattle.tstd.proofs.ChainIs.{StepIs, branch_ends}
use Rattle.tstd.proofs.Going.{end_goes, ends_gone}
use Rattle.tstd.proofs.Steps.{count_few, streams_counted}
use Rattle.tstd.proofs.Turns.{Turned, Moves, replaced_set, stream_full, stream_turns}
use Rattle.tstd.proofs.Moves.{end_moves}

-- the state with other chains and slots
abbrev pub with_chains : RanState → List Chain → Slots → RanState
with_chains r cs sl = record { chains = cs; system = r.system; times = r.times; slots = sl }

-- ---- the end of stream i

module _ (g : Pass) (ready : Ready g) (i : ℕ) (r : RanState) (w : List Float) (now : Through g ready i r w) (used : i < stream_count g)
    (c c' : Chain) (is-c : c ≡ get_or r.chains i unused_chain) (a : Result ⊤ QueueFull) (u : List Float) (sl' : Slots) (q : EndOf w c (1 + 6 * i) r.slots a c' u sl') where
  abbrev s : State
  s = now.state

  here : EndOf w (get_or r.chains i unused_chain) (1 + 6 * i) r.slots a c' u sl'
  here = rw is-c at q

  abbrev noted : Slots
  noted = noted_all (1 + 6 * i) (tb_events (get_or r.chains i unused_chain).tb) r.slots

  moves : Moves g ready (g.count + i) s i c'.tb c'.scanner nothing true 0f r.times r.slots noted
  moves = rw here.tb (end_moves g ready i w r.chains r.system r.times r.slots s now.at used (get_or r.chains i unused_chain).tb c'.scanner refl)

  in_eight : i < 8
  in_eight =
      let a = ready.few in
      omega arith

  step : StepIs w u (stream_at g.config i).model.branch (8 * depth_of g * i) (depth_of g) (g.count + i) (1 + 6 * i) noted sl' (step_branch (stream_at g.config i).model.branch (depth_of g) nothing true 0f (chain_at g.config s i).branch) a c'.branch
  step =
      let chain = now.at.chains i used in
      let few = count_few g ready in
      branch_ends w u (8 * depth_of g * i) (depth_of g) (g.count + i) (1 + 6 * i) noted sl' a chain.room (omega (arith, in_eight)) (omega (arith, in_eight)) c'.branch chain.branch here.branch

  -- a push met a full queue
  pub end_refuses : is_err a ≡ true → (x : Refusal) → x ≡ queue_full g.config g.count i → RanTo g (Err x) u
  end_refuses e x f =
      record {
        ready = ready;
        outside = outside_then now.at.outside (outside_wider (omega arith) (next_multiple (8 * depth_of g) i (stream_count g) used) step.outside);
        refused = λ z same k.
            (let z-is : x ≡ z = cc in
            rw (← z-is, f)
            (end_goes g s (streams_counted g ready) i now.left _ used
            (stream_full g ready (g.count + i) w u r.chains r.chains r.system r.times r.times r.slots noted sl' s i c' nothing true 0f a now.at moves step e) k));
        finishes = λ z same. absurd (cc);
      }

  -- the stream is at its end
  pub end_through : is_err a ≡ false → Through g ready (i + 1) (with_chains r (set r.chains i c') sl') u
  end_through e =
      let t : Turned g ready (g.count + i) s u (set r.chains i c') r.system r.times sl' =
      stream_turns g ready (g.count + i) w u r.chains (set r.chains i c') r.system r.times r.times r.slots noted sl' s i c' nothing true 0f a now.at moves step (replaced_set unused_chain r.chains i c' now.at.size in_eight) e in
      let n : suc (g.count + i) ≡ g.count + (i + 1) = omega arith in
      let m : suc i ≡ i + 1 = omega arith in
      record {
        state = t.state;
        reached = subst (λ (k : ℕ). Reached g k t.state) n (one_more {k = g.count + i} (omega arith) now.reached t.step);
        at = rw (← n) t.at;
        left = λ k. rw (← m) (end_goes g s (streams_counted g ready) i now.left _ used t.step k);
      }

-- ---- behind the last

pub ends_through : (g : Pass) (ready : Ready g) (i : ℕ) (r : RanState) (w : List Float) → Through g ready i r w → i ≡ stream_count g → RanTo g (Ok r) w
ends_through g ready i r w now e =
    record {
      ready = ready;
      outside = now.at.outside;
      refused = λ x f. absurd (cc);
      finishes = λ z f.
          (let same : r ≡ z = cc in
          rw (← same)
          (record {
            state = now.state;
            reached = subst (λ (k : ℕ). Reached g (g.count + k) now.state) e now.reached;
            at = subst (λ (k : ℕ). At g ready (g.count + k) w r.chains r.system r.times r.slots now.state) e now.at;
            outcome = ends_gone g now.state (streams_counted g ready) i now.left e;
          }));
    }
