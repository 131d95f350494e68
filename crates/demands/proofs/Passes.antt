-- Pass 2: packets that run leave the replay where the next packet begins, and it ends by a full queue or by the report. Assumes nothing.
use Prim.Native.Nat.{ℕ, suc, ◌+◌, ◌*◌}
use mathlib.Core.Path.{◌≡◌, refl, sym, ap, ◌∙◌}
use mathlib.Core.Bool.{true}
use mathlib.Core.List.{List, [], ◌∷◌}
use Rattle.error.specs.declared.Refusal.{Refusal}
use lib.Ieee.{Float}
use Rattle.packet.specs.declared.TsPacket.{TsPacket}
use Rattle.scanner.specs.declared.Runs.{Runs}
use Rattle.recording.specs.Read.{Fact, unparsed, parsed}
use Rattle.arrival.specs.declared.RateInterval.{RateInterval}
use Rattle.arrival.specs.Times.{covering, arrival_at}
use Rattle.profile.specs.declared.owner.Owner.{Owner}
use Rattle.profile.specs.Owner.{owner_of}
use Rattle.profile.proofs.Ownership.{owner_slot}
use Rattle.profile.specs.Config.{streams_of}
use Rattle.profile.specs.declared.config.TStdConfig.{TStdConfig}
use Rattle.model.specs.Chain.{packet_step}
use Rattle.model.specs.Replay.{stream_at, chain_at, timed, owned_step, Outcome, refused_with, State, Ran, running, full, or_full, ends_from, fact_step, replay_from}
use Rattle.demands.proofs.Ends.{never_full, stepped_full, full_stepped, ends_full, full_ends}
use Rattle.demands.specs.Refused.{RunsTo, there, packet, Meets, at_packet, at_end, FullQueue, Ended, reported}

module _ (c : TStdConfig) (clock : List RateInterval) (n : ℕ) where
  abbrev from : ℕ → Float
  from k = arrival_at clock (188 * k)

  abbrev to : ℕ → Float
  to k = arrival_at clock (188 * k + 188)

  pub runs_to : {k m : ℕ} {fs gs : List Fact} {s t : State} → RunsTo c clock k fs s m gs t → replay_from c clock n k fs s ≡ replay_from c clock n m gs t
  unfolding replay_from
  runs_to there = refl
  runs_to (packet e h) = rw e (runs_to h)

  -- a packet that meets a full queue
  packet_full : (k i : ℕ) (h : TsPacket) (r : Runs) (s : State) → owner_of c h.pid ≡ Owner.Stream i → (packet_step (stream_at c i) c.queue_depth h r (from k) (to k) (covering (188 * k + 188) clock) (chain_at c s i)).full ≡ true
      → fact_step c clock (188 * k) (parsed h r) s ≡ full h.pid
  unfolding fact_step owned_step timed
  packet_full k i h r s o f = rw o (full_stepped c i (timed c clock (188 * k) s) _ f ∙ ap full (owner_slot c h.pid i o).pid_there)

  owned_full : (k : ℕ) (h : TsPacket) (r : Runs) (fs : List Fact) (s : State) (pid : ℕ) (o : Owner) → owner_of c h.pid ≡ o → owned_step c clock (188 * k) o h r (timed c clock (188 * k) s) ≡ full pid
      → Meets c clock k pid (parsed h r ∷ fs) s
  unfolding owned_step timed
  owned_full k h r fs s pid (Owner.Stream i) o e =
      let x = stepped_full c i (timed c clock (188 * k) s) _ pid e in
      rw (x.1 ∙ (owner_slot c h.pid i o).pid_there) (at_packet i o x.0)
  owned_full k h r fs s pid Owner.System o e = absurd (never_full (sym e))
  owned_full k h r fs s pid Owner.Nobody o e = absurd (never_full (sym e))

  full_packet : (k : ℕ) (f : Fact) (fs : List Fact) (s : State) (pid : ℕ) → fact_step c clock (188 * k) f s ≡ full pid → Meets c clock k pid (f ∷ fs) s
  unfolding fact_step
  full_packet k unparsed fs s pid e = absurd (never_full (sym e))
  full_packet k (parsed h r) fs s pid e = owned_full k h r fs s pid (owner_of c h.pid) refl e

  pub meets_full : {k pid : ℕ} {fs : List Fact} {s : State} → Meets c clock k pid fs s → replay_from c clock n k fs s ≡ refused_with (Refusal.QueueFull k pid)
  unfolding replay_from
  meets_full {k} {pid} {fs} {s} (at_packet i o f) = rw (packet_full k i _ _ s o f)
  meets_full (at_end e f) = rw (ends_full c e refl f)

  ends_report : (k : ℕ) (s t : State) → ends_from c 0 (streams_of c) s ≡ running t → replay_from c clock n k [] s ≡ reported c n t
  unfolding replay_from
  ends_report k s t e = rw e

  pub queue_full_lem : {k m pid : ℕ} {fs : List Fact} {s : State} → FullQueue c clock k fs s m pid → replay_from c clock n k fs s ≡ refused_with (Refusal.QueueFull m pid)
  queue_full_lem h = runs_to h.runs ∙ meets_full h.meets

  pub ended : {k : ℕ} {fs : List Fact} {s : State} (h : Ended c clock k fs s) → replay_from c clock n k fs s ≡ reported c n h.final
  ended h = runs_to h.runs ∙ ends_report h.count h.last h.final h.ends

  pub data RunWay (k : ℕ) (fs : List Fact) (s : State) : Outcome → Type 0 where
    queue : {m pid : ℕ} → FullQueue c clock k fs s m pid → RunWay k fs s (refused_with (Refusal.QueueFull m pid))
    done : (h : Ended c clock k fs s) → RunWay k fs s (reported c n h.final)

  then_way : {k : ℕ} {f : Fact} {fs : List Fact} {s s' : State} → fact_step c clock (188 * k) f s ≡ running s' → {o : Outcome} → RunWay (suc k) fs s' o → RunWay k (f ∷ fs) s o
  then_way e (queue h) = queue (record { rest = h.rest; state = h.state; runs = packet e h.runs; meets = h.meets })
  then_way e (done h) = done (record { count = h.count; last = h.last; runs = packet e h.runs; final = h.final; ends = h.ends })

  pub run_way : (fs : List Fact) (k : ℕ) (s : State) → RunWay k fs s (replay_from c clock n k fs s)
  unfolding replay_from
  run_way [] k s = by (ends_from c 0 (streams_of c) s) refl
    where
      by : (r : Ran) → ends_from c 0 (streams_of c) s ≡ r → RunWay k [] s (or_full k r (λ (s' : State). reported c n s'))
      by (running t) e = done (record { count = k; last = s; runs = there; final = t; ends = e })
      by (full pid) e =
          let h = full_ends c (streams_of c) 0 s pid refl e in
          let m : Meets c clock k pid [] s = rw h.pid_is (at_end h.runs h.meets) in
          queue (record { rest = []; state = s; runs = there; meets = m })
  run_way (f ∷ fs) k s = by (λ t. run_way fs (suc k) t) (fact_step c clock (188 * k) f s) refl
    where
      by : ((t : State) → RunWay (suc k) fs t (replay_from c clock n (suc k) fs t)) → (r : Ran) → fact_step c clock (188 * k) f s ≡ r
          → RunWay k (f ∷ fs) s (or_full k r (λ (s' : State). replay_from c clock n (suc k) fs s'))
      by again (running t) e = then_way e (again t)
      by again (full pid) e = queue (record { rest = f ∷ fs; state = s; runs = there; meets = full_packet k f fs s pid e })
