-- The streams' ends one after the other: they run to their last, or one meets a full queue. Assumes nothing.
use Prim.Native.Nat.{ℕ, suc, ◌+◌, ◌-◌, ◌<◌}
use native.Mathlib.Nat.{min-le_left}
use native.Mathlib.Omega.{arith}
use mathlib.Core.Path.{◌≡◌, refl, sym, ap, ◌∙◌}
use mathlib.Core.Bool.{Bool, true, false, cond}
use mathlib.Core.List.{List, [], ◌∷◌}
use lib.ListN.{length, set, drop, length-drop, length-take}
use lib.Seq.{drop-cons, get_or-take}
use Rattle.profile.specs.declared.config.TStdStream.{TStdStream}
use Rattle.profile.specs.declared.config.TStdConfig.{TStdConfig}
use Rattle.profile.specs.Config.{streams_of, unused_stream}
use Rattle.model.specs.Chain.{ChainStep, end_step}
use Rattle.model.specs.Replay.{State, Ran, running, full, and_then, chain_at, stream_at, stepped, ends_from, with_events}
use Rattle.demands.specs.Refused.{stream_of, EndsTo, no_end, an_end}

-- ---- a step of chain i
pub same_running : {s t : State} → running s ≡ running t → s ≡ t
same_running e = cc

pub never_full : {s : State} {pid : ℕ} → full pid ≡ running s → ⊥
never_full e = cc

-- the state behind it
abbrev pub behind : ℕ → State → ChainStep → State
behind i s x =
    record {
      chains = set s.chains i x.chain;
      sys_tb = s.sys_tb;
      sys = s.sys;
      first_time = s.first_time;
      last_time = s.last_time;
      events = with_events s.events i x.events;
    }

pub record Step (i : ℕ) (s : State) (x : ChainStep) (t : State) : Type 0 where
  pub not_full : x.full ≡ false
  pub state : t ≡ behind i s x

pub stepped_running : (c : TStdConfig) (i : ℕ) (s : State) (x : ChainStep) (t : State) → stepped c i s x ≡ running t → Step i s x t
unfolding stepped
stepped_running c i s x t e = by x.full refl e
  where
    by : (b : Bool) → x.full ≡ b → cond b (full (stream_at c i).pid) (running (behind i s x)) ≡ running t → Step i s x t
    by true p q = absurd (never_full q)
    by false p q = record { not_full = p; state = sym (same_running q) }

pub stepped_full : (c : TStdConfig) (i : ℕ) (s : State) (x : ChainStep) (pid : ℕ) → stepped c i s x ≡ full pid → (x.full ≡ true) × (pid ≡ (stream_at c i).pid)
unfolding stepped
stepped_full c i s x pid e = by x.full refl e
  where
    by : (b : Bool) → x.full ≡ b → cond b (full (stream_at c i).pid) (running (behind i s x)) ≡ full pid → (x.full ≡ true) × (pid ≡ (stream_at c i).pid)
    by true p q = (p, cc)
    by false p q = absurd (never_full (sym q))

pub full_stepped : (c : TStdConfig) (i : ℕ) (s : State) (x : ChainStep) → x.full ≡ true → stepped c i s x ≡ full (stream_at c i).pid
unfolding stepped
full_stepped c i s x e = rw e

-- ---- the streams in use
module _ (c : TStdConfig) (i : ℕ) (h : i < length (streams_of c)) where
  pub counted : i < c.stream_count
  counted = omega (arith, h, length-take c.stream_count c.streams, min-le_left c.stream_count (length c.streams))

  pub stream_there : stream_at c i ≡ stream_of c i
  stream_there = sym (get_or-take c.stream_count c.streams i unused_stream counted)

-- ---- the stream of an end
module _ (c : TStdConfig) where
  pub record Place (i : ℕ) (m : TStdStream) (ms : List TStdStream) : Type 0 where
    pub inside : i < length (streams_of c)
    pub stream : m ≡ stream_of c i
    pub rest : drop (suc i) (streams_of c) ≡ ms

  pub place : (i : ℕ) (m : TStdStream) (ms : List TStdStream) → drop i (streams_of c) ≡ m ∷ ms → Place i m ms
  place i m ms e =
      let n : length (streams_of c) - i ≡ suc (length ms) = sym (length-drop i (streams_of c)) ∙ ap length e in
      let inside : i < length (streams_of c) = omega arith in
      let d = drop-cons (streams_of c) i unused_stream inside in
      record { inside = inside; stream = cc; rest = cc }

-- ---- the ends as a run
pub ends_run : (c : TStdConfig) (ms : List TStdStream) (i : ℕ) (s t : State) → ends_from c i ms s ≡ running t → EndsTo c i ms s (i + length ms) [] t
unfolding ends_from and_then
ends_run c [] i s t e = let z : i + 0 ≡ i = omega arith in rw (z, same_running e) no_end
ends_run c (m ∷ ms) i s t e = by (λ s' f. ends_run c ms (suc i) s' t f) (stepped c i s (end_step m c.queue_depth (chain_at c s i))) refl e
  where
    by : ((s' : State) → ends_from c (suc i) ms s' ≡ running t → EndsTo c (suc i) ms s' (suc i + length ms) [] t)
        → (r : Ran) → stepped c i s (end_step m c.queue_depth (chain_at c s i)) ≡ r → and_then r (λ (s' : State). ends_from c (suc i) ms s') ≡ running t → EndsTo c i (m ∷ ms) s (i + length (m ∷ ms)) [] t
    by again (running s') p q = let z : i + suc (length ms) ≡ suc i + length ms = omega arith in rw z (an_end p (again s' q))
    by again (full pid) p q = cc

-- ---- an end that meets a full queue
module _ (c : TStdConfig) where
  end_pid : (i : ℕ) (m : TStdStream) (ms : List TStdStream) → drop i (streams_of c) ≡ m ∷ ms → (stream_at c i).pid ≡ m.pid
  end_pid i m ms d =
      let p = place c i m ms d in
      ap (λ (x : TStdStream). x.pid) (stream_there c i p.inside ∙ sym p.stream)

  pub ends_full : {i j : ℕ} {m : TStdStream} {ms ns : List TStdStream} {s t : State} → EndsTo c i ms s j (m ∷ ns) t → drop i (streams_of c) ≡ ms
      → (end_step m c.queue_depth (chain_at c t j)).full ≡ true → ends_from c i ms s ≡ full m.pid
  unfolding ends_from and_then
  ends_full {i} {j} {m} {ms} {ns} {s} no_end d f = rw (full_stepped c i s (end_step m c.queue_depth (chain_at c s i)) f) (ap full (end_pid i m ns d))
  ends_full {i} (an_end {m = k} {ms = ks} e r) d f = rw e (ends_full r (place c i k ks d).rest f)

  pub record EndFull (i : ℕ) (ms : List TStdStream) (s : State) (pid : ℕ) : Type 0 where
    pub at : ℕ
    pub stream : TStdStream
    pub rest : List TStdStream
    pub state : State
    pub runs : EndsTo c i ms s at (stream ∷ rest) state
    pub meets : (end_step stream c.queue_depth (chain_at c state at)).full ≡ true
    pub pid_is : pid ≡ stream.pid

  pub full_ends : (ms : List TStdStream) (i : ℕ) (s : State) (pid : ℕ) → drop i (streams_of c) ≡ ms → ends_from c i ms s ≡ full pid → EndFull i ms s pid
  unfolding ends_from and_then
  full_ends [] i s pid d e = absurd (never_full (sym e))
  full_ends (m ∷ ms) i s pid d e = by (λ s' f. full_ends ms (suc i) s' pid (place c i m ms d).rest f) (stepped c i s (end_step m c.queue_depth (chain_at c s i))) refl e
    where
      by : ((s' : State) → ends_from c (suc i) ms s' ≡ full pid → EndFull (suc i) ms s' pid)
          → (r : Ran) → stepped c i s (end_step m c.queue_depth (chain_at c s i)) ≡ r → and_then r (λ (s' : State). ends_from c (suc i) ms s') ≡ full pid → EndFull i (m ∷ ms) s pid
      by again (running s') p q =
          let h = again s' q in
          record { at = h.at; stream = h.stream; rest = h.rest; state = h.state; runs = an_end p h.runs; meets = h.meets; pid_is = h.pid_is }
      by again (full x) p q =
          let f = stepped_full c i s (end_step m c.queue_depth (chain_at c s i)) x p in
          let same : x ≡ pid = cc in
          record { at = i; stream = m; rest = ms; state = s; runs = no_end; meets = f.0; pid_is = sym same ∙ f.1 ∙ end_pid i m ms d }
