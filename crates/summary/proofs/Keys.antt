-- At most 51 keys occur, so that recording refuses no event for its key.
use mathlib.Core.Path.{◌≡◌, refl, sym, ap, ◌∙◌}
use mathlib.Core.Bool.{Bool, true, false, cond, ◌||◌}
use mathlib.Core.List.{List, [], ◌∷◌, ◌++◌, map}
use Prim.Native.Nat.{ℕ, zero, suc, ◌+◌, ◌-◌, ◌*◌, ◌/◌, ◌%◌, ◌≤◌, ◌<◌}
use native.Mathlib.Omega.{arith}
use lib.ListN.{length, get_or, length-append}
use lib.Dec.{ltb}
use lib.Ieee.{Float, nan}
use borrow.Author.Tests.{ltb-true}
use Rattle.report.specs.declared.violation.Key.{Key}
use Rattle.report.specs.declared.violation.TStdViolation.{TStdViolation}
use Rattle.report.specs.Violation.{fields_of, key_of, same_key}
use Rattle.report.specs.Keys.{has_key, all_in}
use Rattle.report.specs.Report.{empty_report}
use Rattle.report.specs.Record.{record_all, accepts, event_keys, most_events}
use Rattle.std.proofs.lemmas.Bool.{and_from, true≢false}
use Rattle.report.proofs.Keys.{same_key_refl}
use Rattle.report.proofs.Fold.{Kept, kept_empty, kept_count, records_kept}
use Rattle.profile.specs.declared.model.TStdBranch.{TStdBranch}
use Rattle.profile.specs.declared.model.TStdBranch.TheVariants.{Main, Video}
use Rattle.profile.specs.declared.config.TStdStream.{TStdStream}
use Rattle.profile.specs.declared.config.TStdConfig.{TStdConfig}
use Rattle.profile.specs.Config.{unused_stream}
use Rattle.events.specs.declared.Event.{Event}
use Rattle.events.specs.declared.Slots.{Slots}
use Rattle.events.specs.Event.{event_of}
use Rattle.events.specs.declared.Event.TheVariants.{Overflow, Underflow, Delay, TbOverflow, TbBusy, MbBusy}
use Rattle.summary.specs.Violation.{overflow_in, underflow_in, chain_violation, stream_violation, system_violation, system_pid, violation_of, slot_violation}
use Rattle.summary.specs.Summary.{Found, violations_of, violation_in}
use Rattle.summary.specs.Keys.{key, overflow_kind, underflow_kind, stream_keys, system_keys, keys_of_streams, possible_keys}

-- ---- places in a list of keys

has_here : (k : Key) (ks : List Key) → has_key (k ∷ ks) k ≡ true
unfolding has_key
has_here k ks = rw (same_key_refl k)

has_there : (j : Key) (ks : List Key) (k : Key) → has_key ks k ≡ true → has_key (j ∷ ks) k ≡ true
unfolding has_key
has_there j ks k h = rw h (or_true (same_key j k))
  where
    or_true : (b : Bool) → (b || true) ≡ true
    or_true true = refl
    or_true false = refl

pub has_right : (js ks : List Key) (k : Key) → has_key ks k ≡ true → has_key (js ++ ks) k ≡ true
has_right [] ks k h = h
has_right (j ∷ js) ks k h = has_there j (js ++ ks) k (has_right js ks k h)

pub has_left : (js ks : List Key) (k : Key) → has_key js k ≡ true → has_key (js ++ ks) k ≡ true
unfolding has_key
has_left [] ks k h = absurd (true≢false (sym h))
has_left (j ∷ js) ks k h = by_test (same_key j k) h (has_left js ks k)
  where
    by_test : (b : Bool) → (b || has_key js k) ≡ true → (has_key js k ≡ true → has_key (js ++ ks) k ≡ true) → (b || has_key (js ++ ks) k) ≡ true
    by_test true h ih = refl
    by_test false h ih = ih h

-- the key at place i
has_at : (ks : List Key) (i : ℕ) (d k : Key) → i < length ks → get_or ks i d ≡ k → has_key ks k ≡ true
has_at [] i d k l e = absurd (omega arith)
has_at (j ∷ js) zero d k l e = ap (has_key (j ∷ js)) (sym e) ∙ has_here j js
has_at (j ∷ js) (suc i) d k l e = has_there j js k (has_at js i d k (omega arith) e)

-- ---- the keys of a stream, and of the system chain

overflow_key : (b : TStdBranch) (pid n : ℕ) → key_of (overflow_in b pid n) ≡ key (overflow_kind b) pid
unfolding overflow_in key_of fields_of
overflow_key (Main size) pid n = refl
overflow_key (Video rbx mb eb) pid n = refl

underflow_key : (b : TStdBranch) (pid : ℕ) (t : Float) (n : ℕ) → key_of (underflow_in b pid t n) ≡ key (underflow_kind b) pid
unfolding underflow_in key_of fields_of
underflow_key (Main size) pid t n = refl
underflow_key (Video rbx mb eb) pid t n = refl

pub stream_key : (s : TStdStream) (e : Event) → has_key (stream_keys s) (key_of (stream_violation s e)) ≡ true
unfolding stream_keys chain_violation key_of fields_of
stream_key s (Overflow b) = has_at (stream_keys s) 0 (key 0 0) _ (omega arith) (sym (overflow_key s.model.branch s.pid _))
stream_key s (Underflow t b) = has_at (stream_keys s) 1 (key 0 0) _ (omega arith) (sym (underflow_key s.model.branch s.pid t _))
stream_key s (Delay t d) = has_at (stream_keys s) 2 (key 0 0) _ (omega arith) refl
stream_key s (TbOverflow b) = has_at (stream_keys s) 3 (key 0 0) _ (omega arith) refl
stream_key s (TbBusy d) = has_at (stream_keys s) 4 (key 0 0) _ (omega arith) refl
stream_key s (MbBusy d) = has_at (stream_keys s) 5 (key 0 0) _ (omega arith) refl

pub system_key : (pid : ℕ) (e : Event) → has_key (system_keys pid) (key_of (system_violation pid e)) ≡ true
unfolding chain_violation key_of fields_of
system_key pid (Overflow b) = has_at (system_keys pid) 0 (key 0 0) _ (omega arith) refl
system_key pid (Underflow t b) = has_at (system_keys pid) 0 (key 0 0) _ (omega arith) refl
system_key pid (Delay t d) = has_at (system_keys pid) 0 (key 0 0) _ (omega arith) refl
system_key pid (TbOverflow b) = has_at (system_keys pid) 1 (key 0 0) _ (omega arith) refl
system_key pid (TbBusy d) = has_at (system_keys pid) 2 (key 0 0) _ (omega arith) refl
system_key pid (MbBusy d) = has_at (system_keys pid) 0 (key 0 0) _ (omega arith) refl

-- ---- the keys of a configuration

pub in_streams : (ss : List TStdStream) (i : ℕ) (k : Key) → i < length ss → has_key (stream_keys (get_or ss i unused_stream)) k ≡ true → has_key (keys_of_streams ss) k ≡ true
unfolding keys_of_streams
in_streams [] i k l h = absurd (omega arith)
in_streams (s ∷ ss) zero k l h = has_left (stream_keys s) (keys_of_streams ss) k h
in_streams (s ∷ ss) (suc i) k l h = has_right (stream_keys s) (keys_of_streams ss) k (in_streams ss i k (omega arith) h)

pub streams_length : (ss : List TStdStream) → length (keys_of_streams ss) ≡ 6 * length ss
unfolding keys_of_streams stream_keys
streams_length [] = refl
streams_length (s ∷ ss) = rw (length-append (stream_keys s) (keys_of_streams ss)) (omega (arith, streams_length ss))

no_events : (vs : List TStdViolation) → length vs ≤ most_events → empty_report.violation_events + length vs ≤ most_events
unfolding empty_report
no_events vs h = omega arith

module _ (c : TStdConfig) (whole : length c.streams ≡ 8) where
  pub possible_51 : length (possible_keys c) ≡ 51
  unfolding possible_keys
  possible_51 = rw (length-append (keys_of_streams c.streams) (system_keys (system_pid c))) (omega (arith, streams_length c.streams, whole))

  -- the key of every event of every chain is one of them
  pub possible_key : (chain : ℕ) (e : Event) → has_key (possible_keys c) (key_of (violation_of c chain e)) ≡ true
  unfolding possible_keys violation_of
  possible_key chain e = by_chain (ltb chain 8) refl
    where
      by_chain : (b : Bool) → ltb chain 8 ≡ b → has_key (keys_of_streams c.streams ++ system_keys (system_pid c)) (key_of (cond b (stream_violation (get_or c.streams chain unused_stream) e) (system_violation (system_pid c) e))) ≡ true
      by_chain true h =
          let s = get_or c.streams chain unused_stream in
          has_left (keys_of_streams c.streams) (system_keys (system_pid c)) (key_of (stream_violation s e))
          (in_streams c.streams chain (key_of (stream_violation s e)) (omega (arith, ltb-true chain 8 h, whole)) (stream_key s e))
      by_chain false h =
          has_right (keys_of_streams c.streams) (system_keys (system_pid c)) (key_of (system_violation (system_pid c) e)) (system_key (system_pid c) e)

  possible_all : (fs : List Found) → all_in (possible_keys c) (event_keys (violations_of c fs)) ≡ true
  unfolding all_in event_keys violations_of
  possible_all [] = refl
  possible_all (f ∷ fs) = and_from (has_key (possible_keys c) (key_of (violation_of c f.chain f.event))) _ (possible_key f.chain f.event) (possible_all fs)

  -- a slot's violations are those of an event of its chain
  pub possible_slots : (s : Slots) (ks : List ℕ) → all_in (possible_keys c) (event_keys (map (violation_in c s) ks)) ≡ true
  unfolding all_in event_keys slot_violation
  possible_slots s [] = refl
  possible_slots s (k ∷ ks) = and_from (has_key (possible_keys c) (key_of (violation_in c s k))) _ (possible_key ((k - 1) / 6) (event_of ((k - 1) % 6) (get_or s.figures k nan) (get_or s.decode_times k nan))) (possible_slots s ks)

  -- what is known of a report that events of possible keys have made
  pub record Recorded51 (vs : List TStdViolation) : Type 0 where
    pub accepted : accepts empty_report vs ≡ true
    pub kept : Kept (possible_keys c) (record_all empty_report vs)
    pub few : (record_all empty_report vs).violation_count ≤ 51

  pub recorded_51 : (vs : List TStdViolation) → all_in (possible_keys c) (event_keys vs) ≡ true → length vs ≤ most_events → Recorded51 vs
  recorded_51 vs h m =
      let ps = possible_keys c in
      let k = records_kept ps (omega (arith, possible_51)) empty_report vs (kept_empty ps) h (no_events vs m) in
      record { accepted = k.0; kept = k.1; few = omega (arith, kept_count ps (record_all empty_report vs) k.1, possible_51) }

  -- no event of a replay is refused, and at most 51 lines are made
  pub keys_51 : (fs : List Found) → length (violations_of c fs) ≤ most_events → Recorded51 (violations_of c fs)
  keys_51 fs m = recorded_51 (violations_of c fs) (possible_all fs) m
