-- Laws of the report under events: when they are accepted, what lines and counts they leave, and which records stay as they were.
use mathlib.Core.Path.{◌≡◌, refl, sym, ap, ◌∙◌}
use mathlib.Core.Bool.{Bool, true, false, not, ◌&&◌, ◌||◌}
use mathlib.Core.List.{List, [], ◌∷◌, ◌++◌}
use Prim.Native.Nat.{ℕ, suc, ◌+◌, ◌-◌, ◌≤◌, ◌<◌}
use native.Mathlib.Omega.{arith}
use lib.ListN.{length, drop, length-append, length-drop}
use lib.Seq.{length-take-le, take-append_seam, drop-append-add, drop-drop, drop_at}
use lib.Dec.{ltb, eqb}
use borrow.Author.Tests.{ltb-false, le-ltb, eqb-false, ne_eqb, not-true}
use Rattle.error.specs.declared.Refusal.{Refusal}
use Rattle.report.specs.declared.violation.Key.{Key}
use Rattle.report.specs.declared.violation.TStdViolation.{TStdViolation}
use Rattle.report.specs.declared.ViolationLine.{ViolationLine}
use Rattle.report.specs.declared.TStdReport.{TStdReport}
use Rattle.std.specs.Prelude.{Ok, Err}
use Rattle.report.specs.Violation.{key_of, same_key, merge_of}
use Rattle.report.specs.Keys.{has_key, all_in, distinct, add_key}
use Rattle.report.specs.Report.{empty_report, conformant}
use Rattle.report.specs.Record.{keys_of, record_line, record_lines, lines_of, most_events, refuses, with_lines, recorded, record_all, accepts, event_keys}
use Rattle.std.proofs.lemmas.Bool.{or_parts, and_parts, and_from}
use Rattle.report.proofs.Keys.{same_key_eq, add_old, add_new, add_length, has_added, distinct_add, all_add, distinct_length}
use Rattle.report.proofs.Merge.{merge_key}
use Rattle.report.proofs.Lines.{line_keys, same_key_line}

keys_length : (ls : List ViolationLine) → length (keys_of ls) ≡ length ls
unfolding keys_of
keys_length [] = refl
keys_length (l ∷ ls) = ap suc (keys_length ls)

line_length : (ls : List ViolationLine) (v : TStdViolation) → length (record_line ls v) ≡ length (add_key (keys_of ls) (key_of v))
line_length ls v = sym (keys_length (record_line ls v)) ∙ ap length (line_keys ls v)

line_grows : (ls : List ViolationLine) (v : TStdViolation) → length ls ≤ length (record_line ls v)
line_grows ls v = let h : length (keys_of ls) ≤ length (add_key (keys_of ls) (key_of v)) = add_length (keys_of ls) (key_of v) in omega (arith, keys_length ls, line_length ls v)

-- the event has a line afterwards
line_there : (ls : List ViolationLine) (v : TStdViolation) → 1 ≤ length (record_line ls v)
unfolding has_key
line_there ls v = some (add_key (keys_of ls) (key_of v)) (has_added (keys_of ls) (key_of v)) (line_length ls v)
  where
    some : (ks : List Key) → has_key ks (key_of v) ≡ true → length (record_line ls v) ≡ length ks → 1 ≤ length (record_line ls v)
    some [] h e = let z : ◌≡◌ {A = ℕ} 0 1 = cc in omega arith
    some (k ∷ ks) h e = omega arith

-- ---- one event

module _ (r : TStdReport) (v : TStdViolation) where
  pub refused : refuses r v ≡ true → recorded r v ≡ record { answer = Err Refusal.OutsideLimits; report = r }
  unfolding recorded
  refused h = rw h

  pub accepted : refuses r v ≡ false → recorded r v ≡ record { answer = Ok tt; report = with_lines r (record_line (lines_of r) v) }
  unfolding recorded
  accepted h = rw h

  pub lines_after : refuses r v ≡ false → lines_of (recorded r v).report ≡ record_line (lines_of r) v
  unfolding with_lines
  lines_after h = rw (accepted h) (take-append_seam (record_line (lines_of r) v) _)

  pub count_after : refuses r v ≡ false → (recorded r v).report.violation_count ≡ length (record_line (lines_of r) v)
  unfolding with_lines
  count_after h = rw (accepted h)

  pub events_after : refuses r v ≡ false → (recorded r v).report.violation_events ≡ r.violation_events + 1
  unfolding with_lines
  events_after h = rw (accepted h)

  refused_or : (P : TStdReport → Type 0) (b : Bool) → refuses r v ≡ b → P r → P (with_lines r (record_line (lines_of r) v)) → P (recorded r v).report
  refused_or P true e p q = rw (refused e) p
  refused_or P false e p q = rw (accepted e) q

  pub samples_after : (recorded r v).report.pcr_samples ≡ r.pcr_samples
  unfolding with_lines
  samples_after = refused_or (λ (s : TStdReport). s.pcr_samples ≡ r.pcr_samples) (refuses r v) refl refl refl

  pub seconds_after : (recorded r v).report.modelled_seconds ≡ r.modelled_seconds
  unfolding with_lines
  seconds_after = refused_or (λ (s : TStdReport). s.modelled_seconds ≡ r.modelled_seconds) (refuses r v) refl refl refl

  module _ (full : length r.violations ≡ 64) (free : refuses r v ≡ false) where
    few : r.violation_count ≤ 64
    unfolding refuses
    few = ltb-false 64 r.violation_count (or_parts _ _ (or_parts (ltb 64 r.violation_count || eqb r.violation_events most_events) _ free).0).0

    pub lines_length : length (lines_of r) ≡ r.violation_count
    lines_length = let h : r.violation_count ≤ length r.violations = omega (arith, few) in length-take-le r.violation_count r.violations h

    room_by : (b : Bool) → has_key (keys_of (lines_of r)) (key_of v) ≡ b → length (record_line (lines_of r) v) ≤ 64
    unfolding refuses
    room_by true e = rw (line_length (lines_of r) v, add_old (keys_of (lines_of r)) (key_of v) e, keys_length (lines_of r), lines_length) few
    room_by false e =
        let n : (not (has_key (keys_of (lines_of r)) (key_of v)) && eqb r.violation_count 64) ≡ false = (or_parts (ltb 64 r.violation_count || eqb r.violation_events most_events) _ free).1 in
        let m : r.violation_count ≡ 64 → ⊥ = eqb-false r.violation_count 64 (rw e at n) in
        rw (line_length (lines_of r) v, add_new (keys_of (lines_of r)) (key_of v) e, length-append (keys_of (lines_of r)) (key_of v ∷ []), keys_length (lines_of r), lines_length) (omega (arith, few))

    pub room : length (record_line (lines_of r) v) ≤ 64
    room = room_by (has_key (keys_of (lines_of r)) (key_of v)) refl

    pub full_after : length (recorded r v).report.violations ≡ 64
    unfolding with_lines
    full_after = rw (accepted free, length-append (record_line (lines_of r) v) (drop (length (record_line (lines_of r) v)) r.violations), length-drop) (omega (arith, room))

    pub count_grows : r.violation_count ≤ (recorded r v).report.violation_count
    count_grows = omega (arith, line_grows (lines_of r) v, lines_length, count_after free)

  -- the records behind the lines stay as they were
  pub unused_after : (n : ℕ) → (recorded r v).report.violation_count ≤ n → drop n (recorded r v).report.violations ≡ drop n r.violations
  unfolding with_lines
  unused_after n = refused_or (λ (s : TStdReport). s.violation_count ≤ n → drop n s.violations ≡ drop n r.violations) (refuses r v) refl (λ h. refl) (λ h. behind (record_line (lines_of r) v) h)
    where
      behind : (ls : List ViolationLine) → length ls ≤ n → drop n (ls ++ drop (length ls) r.violations) ≡ drop n r.violations
      behind ls h =
          let e : n ≡ length ls + (n - length ls) = omega arith in
          rw e (drop-append-add ls (drop (length ls) r.violations) (n - length ls) ∙ drop-drop (n - length ls) (length ls) r.violations)

-- ---- two events of one key

-- the report with one event more counted
abbrev pub one_more_event : TStdReport → TStdReport
one_more_event r = record { violations = r.violations; violation_count = r.violation_count; violation_events = r.violation_events + 1; pcr_samples = r.pcr_samples; modelled_seconds = r.modelled_seconds }

lines_twice : (r : TStdReport) (ks ms : List ViolationLine) → length ms ≡ length ks → with_lines (with_lines r ks) ms ≡ one_more_event (with_lines r ms)
unfolding with_lines
lines_twice r ks ms e = rw (drop_at ks (drop (length ks) r.violations) (length ms) (sym e), e)

module _ (r : TStdReport) (a b : TStdViolation) (same : same_key (key_of a) (key_of b) ≡ true) where
  same_length : length (record_line (record_line (lines_of r) a) b) ≡ length (record_line (lines_of r) a)
  same_length =
      let ks = keys_of (record_line (lines_of r) a) in
      let h : has_key ks (key_of b) ≡ true = rw (line_keys (lines_of r) a, ← same_key_eq (key_of a) (key_of b) same) (has_added (keys_of (lines_of r)) (key_of a)) in
      line_length (record_line (lines_of r) a) b ∙ rw (add_old ks (key_of b) h, keys_length (record_line (lines_of r) a))

  merged_free : refuses r a ≡ false → refuses r (merge_of a b) ≡ false
  unfolding refuses
  merged_free p = rw (merge_key a b) p

  -- recording both is recording the merged event, but for the count of events
  pub same_key_recorded : refuses r a ≡ false → refuses (recorded r a).report b ≡ false → (recorded (recorded r a).report b).report ≡ one_more_event (recorded r (merge_of a b)).report
  same_key_recorded p q =
      let e : record_line (lines_of (recorded r a).report) b ≡ record_line (lines_of r) (merge_of a b) = rw (lines_after r a p) (same_key_line a b same (lines_of r)) in
      let n : length (record_line (lines_of r) (merge_of a b)) ≡ length (record_line (lines_of r) a) = rw (← same_key_line a b same (lines_of r)) same_length in
      rw (accepted (recorded r a).report b q, e, accepted r a p, accepted r (merge_of a b) (merged_free p)) (lines_twice r (record_line (lines_of r) a) (record_line (lines_of r) (merge_of a b)) n)

-- ---- a list of events

pub all_append : (r : TStdReport) (us vs : List TStdViolation) → record_all r (us ++ vs) ≡ record_all (record_all r us) vs
unfolding record_all
all_append r [] vs = refl
all_append r (u ∷ us) vs = all_append (recorded r u).report us vs

pub samples_all : (r : TStdReport) (vs : List TStdViolation) → (record_all r vs).pcr_samples ≡ r.pcr_samples
unfolding record_all
samples_all r [] = refl
samples_all r (v ∷ vs) = samples_all (recorded r v).report vs ∙ samples_after r v

pub seconds_all : (r : TStdReport) (vs : List TStdViolation) → (record_all r vs).modelled_seconds ≡ r.modelled_seconds
unfolding record_all
seconds_all r [] = refl
seconds_all r (v ∷ vs) = seconds_all (recorded r v).report vs ∙ seconds_after r v

-- the first of accepted events is accepted, and so are the others after it
first_free : (r : TStdReport) (v : TStdViolation) (vs : List TStdViolation) → accepts r (v ∷ vs) ≡ true → refuses r v ≡ false
unfolding accepts
first_free r v vs a = not-true (refuses r v) (and_parts _ (accepts (recorded r v).report vs) a).0

rest_free : (r : TStdReport) (v : TStdViolation) (vs : List TStdViolation) → accepts r (v ∷ vs) ≡ true → accepts (recorded r v).report vs ≡ true
unfolding accepts
rest_free r v vs a = (and_parts (not (refuses r v)) _ a).1

pub lines_all : (r : TStdReport) (vs : List TStdViolation) → accepts r vs ≡ true → lines_of (record_all r vs) ≡ record_lines (lines_of r) vs
unfolding record_all record_lines
lines_all r [] a = refl
lines_all r (v ∷ vs) a = lines_all (recorded r v).report vs (rest_free r v vs a) ∙ ap (λ (ls : List ViolationLine). record_lines ls vs) (lines_after r v (first_free r v vs a))

pub events_all : (r : TStdReport) (vs : List TStdViolation) → accepts r vs ≡ true → (record_all r vs).violation_events ≡ r.violation_events + length vs
unfolding record_all
events_all r [] a = omega arith
events_all r (v ∷ vs) a = let h = events_all (recorded r v).report vs (rest_free r v vs a) in omega (arith, events_after r v (first_free r v vs a))

count_all : (r : TStdReport) (vs : List TStdViolation) → length r.violations ≡ 64 → accepts r vs ≡ true → r.violation_count ≤ (record_all r vs).violation_count
unfolding record_all
count_all r [] f a = omega arith
count_all r (v ∷ vs) f a =
    let e = first_free r v vs a in
    let h = count_all (recorded r v).report vs (full_after r v f e) (rest_free r v vs a) in omega (arith, count_grows r v f e)

pub unused_all : (r : TStdReport) (vs : List TStdViolation) (n : ℕ) → length r.violations ≡ 64 → accepts r vs ≡ true → (record_all r vs).violation_count ≤ n → drop n (record_all r vs).violations ≡ drop n r.violations
unfolding record_all
unused_all r [] n f a h = refl
unused_all r (v ∷ vs) n f a h =
    let e = first_free r v vs a in
    let c = count_all (recorded r v).report vs (full_after r v f e) (rest_free r v vs a) in
    let k : (recorded r v).report.violation_count ≤ n = omega arith in
    unused_all (recorded r v).report vs n (full_after r v f e) (rest_free r v vs a) h ∙ unused_after r v n k

-- ---- keys out of a list: no event is refused

-- a report whose lines have distinct keys out of the list ps
pub record Kept (ps : List Key) (r : TStdReport) : Type 0 where
  pub full : length r.violations ≡ 64
  pub few : r.violation_count ≤ 64
  pub apart : distinct (keys_of (lines_of r)) ≡ true
  pub known : all_in ps (keys_of (lines_of r)) ≡ true

pub kept_empty : (ps : List Key) → Kept ps empty_report
unfolding empty_report keys_of distinct all_in
kept_empty ps = record { full = refl; few = omega arith; apart = refl; known = refl }

pub kept_count : (ps : List Key) (r : TStdReport) → Kept ps r → r.violation_count ≤ length ps
kept_count ps r k =
    let n : r.violation_count ≤ length r.violations = omega (arith, k.full, k.few) in
    let l : length (lines_of r) ≡ r.violation_count = length-take-le r.violation_count r.violations n in
    omega (arith, distinct_length (keys_of (lines_of r)) ps k.apart k.known, keys_length (lines_of r))

module _ (ps : List Key) (short : length ps ≤ 64) where
  module _ (r : TStdReport) (v : TStdViolation) (k : Kept ps r) (h : has_key ps (key_of v) ≡ true) where
    lines_apart : distinct (keys_of (record_line (lines_of r) v)) ≡ true
    lines_apart = rw (line_keys (lines_of r) v) (distinct_add (keys_of (lines_of r)) (key_of v) k.apart)

    lines_known : all_in ps (keys_of (record_line (lines_of r) v)) ≡ true
    lines_known = rw (line_keys (lines_of r) v) (all_add (keys_of (lines_of r)) (key_of v) ps k.known h)

    free_by : (b : Bool) → has_key (keys_of (lines_of r)) (key_of v) ≡ b → r.violation_events < most_events → refuses r v ≡ false
    unfolding refuses
    free_by true e m =
        let ne : r.violation_events ≡ most_events → ⊥ = omega arith in
        simp (le-ltb 64 r.violation_count k.few, ne_eqb r.violation_events most_events ne, e)
    free_by false e m =
        let ne : r.violation_events ≡ most_events → ⊥ = omega arith in
        let n : r.violation_count ≤ length r.violations = omega (arith, k.full, k.few) in
        let l : length (lines_of r) ≡ r.violation_count = length-take-le r.violation_count r.violations n in
        let d = distinct_length (keys_of (record_line (lines_of r) v)) ps lines_apart lines_known in
        let s : length (keys_of (record_line (lines_of r) v)) ≡ length (lines_of r) + 1 = rw (line_keys (lines_of r) v, add_new (keys_of (lines_of r)) (key_of v) e, length-append (keys_of (lines_of r)) (key_of v ∷ []), keys_length (lines_of r)) in
        let c : r.violation_count ≡ 64 → ⊥ = omega (arith, short) in
        simp (le-ltb 64 r.violation_count k.few, ne_eqb r.violation_events most_events ne, e, ne_eqb r.violation_count 64 c)

    -- an event of such a key is accepted
    pub record_accepted : r.violation_events < most_events → refuses r v ≡ false
    record_accepted m = free_by (has_key (keys_of (lines_of r)) (key_of v)) refl m

    pub kept_record : r.violation_events < most_events → Kept ps (recorded r v).report
    kept_record m =
        let e = record_accepted m in
        record {
          full = full_after r v k.full e;
          few = rw (count_after r v e) (room r v k.full e);
          apart = rw (lines_after r v e) lines_apart;
          known = rw (lines_after r v e) lines_known;
        }

  -- events of keys out of ps: none is refused, and the report's lines keep distinct keys out of ps
  pub records_kept : (r : TStdReport) (vs : List TStdViolation) → Kept ps r → all_in ps (event_keys vs) ≡ true → r.violation_events + length vs ≤ most_events → (accepts r vs ≡ true) × Kept ps (record_all r vs)
  unfolding accepts record_all all_in event_keys
  records_kept r [] k h m = (refl, k)
  records_kept r (v ∷ vs) k h m =
      let hv : has_key ps (key_of v) ≡ true = (and_parts _ (all_in ps (event_keys vs)) h).0 in
      let mv : r.violation_events < most_events = omega arith in
      let e : refuses r v ≡ false = record_accepted r v k hv mv in
      let mr : (recorded r v).report.violation_events + length vs ≤ most_events = omega (arith, events_after r v e) in
      let i = records_kept (recorded r v).report vs (kept_record r v k hv mv) (and_parts (has_key ps (key_of v)) _ h).1 mr in
      (and_from (not (refuses r v)) _ (rw e) i.0, i.1)

  pub records_accepted : (r : TStdReport) (vs : List TStdViolation) → Kept ps r → all_in ps (event_keys vs) ≡ true → r.violation_events + length vs ≤ most_events → accepts r vs ≡ true
  records_accepted r vs k h m = (records_kept r vs k h m).0

-- ---- conformance

some_line : (r : TStdReport) (v : TStdViolation) (vs : List TStdViolation) → accepts r (v ∷ vs) ≡ true → 1 ≤ (record_all r (v ∷ vs)).violation_count
unfolding record_all
some_line r v [] a = rw (count_after r v (first_free r v [] a)) (line_there (lines_of r) v)
some_line r v (w ∷ ws) a = some_line (recorded r v).report w ws (rest_free r v (w ∷ ws) a)

-- a report made by recording is conformant exactly if its events are 0
pub conformant_all : (vs : List TStdViolation) → accepts empty_report vs ≡ true → conformant (record_all empty_report vs) ≡ eqb (record_all empty_report vs).violation_events 0
unfolding record_all empty_report
conformant_all [] a = refl
conformant_all (v ∷ vs) a =
    let lines : (record_all empty_report (v ∷ vs)).violation_count ≡ 0 → ⊥ = omega (arith, some_line empty_report v vs a) in
    let events : (record_all empty_report (v ∷ vs)).violation_events ≡ 0 → ⊥ = omega (arith, events_all empty_report (v ∷ vs) a) in
    ne_eqb _ 0 lines ∙ sym (ne_eqb _ 0 events)
