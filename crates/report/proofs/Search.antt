-- The search of `record` for the line of an event's key, a turn at a time, and what each way out of it makes of the report.
use mathlib.Core.Path.{◌≡◌, refl, ap, ◌∙◌}
use mathlib.Core.Bool.{Bool, true, false, ◌||◌}
use mathlib.Core.Logic.{◌⊎◌, inl, inr}
use mathlib.Core.List.{List, [], ◌∷◌, ◌++◌, append_assoc}
use Prim.Native.Nat.{ℕ, zero, suc, ◌+◌, ◌≤◌, ◌<◌}
use native.Mathlib.Numerals.{add-one}
use native.Mathlib.Omega.{arith}
use lib.ListN.{length, take, drop, set, get_or, length-append, length-set, take-append-drop, drop_of_length-le}
use lib.Seq.{get_or-take, drop-cons, take-suc, length-take-le, take-set-lt, drop-set-lt, set_split, take_all}
use lib.Dec.{ltb}
use borrow.Author.Tests.{lt-ltb, le-ltb, eq-eqb, ne_eqb}
use Rattle.error.specs.declared.Refusal.{Refusal}
use Rattle.report.specs.declared.violation.TStdViolation.{TStdViolation}
use Rattle.report.specs.declared.ViolationLine.{ViolationLine}
use Rattle.report.specs.declared.TStdReport.{TStdReport}
use Rattle.std.specs.Prelude.{Ok, Err, Option, Some, None, MatchOption}
use Rattle.std.specs.List.{AllWithin, HoldsAt}
use Rattle.report.specs.declared.Recorded.{Recorded}
use Rattle.report.specs.Violation.{key_of, same_key, merge_of}
use Rattle.report.specs.Keys.{has_key}
use Rattle.report.specs.Record.{keys_of, record_line, lines_of, most_events, refuses, with_lines, recorded, record_code}
use Rattle.error.specs.Code.{code_told}

-- no line before i has the key of v
pub record Searched (r : TStdReport) (v : TStdViolation) (i : ℕ) : Type 0 where
  pub full : length r.violations ≡ 64
  pub lines : r.violation_count ≤ 64
  pub events : r.violation_events < most_events
  pub within : i ≤ r.violation_count
  pub put : record_line (lines_of r) v ≡ take i (lines_of r) ++ record_line (drop i (lines_of r)) v
  pub has : has_key (keys_of (lines_of r)) (key_of v) ≡ has_key (keys_of (drop i (lines_of r))) (key_of v)

module _ {A : Type 0} (l : List A) (n : ℕ) (a : A) where
  -- a store among the first n
  store_in : (i : ℕ) → i < n → set (take n l) i a ++ drop n l ≡ set l i a
  store_in i k = rw (← take-set-lt n l i a k, ← drop-set-lt n l i a k, take-append-drop)

  -- a store just past them
  store_next : n < length l → (take n l ++ (a ∷ [])) ++ drop (n + 1) l ≡ set l n a
  store_next h = rw (append_assoc, set_split l n a h, add-one)

module _ (r : TStdReport) (v : TStdViolation) where
  abbrev unchanged : Recorded
  unchanged = record { answer = Err Refusal.OutsideLimits; report = r }

  -- the event taken, with these lines
  abbrev taken : List ViolationLine → ℕ → Recorded
  taken ls n = record { answer = Ok tt; report = record { violations = ls; violation_count = n; violation_events = r.violation_events + 1; pcr_samples = r.pcr_samples; modelled_seconds = r.modelled_seconds } }

  pub refused_first : (r.violation_events ≡ most_events) ⊎ ((r.violation_events ≡ most_events → ⊥) × (64 < r.violation_count)) → recorded r v ≡ unchanged
  unfolding recorded refuses
  refused_first (inl h) = rw (eq-eqb r.violation_events most_events h, or_true (ltb 64 r.violation_count))
    where
      or_true : (b : Bool) → (b || true) ≡ true
      or_true true = refl
      or_true false = refl
  refused_first (inr h) = rw (lt-ltb 64 r.violation_count h.1)

  pub starts : length r.violations ≡ 64 → r.violation_events ≤ most_events → r.violation_count ≤ 64 → (r.violation_events ≡ most_events → ⊥) → Searched r v 0
  starts f m few ne = record {
    full = f;
    lines = few;
    events = omega arith;
    within = omega arith;
    put = refl;
    has = refl;
  }

  module _ (i : ℕ) (d : ViolationLine) (s : Searched r v i) where
    length_lines : length (lines_of r) ≡ r.violation_count
    length_lines = length-take-le r.violation_count r.violations (omega (arith, s.full, s.lines))

    not_spent : r.violation_events ≡ most_events → ⊥
    not_spent e = omega (arith, s.events)

    module _ (k : i < r.violation_count) where
      left : drop i (lines_of r) ≡ get_or r.violations i d ∷ drop (suc i) (lines_of r)
      left = drop-cons (lines_of r) i d (rw length_lines k) ∙ rw (get_or-take r.violation_count r.violations i d k)

      pub continues : same_key (key_of (get_or r.violations i d).violation) (key_of v) ≡ false → Searched r v (i + 1)
      unfolding record_line has_key keys_of
      continues e = record {
        full = s.full;
        lines = s.lines;
        events = s.events;
        within = omega arith;
        put = s.put ∙ rw (left, e, add-one, take-suc (lines_of r) i d (rw length_lines k), get_or-take r.violation_count r.violations i d k, append_assoc);
        has = s.has ∙ rw (left, e, add-one);
      }

      abbrev merged_line : ViolationLine
      merged_line = record { violation = merge_of (get_or r.violations i d).violation v }

      pub merged : same_key (key_of (get_or r.violations i d).violation) (key_of v) ≡ true → recorded r v ≡ taken (set r.violations i merged_line) r.violation_count
      unfolding recorded refuses with_lines record_line has_key keys_of
      merged e =
          let h : has_key (keys_of (lines_of r)) (key_of v) ≡ true = s.has ∙ rw (left, e) in
          let u : record_line (lines_of r) v ≡ set (lines_of r) i merged_line = s.put ∙ rw (left, e, set_split (lines_of r) i merged_line (rw length_lines k)) in
          let n : length (set (lines_of r) i merged_line) ≡ r.violation_count = rw (length-set, length_lines) in
          simp (le-ltb 64 r.violation_count s.lines, ne_eqb r.violation_events most_events not_spent, h, u, n, store_in r.violations r.violation_count merged_line i k)

    module _ (k : r.violation_count ≤ i) where
      none_left : drop i (lines_of r) ≡ []
      none_left = let h : length (lines_of r) ≤ i = omega (arith, length_lines) in drop_of_length-le (lines_of r) h

      no_line : has_key (keys_of (lines_of r)) (key_of v) ≡ false
      unfolding has_key keys_of
      no_line = s.has ∙ rw none_left

      new_line : record_line (lines_of r) v ≡ lines_of r ++ (record { violation = v } ∷ [])
      unfolding record_line
      new_line = s.put ∙ rw (none_left, take_all i (lines_of r) (omega (arith, length_lines)))

      pub full_table : r.violation_count ≡ 64 → recorded r v ≡ unchanged
      unfolding recorded refuses
      full_table f = simp (le-ltb 64 r.violation_count s.lines, ne_eqb r.violation_events most_events not_spent, no_line, eq-eqb r.violation_count 64 f)

      pub added : (r.violation_count ≡ 64 → ⊥) → (j : ℕ) → j ≡ r.violation_count → recorded r v ≡ taken (set r.violations j (record { violation = v })) (r.violation_count + 1)
      unfolding recorded refuses with_lines
      added f j e =
          let m : ViolationLine = record { violation = v } in
          let n : length (lines_of r ++ (m ∷ [])) ≡ r.violation_count + 1 = length-append (lines_of r) (m ∷ []) ∙ omega (arith, length_lines) in
          let b : r.violation_count < length r.violations = omega (arith, s.full, s.lines) in
          simp (le-ltb 64 r.violation_count s.lines, ne_eqb r.violation_events most_events not_spent, no_line, ne_eqb r.violation_count 64 f, new_line, n, e, store_next r.violations r.violation_count m b)

-- what the lines of a search say of the key of v
abbrev pub OfKey : TStdViolation → ViolationLine → Type 0
OfKey v l = same_key (key_of l.violation) (key_of v) ≡ true

abbrev pub OfOther : TStdViolation → ViolationLine → Type 0
OfOther v l = same_key (key_of l.violation) (key_of v) ≡ false

module _ (r : TStdReport) (v : TStdViolation) (d : ViolationLine) (start : Searched r v 0) where
  -- the lines that the search passed
  passed : (i : ℕ) → i ≤ r.violation_count → AllWithin (OfOther v) (lines_of r) 0 i → Searched r v i
  passed zero h at = start
  passed (suc i) h at =
      let before = passed i (omega arith) (λ k d low high. at k d low (omega arith)) in
      let other = rw (get_or-take r.violation_count r.violations i d h) at (at i d (omega arith) (omega arith)) in
      rw (← add-one) (continues r v i d before h other)

  line_count : length (lines_of r) ≡ r.violation_count
  line_count = length-take-le r.violation_count r.violations (omega (arith, start.full, start.lines))

  -- what a search that found line i, or none, tells
  abbrev pub Found : Option ℕ → Type 0
  Found found = MatchOption found (AllWithin (OfOther v) (lines_of r) 0 (length (lines_of r))) (λ i. (i < length (lines_of r)) × HoldsAt (OfKey v) (lines_of r) i × AllWithin (OfOther v) (lines_of r) 0 i)

  pub record At (i : ℕ) : Type 0 where
    pub within : i < r.violation_count
    pub searched : Searched r v i
    pub key : same_key (key_of (get_or r.violations i d).violation) (key_of v) ≡ true

  pub found_at : (i : ℕ) → Found (Some i) → At i
  found_at i f =
      let h : i < r.violation_count = omega (arith, line_count, f.0) in
      record { within = h; searched = passed i (omega arith) f.2; key = rw (get_or-take r.violation_count r.violations i d h) at (f.1 d) }

  pub found_none : Found None → Searched r v r.violation_count
  found_none f = passed r.violation_count (omega arith) (rw line_count at f)

-- ---- the answer's number

code_by : (r : TStdReport) (v : TStdViolation) (b : Bool) → refuses r v ≡ b → code_told (recorded r v).answer ≡ record_code r v
unfolding recorded record_code
code_by r v true e = rw e
code_by r v false e = rw e

pub told : (r : TStdReport) (v : TStdViolation) {x : Recorded} → x ≡ recorded r v → (x ≡ recorded r v) × (code_told x.answer ≡ record_code r v)
told r v e = (e, ap (λ (y : Recorded). code_told y.answer) e ∙ code_by r v (refuses r v) refl)
