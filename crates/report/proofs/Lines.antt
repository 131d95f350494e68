-- Laws of the lines under events: their keys, what holds of each, and events of one key merged before they are recorded.
use mathlib.Core.Path.{◌≡◌, refl, sym, ap, ◌∙◌}
use mathlib.Core.Bool.{Bool, true, false, cond}
use mathlib.Core.List.{List, [], ◌∷◌, ◌++◌, map, append_assoc, append-nil}
use Prim.Native.Nat.{ℕ}
use lib.Ieee.{Float}
use Rattle.report.specs.declared.violation.Key.{Key}
use Rattle.report.specs.declared.violation.TStdViolation.{TStdViolation}
use Rattle.report.specs.declared.ViolationLine.{ViolationLine}
use Rattle.report.specs.Violation.{fields_of, key_of, same_key, merge_of, FieldsHave}
use Rattle.report.specs.Keys.{has_key, distinct, add_key, add_keys}
use Rattle.report.specs.Record.{keys_of, record_line, record_lines, Each, event_keys}
use Rattle.std.proofs.lemmas.Bool.{or_parts, true≢false}
use Rattle.report.proofs.Keys.{same_key_eq, has_add, has_added, distinct_add, distinct_before}
use Rattle.report.proofs.Merge.{merge_key, merge_has, merge_assoc}

abbrev pub key_of_line : ViolationLine → Key
key_of_line l = key_of l.violation

-- ---- the keys: each event's is put at the end where it is new

cons_cond : (k : Key) (b : Bool) (x y : List Key) → k ∷ cond b x y ≡ cond b (k ∷ x) (k ∷ y)
cons_cond k true x y = refl
cons_cond k false x y = refl

keys_by : (l : ViolationLine) (ls : List ViolationLine) (v : TStdViolation) (b : Bool) → same_key (key_of_line l) (key_of v) ≡ b →
    keys_of (record_line ls v) ≡ add_key (keys_of ls) (key_of v) → keys_of (record_line (l ∷ ls) v) ≡ add_key (keys_of (l ∷ ls)) (key_of v)
unfolding keys_of record_line add_key has_key
keys_by l ls v true e ih = rw (e, merge_key l.violation v)
keys_by l ls v false e ih = rw (e, ih, cons_cond)

pub line_keys : (ls : List ViolationLine) (v : TStdViolation) → keys_of (record_line ls v) ≡ add_key (keys_of ls) (key_of v)
unfolding keys_of record_line add_key has_key
line_keys [] v = refl
line_keys (l ∷ ls) v = keys_by l ls v (same_key (key_of_line l) (key_of v)) refl (line_keys ls v)

-- so the lines stand in the order of the first events of their keys
pub lines_keys : (ls : List ViolationLine) (vs : List TStdViolation) → keys_of (record_lines ls vs) ≡ add_keys (keys_of ls) (event_keys vs)
unfolding record_lines add_keys event_keys
lines_keys ls [] = refl
lines_keys ls (v ∷ vs) = lines_keys (record_line ls v) vs ∙ rw line_keys

-- distinct keys stay distinct
pub line_distinct : (ls : List ViolationLine) (v : TStdViolation) → distinct (keys_of ls) ≡ true → distinct (keys_of (record_line ls v)) ≡ true
line_distinct ls v d = rw (line_keys ls v) (distinct_add (keys_of ls) (key_of v) d)

pub lines_distinct : (ls : List ViolationLine) (vs : List TStdViolation) → distinct (keys_of ls) ≡ true → distinct (keys_of (record_lines ls vs)) ≡ true
unfolding record_lines
lines_distinct ls [] d = d
lines_distinct ls (v ∷ vs) d = lines_distinct (record_line ls v) vs (line_distinct ls v d)

pub lines_append : (ls : List ViolationLine) (us vs : List TStdViolation) → record_lines ls (us ++ vs) ≡ record_lines (record_lines ls us) vs
unfolding record_lines
lines_append ls [] vs = refl
lines_append ls (u ∷ us) vs = lines_append (record_line ls u) us vs

-- ---- what merging keeps and holds of each event, holds of each line

module _ (P : TStdViolation → Type 0) (merges : (a b : TStdViolation) → P a → P b → P (merge_of a b)) where
  abbrev OfLine : ViolationLine → Type 0
  OfLine l = P l.violation

  each_by : (l : ViolationLine) (ls : List ViolationLine) (v : TStdViolation) (b : Bool) → same_key (key_of_line l) (key_of v) ≡ b → P v → Each OfLine (record_line ls v) → Each OfLine (l ∷ ls) → Each OfLine (record_line (l ∷ ls) v)
  unfolding Each record_line
  each_by l ls v true e p ih h = rw e (merges l.violation v h.0 p, h.1)
  each_by l ls v false e p ih h = rw e (h.0, ih)

  pub each_line : (ls : List ViolationLine) (v : TStdViolation) → P v → Each (λ (l : ViolationLine). P l.violation) ls → Each (λ (l : ViolationLine). P l.violation) (record_line ls v)
  unfolding Each record_line
  each_line [] v p h = (p, tt)
  each_line (l ∷ ls) v p h = each_by l ls v (same_key (key_of_line l) (key_of v)) refl p (each_line ls v p h.1) h

  pub each_lines : (ls : List ViolationLine) (vs : List TStdViolation) → Each P vs → Each (λ (l : ViolationLine). P l.violation) ls → Each (λ (l : ViolationLine). P l.violation) (record_lines ls vs)
  unfolding Each record_lines
  each_lines ls [] q h = h
  each_lines ls (v ∷ vs) q h = each_lines (record_line ls v) vs q.1 (each_line ls v q.0 h)

-- so for what is asked of limit, decode time and figure
pub fields_lines : (L : ℕ → Type 0) (D : Float → Type 0) (B : ℕ → Type 0) (S : Float → Type 0) (ls : List ViolationLine) (vs : List TStdViolation) →
    Each (FieldsHave L D B S) vs → Each (λ (l : ViolationLine). FieldsHave L D B S l.violation) ls → Each (λ (l : ViolationLine). FieldsHave L D B S l.violation) (record_lines ls vs)
fields_lines L D B S = each_lines (FieldsHave L D B S) (λ a b. merge_has a b L D B S)

-- ---- events of one key

module _ (l : ViolationLine) (ls : List ViolationLine) (v : TStdViolation) where
  line_merged : same_key (key_of_line l) (key_of v) ≡ true → record_line (l ∷ ls) v ≡ record { violation = merge_of l.violation v } ∷ ls
  unfolding record_line
  line_merged e = rw e

  line_passed : same_key (key_of_line l) (key_of v) ≡ false → record_line (l ∷ ls) v ≡ l ∷ record_line ls v
  unfolding record_line
  line_passed e = rw e

  -- a line's key stays as events are merged into it
  merged_key : (w : TStdViolation) {t : Bool} → same_key (key_of_line l) (key_of w) ≡ t → same_key (key_of (merge_of l.violation v)) (key_of w) ≡ t
  merged_key w e = rw (merge_key l.violation v) e

same_kind : (a b : TStdViolation) → same_key (key_of a) (key_of b) ≡ true → (fields_of a).kind ≡ (fields_of b).kind
unfolding key_of
same_kind a b h = ap (λ (k : Key). k.kind) (same_key_eq (key_of a) (key_of b) h)

module _ (a b : TStdViolation) (same : same_key (key_of a) (key_of b) ≡ true) where
  same_as : (k : Key) {t : Bool} → same_key k (key_of a) ≡ t → same_key k (key_of b) ≡ t
  same_as k e = rw (← same_key_eq (key_of a) (key_of b) same) e

  same_by : (l : ViolationLine) (ls : List ViolationLine) (t : Bool) → same_key (key_of_line l) (key_of a) ≡ t → record_line (record_line ls a) b ≡ record_line ls (merge_of a b) → record_line (record_line (l ∷ ls) a) b ≡ record_line (l ∷ ls) (merge_of a b)
  same_by l ls true e ih =
      ap (λ (x : List ViolationLine). record_line x b) (line_merged l ls a e) ∙ line_merged (record { violation = merge_of l.violation a }) ls b (merged_key l ls a b (same_as (key_of_line l) e)) ∙
      ap (λ (v : TStdViolation). record { violation = v } ∷ ls) (merge_assoc l.violation a b (same_kind l.violation a e) (same_kind a b same)) ∙ sym (line_merged l ls (merge_of a b) (rw (merge_key a b) e))
  same_by l ls false e ih =
      ap (λ (x : List ViolationLine). record_line x b) (line_passed l ls a e) ∙ line_passed l (record_line ls a) b (same_as (key_of_line l) e) ∙ ap (λ (x : List ViolationLine). l ∷ x) ih ∙
      sym (line_passed l ls (merge_of a b) (rw (merge_key a b) e))

  -- two events of one key, one after the other, make the lines that the merged event makes
  pub same_key_line : (ls : List ViolationLine) → record_line (record_line ls a) b ≡ record_line ls (merge_of a b)
  unfolding record_line
  same_key_line [] = rw same
  same_key_line (l ∷ ls) = same_by l ls (same_key (key_of_line l) (key_of a)) refl (same_key_line ls)

module _ (u b : TStdViolation) (other : same_key (key_of u) (key_of b) ≡ false) where
  swap_by : (l : ViolationLine) (ls : List ViolationLine) (s t : Bool) → same_key (key_of_line l) (key_of u) ≡ s → same_key (key_of_line l) (key_of b) ≡ t → (has_key (keys_of ls) (key_of b) ≡ true → record_line (record_line ls u) b ≡ record_line (record_line ls b) u) → has_key (keys_of (l ∷ ls)) (key_of b) ≡ true → record_line (record_line (l ∷ ls) u) b ≡ record_line (record_line (l ∷ ls) b) u
  unfolding has_key keys_of
  swap_by l ls true true d e ih h = absurd (true≢false (sym e ∙ rw (same_key_eq (key_of_line l) (key_of u) d) other))
  swap_by l ls true false d e ih h =
      ap (λ (x : List ViolationLine). record_line x b) (line_merged l ls u d) ∙ line_passed (record { violation = merge_of l.violation u }) ls b (merged_key l ls u b e) ∙ sym (line_merged l (record_line ls b) u d) ∙
      sym (ap (λ (x : List ViolationLine). record_line x u) (line_passed l ls b e))
  swap_by l ls false true d e ih h =
      ap (λ (x : List ViolationLine). record_line x b) (line_passed l ls u d) ∙ line_merged l (record_line ls u) b e ∙ sym (line_passed (record { violation = merge_of l.violation b }) ls u (merged_key l ls b u d)) ∙
      sym (ap (λ (x : List ViolationLine). record_line x u) (line_merged l ls b e))
  swap_by l ls false false d e ih h =
      ap (λ (x : List ViolationLine). record_line x b) (line_passed l ls u d) ∙ line_passed l (record_line ls u) b e ∙ ap (λ (x : List ViolationLine). l ∷ x) (ih (rw e at h)) ∙ sym (line_passed l (record_line ls b) u d) ∙
      sym (ap (λ (x : List ViolationLine). record_line x u) (line_passed l ls b e))

  -- an event whose key has a line already may come before one of another key
  pub swapped : (ls : List ViolationLine) → has_key (keys_of ls) (key_of b) ≡ true → record_line (record_line ls u) b ≡ record_line (record_line ls b) u
  unfolding has_key keys_of
  swapped [] h = absurd (true≢false (sym h))
  swapped (l ∷ ls) h = swap_by l ls (same_key (key_of_line l) (key_of u)) (same_key (key_of_line l) (key_of b)) refl refl (swapped ls) h

module _ (b : TStdViolation) (vs : List TStdViolation) where
  -- the event b may come before events of other keys, where its key has a line already
  pub moved : (ls : List ViolationLine) (us : List TStdViolation) → has_key (keys_of ls) (key_of b) ≡ true → Each (λ (u : TStdViolation). same_key (key_of u) (key_of b) ≡ false) us → record_lines ls (us ++ (b ∷ vs)) ≡ record_lines (record_line ls b) (us ++ vs)
  unfolding record_lines Each
  moved ls [] h o = refl
  moved ls (u ∷ us) h o =
      moved (record_line ls u) us (rw (line_keys ls u) (has_add (keys_of ls) (key_of u) (key_of b) h)) o.1 ∙ ap (λ (x : List ViolationLine). record_lines x (us ++ vs)) (swapped u b o.0 ls h)

  -- an event merges into the one of its key before it, whatever events of other keys come between
  pub same_key_merges : (a : TStdViolation) → same_key (key_of a) (key_of b) ≡ true → (ls : List ViolationLine) (us : List TStdViolation) → Each (λ (u : TStdViolation). same_key (key_of u) (key_of b) ≡ false) us →
      record_lines ls ((a ∷ us) ++ (b ∷ vs)) ≡ record_lines ls ((merge_of a b ∷ us) ++ vs)
  unfolding record_lines
  same_key_merges a same ls us o =
      let h : has_key (keys_of (record_line ls a)) (key_of b) ≡ true = rw (line_keys ls a, ← same_key_eq (key_of a) (key_of b) same) (has_added (keys_of ls) (key_of a)) in
      moved (record_line ls a) us h o ∙ ap (λ (x : List ViolationLine). record_lines x (us ++ vs)) (same_key_line a b same ls)

-- ---- lines recorded anew: events that were merged by key and are recorded in the order of their first make the same lines

new_by : (l : ViolationLine) (ls : List ViolationLine) (v : TStdViolation) → has_key (keys_of (l ∷ ls)) (key_of v) ≡ false → (has_key (keys_of ls) (key_of v) ≡ false → record_line ls v ≡ ls ++ (record { violation = v } ∷ [])) → record_line (l ∷ ls) v ≡ (l ∷ ls) ++ (record { violation = v } ∷ [])
unfolding has_key keys_of
new_by l ls v h ih = line_passed l ls v (or_parts (same_key (key_of_line l) (key_of v)) _ h).0 ∙ ap (λ (x : List ViolationLine). l ∷ x) (ih (or_parts (same_key (key_of_line l) (key_of v)) _ h).1)

pub line_new : (ls : List ViolationLine) (v : TStdViolation) → has_key (keys_of ls) (key_of v) ≡ false → record_line ls v ≡ ls ++ (record { violation = v } ∷ [])
unfolding record_line
line_new [] v h = refl
line_new (l ∷ ls) v h = new_by l ls v h (line_new ls v)

keys_append : (ls ms : List ViolationLine) → keys_of (ls ++ ms) ≡ keys_of ls ++ keys_of ms
unfolding keys_of
keys_append [] ms = refl
keys_append (l ∷ ls) ms = ap (λ (x : List Key). key_of_line l ∷ x) (keys_append ls ms)

pub lines_again : (ls ms : List ViolationLine) → distinct (keys_of (ls ++ ms)) ≡ true → record_lines ls (map (λ (l : ViolationLine). l.violation) ms) ≡ ls ++ ms
unfolding record_lines keys_of
lines_again ls [] d = sym (append-nil ls)
lines_again ls (m ∷ ms) d =
    let h : has_key (keys_of ls) (key_of_line m) ≡ false = distinct_before (keys_of ls) (keys_of ms) (key_of_line m) (rw (keys_append ls (m ∷ ms)) at d) in
    let e : (ls ++ (m ∷ [])) ++ ms ≡ ls ++ (m ∷ ms) = append_assoc ls (m ∷ []) ms in
    ap (λ (x : List ViolationLine). record_lines x (map (λ (l : ViolationLine). l.violation) ms)) (line_new ls m.violation h) ∙ lines_again (ls ++ (m ∷ [])) ms (rw e d) ∙ e
