-- Laws of keys and of lists of them: a list of distinct keys that lie in another is no longer than that one.
use mathlib.Core.Path.{◌≡◌, refl, sym, ap, ◌∙◌}
use mathlib.Core.Bool.{Bool, true, false, cond, not, ◌||◌}
use mathlib.Core.List.{List, [], ◌∷◌, ◌++◌}
use Prim.Native.Nat.{ℕ, suc, ◌≤◌}
use native.Mathlib.Omega.{arith}
use lib.ListN.{length, length-append}
use lib.Dec.{eqb}
use borrow.Author.Tests.{eqb-true, eq-eqb, not-true}
use Rattle.report.specs.declared.violation.Key.{Key}
use Rattle.report.specs.Violation.{same_key}
use Rattle.report.specs.Keys.{has_key, all_in, distinct, add_key}
use Rattle.std.proofs.lemmas.Bool.{or_parts, and_parts, and_from, true≢false}

abbrev key_at : ℕ → ℕ → Key
key_at n p = record { kind = n; pid = p }

pub same_key_eq : (k l : Key) → same_key k l ≡ true → k ≡ l
same_key_eq k l h =
    let p : k.kind ≡ l.kind = eqb-true k.kind l.kind (and_parts _ _ h).0 in
    let q : k.pid ≡ l.pid = eqb-true k.pid l.pid (and_parts (eqb k.kind l.kind) _ h).1 in
    ap (λ (n : ℕ). key_at n k.pid) p ∙ ap (key_at l.kind) q

pub same_key_refl : (k : Key) → same_key k k ≡ true
same_key_refl k = and_from _ _ (eq-eqb k.kind k.kind refl) (eq-eqb k.pid k.pid refl)

same_key_sym_by : (k l : Key) (b : Bool) → same_key k l ≡ b → same_key l k ≡ false → same_key k l ≡ false
same_key_sym_by k l true e h = absurd (true≢false (sym (same_key_refl k) ∙ ap (λ (j : Key). same_key j k) (same_key_eq k l e) ∙ h))
same_key_sym_by k l false e h = e

pub unlike : (k l : Key) → same_key l k ≡ false → same_key k l ≡ false
unlike k l h = same_key_sym_by k l (same_key k l) refl h

-- ---- a key at the end

has_append : (ks js : List Key) (k : Key) → has_key (ks ++ js) k ≡ (has_key ks k || has_key js k)
unfolding has_key
has_append [] js k = refl
has_append (l ∷ ks) js k = grouped (same_key l k) (has_key ks k) (has_key js k) (has_append ks js k)
  where
    grouped : (a b c : Bool) {d : Bool} → d ≡ (b || c) → (a || d) ≡ ((a || b) || c)
    grouped true b c e = refl
    grouped false b c e = e

has_end : (ks : List Key) (k j : Key) → has_key (ks ++ (k ∷ [])) j ≡ (has_key ks j || (same_key k j || false))
unfolding has_key
has_end ks k j = has_append ks (k ∷ []) j

distinct_end : (ks : List Key) (k : Key) → distinct ks ≡ true → has_key ks k ≡ false → distinct (ks ++ (k ∷ [])) ≡ true
unfolding distinct has_key
distinct_end [] k d h = refl
distinct_end (l ∷ ks) k d h =
    let a : has_key ks l ≡ false = not-true _ (and_parts _ _ d).0 in
    let b : same_key l k ≡ false = (or_parts (same_key l k) (has_key ks k) h).0 in
    let e : same_key k l ≡ false = unlike k l b in
    and_from (not (has_key (ks ++ (k ∷ [])) l)) _ (rw (has_end ks k l, a, e)) (distinct_end ks k (and_parts (not (has_key ks l)) _ d).1 (or_parts (same_key l k) _ h).1)

-- among distinct keys, none is one of those before it
pub distinct_before : (ks js : List Key) (k : Key) → distinct (ks ++ (k ∷ js)) ≡ true → has_key ks k ≡ false
unfolding distinct has_key
distinct_before [] js k d = refl
distinct_before (l ∷ ks) js k d =
    let a : has_key (ks ++ (k ∷ js)) l ≡ false = not-true _ (and_parts _ (distinct (ks ++ (k ∷ js))) d).0 in
    let b : (same_key k l || has_key js l) ≡ false = (or_parts (has_key ks l) _ (sym (has_append ks (k ∷ js) l) ∙ a)).1 in
    rw (unlike l k (or_parts (same_key k l) _ b).0) (distinct_before ks js k (and_parts (not (has_key (ks ++ (k ∷ js)) l)) _ d).1)

all_end : (ps ks : List Key) (k : Key) → all_in ps ks ≡ true → has_key ps k ≡ true → all_in ps (ks ++ (k ∷ [])) ≡ true
unfolding all_in
all_end ps [] k a h = and_from (has_key ps k) true h refl
all_end ps (l ∷ ks) k a h = and_from (has_key ps l) _ (and_parts _ (all_in ps ks) a).0 (all_end ps ks k (and_parts (has_key ps l) _ a).1 h)

-- ---- a key added

module _ (ks : List Key) (k : Key) where
  pub add_old : has_key ks k ≡ true → add_key ks k ≡ ks
  unfolding add_key
  add_old h = rw h

  pub add_new : has_key ks k ≡ false → add_key ks k ≡ ks ++ (k ∷ [])
  unfolding add_key
  add_new h = rw h

  -- what holds of the list, and of it with the key at the end where that is new, holds of the list with the key added
  add_has : (P : List Key → Type 0) (b : Bool) → has_key ks k ≡ b → P ks → (has_key ks k ≡ false → P (ks ++ (k ∷ []))) → P (add_key ks k)
  add_has P true e p q = rw (add_old e) p
  add_has P false e p q = rw (add_new e) (q e)

  pub distinct_add : distinct ks ≡ true → distinct (add_key ks k) ≡ true
  distinct_add d = add_has (λ (l : List Key). distinct l ≡ true) (has_key ks k) refl d (distinct_end ks k d)

  pub all_add : (ps : List Key) → all_in ps ks ≡ true → has_key ps k ≡ true → all_in ps (add_key ks k) ≡ true
  all_add ps a h = add_has (λ (l : List Key). all_in ps l ≡ true) (has_key ks k) refl a (λ n. all_end ps ks k a h)

  pub has_add : (j : Key) → has_key ks j ≡ true → has_key (add_key ks k) j ≡ true
  has_add j h = add_has (λ (l : List Key). has_key l j ≡ true) (has_key ks k) refl h (λ n. rw (has_end ks k j, h))

  pub add_length : length ks ≤ length (add_key ks k)
  add_length = add_has (λ (l : List Key). length ks ≤ length l) (has_key ks k) refl (omega arith) (λ n. rw (length-append ks (k ∷ [])) (omega arith))

  has_added_by : (b : Bool) → has_key ks k ≡ b → has_key (add_key ks k) k ≡ true
  has_added_by true e = has_add k e
  has_added_by false e = rw (add_new e, has_end ks k k, e, same_key_refl k)

  pub has_added : has_key (add_key ks k) k ≡ true
  has_added = has_added_by (has_key ks k) refl

-- ---- distinct keys out of a list

-- the list without the first that is k
without : Key → List Key → List Key
without k [] = []
without k (p ∷ ps) = cond (same_key p k) ps (p ∷ without k ps)

shorter_by : (k p : Key) (ps : List Key) (b : Bool) → same_key p k ≡ b → (has_key ps k ≡ true → length ps ≡ suc (length (without k ps))) → has_key (p ∷ ps) k ≡ true → length (p ∷ ps) ≡ suc (length (without k (p ∷ ps)))
unfolding has_key without
shorter_by k p ps true e ih h = rw e
shorter_by k p ps false e ih h = rw e (ap suc (ih (rw e at h)))

shorter : (k : Key) (ps : List Key) → has_key ps k ≡ true → length ps ≡ suc (length (without k ps))
unfolding has_key without
shorter k [] h = absurd (true≢false (sym h))
shorter k (p ∷ ps) h = shorter_by k p ps (same_key p k) refl (shorter k ps) h

still_by : (k j p : Key) (ps : List Key) (b : Bool) → same_key p k ≡ b → same_key k j ≡ false → (has_key ps j ≡ true → has_key (without k ps) j ≡ true) → has_key (p ∷ ps) j ≡ true → has_key (without k (p ∷ ps)) j ≡ true
unfolding has_key without
still_by k j p ps true e u ih h =
    let n : same_key p j ≡ false = rw (same_key_eq p k e) u in
    rw e (rw n at h)
still_by k j p ps false e u ih h = rw e (either (same_key p j) (has_key ps j) ih h)
  where
    either : (a b : Bool) {c : Bool} → (b ≡ true → c ≡ true) → (a || b) ≡ true → (a || c) ≡ true
    either true b f g = refl
    either false b f g = f g

still : (k j : Key) (ps : List Key) → same_key k j ≡ false → has_key ps j ≡ true → has_key (without k ps) j ≡ true
unfolding has_key without
still k j [] u h = h
still k j (p ∷ ps) u h = still_by k j p ps (same_key p k) refl u (still k j ps u) h

all_still : (k : Key) (ps ks : List Key) → has_key ks k ≡ false → all_in ps ks ≡ true → all_in (without k ps) ks ≡ true
unfolding all_in has_key
all_still k ps [] n a = refl
all_still k ps (j ∷ ks) n a =
    and_from (has_key (without k ps) j) _ (still k j ps (unlike k j (or_parts (same_key j k) _ n).0) (and_parts _ (all_in ps ks) a).0) (all_still k ps ks (or_parts (same_key j k) _ n).1 (and_parts (has_key ps j) _ a).1)

pub distinct_length : (ks ps : List Key) → distinct ks ≡ true → all_in ps ks ≡ true → length ks ≤ length ps
unfolding distinct all_in
distinct_length [] ps d a = omega arith
distinct_length (k ∷ ks) ps d a =
    let n : has_key ks k ≡ false = not-true _ (and_parts _ _ d).0 in
    let s : length ps ≡ suc (length (without k ps)) = shorter k ps (and_parts _ _ a).0 in
    let i : length ks ≤ length (without k ps) = distinct_length ks (without k ps) (and_parts (not (has_key ks k)) _ d).1 (all_still k ps ks n (and_parts (has_key ps k) _ a).1) in
    omega arith
