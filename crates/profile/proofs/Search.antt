-- The search for the first entry of a list that is a given PID: the loop over the first n entries, what is found, and std's search.
-- Assumes nothing.
use Prim.Native.Nat.{ℕ, zero, suc, ◌+◌, ◌≤◌, ◌<◌}
use mathlib.Core.Path.{◌≡◌, refl, sym, ◌∙◌}
use mathlib.Core.Bool.{Bool, true, false, cond, not, ◌||◌, false≢true}
use mathlib.Core.List.Memᴰ
use mathlib.Core.List.{List, [], ◌∷◌, Memᴰ}
use mathlib.Core.Logic.{◌⊎◌, inl, inr}
use native.Mathlib.Omega.{arith}
use native.Mathlib.Numerals.{add-one}
use borrow.Author.Tests.{eq-eqb, ne_eqb, lt-ltb, eqb-true, eqb-false}
use lib.Dec.{eqb, ltb, leb-suc-suc}
use lib.ListN.{length, take, drop, get_or, drop_of_length-le}
use lib.Seq.{drop-cons, get_or-take, length-take-le}
use Rattle.std.specs.Prelude.{Option, Some, None}
use Rattle.std.specs.List.{list_any, position, position_or_len}
use Rattle.profile.specs.Owner.{contains, first_index}

-- none of the first i of the n entries is the PID
pub record Skipped (l : List ℕ) (n pid i : ℕ) : Type 0 where
  pub reached : i ≤ n
  pub size : length (take n l) ≡ n
  pub rest : first_index (take n l) pid ≡ i + first_index (drop i (take n l)) pid

module _ (l : List ℕ) (n pid : ℕ) where
  pub skipped_none : n ≤ length l → Skipped l n pid 0
  skipped_none h = record { reached = omega arith; size = length-take-le n l h; rest = omega arith }

  module _ (i : ℕ) (s : Skipped l n pid i) (h : i < n) where
    entry : drop i (take n l) ≡ get_or l i 0 ∷ drop (suc i) (take n l)
    entry =
        let inside : i < length (take n l) = omega (arith, s.size) in
        drop-cons (take n l) i 0 inside ∙ rw (get_or-take n l i 0 h)

    pub skipped_found : get_or l i 0 ≡ pid → i ≡ first_index (take n l) pid
    unfolding first_index
    skipped_found e = sym (s.rest ∙ rw (entry, eq-eqb (get_or l i 0) pid e) (omega arith))

    pub skipped_next : (get_or l i 0 ≡ pid → ⊥) → Skipped l n pid (i + 1)
    unfolding first_index
    skipped_next e =
        record { reached = omega arith; size = s.size; rest = s.rest ∙ rw (entry, ne_eqb (get_or l i 0) pid e, add-one) (omega arith) }

  pub skipped_all : (i : ℕ) → Skipped l n pid i → n ≤ i → i ≡ first_index (take n l) pid
  unfolding first_index
  skipped_all i s h =
      let none : length (take n l) ≤ i = omega (arith, s.size) in
      sym (s.rest ∙ rw (drop_of_length-le (take n l) none) (omega arith))

-- an entry is the PID exactly if the search ends before the length
pub contains_index : (l : List ℕ) (pid : ℕ) → contains l pid ≡ ltb (first_index l pid) (length l)
unfolding contains first_index
contains_index [] pid = refl
contains_index (p ∷ l) pid = by_test (eqb p pid) (contains_index l pid)
  where
    by_test : (b : Bool) → contains l pid ≡ ltb (first_index l pid) (length l) → b || contains l pid ≡ ltb (cond b 0 (suc (first_index l pid))) (suc (length l))
    by_test true ih = sym (lt-ltb 0 (suc (length l)) (omega arith))
    by_test false ih = ih ∙ sym (leb-suc-suc (suc (first_index l pid)) (length l))

module _ (pid : ℕ) where
  -- the entry found is the PID, and none before it is
  pub index_at : (l : List ℕ) → first_index l pid < length l → get_or l (first_index l pid) 0 ≡ pid
  unfolding first_index
  index_at [] h = absurd (omega arith)
  index_at (p ∷ l) h = by_test (eqb p pid) refl h (index_at l)
    where
      by_test : (t : Bool) → eqb p pid ≡ t → cond t 0 (suc (first_index l pid)) < suc (length l) → (first_index l pid < length l → get_or l (first_index l pid) 0 ≡ pid) → get_or (p ∷ l) (cond t 0 (suc (first_index l pid))) 0 ≡ pid
      by_test true e h ih = eqb-true p pid e
      by_test false e h ih = ih (omega arith)

  pub index_before : (l : List ℕ) (j : ℕ) → j < first_index l pid → get_or l j 0 ≡ pid → ⊥
  unfolding first_index
  index_before [] j h e = omega arith
  index_before (p ∷ l) j h e = by_test (eqb p pid) refl j h e (index_before l)
    where
      by_test : (t : Bool) → eqb p pid ≡ t → (j : ℕ) → j < cond t 0 (suc (first_index l pid)) → get_or (p ∷ l) j 0 ≡ pid → ((k : ℕ) → k < first_index l pid → get_or l k 0 ≡ pid → ⊥) → ⊥
      by_test true q j h e ih = omega arith
      by_test false q zero h e ih = eqb-false p pid q e
      by_test false q (suc j) h e ih = ih j (omega arith) e

  pub contains_member : (l : List ℕ) → contains l pid ≡ true → Memᴰ pid l
  unfolding contains
  contains_member [] e = absurd (false≢true e)
  contains_member (p ∷ l) e = by_test (eqb p pid) refl e (contains_member l)
    where
      by_test : (t : Bool) → eqb p pid ≡ t → t || contains l pid ≡ true → (contains l pid ≡ true → Memᴰ pid l) → Memᴰ pid (p ∷ l)
      by_test true q e ih = Memᴰ.head (sym (eqb-true p pid q))
      by_test false q e ih = Memᴰ.tail (ih e)

  pub member_contains : (l : List ℕ) → Memᴰ pid l → contains l pid ≡ true
  unfolding contains
  member_contains [] m = absurd (Memᴰ.not-nil m)
  member_contains (p ∷ l) m = by_place (Memᴰ.cases_cons m) (member_contains l)
    where
      or_true : (t : Bool) → t || true ≡ true
      or_true true = refl
      or_true false = refl

      by_place : (pid ≡ p) ⊎ Memᴰ pid l → (Memᴰ pid l → contains l pid ≡ true) → eqb p pid || contains l pid ≡ true
      by_place (inl e) ih = rw (eq-eqb p pid (sym e))
      by_place (inr m) ih = rw (ih m) (or_true (eqb p pid))

module _ (pid : ℕ) where
  -- std's test of each entry is the same
  any_contains : (l : List ℕ) → list_any (λ p. eqb p pid) l ≡ contains l pid
  unfolding contains
  any_contains [] = refl
  any_contains (p ∷ l) = rw (any_contains l) refl

  pub any_is : (l : List ℕ) {r b : Bool} → r ≡ list_any (λ p. eqb p pid) l → r ≡ b → contains l pid ≡ b
  any_is l e f = sym (any_contains l) ∙ sym e ∙ f

  -- std's search gives the same index
  position_index : (l : List ℕ) → position_or_len (λ p. eqb p pid) l ≡ first_index l pid
  unfolding first_index
  position_index [] = refl
  position_index (p ∷ l) = by_test (eqb p pid) (position_index l)
    where
      by_test : (t : Bool) → position_or_len (λ p. eqb p pid) l ≡ first_index l pid → cond (not t) (1 + position_or_len (λ p. eqb p pid) l) 0 ≡ cond t 0 (suc (first_index l pid))
      by_test true ih = refl
      by_test false ih = omega (arith, ih)

  position_is : (l : List ℕ) → position (λ p. eqb p pid) l ≡ cond (contains l pid) (Some (first_index l pid)) None
  position_is l = rw (position_index l, contains_index l pid)

  -- where there is one, and where none
  module _ (l : List ℕ) {r : Option ℕ} (e : r ≡ position (λ p. eqb p pid) l) where
    pub index_some : {i : ℕ} → r ≡ Some i → (contains l pid ≡ true) × (i ≡ first_index l pid)
    index_some {i} f = by_test (contains l pid) refl (sym (e ∙ position_is l) ∙ f)
      where
        by_test : (t : Bool) → contains l pid ≡ t → cond t (Some (first_index l pid)) None ≡ Some i → (contains l pid ≡ true) × (i ≡ first_index l pid)
        by_test true c g = (c, cc)
        by_test false c g = cc

    pub index_none : r ≡ None → contains l pid ≡ false
    index_none f = by_test (contains l pid) refl (sym (e ∙ position_is l) ∙ f)
      where
        by_test : (t : Bool) → contains l pid ≡ t → cond t (Some (first_index l pid)) None ≡ None → contains l pid ≡ false
        by_test true c g = cc
        by_test false c g = c
