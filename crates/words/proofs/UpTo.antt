-- The numbers 0, 1, .. n - 1: a test of each of them, a map over them, and a loop that fills an array by them. Assumes nothing.
use Prim.Native.Nat.{ℕ, zero, suc, ◌+◌, ◌-◌, ◌<◌}
use mathlib.Core.Path.{◌≡◌, refl, sym, ◌∙◌}
use mathlib.Core.Bool.{Bool, true, false}
use mathlib.Core.List.{List, [], ◌∷◌, ◌++◌, map, append_assoc}
use native.Mathlib.Nat.{zero-add}
use native.Mathlib.Omega.{arith}
use lib.ListN.{length, get_or, set, replicate}
use lib.Seq.{set_at}
use Rattle.std.specs.List.{list_all, range_with_len}
use Rattle.std.proofs.lemmas.List.Folds.{list_all_at}
use Rattle.std.proofs.lemmas.List.FromFn.{length-range_with_len, get_or-range_with_len, length-map-range_with_len, get_or-map-range_with_len, map-range_with_len_more, fill_by_all}
use Rattle.std.proofs.lemmas.Bool.{and_from}

module _ (test : ℕ → Bool) where
  by_test : (n i : ℕ) → i < n → list_all test (range_with_len 0 n) ≡ true → (b : Bool) → test i ≡ b → test i ≡ true
  by_test n i h e true t = t
  by_test n i h e false t =
      let size : i < length (range_with_len 0 n) = rw (length-range_with_len 0 n) h in
      let at : get_or (range_with_len 0 n) i 0 ≡ i = get_or-range_with_len 0 n i 0 h ∙ zero-add i in
      let none = list_all_at test (range_with_len 0 n) i 0 size (rw at t) in
      cc

  -- each number below n passes
  pub passes_at : (n : ℕ) → list_all test (range_with_len 0 n) ≡ true → (i : ℕ) → i < n → test i ≡ true
  passes_at n e i h = by_test n i h e (test i) refl

  -- one below n does not
  pub fails_at : (n i : ℕ) → i < n → test i ≡ false → list_all test (range_with_len 0 n) ≡ false
  fails_at n i h t = by_all (list_all test (range_with_len 0 n)) refl
    where
      by_all : (b : Bool) → list_all test (range_with_len 0 n) ≡ b → list_all test (range_with_len 0 n) ≡ false
      by_all true e = let p = passes_at n e i h in cc
      by_all false e = e

  passes_from : (a n : ℕ) → ((i : ℕ) → i < a + n → test i ≡ true) → list_all test (range_with_len a n) ≡ true
  passes_from a zero h = refl
  passes_from a (suc n) h =
      and_from (test a) (list_all test (range_with_len (a + 1) n)) (h a (omega arith)) (passes_from (a + 1) n (λ i l. h i (omega arith)))

  pub passes_all : (n : ℕ) → ((i : ℕ) → i < n → test i ≡ true) → list_all test (range_with_len 0 n) ≡ true
  passes_all n h = passes_from 0 n (λ i l. h i (omega arith))

pub map_alike : {A : Type 0} (f g : ℕ → A) (n : ℕ) → ((i : ℕ) → i < n → f i ≡ g i) → map f (range_with_len 0 n) ≡ map g (range_with_len 0 n)
map_alike f g n h =
    fill_by_all g (map f (range_with_len 0 n)) n (f 0) (length-map-range_with_len f 0 n) (λ k l. get_or-map-range_with_len f 0 n k k (f 0) l (omega arith) ∙ h k l)

-- of n slots the first i hold what f gives, the others d
abbrev pub Filled : {A : Type 0} (f : ℕ → A) (d : A) (n : ℕ) (slots : List A) (i : ℕ) → Type 0
Filled f d n slots i = slots ≡ map f (range_with_len 0 i) ++ replicate (n - i) d

module _ {A : Type 0} (f : ℕ → A) (d : A) (n : ℕ) where
  pub filled_next : (slots : List A) (i : ℕ) → i < n → Filled f d n slots i → Filled f d n (set slots i (f i)) (i + 1)
  filled_next slots i h p =
      let more : n - i ≡ suc (n - (i + 1)) = omega arith in
      rw (p, more, map-range_with_len_more f 0 i i (omega arith))
      (set_at (map f (range_with_len 0 i)) d (replicate (n - (i + 1)) d) (f i) i (length-map-range_with_len f 0 i)
      ∙ sym (append_assoc (map f (range_with_len 0 i)) (f i ∷ []) (replicate (n - (i + 1)) d)))
