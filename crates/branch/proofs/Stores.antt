-- Numbers stored one after the other: what stands at their places, and at the others. Assumes nothing.
use Prim.Native.Nat.{ℕ, zero, suc, ◌+◌, ◌≤◌, ◌<◌}
use native.Mathlib.Omega.{arith}
use native.Mathlib.Nat.{add-zero}
use mathlib.Core.Path.{◌≡◌, refl, ap, ◌∙◌}
use mathlib.Core.List.{List, [], ◌∷◌}
use mathlib.Core.Logic.{◌⊎◌, inl, inr, ⊎_elim, ◌≢◌}
use lib.ListN.{length, get_or, set, length-set}
use lib.Seq.{get_or-set_same, get_or-set_other}
use Rattle.branch.specs.Stores.{store_from}

module _ {A : Type 0} (d : A) where
  pub stores_length : (w : List A) (p k : ℕ) (xs : List A) → length (store_from w p k xs) ≡ length w
  unfolding store_from
  stores_length w p k [] = refl
  stores_length w p k (x ∷ xs) = stores_length (set w (p + k) x) p (suc k) xs ∙ length-set w (p + k) x

  pub stores_other : (w : List A) (p k : ℕ) (xs : List A) (i : ℕ) → (i < p + k) ⊎ (p + k + length xs ≤ i) → get_or (store_from w p k xs) i d ≡ get_or w i d
  unfolding store_from
  stores_other w p k [] i h = refl
  stores_other w p k (x ∷ xs) i h =
      let a : i ≢ p + k = λ e. ⊎_elim (λ l. omega arith) (λ l. omega arith) h in
      stores_other (set w (p + k) x) p (suc k) xs i (⊎_elim (λ l. inl (omega arith)) (λ l. inr (omega arith)) h) ∙ get_or-set_other w (p + k) i x d a

  pub stores_at : (w : List A) (p k : ℕ) (xs : List A) → p + k + length xs ≤ length w → (j : ℕ) → j < length xs → get_or (store_from w p k xs) (p + (k + j)) d ≡ get_or xs j d
  unfolding store_from
  stores_at w p k [] l j h = absurd (omega arith)
  stores_at w p k (x ∷ xs) l zero h =
      rw add-zero (stores_other (set w (p + k) x) p (suc k) xs (p + k) (inl (omega arith)) ∙ get_or-set_same w (p + k) x d (omega arith))
  stores_at w p k (x ∷ xs) l (suc j) h =
      let e : p + (k + suc j) ≡ p + (suc k + j) = omega arith in
      let m : p + suc k + length xs ≤ length (set w (p + k) x) = rw (length-set w (p + k) x) (omega arith) in
      ap (λ (i : ℕ). get_or (store_from (set w (p + k) x) p (suc k) xs) i d) e ∙ stores_at (set w (p + k) x) p (suc k) xs m j (omega arith)
