-- The lines of a list, written one after the other. Assumes nothing.
use mathlib.Core.Path.{◌≡◌, refl, sym, ap, ◌∙◌}
use mathlib.Core.List.{List, [], ◌∷◌, ◌++◌, append_assoc, append-nil}
use Prim.Native.Nat.{ℕ, ◌+◌, ◌*◌, ◌≤◌, ◌<◌, min}
use native.Mathlib.Nat.{min-eq_left, lt_of_not-le, suc-mul, mul-le-mul_right, le_trans}
use native.Mathlib.Numerals.{add-one}
use native.Mathlib.Decide.{dec_le}
use native.Mathlib.Omega.{arith}
use lib.ListN.{length, take, get_or}
use lib.Seq.{take-suc, take_all, length-take-le}
use Rattle.lines.specs.Text.{each}
use Rattle.lines.specs.declared.text.Text.{Text}
use Rattle.lines.specs.Written.{Appends}
use Rattle.lines.proofs.Written.{no_longer, same_text, behind}

-- as many as the list has
take_min_by : {A : Type 0} (n : ℕ) (l : List A) → Dec (n ≤ length l) → take (min n (length l)) l ≡ take n l
take_min_by n l (yes h) = ap (λ (k : ℕ). take k l) (min-eq_left h)
take_min_by n l (no g) = let h : length l < n = lt_of_not-le g in take_all (min n (length l)) l (omega arith) ∙ sym (take_all n l (omega arith))

module _ {A : Type 0} (f : A → List ℕ) where
  each_append : (xs ys : List A) → each f (xs ++ ys) ≡ each f xs ++ each f ys
  unfolding each
  each_append [] ys = refl
  each_append (x ∷ xs) ys = ap (λ (t : List ℕ). f x ++ t) (each_append xs ys) ∙ sym (append_assoc (f x) (each f xs) (each f ys))

  each_one : (x : A) → each f (x ∷ []) ≡ f x
  unfolding each
  each_one x = append-nil (f x)

  -- each line has k bytes at most
  module _ (k : ℕ) (l : List A) (i : ℕ) {x y : Text} (v : Appends (i * k) (each f (take i l)) x y) where
    pub next_line : (d : A) {z : Text} → i < length l → Appends k (f (get_or l i d)) y z → Appends ((i + 1) * k) (each f (take (i + 1) l)) x z
    next_line d h w =
        let longer : Appends (i * k + k) (each f (take (i + 1) l)) x _ =
        same_text
        (behind v w)
        (sym
        (ap (λ (j : ℕ). each f (take j l)) (add-one i)
        ∙ ap (each f) (take-suc l i d h)
        ∙ each_append (take i l) (get_or l i d ∷ [])
        ∙ ap (λ (t : List ℕ). each f (take i l) ++ t) (each_one (get_or l i d)))) in
        no_longer longer ((i + 1) * k) (omega (arith, longer.written.short, ap (λ (j : ℕ). j * k) (add-one i) ∙ suc-mul i k))

    -- the list is as much of xs as is in use
    pub all_lines : (c n : ℕ) (xs : List A) → length xs ≡ c → l ≡ take (min n c) xs → i ≡ length l → Appends (c * k) (each f (take n xs)) x y
    all_lines c n xs all same e =
        let h : i ≤ c = omega (arith, e, ap length same, length-take-le (min n c) xs) in
        same_text
        (no_longer v (c * k) (le_trans v.written.short (mul-le-mul_right k h)))
        (ap (each f) (take_all i l (omega arith) ∙ same ∙ ap (λ (m : ℕ). take (min n m) xs) (sym all) ∙ take_min_by n xs (dec_le _ _)))
