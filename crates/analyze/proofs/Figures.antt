-- The row as the figures' records are written to its front, one by one. Assumes nothing.
use Rattle.std.specs.Prelude.{ℕ, zero, suc, ◌<◌, ◌≤◌, ◌≡◌, refl, List, [], ◌∷◌, ◌++◌, length, get_or, set, take, drop}
use Rattle.std.proofs.Common.{sym, ap, ◌∙◌}
use native.Mathlib.Nat.{not-suc-le-zero, le_of_suc-le-suc}
use lib.Seq.{length_front, length-take-le}

-- the first i figures, and the row's own records from i on
abbrev pub front : {A : Type 0} → List A → List A → ℕ → List A
front fs ys i = take i fs ++ drop i ys

pub front_length : {A : Type 0} (fs ys : List A) (i : ℕ) → i ≤ length fs → i ≤ length ys → length (front fs ys i) ≡ length ys
front_length fs ys i lf ly = length_front ys (take i fs) i (length-take-le i fs lf ∙ sym (length-take-le i ys ly))

-- one figure more
pub front_more : {A : Type 0} (fs ys : List A) (i : ℕ) (d : A) → i < length fs → i < length ys → set (front fs ys i) i (get_or fs i d) ≡ front fs ys (suc i)
front_more [] ys i d h k = absurd (not-suc-le-zero h)
front_more (f ∷ fs) [] i d h k = absurd (not-suc-le-zero k)
front_more (f ∷ fs) (y ∷ ys) zero d h k = refl
front_more {A} (f ∷ fs) (y ∷ ys) (suc i) d h k = ap (λ (l : List A). f ∷ l) (front_more fs ys i d (le_of_suc-le-suc h) (le_of_suc-le-suc k))
