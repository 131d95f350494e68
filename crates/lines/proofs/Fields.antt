-- A line, written field by field. Assumes nothing.
use mathlib.Core.Path.{◌≡◌, refl, ap, ◌∙◌}
use mathlib.Core.List.{List, [], ◌∷◌, ◌++◌, append_assoc}
use Prim.Native.Nat.{ℕ, ◌+◌}
use Rattle.lines.specs.Decimal.{ascii}
use Rattle.lines.specs.Text.{fields, line}
use Rattle.lines.specs.declared.text.Text.{Text}
use Rattle.lines.specs.Written.{Appends}
use Rattle.lines.proofs.Written.{behind, same_text}

-- the fields so far
pub record Fields (most : ℕ) (fs : List (List ℕ)) (x y : Text) : Type 0 where
  pub written : Appends most (fields fs) x y

one_more : (f : List ℕ) (fs : List (List ℕ)) (g : List ℕ) → fields (f ∷ fs) ++ (ascii "," ++ g) ≡ fields (f ∷ (fs ++ (g ∷ [])))
unfolding fields
one_more f [] g = refl
one_more f (h ∷ hs) g = append_assoc f (ascii "," ++ fields (h ∷ hs)) (ascii "," ++ g) ∙ ap (λ (t : List ℕ). f ++ (ascii "," ++ t)) (one_more h hs g)

pub first : {m : ℕ} {f : List ℕ} {x y : Text} → Appends m f x y → Fields m (f ∷ []) x y
unfolding fields
first w = record { written = w }

module _ {m n : ℕ} {x y z : Text} where
  pub field : {f g : List ℕ} {fs : List (List ℕ)} → Fields m (f ∷ fs) x y → Appends n (ascii "," ++ g) y z → Fields (m + n) (f ∷ (fs ++ (g ∷ []))) x z
  field {f} {g} {fs} v w = record { written = same_text (behind v.written w) (one_more f fs g) }

  pub ended : {fs : List (List ℕ)} → Fields m fs x y → Appends n (ascii "\n") y z → Appends (m + n) (line fs) x z
  unfolding line
  ended v w = behind v.written w
