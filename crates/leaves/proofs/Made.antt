-- What `array::from_fn` makes. Assumes nothing.
use Rattle.std.proofs.Common.{◌≡◌, ℕ, zero, suc, ◌+◌, get_or, ◌<◌, ◌≤◌, List, arith}
use denote.Param.Members.{Mut}
use mathlib.Core.List.{map}
use mathlib.Core.Path.{subst, ◌∙◌}
use mathlib.Core.Logic.{⊎_elim}
use native.Mathlib.Nat.{eq-or-lt_of_le}
use Rattle.std.specs.Fn.{Called}
use Rattle.std.specs.Array.{IsFromFnResult, IsFromFnResultFrom}
use Rattle.std.specs.List.{range_with_len}
use Rattle.std.proofs.lemmas.List.FromFn.{fill_by_all}

-- each call leaves the closure as it was and gives h of its index
made_from : {F B : Type 0} (g : Mut F (ℕ × Unit {0}) B) (h : ℕ → B) (f : F) → ((i : ℕ) (y : B) (q : F) → Called g f (i, tt) y q → (q ≡ f) × (y ≡ h i)) → (ys : List B) (d : B) (n a : ℕ) → IsFromFnResultFrom g f ys a n → (i : ℕ) → a ≤ i → i < a + n → get_or ys i d ≡ h i
made_from {F} g h f keeps ys d zero a made i low high = absurd (omega arith)
made_from {F} g h f keeps ys d (suc n) a (q, y, at, call, rest) i low high =
    let same = keeps a y q call in
    ⊎_elim
    (λ (e : a ≡ i). rw (← e) (at.1 d ∙ same.1))
    (λ (l : a < i). made_from g h f keeps ys d n (a + 1) (subst (λ (s : F). IsFromFnResultFrom g s ys (a + 1) n) same.0 rest) i (omega arith) (omega arith))
    (eq-or-lt_of_le low)

pub made : {F B : Type 0} (g : Mut F (ℕ × Unit {0}) B) (h : ℕ → B) (f : F) → ((i : ℕ) (y : B) (q : F) → Called g f (i, tt) y q → (q ≡ f) × (y ≡ h i)) → (ys : List B) (d : B) (n : ℕ) → IsFromFnResult g f ys n → ys ≡ map h (range_with_len 0 n)
made g h f keeps ys d n r = fill_by_all h ys n d r.long (λ k l. made_from g h f keeps ys d n 0 r.each k (omega arith) (omega arith))
