-- A figure of each element of an array.
-- Assumes nothing.
use Prim.Native.Nat.{ℕ, zero, suc, ◌<◌}
use mathlib.Core.Path.{◌≡◌, refl, ap}
use mathlib.Core.List.{List, [], ◌∷◌, map}
use native.Mathlib.Omega.{arith}
use lib.ListN.{length, take, get_or}

-- a list with what f gives of each element
pub map_by_index : {A : Type 0} (f : A → ℕ) (d : A) (l : List A) (copy : List ℕ) → length copy ≡ length l → ((i : ℕ) → i < length l → get_or copy i 0 ≡ f (get_or l i d)) → copy ≡ map f l
map_by_index f d [] [] e at = refl
map_by_index f d [] (b ∷ copy) e at = absurd (omega arith)
map_by_index f d (a ∷ l) [] e at = absurd (omega arith)
map_by_index f d (a ∷ l) (b ∷ copy) e at =
    let front : b ≡ f a = at 0 (omega arith) in
    let rest : copy ≡ map f l = map_by_index f d l copy (omega arith) (λ i h. at (suc i) (omega arith)) in
    cc

pub take_map : {A : Type 0} (f : A → ℕ) (n : ℕ) (l : List A) → take n (map f l) ≡ map f (take n l)
take_map f zero l = refl
take_map f (suc n) [] = refl
take_map f (suc n) (a ∷ l) = ap (λ (r : List ℕ). f a ∷ r) (take_map f n l)
