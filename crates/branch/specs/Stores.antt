-- Numbers stored one after the other.
use Rattle.std.specs.Prelude.{ℕ, suc, ◌+◌, List, [], ◌∷◌, set}

-- xs from p + k on
unfoldable pub store_from : {A : Type 0} → List A → ℕ → ℕ → List A → List A
store_from w p k [] = w
store_from w p k (x ∷ xs) = store_from (set w (p + k) x) p (suc k) xs
