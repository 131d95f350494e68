-- A PTS or DTS on the 64-bit timeline: of the epochs around a reference, the one in which the 33-bit value lies nearest.
use Rattle.std.specs.Prelude.{ℕ, zero, suc, ◌+◌, ◌-◌, ◌*◌, ◌/◌, ◌%◌, ◌^◌, Bool, true, cond, ◌&&◌, List, [], ◌∷◌, map, ltb, leb, Result, Ok, Err}
use Rattle.std.specs.Int.{abs_diff}
use Rattle.error.specs.declared.Refusal.{Refusal}

-- one wrap of the 33-bit PTS or DTS (H.222.0 2.4.3.7)
abbrev pub timestamp_modulus : ℕ
timestamp_modulus = 2 ^ 33

-- the raw value, masked to 33 bits, in an epoch
abbrev pub in_epoch : ℕ → ℕ → ℕ
in_epoch raw epoch = epoch * timestamp_modulus + raw % timestamp_modulus

-- the epoch below, if there is one, its own, the one above
unfoldable pub epochs_around : ℕ → List ℕ
epochs_around zero = 0 ∷ 1 ∷ []
epochs_around (suc below) = below ∷ suc below ∷ suc (suc below) ∷ []

-- lowest first
unfoldable pub candidates : ℕ → ℕ → List ℕ
candidates raw reference = map (in_epoch raw) (epochs_around (reference / timestamp_modulus))

-- no number of the list lies closer to the reference than c
unfoldable pub none_closer : ℕ → ℕ → List ℕ → Bool
none_closer reference c [] = true
none_closer reference c (x ∷ xs) = leb (abs_diff c reference) (abs_diff x reference) && none_closer reference c xs

-- the first number of the list that passes the test (0 of a list where none does)
unfoldable pub first : (ℕ → Bool) → List ℕ → ℕ
first test [] = 0
first test (x ∷ xs) = cond (test x) x (first test xs)

-- the first number of the list than which none of the list lies closer
unfoldable pub nearest : ℕ → List ℕ → ℕ
nearest reference cs = first (λ c. none_closer reference c cs) cs

unfoldable pub nearest_timestamp : ℕ → ℕ → ℕ
nearest_timestamp raw reference = nearest reference (candidates raw reference)

-- from the limit on, the epoch above would not fit 64 bits: number 1
unfoldable pub extend_near : ℕ → ℕ → Result ℕ Refusal
extend_near raw reference =
    cond (ltb reference (2 ^ 64 - timestamp_modulus))
    (Ok (nearest_timestamp raw reference))
    (Err Refusal.OutsideLimits)
