-- The value of a finite float as a fraction with a sign, (pos_part x - neg_part x) / den x: pos_part and neg_part are its positive and its negative part,
-- of which one is 0. A fraction with a sign stands as three naturals, (p - n) / c.
use Rattle.std.specs.Prelude.{ℕ, ◌+◌, ◌*◌, ◌<◌, ◌≤◌, Bool, true, false, not, Float}
use Rattle.std.specs.Float.{nan, inf, fin}
use Rattle.std.specs.Float.Ieee.{up}
use Rattle.std.specs.Float.Ieee.Positive.{den}

-- the magnitude a where the sign is +, and 0 where it is -
abbrev pub part : Bool → ℕ → ℕ
part false a = a
part true a = 0

abbrev pub pos_part : Float → ℕ
pos_part nan = 0
pos_part (inf s) = 0
pos_part (fin s m e) = part s (m * up e)

abbrev pub neg_part : Float → ℕ
neg_part nan = 0
neg_part (inf s) = 0
neg_part (fin s m e) = part (not s) (m * up e)

-- (p - n) / c ≤ (q - k) / d
abbrev pub Frac-le : ℕ → ℕ → ℕ → ℕ → ℕ → ℕ → Type 0
Frac-le p n c q k d = p * d + k * c ≤ q * c + n * d

-- (p - n) / c < (q - k) / d
abbrev pub Frac-lt : ℕ → ℕ → ℕ → ℕ → ℕ → ℕ → Type 0
Frac-lt p n c q k d = p * d + k * c < q * c + n * d

-- the order of the values of two finite floats
abbrev pub Value-le : Float → Float → Type 0
Value-le x y = Frac-le (pos_part x) (neg_part x) (den x) (pos_part y) (neg_part y) (den y)

abbrev pub Value-lt : Float → Float → Type 0
Value-lt x y = Frac-lt (pos_part x) (neg_part x) (den x) (pos_part y) (neg_part y) (den y)
