-- Numbers as text. A text is the list of its ASCII codes.
use Rattle.std.specs.Prelude.{ℕ, zero, suc, ◌+◌, ◌/◌, ◌%◌, cond, List, [], ◌∷◌, ◌++◌, ltb, ℤ, pos, negsuc, Float}
use Prim.Native.Char.{code}
use Prim.Native.String.{String}
use Rattle.std.specs.Float.Ieee.{to_signed}
use Rattle.ieee.specs.Binary64.{◌⊗◌, 1000000f}

abbrev pub ascii : String → List ℕ
ascii String.[] = []
ascii (String.◌∷◌ c cs) = code c ∷ ascii cs

-- the digits 0 to 9 stand from 48 on
abbrev pub digit : ℕ → ℕ
digit d = 48 + d

-- the decimal digits of n, where n is at most turns: all but the last are those of n / 10 (std's `decimal` stops at 64 digits)
unfoldable pub digits_in : ℕ → ℕ → List ℕ
digits_in zero n = digit n ∷ []
digits_in (suc turns) n =
    let longer = digits_in turns (n / 10) ++ (digit (n % 10) ∷ []) in
    cond (ltb n 10) (digit n ∷ []) longer

-- the decimal digits of n, with no zero in front (proofs/Decimal: one_digit and last_digit)
unfoldable pub decimal : ℕ → List ℕ
decimal n = digits_in n n

unfoldable pub integer : ℤ → List ℕ
integer (pos n) = decimal n
integer (negsuc n) = ascii "-" ++ decimal (suc n)

-- one product, then the whole number toward zero (Rust's `as i64`)
unfoldable pub microseconds : Float → List ℕ
microseconds s = integer (to_signed 63 (s ⊗ 1000000f))
