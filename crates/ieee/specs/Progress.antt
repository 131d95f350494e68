-- A step that moves a float: by how much at least, and the measure of a loop of such steps.
use Rattle.std.specs.Prelude.{ℕ, ◌+◌, ◌-◌, ◌*◌, ◌/◌, ◌^◌, false, negsuc, from_bits, Float}
use Rattle.std.specs.Float.{fin, binary64}
use Rattle.std.specs.Float.Ieee.Positive.{den}
use Rattle.ieee.specs.Value.{pos_part, neg_part, Frac-le}

-- the exact x + s is at most z
pub record Over (x s z : Float) : Type 0 where
  pub exact : Frac-le (pos_part x * den s + pos_part s * den x) (neg_part x * den s + neg_part s * den x) (den x * den s) (pos_part z) (neg_part z) (den z)

-- floor ((x + A) * 2 ^ k), for an x that is -A at least
unfoldable pub place : ℕ → ℕ → Float → ℕ
place A k x = (pos_part x + A * den x - neg_part x) * 2 ^ k / den x

-- 1e-6, by its bits: the least step of a time, in seconds
abbrev pub micro : Float
micro = from_bits binary64 0x3eb0c6f7a0b5ed8d

-- 2 ^ -21: how far a step of `micro` moves a time at least
abbrev pub time_advance : Float
time_advance = fin false 1 (negsuc 20)

-- 1 / 2: how far a step of a byte moves a count of bytes at least
abbrev pub take_advance : Float
take_advance = fin false 1 (negsuc 0)

-- the measure of a loop whose time goes from -2 ^ 18 to 2 ^ 19 at most
abbrev pub time_measure : Float → ℕ
time_measure x = (2 ^ 19 + 2 ^ 18) * 2 ^ 21 - place (2 ^ 18) 21 x

-- the measure of a loop whose count of bytes goes from -2 ^ 45 to 2 ^ 46 at most
abbrev pub take_measure : Float → ℕ
take_measure x = (2 ^ 46 + 2 ^ 45) * 2 ^ 1 - place (2 ^ 45) 1 x
