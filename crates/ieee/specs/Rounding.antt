-- What it is to be a fraction with a sign, (p - n) / c, rounded to a format; and to be near such a fraction.
use Rattle.std.specs.Prelude.{◌≡◌, ℕ, ◌+◌, ◌*◌, ◌≤◌, true, false, T, Float}
use Rattle.std.specs.Float.{Format}
use Rattle.std.specs.Float.Ieee.{round}
use Rattle.std.specs.Float.Ieee.Scale.{finite}
use Rattle.std.specs.Float.Ieee.Positive.{den}
use Rattle.ieee.specs.Value.{pos_part, neg_part}

-- z is (p - n) / c rounded; where the fraction is 0, z is either zero
pub data Rounds (f : Format) (z : Float) (p n c : ℕ) : Type 0 where
  nonneg : (d : ℕ) → p ≡ n + d → z ≡ round f false d c → Rounds f z p n c
  nonpos : (d : ℕ) → n ≡ p + d → z ≡ round f true d c → Rounds f z p n c

-- z is finite and within J / Q of (p - n) / c
pub record Close (z : Float) (p n c J Q : ℕ) : Type 0 where
  pub is_finite : T (finite z)
  pub low_end : p * Q * den z + neg_part z * Q * c ≤ pos_part z * Q * c + n * Q * den z + J * c * den z
  pub high_end : pos_part z * Q * c + n * Q * den z ≤ p * Q * den z + neg_part z * Q * c + J * c * den z
