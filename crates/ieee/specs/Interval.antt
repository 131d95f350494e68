-- An enclosure of a float: lo ≤ x ≤ hi by `le`, with lo and hi finite, so that x is neither a not-a-number nor an infinity.
-- lo and hi need not be values of the format: any `fin s m e` serves.
use Rattle.std.specs.Prelude.{ℕ, true, false, T, pos, Float}
use Rattle.std.specs.Float.{fin}
use Rattle.std.specs.Float.Ieee.{le}
use Rattle.std.specs.Float.Ieee.Scale.{finite}

pub record In (lo x hi : Float) : Type 0 where
  pub low_finite : T (finite lo)
  pub high_finite : T (finite hi)
  pub low : T (le lo x)
  pub high : T (le x hi)

-- the whole numbers n and -n, as bounds
abbrev pub plain : ℕ → Float
plain n = fin false n (pos 0)

abbrev pub minus : ℕ → Float
minus n = fin true n (pos 0)

abbrev pub zero_float : Float
zero_float = plain 0
