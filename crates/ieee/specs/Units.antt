-- A float of a format as a whole number of the format's least positive values, 2 ^ -low: pos_units less neg_units of them, of which one is 0.
use Rattle.std.specs.Prelude.{ℕ, suc, ◌+◌, ◌-◌, ◌*◌, ◌^◌, ◌≤◌, pos, negsuc, Float}
use Rattle.std.specs.Float.{nan, inf, fin, Format}
use Rattle.std.specs.Float.Ieee.{prec, low}
use Rattle.ieee.specs.Value.{pos_part, neg_part}

-- how many units make 1 / den x
abbrev pub scale : Format → Float → ℕ
scale f nan = 2 ^ low f
scale f (inf s) = 2 ^ low f
scale f (fin s m (pos k)) = 2 ^ low f
scale f (fin s m (negsuc k)) = 2 ^ (low f - suc k)

unfoldable pub pos_units : Format → Float → ℕ
pos_units f x = pos_part x * scale f x

unfoldable pub neg_units : Format → Float → ℕ
neg_units f x = neg_part x * scale f x

-- the unit in the last place of values just below 2 ^ j: rounding moves a value below 2 ^ j by at most so many units
abbrev pub ulp : Format → ℕ → ℕ
ulp f j = 2 ^ (j + low f - prec f)

-- z is x + y, but for E units
pub record Sum-within (f : Format) (x y z : Float) (E : ℕ) : Type 0 where
  pub low_end : pos_units f x + pos_units f y + neg_units f z ≤ pos_units f z + neg_units f x + neg_units f y + E
  pub high_end : pos_units f z + neg_units f x + neg_units f y ≤ pos_units f x + pos_units f y + neg_units f z + E

-- z is x - y, but for E units
pub record Difference-within (f : Format) (x y z : Float) (E : ℕ) : Type 0 where
  pub low_end : pos_units f x + neg_units f y + neg_units f z ≤ pos_units f z + neg_units f x + pos_units f y + E
  pub high_end : pos_units f z + neg_units f x + pos_units f y ≤ pos_units f x + neg_units f y + neg_units f z + E
