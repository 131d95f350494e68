-- A float that is a whole number.
use Rattle.std.specs.Prelude.{ℕ, false, Float}
use Rattle.std.specs.Float.Ieee.Exact.{HasValue}

-- x is the whole number n, with no minus sign
abbrev pub Is : Float → ℕ → Type 0
Is x n = HasValue x false n 1
