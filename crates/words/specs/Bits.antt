-- The bits of a figure in seconds: 0 for a not-a-number, which no figure of a replay is.
use Rattle.std.specs.Prelude.{ℕ, cond, Float}
use Rattle.std.specs.Float.{binary64}
use Rattle.std.specs.Float.Ieee.{is_nan, to_bits}

unfoldable pub bits_of : Float → ℕ
bits_of x = cond (is_nan x) 0 (to_bits binary64 x)
