-- The larger and the smaller of two floats. Of two that are equal, zeros of both signs among them, the first.
use Rattle.std.specs.Prelude.{cond, Float}
use Rattle.std.specs.Float.Ieee.{lt, ne}

-- by one comparison: the first where either is a not-a-number
unfoldable pub max_of : Float → Float → Float
max_of a b = cond (lt a b) b a

unfoldable pub min_of : Float → Float → Float
min_of a b = cond (lt b a) b a

-- Rust's `f64::max` (IEEE 754-2008, max_num): a not-a-number yields to a number
unfoldable pub max_num : Float → Float → Float
max_num a b = cond (lt a b) b (cond (ne a a) b a)
