-- The bits of a number give it back. Assumes nothing.
use mathlib.Core.Path.{◌≡◌, refl}
use mathlib.Core.Bool.{not}
use lib.Dec.{T}
use lib.Ieee.{Float, binary64, fits, is_nan, to_bits, of_bits}
use lib.Ieee.Bits.{is_false, of_bits-to_bits}
use Rattle.ieee.specs.Binary64.{0f}
use Rattle.words.specs.Bits.{bits_of}

pub bits_back : (x : Float) → T (fits binary64 x) → T (not (is_nan x)) → of_bits binary64 (bits_of x) ≡ x
unfolding bits_of
bits_back x h n = rw (is_false (is_nan x) n) (of_bits-to_bits binary64 x h)

-- the decode time of a kind that has none
pub zero_bits : bits_of 0f ≡ 0
unfolding bits_of is_nan to_bits of_bits
zero_bits = refl
