-- Operations on binary64 in the usual signs for rounded operations, and the literals of the model by their bit patterns,
-- which is how the code has them.
use Rattle.std.specs.Float.{inf, binary64}
use Rattle.std.specs.Float.Ieee.{add, sub, mul, div}
use Rattle.std.specs.Prelude.{true, false, from_bits, Float}

infixl 6 ◌⊕◌
abbrev pub ◌⊕◌ : Float → Float → Float
x ⊕ y = add binary64 x y

infixl 6 ◌⊖◌
abbrev pub ◌⊖◌ : Float → Float → Float
x ⊖ y = sub binary64 x y

infixl 7 ◌⊗◌
abbrev pub ◌⊗◌ : Float → Float → Float
x ⊗ y = mul binary64 x y

infixl 7 ◌⊘◌
abbrev pub ◌⊘◌ : Float → Float → Float
x ⊘ y = div binary64 x y

abbrev pub -∞ : Float
-∞ = inf true

abbrev pub +∞ : Float
+∞ = inf false

abbrev pub 0f : Float
0f = from_bits binary64 0

abbrev pub 1f : Float
1f = from_bits binary64 0x3ff0_0000_0000_0000

abbrev pub 2f : Float
2f = from_bits binary64 0x4000_0000_0000_0000

abbrev pub 8f : Float
8f = from_bits binary64 0x4020_0000_0000_0000

abbrev pub 188f : Float
188f = from_bits binary64 0x4067_8000_0000_0000

abbrev pub 500f : Float
500f = from_bits binary64 0x407f_4000_0000_0000

abbrev pub 512f : Float
512f = from_bits binary64 0x4080_0000_0000_0000

abbrev pub 1000f : Float
1000f = from_bits binary64 0x408f_4000_0000_0000

abbrev pub 1536f : Float
1536f = from_bits binary64 0x4098_0000_0000_0000

abbrev pub 80000f : Float
80000f = from_bits binary64 0x40f3_8800_0000_0000

abbrev pub 90000f : Float
90000f = from_bits binary64 0x40f5_f900_0000_0000

abbrev pub 1000000f : Float
1000000f = from_bits binary64 0x412e_8480_0000_0000

abbrev pub 27000000f : Float
27000000f = from_bits binary64 0x4179_bfcc_0000_0000

abbrev pub 1000000000f : Float
1000000000f = from_bits binary64 0x41cd_cd65_0000_0000

abbrev pub 1e-6f : Float
1e-6f = from_bits binary64 0x3eb0_c6f7_a0b5_ed8d
