-- A figure in seconds and its word, where either is a not-a-number's. Assumes nothing.
use Rattle.std.proofs.Common.{◌≡◌, ℕ, true, false, not, T, sym, refl, ◌∙◌, arith}
use lib.Ieee.{Float, nan, inf, fin, binary64, is_nan, nan_bits, to_bits, of_bits}
use lib.Ieee.Bits.{nan_bits_is}

is_nan_lem : (x : Float) → is_nan x ≡ true → x ≡ nan
unfolding is_nan
is_nan_lem nan h = refl
is_nan_lem (inf s) h = let z : ◌≡◌ {A = ℕ} 0 1 = cc in absurd (omega arith)
is_nan_lem (fin s m e) h = let z : ◌≡◌ {A = ℕ} 0 1 = cc in absurd (omega arith)

module _ (word : ℕ) where
  pub nan_read : nan_bits binary64 word ≡ true → nan ≡ of_bits binary64 word
  nan_read h = sym (is_nan_lem (of_bits binary64 word) (sym (nan_bits_is binary64 word) ∙ h))

  pub number_read : nan_bits binary64 word ≡ false → T (not (nan_bits binary64 word))
  number_read h = rw h tt

pub quiet_read : of_bits binary64 9221120237041090560 ≡ nan
unfolding of_bits
quiet_read = refl

nan_word : 9221120237041090560 ≡ to_bits binary64 nan
unfolding to_bits
nan_word = refl

pub nan_told : (x : Float) → is_nan x ≡ true → 9221120237041090560 ≡ to_bits binary64 x
nan_told x h = rw (is_nan_lem x h) nan_word
