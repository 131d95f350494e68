-- What `to_u64` cites of `to_unsigned`, Rust's `as u64` of a float: from 2 ^ w on it is the largest number of w bits, and from 1 up to 2 ^ 64 it is the
-- significand of the float's bit pattern, shifted by the exponent field. (Below 1 it is 0: std's `below_one`.) Assumes nothing.
use Rattle.std.proofs.Common.{◌≡◌, ℕ, ◌+◌, ◌-◌, ◌*◌, ◌/◌, ◌%◌, ◌^◌, ◌<◌, ◌≤◌, min, true, false, not, T, sym, refl, ap, ◌∙◌, mod-lt, mul_comm, add_comm, lt_of_not-le, le-div_iff_mul-le, mul-one, arith, lt→ltb, T_not, pow_pos}
use lib.Bits.{bit_and, bit_or, and_mask, or_shifted_r}
use lib.Ieee.{Float, nan, inf, fin, binary64, up, down, fits, to_bits, lt, le, to_unsigned}
use lib.Ieee.Fits.{down_pos}
use lib.Ieee.Positive.{above, above_of_le, le→cross, cross→le}
use Rattle.std.proofs.num.Truncating.{one, two_to, cut_down, cut_up}

-- ---- the test against 2 ^ w
capped : (q t : ℕ) → 0 < t → t ≤ q → min q (t - 1) ≡ t - 1
capped q t p h = omega arith

without_ones : (n t d : ℕ) → 1 * t * d ≤ n * 1 → t * d ≤ n
without_ones n t d h = omega (arith, ap (λ (z : ℕ). z * d) (mul_comm 1 t ∙ mul-one t))

largest : (w : ℕ) (x : Float) → T (above x) → T (le (two_to w) x) → to_unsigned w x ≡ 2 ^ w - 1
unfolding to_unsigned
largest w nan p h = absurd p
largest w (inf true) p h = absurd p
largest w (inf false) p h = refl
largest w (fin true m e) p h = absurd p
largest w (fin false m e) p h =
    capped (m * up e / down e) (2 ^ w) (pow_pos w) ((le-div_iff_mul-le (down_pos e)).1 (without_ones (m * up e) (2 ^ w) (down e) (le→cross (two_to w) (fin false m e) tt p h)))

pub saturates : (w : ℕ) (x : Float) → T (le (two_to w) x) → to_unsigned w x ≡ 2 ^ w - 1
saturates w x h = largest w x (above_of_le (two_to w) x tt h) h

smaller : (w : ℕ) (x : Float) → T (above x) → T (not (le (two_to w) x)) → T (lt x (two_to w))
unfolding le lt
smaller w nan p h = absurd p
smaller w (inf true) p h = absurd p
smaller w (inf false) p h = absurd h
smaller w (fin true m e) p h = absurd p
smaller w (fin false m e) p h =
    lt→ltb (m * up e * 1) (1 * 2 ^ w * down e)
    (lt_of_not-le (λ (g : 1 * 2 ^ w * down e ≤ m * up e * 1). T_not (le (two_to w) (fin false m e)) h (cross→le (two_to w) (fin false m e) tt p g)))

pub not_saturated : (w : ℕ) (x : Float) → T (le one x) → T (not (le (two_to w) x)) → T (lt x (two_to w))
not_saturated w x a h = smaller w x (above_of_le one x tt a) h

-- ---- from 1 up to 2 ^ 64
significand : (b : ℕ) → b % 2 ^ 52 + 2 ^ 52 ≡ bit_or (bit_and b (2 ^ 52 - 1)) (2 ^ 52)
significand b =
    add_comm (b % 2 ^ 52) (2 ^ 52)
    ∙ sym (ap (λ (t : ℕ). bit_or t (2 ^ 52)) (and_mask b 52) ∙ or_shifted_r 1 52 (b % 2 ^ 52) (mod-lt b (pow_pos 52)))

module _ (x : Float) (F : T (fits binary64 x)) (a : T (le one x)) (c : T (lt x (two_to 64))) where
  abbrev b : ℕ
  b = to_bits binary64 x

  pub shifted_right : b / 2 ^ 52 ≤ 1075 → (b % 2 ^ 52 + 2 ^ 52) / 2 ^ (1075 - b / 2 ^ 52) ≡ to_unsigned 64 x
  shifted_right h = ap (λ (s : ℕ). s / 2 ^ (1075 - b / 2 ^ 52)) (significand b) ∙ cut_down x F a c h

  pub shifted_left : 1075 < b / 2 ^ 52 → (b % 2 ^ 52 + 2 ^ 52) * 2 ^ (b / 2 ^ 52 - 1075) % 2 ^ 64 ≡ to_unsigned 64 x
  shifted_left h = ap (λ (s : ℕ). s * 2 ^ (b / 2 ^ 52 - 1075) % 2 ^ 64) (significand b) ∙ cut_up x F a c h
