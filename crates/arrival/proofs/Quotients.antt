-- Quotients of whole numbers: how close they are, and bounds of them; and the seconds of a count of ticks.
use Rattle.std.proofs.Common.{◌≡◌, ℕ, ◌+◌, ◌*◌, ◌^◌, ◌<◌, ◌≤◌, false, T, ℤ, ap, ◌∙◌, mul-le-mul_right, mul-lt-mul_of_pos_right, mul-pos, zero-mul, le_of_mul-le-mul_right, arith, pow_pos}
use lib.Ieee.{Float, fin, Format, prec, emax, up, down, div, le}
use lib.Ieee.Positive.{den, den_pos}
use Rattle.ieee.specs.Value.{pos_part, neg_part}
use Rattle.ieee.specs.Rounding.{Rounds, Close}
use Rattle.ieee.specs.Whole.{Is}
use Rattle.ieee.proofs.Value.{ring}
use Rattle.ieee.proofs.Operations.{div_rounds}
use Rattle.ieee.proofs.Representable.{exponent_fits, rounds_high}
use Rattle.ieee.proofs.Whole.{is_finite, is_pos_part, is_neg_part}
use Rattle.ieee.proofs.Error.{rounds_close}

cancel : (m n Q J d p k D : ℕ) → 0 < D → m * D * Q * d + k * Q * (n * D) ≤ p * Q * (n * D) + 0 * Q * d + J * (n * D) * d → m * Q * d ≤ p * Q * n + J * n * d
cancel m n Q J d p k D pos-D h = le_of_mul-le-mul_right (simp ring (omega (arith, simp (ring, zero-mul) at h))) pos-D

cancel_high : (m n Q J d p k D : ℕ) → 0 < D → p * Q * (n * D) + 0 * Q * d ≤ m * D * Q * d + k * Q * (n * D) + J * (n * D) * d → p * Q * n ≤ m * Q * d + k * Q * n + J * n * d
cancel_high m n Q J d p k D pos-D h = le_of_mul-le-mul_right (simp ring (omega (arith, simp (ring, zero-mul) at h))) pos-D

module _ (f : Format) (x y : Float) (m n : ℕ) (p : Is x m) (q : Is y n) (some : 0 < n) where
  divisor_above : 0 < pos_part y
  divisor_above = rw (is_pos_part y n q) (mul-pos some (den_pos y))

  rounded : Rounds f (div f x y) (pos_part x * den y) (neg_part x * den y) (pos_part y * den x)
  rounded = div_rounds f x y (is_finite x m p) (is_finite y n q) divisor_above

  below_zero : neg_part x * den y ≡ 0
  below_zero = ap (λ (z : ℕ). z * den y) (is_neg_part x m p) ∙ zero-mul (den y)

  dividend : pos_part x * den y ≡ m * (den x * den y)
  dividend = rw (is_pos_part x m p) (simp ring)

  divisor : pos_part y * den x ≡ n * (den x * den y)
  divisor = rw (is_pos_part y n q) (simp ring)

  -- at most k units of 2 ^ e
  pub div_at_most : (k : ℕ) (e : ℤ) → k < 2 ^ prec f → T (exponent_fits f e) → m * down e ≤ k * up e * n → T (le (div f x y) (fin false k e))
  div_at_most k e small r h =
      rounds_high f k e small r (div f x y) _ _ (pos_part y * den x) (mul-pos divisor_above (den_pos x)) rounded
      (rw (dividend, divisor) (simp ring (omega (arith, simp ring at (mul-le-mul_right (den x * den y) h)))))

  -- within 2 ^ j / 2 ^ prec of m / n, where that is below 2 ^ j
  close : (j : ℕ) → j < emax f → m < n * 2 ^ j → Close (div f x y) (m * (den x * den y)) 0 (n * (den x * den y)) (2 ^ j) (2 ^ prec f)
  close j top h =
      let D : 0 < den x * den y = mul-pos (den_pos x) (den_pos y) in
      rounds_close f (div f x y) (m * (den x * den y)) 0 (n * (den x * den y)) j (mul-pos some D) top
      (omega (arith, simp ring at (mul-lt-mul_of_pos_right h D)))
      (omega (arith, mul-pos (mul-pos some D) (pow_pos j)))
      (rw (dividend, below_zero, divisor) at rounded)

  module _ (j : ℕ) (top : j < emax f) (h : m < n * 2 ^ j) where
    pub div_low : m * 2 ^ prec f * den (div f x y) ≤ pos_part (div f x y) * 2 ^ prec f * n + 2 ^ j * n * den (div f x y)
    div_low = cancel m n (2 ^ prec f) (2 ^ j) (den (div f x y)) (pos_part (div f x y)) (neg_part (div f x y)) (den x * den y) (mul-pos (den_pos x) (den_pos y)) (close j top h).low_end

    pub div_high : pos_part (div f x y) * 2 ^ prec f * n ≤ m * 2 ^ prec f * den (div f x y) + neg_part (div f x y) * 2 ^ prec f * n + 2 ^ j * n * den (div f x y)
    div_high = cancel_high m n (2 ^ prec f) (2 ^ j) (den (div f x y)) (pos_part (div f x y)) (neg_part (div f x y)) (den x * den y) (mul-pos (den_pos x) (den_pos y)) (close j top h).high_end
