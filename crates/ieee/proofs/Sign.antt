-- Signs of results, and a sum or difference against its first operand. Assumes nothing.
use Rattle.std.proofs.Common.{ℕ, ◌+◌, ◌*◌, ◌<◌, ◌≤◌, T, ap, mul-le-mul_right, mul_comm, mul-pos, zero-mul, arith}
use lib.Ieee.{Float, Format, add, sub, mul, div, le, lt, fits}
use lib.Ieee.Scale.{finite}
use lib.Ieee.Positive.{den, den_pos}
use Rattle.ieee.specs.Value.{pos_part, neg_part, Frac-le}
use Rattle.ieee.specs.Interval.{zero_float}
use Rattle.ieee.proofs.Value.{ring, le→val}
use Rattle.ieee.proofs.Representable.{zero_fits, rounds_below, rounds_above}
use Rattle.ieee.proofs.Operations.{add_rounds, sub_rounds, mul_rounds, div_rounds, neg_part_zero, pos_part_pos}

-- ---- fractions
frac_add_nonneg : (p n c q k d : ℕ) → k ≤ q → Frac-le p n c (p * d + q * c) (n * d + k * c) (c * d)
frac_add_nonneg p n c q k d h = simp ring (omega (arith, simp ring at (mul-le-mul_right (c * c) h)))

frac_add_nonpos : (p n c q k d : ℕ) → q ≤ k → Frac-le (p * d + q * c) (n * d + k * c) (c * d) p n c
frac_add_nonpos p n c q k d h = simp ring (omega (arith, simp ring at (mul-le-mul_right (c * c) h)))

module _ (f : Format) (x y : Float) (p : T (finite x)) (q : T (finite y)) where
  C : 0 < den x * den y
  C = mul-pos (den_pos x) (den_pos y)

  -- what is not negative, added to or taken from a value x of the format
  pub add_ge : T (fits f x) → T (le zero_float y) → T (le x (add f x y))
  add_ge t h = rounds_above f (add f x y) x _ _ (den x * den y) p t C (add_rounds f x y p q) (frac_add_nonneg (pos_part x) (neg_part x) (den x) (pos_part y) (neg_part y) (den y) (omega (arith, neg_part_zero y q h)))

  pub sub_le : T (fits f x) → T (le zero_float y) → T (le (sub f x y) x)
  sub_le t h = rounds_below f (sub f x y) x _ _ (den x * den y) p t C (sub_rounds f x y p q) (frac_add_nonpos (pos_part x) (neg_part x) (den x) (neg_part y) (pos_part y) (den y) (omega (arith, neg_part_zero y q h)))

  -- signs of results
  pub sub_nonneg : T (le y x) → T (le zero_float (sub f x y))
  sub_nonneg h =
      rounds_above f (sub f x y) zero_float _ _ (den x * den y) tt (zero_fits f) C (sub_rounds f x y p q)
      (omega (arith, le→val y x q p h, zero-mul (den x * den y)))

  pub add_nonneg : T (le zero_float x) → T (le zero_float y) → T (le zero_float (add f x y))
  add_nonneg h k =
      rounds_above f (add f x y) zero_float _ _ (den x * den y) tt (zero_fits f) C (add_rounds f x y p q)
      (omega (arith, zero-mul (den x * den y), ap (λ (z : ℕ). z * den y) (neg_part_zero x p h), ap (λ (z : ℕ). z * den x) (neg_part_zero y q k), zero-mul (den x), zero-mul (den y)))

  pub mul_nonneg : T (le zero_float x) → T (le zero_float y) → T (le zero_float (mul f x y))
  mul_nonneg h k =
      rounds_above f (mul f x y) zero_float _ _ (den x * den y) tt (zero_fits f) C (mul_rounds f x y p q)
      (omega (arith, zero-mul (den x * den y), ap (λ (z : ℕ). z * pos_part y) (neg_part_zero x p h), ap (λ (z : ℕ). pos_part x * z) (neg_part_zero y q k), mul_comm (pos_part x) 0, zero-mul (pos_part x), zero-mul (pos_part y)))

  pub div_nonneg : T (le zero_float x) → T (lt zero_float y) → T (le zero_float (div f x y))
  div_nonneg h k =
      rounds_above f (div f x y) zero_float _ _ (pos_part y * den x) tt (zero_fits f) (mul-pos (pos_part_pos y q k) (den_pos x)) (div_rounds f x y p q (pos_part_pos y q k))
      (omega (arith, zero-mul (pos_part y * den x), ap (λ (z : ℕ). z * den y) (neg_part_zero x p h), zero-mul (den y)))
