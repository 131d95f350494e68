-- A quotient by a divisor that is bounded below, against c units of 2 ^ e for each whole
-- number of the dividend; and a difference of two floats whose exact difference is bounded below. Assumes nothing.
use Rattle.std.proofs.Common.{ℕ, ◌+◌, ◌*◌, ◌^◌, ◌<◌, ◌≤◌, Bool, false, ◌&&◌, T, leb, ℤ, ap, mul-le-mul_right, mul-pos, zero-mul, le_of_mul-le-mul_right, arith, leb→le}
use lib.Ieee.{Float, fin, Format, prec, up, down, div, sub, le, lt, fits}
use lib.Ieee.Fits.{and_l, and_r}
use lib.Ieee.Scale.{finite}
use lib.Ieee.Positive.{den, den_pos}
use Rattle.ieee.specs.Value.{pos_part, neg_part, Frac-le}
use Rattle.ieee.specs.Interval.{In, plain, zero_float}
use Rattle.ieee.specs.Progress.{Over}
use Rattle.ieee.proofs.Value.{ring, le→val, high→parts}
use Rattle.ieee.proofs.Order.{lt→le, lt_of_lt_of_le}
use Rattle.ieee.proofs.Operations.{sub_rounds, div_rounds, neg_part_zero, pos_part_pos}
use Rattle.ieee.proofs.Interval.{in_finite}
use Rattle.ieee.proofs.Representable.{exponent_fits, rounds_high, rounds_above}
use Rattle.ieee.proofs.Sign.{div_nonneg}

-- 1 / lo is at most c * 2 ^ e, and lo is above zero
abbrev pub paced : ℕ → ℤ → Float → Bool
paced c e lo = leb (den lo * down e) (c * (pos_part lo * up e)) && lt zero_float lo

quotient_frac :
    (px nx dx py dy pl dl b c u v : ℕ) → 0 < dl → px ≤ b * dx + nx → dl * v ≤ c * (pl * u) → pl * dy ≤ py * dl →
    px * dy * v ≤ c * b * u * (py * dx) + nx * dy * v
quotient_frac px nx dx py dy pl dl b c u v D h g k =
    le_of_mul-le-mul_right
    (simp ring
    (omega (
      arith,
      simp ring at (mul-le-mul_right (dy * (v * dl)) h),
      simp ring at (mul-le-mul_right (b * (dx * dy)) g),
      simp ring at (mul-le-mul_right (b * (u * (dx * c))) k),
    )))
    D

pub div_paced :
    (f : Format) (c : ℕ) (e : ℤ) {b : ℕ} {x lo y hi : Float} →
    T (exponent_fits f e) → T (paced c e lo) → In zero_float x (plain b) → In lo y hi → c * b < 2 ^ prec f →
    In zero_float (div f x y) (fin false (c * b) e)
div_paced f c e {b} {x} {lo} {y} {hi} r s i j g =
    let p = in_finite i in
    let q = in_finite j in
    let slow = leb→le (den lo * down e) (c * (pos_part lo * up e)) (and_l (leb (den lo * down e) (c * (pos_part lo * up e))) (lt zero_float lo) s) in
    let above = and_r (leb (den lo * down e) (c * (pos_part lo * up e))) (lt zero_float lo) s in
    let y-above = lt_of_lt_of_le zero_float lo y tt j.low_finite q above j.low in
    let lo-plus = neg_part_zero lo j.low_finite (lt→le zero_float lo tt j.low_finite above) in
    let y-low : pos_part lo * den y ≤ pos_part y * den lo =
    omega (arith, le→val lo y j.low_finite q j.low, ap (λ (z : ℕ). z * den y) lo-plus, zero-mul (den y)) in
    let y_plus = pos_part_pos y q y-above in
    let x-high = high→parts b x p i.high in
    record {
      low_finite = tt;
      high_finite = tt;
      low = div_nonneg f x y p q i.low y-above;
      high = rounds_high f (c * b) e g r (div f x y) _ _ (pos_part y * den x) (mul-pos y_plus (den_pos x)) (div_rounds f x y p q y_plus)
          (quotient_frac (pos_part x) (neg_part x) (den x) (pos_part y) (den y) (pos_part lo) (den lo) b c (up e) (down e) (den_pos lo) x-high slow y-low);
    }

-- the exact x + s is at most z, and z is at most y: then y - x is at least s, which the format holds
gap_frac : (px nx dx ps ns ds pz nz dz py ny dy : ℕ) → 0 < dz →
    Frac-le (px * ds + ps * dx) (nx * ds + ns * dx) (dx * ds) pz nz dz → Frac-le pz nz dz py ny dy →
    Frac-le ps ns ds (py * dx + nx * dy) (ny * dx + px * dy) (dy * dx)
gap_frac px nx dx ps ns ds pz nz dz py ny dy Z h k =
    le_of_mul-le-mul_right
    (simp ring (omega (arith, simp ring at (mul-le-mul_right dy h), simp ring at (mul-le-mul_right (dx * ds) k)))) Z

pub sub_gap :
    (f : Format) (s : Float) {x z : Float} (y : Float) → T (finite s) → T (fits f s) → T (finite x) → T (finite z) → T (finite y) →
    Over x s z → T (le z y) → T (le s (sub f y x))
sub_gap f s {x} {z} y a t p r q o h =
    rounds_above f (sub f y x) s _ _ (den y * den x) a t (mul-pos (den_pos y) (den_pos x)) (sub_rounds f y x q p)
    (gap_frac (pos_part x) (neg_part x) (den x) (pos_part s) (neg_part s) (den s) (pos_part z) (neg_part z) (den z) (pos_part y) (neg_part y) (den y) (den_pos z) o.exact (le→val z y r q h))
