-- A turn that takes by the rate up to t ends at t, but for rounding: (y * x) / y is x, but for 2 ^ -27. Assumes nothing.
use mathlib.Core.Bool.{Bool, false, not, true}
use mathlib.Core.Path.{◌∙◌, ◌≡◌, ap, refl, subst}
use Prim.Native.Nat.{◌*◌, ◌+◌, ◌<◌, ◌^◌, ◌≤◌, ℕ}
use native.Mathlib.Nat.{add-zero, le_of_mul-le-mul_right, mul-le-mul_right, mul-one, mul-pos, mul-zero, zero-mul}
use native.Mathlib.Omega.{arith}
use lib.Dec.{T, lit<, lit≤, ltb, ltb→lt, nltb→le}
use lib.Ieee.{Float, add, binary64, div, eq, fin, fits, le, lt, mul, neg, of_bits, sub}
use lib.Ieee.Fits.{add-fits, div-fits, sub-fits}
use lib.Ieee.Positive.{den, den_pos}
use lib.Ieee.Scale.{finite}
use lib.IntN.{pos}
use lib.Pow.{pow_pos}
use Rattle.ieee.specs.Binary64.{1e-6f, ◌⊕◌, ◌⊖◌, ◌⊗◌, ◌⊘◌}
use Rattle.ieee.specs.Interval.{In, minus, plain, zero_float}
use Rattle.ieee.specs.MaxMin.{max_of}
use Rattle.ieee.specs.Rounding.{Close, Rounds}
use Rattle.ieee.specs.Units.{neg_units, pos_units, scale, ulp}
use Rattle.ieee.specs.Value.{neg_part, pos_part}
use Rattle.ieee.proofs.Error.{rounds_close}
use Rattle.ieee.proofs.Interval.{add_in, closed_in, div_in, in_finite, sub_in, widen_high, widen_low}
use Rattle.ieee.proofs.MaxMin.{max_in, max_l}
use Rattle.ieee.proofs.Operations.{div_rounds, mul_rounds, neg_part_zero, pos_part_pos}
use Rattle.ieee.proofs.Order.{le_trans as fl-trans, lt_of_le_of_lt as fl-lt, lt_of_lt_of_le, to_t}
use Rattle.ieee.proofs.Representable.{rounds_above}
use Rattle.ieee.proofs.Units.{add_units, den_scale, le→units, sub_units, units→le}
use Rattle.ieee.proofs.Value.{le→val, lt→val, ring}
use Rattle.ieee.proofs.MaxMin.{max_fits}
use Rattle.branch.specs.VideoBranch.{on}

-- in fractions: p / dp is (py / dy) (px / dx) but for J / Q, and pq / dq is (p / dp) / (py / dy) but for J / Q, and y is 1 at least
back_frac : (px dx py dy pp dp pq dq Q J : ℕ) → 0 < py → 0 < dp → px * py * Q * dp ≤ pp * Q * (dx * dy) + J * (dx * dy) * dp → pp * dy * Q * dq ≤ pq * Q * (py * dp) + J * (py * dp) * dq
    → dy ≤ py
    → px * Q * dq ≤ pq * Q * dx + (J + J) * dx * dq
back_frac px dx py dy pp dp pq dq Q J Y D h g k =
    le_of_mul-le-mul_right (simp ring (omega (arith, simp ring at (mul-le-mul_right dq h), simp ring at (mul-le-mul_right dx g), simp ring at (mul-le-mul_right (J * (dx * (dp * dq))) k))))
    (mul-pos Y D)

-- the same in units
back_units : (px dx sx pq dq sq L Q J E : ℕ) → 0 < L → 0 < Q → dx * sx ≡ L → dq * sq ≡ L → J * L ≡ Q * E → px * Q * dq ≤ pq * Q * dx + (J + J) * dx * dq → px * sx ≤ pq * sq + (E + E)
back_units px dx sx pq dq sq L Q J E l q e f g h =
    let a : px * sx * Q * (dq * sq) ≤ pq * sq * Q * (dx * sx) + (J + J) * (dx * sx) * (dq * sq) = simp ring (simp ring at (mul-le-mul_right (sx * sq) h)) in
    let b : px * sx * Q * L ≤ pq * sq * Q * L + (J + J) * L * L = rw (e, f) at a in
    le_of_mul-le-mul_right (simp ring (omega (arith, simp ring at b, simp ring at (ap (λ (z : ℕ). z * L) g)))) (mul-pos q l)

-- ---- of floats that are not negative
product_is : (py ny px nx : ℕ) → ny ≡ 0 → nx ≡ 0 → (py * px + ny * nx ≡ py * px) × (py * nx + ny * px ≡ 0)
product_is py ny px nx e f = (rw (e, f) (simp (zero-mul, add-zero)), rw (e, f) (simp (zero-mul, mul-zero, add-zero)))

pos_product : (y x : Float) → T (finite y) → T (finite x) → neg_part y ≡ 0 → neg_part x ≡ 0 → Rounds binary64 (y ⊗ x) (pos_part y * pos_part x) 0 (den y * den x)
pos_product y x p q e f =
    let k = product_is (pos_part y) (neg_part y) (pos_part x) (neg_part x) e f in
    subst (λ (n : ℕ). Rounds binary64 (y ⊗ x) (pos_part y * pos_part x) n (den y * den x)) k.1
    (subst (λ (n : ℕ). Rounds binary64 (y ⊗ x) n (pos_part y * neg_part x + neg_part y * pos_part x) (den y * den x)) k.0 (mul_rounds binary64 y x p q))

pos_quotient : (p y : Float) → T (finite p) → T (finite y) → neg_part p ≡ 0 → 0 < pos_part y → Rounds binary64 (p ⊘ y) (pos_part p * den y) 0 (pos_part y * den p)
pos_quotient p y f g e h =
    subst (λ (n : ℕ). Rounds binary64 (p ⊘ y) (pos_part p * den y) n (pos_part y * den p)) (ap (λ (z : ℕ). z * den y) e ∙ zero-mul (den y)) (div_rounds binary64 p y f g h)

-- what rounds to at most 2 ^ 24 is below 2 ^ 25
below_top : (z : Float) (a c : ℕ) → 0 < c → Rounds binary64 z a 0 c → T (finite z) → T (le z (plain (2 ^ 24))) → (b : Bool) → (T b → a < 0 + c * 2 ^ 25) → (T (not b) → 0 + c * 2 ^ 25 ≤ a)
    → a < 0 + c * 2 ^ 25
unfolding le lt eq fits
below_top z a c C w f h true k l = k tt
below_top z a c C w f h false k l =
    absurd (fl-trans (fin false 1 (pos 25)) z (plain (2 ^ 24)) tt f tt (rounds_above binary64 z (fin false 1 (pos 25)) a 0 c tt tt C w (omega (arith, l tt, mul-one a))) h)

small_quotient : (pp dp py dy : ℕ) → 0 < py → 0 < dp → pp ≤ 2 ^ 24 * dp → dy ≤ py → pp * dy < 0 + py * dp * 2 ^ 25
small_quotient pp dp py dy Y D h k =
    let a : pp * dy ≤ 2 ^ 24 * (dp * dy) = simp ring (simp ring at (mul-le-mul_right dy h)) in
    let b : dp * dy ≤ py * dp = simp ring (simp ring at (mul-le-mul_right dp k)) in
    let c : 0 < py * dp = mul-pos Y D in
    omega arith

-- x against (y * x) / y
module _ (x y : Float) (i : In zero_float x (plain (2 ^ 19))) (j : In (plain 1000) y (plain (2 ^ 27))) (few : In zero_float (y ⊗ x) (plain (2 ^ 24))) (fx : T (fits binary64 x)) where
  abbrev p : Float
  p = mul binary64 y x

  y_zero : neg_part y ≡ 0
  unfolding le lt eq
  y_zero = neg_part_zero y (in_finite j) (widen_low zero_float j tt).low

  y_pos : T (lt zero_float y)
  unfolding lt
  y_pos = lt_of_lt_of_le zero_float (plain 1000) y tt tt (in_finite j) tt j.low

  y_plus : 0 < pos_part y
  y_plus = pos_part_pos y (in_finite j) y_pos

  y_one : den y ≤ pos_part y
  y_one = omega (arith, le→val (plain 1000) y tt (in_finite j) j.low, y_zero)

  p_zero : neg_part (y ⊗ x) ≡ 0
  p_zero = neg_part_zero (y ⊗ x) (in_finite few) few.low

  p_high : pos_part (y ⊗ x) ≤ 2 ^ 24 * den (y ⊗ x)
  p_high = omega (arith, le→val (y ⊗ x) (plain (2 ^ 24)) (in_finite few) tt few.high, p_zero)

  product : Close (y ⊗ x) (pos_part y * pos_part x) 0 (den y * den x) (2 ^ 25) (2 ^ 53)
  product =
      let c = mul-pos (den_pos y) (den_pos x) in
      let w = pos_product y x (in_finite j) (in_finite i) y_zero (neg_part_zero x (in_finite i) i.low) in
      rounds_close binary64 (y ⊗ x) (pos_part y * pos_part x) 0 (den y * den x) 25 c (lit< tt)
      (below_top (y ⊗ x) (pos_part y * pos_part x) (den y * den x) c w (in_finite few) few.high (ltb (pos_part y * pos_part x) (0 + den y * den x * 2 ^ 25)) (ltb→lt (pos_part y * pos_part x) (0 + den y * den x * 2 ^ 25)) (nltb→le (pos_part y * pos_part x) (0 + den y * den x * 2 ^ 25)))
      (omega (arith, c)) w

  quotient : Close ((y ⊗ x) ⊘ y) (pos_part (y ⊗ x) * den y) 0 (pos_part y * den (y ⊗ x)) (2 ^ 25) (2 ^ 53)
  quotient =
      let c = mul-pos y_plus (den_pos (y ⊗ x)) in
      rounds_close binary64 ((y ⊗ x) ⊘ y) (pos_part (y ⊗ x) * den y) 0 (pos_part y * den (y ⊗ x)) 25 c (lit< tt)
      (small_quotient (pos_part (y ⊗ x)) (den (y ⊗ x)) (pos_part y) (den y) y_plus (den_pos (y ⊗ x)) p_high y_one)
      (omega (arith, c)) (pos_quotient (y ⊗ x) y (in_finite few) (in_finite j) p_zero y_plus)

  pub quotient_low : pos_units binary64 x ≤ pos_units binary64 ((y ⊗ x) ⊘ y) + (ulp binary64 25 + ulp binary64 25)
  unfolding pos_units
  quotient_low =
      let p = y ⊗ x in
      let q = p ⊘ y in
      let h : pos_part x * pos_part y * 2 ^ 53 * den p ≤ pos_part p * 2 ^ 53 * (den x * den y) + 2 ^ 25 * (den x * den y) * den p = simp ring (omega (arith, simp (ring, zero-mul) at product.low_end)) in
      let g : pos_part p * den y * 2 ^ 53 * den q ≤ pos_part q * 2 ^ 53 * (pos_part y * den p) + 2 ^ 25 * (pos_part y * den p) * den q = simp ring (omega (arith, simp (ring, zero-mul) at quotient.low_end)) in
      back_units (pos_part x) (den x) (scale binary64 x) (pos_part q) (den q) (scale binary64 q) (2 ^ 1074) (2 ^ 53) (2 ^ 25) (ulp binary64 25) (pow_pos 1074) (pow_pos 53)
      (den_scale binary64 x fx) (den_scale binary64 q (div-fits binary64 p y)) refl
      (back_frac (pos_part x) (den x) (pos_part y) (den y) (pos_part p) (den p) (pos_part q) (den q) (2 ^ 53) (2 ^ 25) y_plus (den_pos p) h g y_one)

-- ---- the time that such a turn comes to
pub neg_units_zero : (x : Float) → T (finite x) → T (le zero_float x) → neg_units binary64 x ≡ 0
unfolding neg_units
neg_units_zero x p h = ap (λ (z : ℕ). z * scale binary64 x) (neg_part_zero x p h) ∙ zero-mul (scale binary64 x)

-- in units: t, now, the span, the quotient, the larger, the time and t less a millionth
late : (gt ot gn on gs os gq oq gw ow gz oz gu ou gm om E F G : ℕ) → os ≡ 0 → oq ≡ 0 → om ≡ 0 → gt + on + os ≤ gs + ot + gn + E → gs ≤ gq + (F + F) → gq + ow ≤ gw + oq
    → gn + gw + oz ≤ gz + on + ow + G → gu + ot + gm ≤ gt + om + ou + E
    → E + E + (F + F) + G ≤ gm → gu + oz ≤ gz + ou
late gt ot gn on gs os gq oq gw ow gz oz gu ou gm om E F G a b c d e f g h i = omega arith

not_lt : (x y : Float) → T (finite x) → T (finite y) → T (le y x) → (b : Bool) → lt x y ≡ b → b ≡ false
not_lt x y p q h true e = absurd (irrefl y q (fl-lt y x y q p q h (to_t e)))
  where
    irrefl : (x : Float) → T (finite x) → T (lt x x) → ⊥
    irrefl x p h = let k = lt→val x x p p h in omega arith
not_lt x y p q h false e = refl

pub micro_in : In zero_float 1e-6f (plain 1)
unfolding of_bits le lt eq
micro_in = closed_in zero_float 1e-6f (plain 1) tt

micro_fits : T (fits binary64 1e-6f)
unfolding of_bits fits
micro_fits = tt

micro_more : ulp binary64 20 + ulp binary64 20 + (ulp binary64 25 + ulp binary64 25) + ulp binary64 19 ≤ pos_units binary64 1e-6f
unfolding of_bits pos_units
micro_more = lit≤ tt

module _ (now t rbx : Float) (i : In (minus (2 ^ 18)) now (plain (2 ^ 18))) (j : In (minus (2 ^ 18)) t (plain (2 ^ 18))) (fi : T (fits binary64 now)) (fj : T (fits binary64 t))
    (r : In (plain 1000) rbx (plain (2 ^ 27)))
    (sp : In zero_float (t ⊖ now) (plain (2 ^ 19))) (few : In zero_float (rbx ⊗ (t ⊖ now)) (plain (2 ^ 24))) where
  q_in : In zero_float ((rbx ⊗ (t ⊖ now)) ⊘ rbx) (plain (2 ^ 15))
  unfolding div le lt eq
  q_in = div_in binary64 zero_float (plain (2 ^ 15)) few r tt

  w_in : In zero_float (max_of ((rbx ⊗ (t ⊖ now)) ⊘ rbx) 1e-6f) (plain (2 ^ 15))
  unfolding of_bits le lt eq
  w_in = max_in ((rbx ⊗ (t ⊖ now)) ⊘ rbx) q_in.high (widen_high (plain (2 ^ 15)) micro_in tt)

  z_in : In (minus (2 ^ 18)) (now ⊕ (max_of ((rbx ⊗ (t ⊖ now)) ⊘ rbx) 1e-6f)) (plain (2 ^ 19))
  unfolding add le lt eq
  z_in = add_in binary64 (minus (2 ^ 18)) (plain (2 ^ 19)) i w_in tt

  u_in : In (minus (2 ^ 19)) (t ⊖ 1e-6f) (plain (2 ^ 19))
  unfolding sub add neg le lt eq
  u_in = sub_in binary64 (minus (2 ^ 19)) (plain (2 ^ 19)) j micro_in tt

  not_early : T (le (t ⊖ 1e-6f) (now ⊕ (max_of ((rbx ⊗ (t ⊖ now)) ⊘ rbx) 1e-6f)))
  unfolding le lt eq
  not_early =
      let s = t ⊖ now in
      let q = (rbx ⊗ s) ⊘ rbx in
      let w = max_of q 1e-6f in
      let z = now ⊕ w in
      let u = t ⊖ 1e-6f in
      let fq = div-fits binary64 (rbx ⊗ s) rbx in
      let fw = max_fits binary64 q 1e-6f fq micro_fits in
      let a = sub_units binary64 20 (2 ^ 18) (2 ^ 18) j i fj fi tt in
      let b = sub_units binary64 20 (2 ^ 18) 1 j (widen_low (minus 1) micro_in tt) fj micro_fits tt in
      let c = add_units binary64 19 (2 ^ 18) (2 ^ 15) i (widen_low (minus (2 ^ 15)) w_in tt) fi fw tt in
      let d = le→units binary64 q w (in_finite q_in) (in_finite w_in) fq fw (max_l q_in micro_in) in
      units→le binary64 u z (in_finite u_in) (in_finite z_in) (sub-fits binary64 t 1e-6f) (add-fits binary64 now w)
      (late (pos_units binary64 t) (neg_units binary64 t) (pos_units binary64 now) (neg_units binary64 now) (pos_units binary64 s) (neg_units binary64 s) (pos_units binary64 q) (neg_units binary64 q) (pos_units binary64 w) (neg_units binary64 w) (pos_units binary64 z) (neg_units binary64 z) (pos_units binary64 u) (neg_units binary64 u)
      (pos_units binary64 1e-6f) (neg_units binary64 1e-6f) (ulp binary64 20) (ulp binary64 25) (ulp binary64 19)
      (neg_units_zero s (in_finite sp) sp.low) (neg_units_zero q (in_finite q_in) q_in.low) (neg_units_zero 1e-6f (in_finite micro_in) micro_in.low)
      a.low_end (quotient_low s rbx sp r few (sub-fits binary64 t now)) d c.low_end b.high_end micro_more)

  -- the loop's test fails after it
  pub rate_late : lt (now ⊕ (max_of ((rbx ⊗ (t ⊖ now)) ⊘ rbx) 1e-6f)) (t ⊖ 1e-6f) ≡ false
  rate_late = not_lt _ _ (in_finite z_in) (in_finite u_in) not_early (lt (now ⊕ (max_of ((rbx ⊗ (t ⊖ now)) ⊘ rbx) 1e-6f)) (t ⊖ 1e-6f)) refl
