-- An interval whose rate passed the test: its rate, its length in seconds and its step in ticks are bounded. Were the step
-- longer than 17 / 2 ^ 14 s a byte, the quotient would round below 1,000.
use Rattle.std.proofs.Common.{◌≡◌, ℕ, ◌+◌, ◌*◌, ◌^◌, ◌<◌, ◌≤◌, Bool, true, false, ◌||◌, T, negsuc, refl, true≢false, le_of_lt, mul-le-mul_right, mul_assoc, mul-pos, lt_of_not-le, zero-mul, mul_right_comm, arith}
use native.Mathlib.Decide.{dec_le}
use lib.Ieee.{Float, fin, binary64, of_bits, div, le, lt, fits}
use lib.Ieee.Positive.{den, den_pos}
use Rattle.ieee.specs.Binary64.{◌⊘◌, 1000f, 27000000f, 90000f, 1000000000f}
use Rattle.ieee.specs.Value.{pos_part, neg_part}
use Rattle.ieee.specs.Interval.{In, plain, zero_float}
use Rattle.ieee.specs.Whole.{Is}
use Rattle.ieee.proofs.Value.{ring}
use Rattle.ieee.proofs.Order as order
use Rattle.ieee.proofs.Operations.{div_rounds, pos_part_pos}
use Rattle.ieee.proofs.Representable.{rounds_below}
use Rattle.ieee.proofs.Interval.{in_finite, div_in, nlt_in, closed_in, widen_low}
use Rattle.ieee.proofs.Whole.{of_int_is, is_in, is_finite, is_pos_part, is_neg_part}
use Rattle.clock.specs.Pcr.{pcr_modulus}
use Rattle.arrival.specs.ArrivalClock.{float, seconds}
use Rattle.arrival.specs.Bounds.{byte_limit, unit, units_of}
use Rattle.arrival.proofs.Quotients.{div_at_most, div_low}

pub is_27000000 : Is 27000000f 27000000
unfolding of_bits
is_27000000 = (refl, refl)

pub is_90000 : Is 90000f 90000
unfolding of_bits
is_90000 = (refl, refl)

-- `n as f64`, of the numbers here
pub float_is : (n : ℕ) → n ≤ 2 ^ 53 → Is (float n) n
float_is n h = of_int_is binary64 n h

or_false : (a b : Bool) → (a || b) ≡ false → (a ≡ false) × (b ≡ false)
or_false false false h = (refl, refl)
or_false false true h = absurd (true≢false h)
or_false true b h = absurd (true≢false h)

slow_frac : (B d q p : ℕ) → 0 < d → 459000000 * B < d * 2 ^ 14 → d * 2 ^ 53 * q ≤ p * 2 ^ 53 * 27000000 + 2 ^ 17 * 27000000 * q → B * q ≤ 999 * p
slow_frac B d q p some h a =
    let X : d * 2 ^ 53 * q ≡ 2 ^ 53 * (d * q) = simp ring in
    let Y : p * 2 ^ 53 * 27000000 ≡ 2 ^ 53 * 27000000 * p = simp ring in
    omega (arith, mul-le-mul_right q some, mul-le-mul_right q (le_of_lt h), mul_assoc 459000000 B q, mul_right_comm d (2 ^ 14) q)

quotient_frac : (B a n x y p : ℕ) → a ≡ B * x → n ≡ 0 → B * y ≤ 999 * p → a * y * 1 + 0 * (p * x) ≤ 999 * 1 * (p * x) + n * y * 1
quotient_frac B a n x y p e z h = rw (e, z) (simp (ring, zero-mul) (omega (arith, simp ring at (mul-le-mul_right x h))))

low_above : T (lt zero_float (fin false 1 (negsuc 24)))
unfolding lt
low_above = tt

module _ (B d : ℕ) (short : B ≤ byte_limit) (some : 0 < d) (low : d < pcr_modulus) where
  abbrev pub dt : Float
  dt = seconds d

  abbrev pub rate : Float
  rate = float B ⊘ dt

  pub dt_in : In (fin false 1 (negsuc 24)) dt (plain 162891)
  unfolding div le lt of_bits
  dt_in =
      div_in binary64 (fin false 1 (negsuc 24)) (plain 162891) (is_in (float d) d 1 (2 ^ 42) (float_is d (omega arith)) (omega arith) (omega arith)) (closed_in (plain 27000000) 27000000f (plain 27000000) tt) tt

  rate_finite : In (plain 0) rate (plain (2 ^ 50))
  unfolding div le lt
  rate_finite = div_in binary64 (plain 0) (plain (2 ^ 50)) (is_in (float B) B 0 (2 ^ 24) (float_is B (omega arith)) (omega arith) short) dt_in tt

  module _ (passed : (lt rate 1000f || lt 1000000000f rate) ≡ false) where
    pub rate_in : In (plain 1000) rate (plain 1000000000)
    unfolding of_bits le
    rate_in =
        let t = or_false (lt rate 1000f) (lt 1000000000f rate) passed in
        let a = nlt_in rate_finite (closed_in (plain 1000) 1000f (plain 1000) tt) t.0 in
        let b = order.nlt→le 1000000000f rate tt (in_finite a) (order.to_not t.1) in
        record { low_finite = tt; high_finite = tt; low = a.low; high = order.le_trans rate 1000000000f (plain 1000000000) (in_finite a) tt tt b tt }

    -- a step above the bound would have made a rate of 999 at most
    slow : 459000000 * B < d * 2 ^ 14 → B * den dt ≤ 999 * pos_part dt
    slow h =
        let a : d * 2 ^ 53 * den dt ≤ pos_part dt * 2 ^ 53 * 27000000 + 2 ^ 17 * 27000000 * den dt =
        div_low binary64 (float d) 27000000f d 27000000 (float_is d (omega arith)) is_27000000 (omega arith) 17 (omega arith) (omega arith) in
        slow_frac B d (den dt) (pos_part dt) some h a

    at_most_999 : B * den dt ≤ 999 * pos_part dt → T (le rate (plain 999))
    unfolding fits
    at_most_999 h =
        let x = float_is B (omega arith) in
        let above = pos_part_pos dt (in_finite dt_in) (order.lt_of_lt_of_le zero_float (fin false 1 (negsuc 24)) dt tt tt (in_finite dt_in) low_above dt_in.low) in
        rounds_below binary64 rate (plain 999) _ _ (pos_part dt * den (float B)) tt tt (mul-pos above (den_pos (float B)))
        (div_rounds binary64 (float B) dt (is_finite (float B) B x) (in_finite dt_in) above)
        (quotient_frac B (pos_part (float B)) (neg_part (float B)) (den (float B)) (den dt) (pos_part dt) (is_pos_part (float B) B x) (is_neg_part (float B) B x) h)

    refuted : T (le (plain 1000) (plain 999)) → ⊥
    unfolding le
    refuted t = t

    pub step_low : d * 2 ^ 14 ≤ 459000000 * B
    step_low = by (dec_le (d * 2 ^ 14) (459000000 * B))
      where
        by : Dec (d * 2 ^ 14 ≤ 459000000 * B) → d * 2 ^ 14 ≤ 459000000 * B
        by (yes h) = h
        by (no f) = absurd (refuted (order.le_trans (plain 1000) rate (plain 999) tt (in_finite rate_in) tt rate_in.low (at_most_999 (slow (lt_of_not-le f)))))

    -- the length of the interval
    pub dt_within : In (fin true 0 unit) dt (fin false (units_of B) unit)
    unfolding le
    dt_within =
        record {
          low_finite = tt;
          high_finite = tt;
          low = (widen_low (fin true 0 unit) dt_in tt).low;
          high = div_at_most binary64 (float d) 27000000f d 27000000 (float_is d (omega arith)) is_27000000 (omega arith) (units_of B) unit (omega arith) tt (omega (arith, step_low));
        }
