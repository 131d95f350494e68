-- The time of every PTS and DTS is within bounds: the nearest epoch lies half a wrap below the reference at most, and less than
-- half a wrap above it or, near 0, in the first wrap.
use Rattle.std.proofs.Common.{◌≡◌, ℕ, ◌+◌, ◌*◌, ◌/◌, ◌^◌, ◌<◌, ◌≤◌, Bool, true, false, cond, ◌&&◌, T, pos, negsuc, mul-le-mul_right, mul-pos, lt_of_not-le, zero-mul, le_of_mul-le-mul_right, arith}
use native.Mathlib.Decide.{dec_le}
use lib.Ieee.{Float, fin, binary64, of_bits, add, sub, div, le, lt, fits}
use lib.Ieee.Fits.{add-fits}
use lib.Ieee.Positive.{den, den_pos}
use Rattle.ieee.specs.Binary64.{◌⊕◌, ◌⊖◌, ◌⊘◌, 27000000f, 90000f}
use Rattle.ieee.specs.Value.{pos_part, neg_part}
use Rattle.ieee.specs.Interval.{In, plain, minus, zero_float}
use Rattle.ieee.proofs.Value.{ring, high→parts}
use Rattle.ieee.proofs.Operations.{add_rounds, sub_rounds, neg_part_zero}
use Rattle.ieee.proofs.Representable.{rounds_low}
use Rattle.ieee.proofs.Error.{sum_close}
use Rattle.ieee.proofs.Growth.{widen_at}
use Rattle.ieee.proofs.Interval.{in_finite, wide, widen, div_in, add_in, sub_in, closed_in}
use Rattle.ieee.proofs.Whole.{is_in}
use Rattle.clock.specs.Timestamp.{nearest_timestamp}
use Rattle.clock.proofs.Extend.{Extends, nearest_extends}
use Rattle.arrival.specs.declared.RateInterval.{RateInterval}
use Rattle.arrival.specs.ArrivalClock.{float, seconds}
use Rattle.arrival.specs.Times.{decode_time, decode_time_or_zero}
use Rattle.arrival.specs.Bounds.{byte_limit, extended_limit, units_of, IntervalWithin}
use Rattle.arrival.proofs.Quotients.{div_low, div_high}
use Rattle.arrival.proofs.Stamps.{decode_time_is}
use Rattle.arrival.proofs.Rates.{is_27000000, is_90000, float_is}

-- ---- a whole number over a whole number, from closed bounds
abbrev over_test : ℕ → ℕ → ℕ → Float → Float → Bool
over_test lo hi c l h = lt zero_float (plain c) && wide (div binary64 (plain lo) (cond (le zero_float (plain lo)) (plain c) (plain c))) (div binary64 (plain hi) (cond (le zero_float (plain hi)) (plain c) (plain c))) l h

over_in : (n lo hi c : ℕ) {y : Float} (l h : Float) → lo ≤ n → n ≤ hi → hi ≤ 2 ^ 53 → In (plain c) y (plain c) → T (over_test lo hi c l h) → In l (float n ⊘ y) h
over_in n lo hi c l h a b d i t = div_in binary64 l h (is_in (float n) n lo hi (float_is n (omega arith)) a b) i t

in_27000000 : In (plain 27000000) 27000000f (plain 27000000)
unfolding of_bits le
in_27000000 = closed_in (plain 27000000) 27000000f (plain 27000000) tt

in_90000 : In (plain 90000) 90000f (plain 90000)
unfolding of_bits le
in_90000 = closed_in (plain 90000) 90000f (plain 90000) tt

-- ---- from below, with the errors of three roundings
below_frac : (ts ext pA dA pB dB pO nO dO : ℕ) → 0 < dB
    → ext ≤ 300 * ts + 300 * 2 ^ 32 + 299
    → ts * 2 ^ 53 * dA ≤ pA * 2 ^ 53 * 90000 + 2 ^ 18 * 90000 * dA
    → pB * 2 ^ 53 * 27000000 ≤ ext * 2 ^ 53 * dB + 2 ^ 18 * 27000000 * dB
    → nO * 2 ^ 53 * dB ≤ pO * 2 ^ 53 * dB + pB * 2 ^ 53 * dO + 2 ^ 18 * dB * dO
    → nO * dA ≤ 47723 * (dA * dO) + pA * dO + pO * dA
below_frac ts ext pA dA pB dB pO nO dO D e a b o =
    le_of_mul-le-mul_right
    (simp ring
    (omega (
      arith,
      simp ring at (mul-le-mul_right (dA * (dB * dO)) e),
      simp ring at (mul-le-mul_right (dB * dO) a),
      simp ring at (mul-le-mul_right (dA * dO) b),
      simp ring at (mul-le-mul_right dA o),
    )))
    D

offset_frac : (pS nS dS pB nB dB pO nO dO : ℕ) → nS ≡ 0 → nB ≡ 0 → 0 < dS
    → (pS * dB + nB * dS) * 2 ^ 53 * dO + nO * 2 ^ 53 * (dS * dB) ≤ pO * 2 ^ 53 * (dS * dB) + (nS * dB + pB * dS) * 2 ^ 53 * dO + 2 ^ 18 * (dS * dB) * dO
    → nO * 2 ^ 53 * dB ≤ pO * 2 ^ 53 * dB + pB * 2 ^ 53 * dO + 2 ^ 18 * dB * dO
offset_frac pS nS dS pB nB dB pO nO dO z y D h = le_of_mul-le-mul_right (simp ring (omega (arith, simp (ring, zero-mul) at (rw (z, y) at h)))) D

low_frac : (pA nA dA pO nO dO : ℕ) → nA ≡ 0 → nO * dA ≤ 47723 * (dA * dO) + pA * dO + pO * dA
    → (nA * dO + nO * dA) * 1 ≤ 47723 * 1 * (dA * dO) + (pA * dO + pO * dA) * 1
low_frac pA nA dA pO nO dO z h = rw z (simp (ring, zero-mul) (omega (arith, simp ring at h)))

seconds_high : (p n e d : ℕ) → n ≡ 0 → p * 2 ^ 53 * 27000000 ≤ e * 2 ^ 53 * d + n * 2 ^ 53 * 27000000 + 2 ^ 18 * 27000000 * d
    → p * 2 ^ 53 * 27000000 ≤ e * 2 ^ 53 * d + 2 ^ 18 * 27000000 * d
seconds_high p n e d z h = omega (arith, rw z at h)

module _ (ts ext : ℕ) (S : Float) (start : In (plain 0) S (plain 17408)) (ext_low : ext ≤ extended_limit) (ts-low : ts ≤ 2 ^ 34) where
  abbrev A : Float
  A = float ts ⊘ 90000f

  abbrev B : Float
  B = seconds ext

  abbrev O : Float
  O = S ⊖ B

  A-in : In (plain 0) A (plain 190888)
  unfolding div le lt
  A-in = over_in ts 0 (2 ^ 34) 90000 (plain 0) (plain 190888) (omega arith) ts-low (omega arith) in_90000 tt

  B-in : In (plain 0) B (plain 112963)
  unfolding div le lt
  B-in = over_in ext 0 extended_limit 27000000 (plain 0) (plain 112963) (omega arith) ext_low (omega arith) in_27000000 tt

  O-in : In (minus 112963) O (plain 17408)
  unfolding sub le
  O-in = sub_in binary64 (minus 112963) (plain 17408) start B-in tt

  -- the difference, but for its rounding
  offset_close : neg_part O * 2 ^ 53 * den B ≤ pos_part O * 2 ^ 53 * den B + pos_part B * 2 ^ 53 * den O + 2 ^ 18 * den B * den O
  offset_close =
      let s = in_finite start in
      let b = in_finite B-in in
      let zs = neg_part_zero S s start.low in
      let zb = neg_part_zero B b B-in.low in
      offset_frac (pos_part S) (neg_part S) (den S) (pos_part B) (neg_part B) (den B) (pos_part O) (neg_part O) (den O) zs zb (den_pos S)
      (sum_close binary64 O (pos_part S) (neg_part S) (den S) (neg_part B) (pos_part B) (den B) 17408 112963 18 (den_pos S) (den_pos B)
      (high→parts 17408 S s start.high) (omega (arith, zs))
      (omega (arith, zb)) (omega (arith, high→parts 112963 B b B-in.high))
      (omega arith) (omega arith) (sub_rounds binary64 S B s b)).low_end

  decode_low : ext ≤ 300 * ts + 300 * 2 ^ 32 + 299 → T (le (minus 47723) (A ⊕ O))
  decode_low h =
      let a = in_finite A-in in
      let o = in_finite O-in in
      let za = neg_part_zero A a A-in.low in
      let zb = neg_part_zero B (in_finite B-in) B-in.low in
      rounds_low binary64 47723 (pos 0) (omega arith) tt (A ⊕ O) _ _ (den A * den O) (mul-pos (den_pos A) (den_pos O)) (add_rounds binary64 A O a o)
      (low_frac (pos_part A) (neg_part A) (den A) (pos_part O) (neg_part O) (den O) za
      (below_frac ts ext (pos_part A) (den A) (pos_part B) (den B) (pos_part O) (neg_part O) (den O) (den_pos B) h
      (div_low binary64 (float ts) 90000f ts 90000 (float_is ts (omega arith)) is_90000 (omega arith) 18 (omega arith) (omega arith))
      (seconds_high (pos_part B) (neg_part B) ext (den B) zb (div_high binary64 (float ext) 27000000f ext 27000000 (float_is ext (omega arith)) is_27000000 (omega arith) 18 (omega arith) (omega arith)))
      offset_close))

  -- from above: at most m ticks of the stamp, at least k of the PCR
  module _ (m k : ℕ) (a b o : Float) (at_most : ts ≤ m) (m-low : m ≤ 2 ^ 53) (at_least_lem : k ≤ ext) where
    decode_high : T (over_test 0 m 90000 (plain 0) a) → T (over_test k extended_limit 27000000 b (plain 112963))
        → T (wide (sub binary64 (plain 0) (plain 112963)) (sub binary64 (plain 17408) b) (minus 112963) o)
        → T (wide (add binary64 (plain 0) (minus 112963)) (add binary64 a o) (minus 112963) (plain 112852))
        → T (le (A ⊕ O) (plain 112852))
    decode_high p q r s =
        (add_in binary64 (minus 112963) (plain 112852) (over_in ts 0 m 90000 (plain 0) a (omega arith) at_most m-low in_90000 p)
        (sub_in binary64 (minus 112963) o start (over_in ext k extended_limit 27000000 b (plain 112963) at_least_lem ext_low (omega arith) in_27000000 q) r) s).high

  -- by which half wrap the reference is in
  module _ (raw : ℕ) (e : Extends raw (ext / 300) ts) where
    high_by : Dec (2 ^ 33 ≤ ext / 300) → Dec (2 ^ 32 ≤ ext / 300) → T (le (A ⊕ O) (plain 112852))
    unfolding add sub div le lt
    high_by (yes h) q =
        decode_high (4 * 2 ^ 32) (300 * 2 ^ 33) (fin false 381775 (negsuc 0)) (fin false 763549 (negsuc 2)) (fin true 624285 (negsuc 2)) (omega arith) (omega arith) (omega arith) tt tt tt tt
    high_by (no f) (yes h) =
        decode_high (3 * 2 ^ 32) (300 * 2 ^ 32) (fin false 1145325 (negsuc 2)) (fin false 190887 (negsuc 1)) (fin true 121255 (negsuc 1)) (omega (arith, lt_of_not-le f)) (omega arith) (omega arith) tt tt tt tt
    high_by (no f) (no g) =
        decode_high (2 ^ 33) 0 (plain 95444) (plain 0) (plain 17408) (omega (arith, lt_of_not-le g)) (omega arith) (omega arith) tt tt tt tt

    stamp_in_lem : In (minus 47723) (A ⊕ O) (plain 112852)
    stamp_in_lem =
        record { low_finite = tt; high_finite = tt; low = decode_low (omega arith); high = high_by (dec_le _ _) (dec_le _ _) }

pub decode_within : (i : RateInterval) (raw : ℕ) → IntervalWithin i → In (minus 47723) (decode_time i raw) (plain 112852)
unfolding decode_time le
decode_within i raw w =
    let s = widen (plain 0) (plain 17408) (widen_at 0 (units_of byte_limit) w.time_within (omega arith) (omega (arith, w.start_within))) tt in
    let e = nearest_extends raw (w.extended / 300) in
    rw (w.offset_is, w.reference_is)
    (stamp_in_lem (nearest_timestamp raw (w.extended / 300)) w.extended i.start_time s w.extended_within (omega (arith, e.below, w.extended_within)) raw e)

module _ (i : RateInterval) (raw : ℕ) (w : IntervalWithin i) where
  pub decode_fits : T (fits binary64 (decode_time i raw))
  unfolding decode_time
  decode_fits = add-fits binary64 _ _

  pub reference_within : i.pcr_ref_90k < 2 ^ 34
  reference_within = omega (arith, w.reference_is, w.extended_within)

  -- `extend_near` never refuses here
  pub decode_answer : decode_time_or_zero i raw ≡ decode_time i raw
  decode_answer = decode_time_is i raw (omega (arith, reference_within))
