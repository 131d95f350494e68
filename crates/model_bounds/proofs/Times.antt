-- The arrival times of a packet's first byte and of its end are short of 17,408 s, and the times of the bytes in between within 17,408 s.
-- Assumes nothing.
use mathlib.Core.Path.{◌≡◌, refl}
use mathlib.Core.Bool.{Bool, true, false, cond}
use Prim.Native.Nat.{ℕ, ◌+◌, ◌-◌, ◌*◌, ◌/◌, ◌%◌, ◌^◌, ◌≤◌, ◌<◌}
use native.Mathlib.Nat.{le_trans, mul-le-mul_right, le_of_mul-le-mul_right, mul-pos, div-mul-le_self, lt_of_not-le, div-add-mod', mod-lt, add-mul, mul-one, one-mul, mul-le-mul_left, lt_of_le_of_lt}
use native.Mathlib.Decide.{dec_le}
use native.Mathlib.Omega.{arith}
use borrow.Author.Tests.{leb-true, leb-false}
use lib.Dec.{T, leb, lit≤, lit<}
use lib.IntN.{pos, negsuc}
use lib.Ieee.{Float, fin, binary64, of_bits, sub, div, le, lt, fits}
use lib.Ieee.Fits.{add-fits, sub-fits, cond-fits}
use lib.Ieee.Positive.{den, den_pos}
use Rattle.ieee.specs.Binary64.{◌⊕◌, ◌⊖◌, ◌⊗◌, ◌⊘◌, 188f}
use Rattle.ieee.specs.Interval.{In, plain, minus}
use Rattle.ieee.specs.Value.{pos_part, neg_part}
use Rattle.ieee.specs.Whole.{Is}
use Rattle.ieee.proofs.Growth.{add_at, mul_at, widen_at}
use Rattle.ieee.proofs.Interval.{in_finite, widen, widen_low, sub_in, div_in}
use Rattle.ieee.proofs.Operations.{add_rounds, sub_rounds, div_rounds}
use Rattle.ieee.proofs.Quotient.{div_paced}
use Rattle.ieee.proofs.Representable.{rounds_high, rounds_low}
use Rattle.ieee.proofs.Value.{ring, le→val}
use Rattle.ieee.proofs.Whole.{of_int_is, is_in, is_finite, is_pos_part}
use Rattle.arrival.specs.declared.RateInterval.{RateInterval}
use Rattle.arrival.specs.Times.{time_of}
use Rattle.arrival.specs.Bounds.{byte_limit, unit, units_of, arrival_limit, IntervalWithin}
use Rattle.fifo.specs.Bounds.{ArrivalTime}
use Rattle.transport.specs.Arrive.{float, frac}
use Rattle.model_bounds.specs.Times.{fine, packet_limit, PacketTime}

-- ---- an arrival
abbrev Within : Float → Type 0
Within t = In (fin true packet_limit fine) t (fin false packet_limit fine)

pub float_is : (n : ℕ) → n ≤ 2 ^ 24 → Is (float n) n
float_is n h = of_int_is binary64 n (le_trans h (lit≤ tt))

module _ (i : RateInterval) (p : ℕ) (w : IntervalWithin i) (l : p + 96 ≤ byte_limit) where
  abbrev s : ℕ
  s = i.start_pos

  -- at or behind the interval's start
  behind : s ≤ p → Within (i.start_time ⊕ float (p - s) ⊘ i.rate)
  unfolding le lt
  behind h =
      let b : In (fin true 0 unit) (float (p - s) ⊘ i.rate) (fin false (units_of (p - s)) unit) =
      widen_low (fin true 0 unit)
      (div_paced binary64 17 unit tt tt (is_in (float (p - s)) (p - s) 0 (p - s) (float_is (p - s) (omega arith)) (omega arith) (omega arith)) w.rate_within (omega arith)) tt in
      widen (fin true packet_limit fine) (fin false packet_limit fine)
      (widen_at 0 (units_of (byte_limit - 96)) (add_at binary64 unit tt w.time_within b (omega arith) (omega (arith, w.start_within))) (omega arith) (omega (arith, w.start_within))) tt

  -- before it, which is the first interval's: far before the end of the longest recording, or some bytes at least before the start
  before_by : p < s → Dec (s + 2 ≤ byte_limit) → Within (i.start_time ⊖ float (s - p) ⊘ i.rate)
  unfolding sub div le lt
  before_by h (yes g) =
      let x = div_in binary64 (plain 0) (plain 16778) (is_in (float (s - p)) (s - p) 0 (2 ^ 24) (float_is (s - p) (omega (arith, w.start_within))) (omega arith) (omega (arith, w.start_within))) w.rate_within tt in
      sub_in binary64 (fin true packet_limit fine) (fin false packet_limit fine) (widen_at 0 (units_of (byte_limit - 2)) w.time_within (omega arith) (omega arith)) x tt
  before_by h (no f) =
      let x = div_in binary64 (fin false 95 (negsuc 29)) (plain 16778) (is_in (float (s - p)) (s - p) 95 (2 ^ 24) (float_is (s - p) (omega (arith, w.start_within))) (near s p f l) (omega (arith, w.start_within))) w.rate_within tt in
      sub_in binary64 (fin true packet_limit fine) (fin false packet_limit fine) (widen_at 0 (units_of byte_limit) w.time_within (omega arith) (omega (arith, w.start_within))) x tt
    where
      near : (s p : ℕ) → (s + 2 ≤ byte_limit → ⊥) → p + 96 ≤ byte_limit → 95 ≤ s - p
      near s p f l = omega (arith, lt_of_not-le f)

  pub packet_time : PacketTime (time_of i p)
  unfolding time_of
  packet_time = record { within = by (leb s p) refl; fit = cond-fits binary64 (leb s p) _ _ (add-fits binary64 _ _) (sub-fits binary64 _ _) }
    where
      by : (t : Bool) → leb s p ≡ t → Within (cond t (i.start_time ⊕ float (p - s) ⊘ i.rate) (i.start_time ⊖ float (s - p) ⊘ i.rate))
      by true e = behind (leb-true s p e)
      by false e = before_by (leb-false s p e) (dec_le _ _)

-- ---- the bytes in between: whole numbers of 2^-24 s bound each step, and binary64 holds them
-- a fraction (p - n) / c in such numbers, from above: of what is negative 1
abbrev above : ℕ → ℕ → ℕ → ℕ
above p n c = (p - n) * 2 ^ 24 / c + 1

above_most : (p n c : ℕ) → 0 < c → p * 2 ^ 24 ≤ above p n c * 1 * c + n * 2 ^ 24
above_most p n c C = most p n c ((p - n) * 2 ^ 24 / c) ((p - n) * 2 ^ 24 % c) (div-add-mod' ((p - n) * 2 ^ 24) c) (mod-lt ((p - n) * 2 ^ 24) C)
  where
    most : (p n c a r : ℕ) → a * c + r ≡ (p - n) * 2 ^ 24 → r < c → p * 2 ^ 24 ≤ (a + 1) * 1 * c + n * 2 ^ 24
    most p n c a r e h = simp (add-mul, mul-one, one-mul) (omega arith)

above_least : (p n c : ℕ) → above p n c * c ≤ (p - n) * 2 ^ 24 + c
above_least p n c = simp (add-mul, one-mul) (omega (arith, div-mul-le_self ((p - n) * 2 ^ 24) c))

-- of a difference of at most m
above_few : (p n c m : ℕ) → 0 < c → p ≤ m * c + n → above p n c ≤ m * 2 ^ 24 + 1
above_few p n c m C h = le_of_mul-le-mul_right (le_trans (above_least p n c) (simp (add-mul, one-mul) (omega (arith, simp ring at (mul-le-mul_right (2 ^ 24) (less p n (m * c) h)))))) C
  where
    less : (p n x : ℕ) → p ≤ x + n → p - n ≤ x
    less p n x h = omega arith

-- the sum with a quotient of at most b such numbers, where b is the difference from above
sum_frac : (p0 n0 d0 p1 n1 d1 pq nq dq b : ℕ) → 0 < d0 → 0 < d1 → pq * 2 ^ 24 ≤ b * 1 * dq + nq * 2 ^ 24
    → b * (d1 * d0) ≤ (p1 * d0 + n0 * d1 - (n1 * d0 + p0 * d1)) * 2 ^ 24 + d1 * d0
    → p1 * 2 ^ 24 ≤ packet_limit * 1 * d1 + n1 * 2 ^ 24 → p0 * 2 ^ 24 ≤ packet_limit * 1 * d0 + n0 * 2 ^ 24
    → (p0 * dq + pq * d0) * 1 ≤ arrival_limit * 1 * (d0 * dq) + (n0 * dq + nq * d0) * 1
sum_frac p0 n0 d0 p1 n1 d1 pq nq dq b D0 D1 q h h1 h0 = by (dec_le (p1 * d0 + n0 * d1) (n1 * d0 + p0 * d1))
  where
    at_one : b ≤ 1 → (p0 * dq + pq * d0) * 1 ≤ arrival_limit * 1 * (d0 * dq) + (n0 * dq + nq * d0) * 1
    at_one g =
        le_of_mul-le-mul_right {k = 2 ^ 24}
        (simp ring (omega (arith, simp ring at (mul-le-mul_right d0 q), simp ring at (mul-le-mul_right (d0 * dq) g), simp ring at (mul-le-mul_right dq h0))))
        (lit< tt)

    forward : b * (d1 * d0) + (n1 * d0 + p0 * d1) * 2 ^ 24 ≤ (p1 * d0 + n0 * d1) * 2 ^ 24 + d1 * d0 → (p0 * dq + pq * d0) * 1 ≤ arrival_limit * 1 * (d0 * dq) + (n0 * dq + nq * d0) * 1
    forward g =
        le_of_mul-le-mul_right {k = 2 ^ 24 * d1}
        (simp ring (omega (arith, simp ring at (mul-le-mul_right (d0 * d1) q), simp ring at (mul-le-mul_right dq g), simp ring at (mul-le-mul_right (d0 * dq) h1))))
        (mul-pos (lit< tt) D1)

    by : Dec (p1 * d0 + n0 * d1 ≤ n1 * d0 + p0 * d1) → (p0 * dq + pq * d0) * 1 ≤ arrival_limit * 1 * (d0 * dq) + (n0 * dq + nq * d0) * 1
    by (yes g) = at_one (le_of_mul-le-mul_right {k = d1 * d0} (omega (arith, one-mul (d1 * d0))) (mul-pos D1 D0))
    by (no g) = forward (omega (arith, lt_of_not-le g))

-- the quotient by 188
quotient_frac : (px nx dx py dy b : ℕ) → py ≡ 188 * dy → px * 2 ^ 24 ≤ b * 188 * 1 * dx + nx * 2 ^ 24 → px * dy * 2 ^ 24 ≤ b * 1 * (py * dx) + nx * dy * 2 ^ 24
quotient_frac px nx dx py dy b e h = rw e (simp ring (omega (arith, simp ring at (mul-le-mul_right dy h))))

pub is_188 : Is 188f 188
unfolding of_bits
is_188 = (refl, refl)

by_188 : (a b : ℕ) {x : Float} → a < 2 ^ 53 → b < 2 ^ 53 → In (fin true (a * 188) fine) x (fin false (b * 188) fine) → In (fin true a fine) (x ⊘ 188f) (fin false b fine)
by_188 a b {x} ha hb i =
    let p = in_finite i in
    let y = is_pos_part 188f 188 is_188 in
    let some : 0 < pos_part 188f = omega (arith, y, den_pos 188f) in
    let c = mul-pos some (den_pos x) in
    let r = div_rounds binary64 x 188f p (is_finite 188f 188 is_188) some in
    record {
      low_finite = tt;
      high_finite = tt;
      low = rounds_low binary64 a fine ha tt (x ⊘ 188f) _ _ (pos_part 188f * den x) c r
          (quotient_frac (neg_part x) (pos_part x) (den x) (pos_part 188f) (den 188f) a y (omega (arith, le→val (fin true (a * 188) fine) x tt p i.low)));
      high = rounds_high binary64 b fine hb tt (x ⊘ 188f) _ _ (pos_part 188f * den x) c r
          (quotient_frac (pos_part x) (neg_part x) (den x) (pos_part 188f) (den 188f) b y (omega (arith, le→val x (fin false (b * 188) fine) p tt i.high)));
    }

module _ (t0 t1 : Float) (i : Within t0) (j : Within t1) where
  abbrev P : ℕ
  P = pos_part t1 * den t0 + neg_part t0 * den t1

  abbrev N : ℕ
  N = neg_part t1 * den t0 + pos_part t0 * den t1

  abbrev C : ℕ
  C = den t1 * den t0

  C-pos : 0 < C
  C-pos = mul-pos (den_pos t1) (den_pos t0)

  high_0 : pos_part t0 * 2 ^ 24 ≤ packet_limit * 1 * den t0 + neg_part t0 * 2 ^ 24
  high_0 = omega (arith, le→val t0 (fin false packet_limit fine) (in_finite i) tt i.high)

  low_0 : neg_part t0 * 2 ^ 24 ≤ packet_limit * 1 * den t0 + pos_part t0 * 2 ^ 24
  low_0 = omega (arith, le→val (fin true packet_limit fine) t0 tt (in_finite i) i.low)

  high_1 : pos_part t1 * 2 ^ 24 ≤ packet_limit * 1 * den t1 + neg_part t1 * 2 ^ 24
  high_1 = omega (arith, le→val t1 (fin false packet_limit fine) (in_finite j) tt j.high)

  low_1 : neg_part t1 * 2 ^ 24 ≤ packet_limit * 1 * den t1 + pos_part t1 * 2 ^ 24
  low_1 = omega (arith, le→val (fin true packet_limit fine) t1 tt (in_finite j) j.low)

  size : (p1 n1 d1 p0 n0 d0 : ℕ) → p1 * 2 ^ 24 ≤ packet_limit * 1 * d1 + n1 * 2 ^ 24 → n0 * 2 ^ 24 ≤ packet_limit * 1 * d0 + p0 * 2 ^ 24
      → p1 * d0 + n0 * d1 ≤ 34816 * (d1 * d0) + (n1 * d0 + p0 * d1)
  size p1 n1 d1 p0 n0 d0 h g =
      le_of_mul-le-mul_right {k = 2 ^ 24} (simp ring (omega (arith, simp ring at (mul-le-mul_right d0 h), simp ring at (mul-le-mul_right d1 g)))) (lit< tt)

  few_up : above P N C ≤ 34816 * 2 ^ 24 + 1
  few_up = above_few P N C 34816 C-pos (size (pos_part t1) (neg_part t1) (den t1) (pos_part t0) (neg_part t0) (den t0) high_1 low_0)

  few_down : above N P C ≤ 34816 * 2 ^ 24 + 1
  few_down = above_few N P C 34816 C-pos (size (neg_part t1) (pos_part t1) (den t1) (neg_part t0) (pos_part t0) (den t0) low_1 high_0)

  difference_in : In (fin true (above N P C) fine) (t1 ⊖ t0) (fin false (above P N C) fine)
  difference_in =
      let r = sub_rounds binary64 t1 t0 (in_finite j) (in_finite i) in
      record {
        low_finite = tt;
        high_finite = tt;
        low = rounds_low binary64 (above N P C) fine (lt_of_le_of_lt few_down (lit< tt)) tt (t1 ⊖ t0) P N C C-pos r (above_most N P C C-pos);
        high = rounds_high binary64 (above P N C) fine (lt_of_le_of_lt few_up (lit< tt)) tt (t1 ⊖ t0) P N C C-pos r (above_most P N C C-pos);
      }

  module _ (k : ℕ) (h : k ≤ 188) where
    product : (a : ℕ) → a ≤ 34816 * 2 ^ 24 + 1 → (a * k ≤ a * 188) × (a * k < 2 ^ 53)
    product a g = let l : a * k ≤ a * 188 = mul-le-mul_left a h in (l, omega arith)

    quotient_in : In (fin true (above N P C) fine) ((t1 ⊖ t0) ⊗ float k ⊘ 188f) (fin false (above P N C) fine)
    quotient_in =
        let u = product (above P N C) few_up in
        let d = product (above N P C) few_down in
        by_188 (above N P C) (above P N C) (lt_of_le_of_lt few_down (lit< tt)) (lt_of_le_of_lt few_up (lit< tt))
        (widen_at (above N P C * 188) (above P N C * 188)
        (mul_at binary64 fine tt difference_in (is_in (float k) k 0 k (float_is k (le_trans h (lit≤ tt))) (omega arith) (omega arith)) d.1 u.1) d.0 u.0)

    -- byte k of a packet
    pub frac_in : ArrivalTime (frac t0 t1 k)
    unfolding frac
    frac_in =
        let q = (t1 ⊖ t0) ⊗ float k ⊘ 188f in
        let m = quotient_in in
        let f = in_finite m in
        let r = add_rounds binary64 t0 q (in_finite i) f in
        let c = mul-pos (den_pos t0) (den_pos q) in
        record {
          low_finite = tt;
          high_finite = tt;
          low = rounds_low binary64 arrival_limit (pos 0) (lit< tt) tt (t0 ⊕ q) _ _ (den t0 * den q) c r
              (sum_frac (neg_part t0) (pos_part t0) (den t0) (neg_part t1) (pos_part t1) (den t1) (neg_part q) (pos_part q) (den q) (above N P C) (den_pos t0) (den_pos t1)
              (omega (arith, le→val (fin true (above N P C) fine) q tt f m.low)) (above_least N P C) low_1 low_0);
          high = rounds_high binary64 arrival_limit (pos 0) (lit< tt) tt (t0 ⊕ q) _ _ (den t0 * den q) c r
              (sum_frac (pos_part t0) (neg_part t0) (den t0) (pos_part t1) (neg_part t1) (den t1) (pos_part q) (neg_part q) (den q) (above P N C) (den_pos t0) (den_pos t1)
              (omega (arith, le→val q (fin false (above P N C) fine) f tt m.high)) (above_least P N C) high_1 high_0);
        }

    pub frac_fits : T (fits binary64 (frac t0 t1 k))
    unfolding frac
    frac_fits = add-fits binary64 t0 _

-- a packet's ends
pub time_in : {t : Float} → PacketTime t → ArrivalTime t
unfolding le
time_in p = widen (minus arrival_limit) (plain arrival_limit) p.within tt
