-- Bounds that grow with a count: q * 2 ^ e with a q that is a variable. The format holds each such number, so rounding does not pass it.
-- Assumes nothing.
use Rattle.std.proofs.Common.{◌≡◌, ℕ, ◌+◌, ◌*◌, ◌^◌, ◌<◌, ◌≤◌, Bool, true, false, ◌&&◌, T, leb, ℤ, sym, ap, subst, lt_of_lt_of_le, mul-le-mul_right, mul-pos, zero-mul, le_of_mul-le-mul_right, arith, leb→le}
use lib.Ieee.{Float, fin, Format, prec, up, down, neg, add, sub, mul, div, le}
use lib.Ieee.Fits.{and_l, and_r, down_pos}
use lib.Ieee.Positive.{den, den_pos, first_pos}
use Rattle.ieee.specs.Value.{pos_part, neg_part}
use Rattle.ieee.specs.Interval.{In, plain, minus, zero_float}
use Rattle.ieee.proofs.Value.{ring, le→val, val→le, high→parts, low→parts}
use Rattle.ieee.proofs.Order.{le_trans}
use Rattle.ieee.proofs.Representable.{exponent_fits, rounds_high, rounds_low}
use Rattle.ieee.proofs.Operations.{add_rounds, mul_rounds, div_rounds, neg_part_zero}
use Rattle.ieee.proofs.Interval.{in_finite, neg_in}

-- ---- sums: bounds with one exponent add up
add_frac : (p n c q k d a b u v : ℕ) → p * v ≤ a * u * c + n * v → q * v ≤ b * u * d + k * v
    → (p * d + q * c) * v ≤ (a + b) * u * (c * d) + (n * d + k * c) * v
add_frac p n c q k d a b u v h g = simp ring (omega (arith, simp ring at (mul-le-mul_right d h), simp ring at (mul-le-mul_right c g)))

-- -a 2^e ≤ x ≤ b 2^e and -c 2^e ≤ y ≤ d 2^e: the counts add
pub add_at : (f : Format) (e : ℤ) {a b c d : ℕ} {x y : Float} → T (exponent_fits f e) → In (fin true a e) x (fin false b e) → In (fin true c e) y (fin false d e)
    → a + c < 2 ^ prec f → b + d < 2 ^ prec f → In (fin true (a + c) e) (add f x y) (fin false (b + d) e)
add_at f e {a} {b} {c} {d} {x} {y} r i j h g =
    let p = in_finite i in
    let q = in_finite j in
    let xl : neg_part x * down e ≤ a * up e * den x + pos_part x * down e = omega (arith, le→val (fin true a e) x tt p i.low) in
    let xh : pos_part x * down e ≤ b * up e * den x + neg_part x * down e = omega (arith, le→val x (fin false b e) p tt i.high) in
    let yl : neg_part y * down e ≤ c * up e * den y + pos_part y * down e = omega (arith, le→val (fin true c e) y tt q j.low) in
    let yh : pos_part y * down e ≤ d * up e * den y + neg_part y * down e = omega (arith, le→val y (fin false d e) q tt j.high) in
    record {
      low_finite = tt;
      high_finite = tt;
      low = rounds_low f (a + c) e h r (add f x y) _ _ (den x * den y) (mul-pos (den_pos x) (den_pos y)) (add_rounds f x y p q)
          (add_frac (neg_part x) (pos_part x) (den x) (neg_part y) (pos_part y) (den y) a c (up e) (down e) xl yl);
      high = rounds_high f (b + d) e g r (add f x y) _ _ (den x * den y) (mul-pos (den_pos x) (den_pos y)) (add_rounds f x y p q)
          (add_frac (pos_part x) (neg_part x) (den x) (pos_part y) (neg_part y) (den y) b d (up e) (down e) xh yh);
    }

-- the counts of opposite ends add
pub sub_at : (f : Format) (e : ℤ) {a b c d : ℕ} {x y : Float} → T (exponent_fits f e) → In (fin true a e) x (fin false b e) → In (fin true c e) y (fin false d e)
    → a + d < 2 ^ prec f → b + c < 2 ^ prec f → In (fin true (a + d) e) (sub f x y) (fin false (b + c) e)
unfolding sub neg
sub_at f e {a} {b} {c} {d} {x} {y} r i j h g = add_at f e r i (neg_in j) h g

-- ---- a quotient: where the divisor is 2 ^ -e at least, b over it is at most b * 2 ^ e
div_frac : (px nx dx py dy pl dl b u v : ℕ) → 0 < dl → px ≤ b * dx + nx → dl * v ≤ pl * u → pl * dy ≤ py * dl
    → px * dy * v ≤ b * u * (py * dx) + nx * dy * v
div_frac px nx dx py dy pl dl b u v D h g k =
    le_of_mul-le-mul_right (simp ring (omega (arith, simp ring at (mul-le-mul_right (dy * (v * dl)) h), simp ring at (mul-le-mul_right (b * (dx * dy)) g), simp ring at (mul-le-mul_right (b * (u * dx)) k)))) D

-- lo is 2 ^ -e at least, so above zero
abbrev pub divisor_at_least : ℤ → Float → Bool
divisor_at_least e lo = leb (den lo * down e) (pos_part lo * up e) && leb (neg_part lo) 0

-- whole bounds -a ≤ x ≤ b: the quotient has the counts a and b
pub div_at : (f : Format) (e : ℤ) {a b : ℕ} {x lo y hi : Float} → T (exponent_fits f e) → T (divisor_at_least e lo) → In (minus a) x (plain b) → In lo y hi
    → a < 2 ^ prec f → b < 2 ^ prec f → In (fin true a e) (div f x y) (fin false b e)
div_at f e {a} {b} {x} {lo} {y} {hi} r s i j h g =
    let p = in_finite i in
    let q = in_finite j in
    let g1 = leb→le (den lo * down e) (pos_part lo * up e) (and_l (leb (den lo * down e) (pos_part lo * up e)) (leb (neg_part lo) 0) s) in
    let l0 : neg_part lo ≡ 0 = omega (arith, leb→le (neg_part lo) 0 (and_r (leb (den lo * down e) (pos_part lo * up e)) (leb (neg_part lo) 0) s)) in
    let k : pos_part lo * den y ≤ pos_part y * den lo = omega (arith, le→val lo y j.low_finite q j.low, ap (λ (z : ℕ). z * den y) l0, zero-mul (den y)) in
    let pl : 0 < pos_part lo = first_pos (pos_part lo) (up e) (lt_of_lt_of_le (mul-pos (den_pos lo) (down_pos e)) g1) in
    let py : 0 < pos_part y = first_pos (pos_part y) (den lo) (lt_of_lt_of_le (mul-pos pl (den_pos y)) k) in
    let u : pos_part x ≤ b * den x + neg_part x = high→parts b x p i.high in
    let l : neg_part x ≤ a * den x + pos_part x = low→parts a x p i.low in
    record {
      low_finite = tt;
      high_finite = tt;
      low = rounds_low f a e h r (div f x y) _ _ (pos_part y * den x) (mul-pos py (den_pos x)) (div_rounds f x y p q py)
          (div_frac (neg_part x) (pos_part x) (den x) (pos_part y) (den y) (pos_part lo) (den lo) a (up e) (down e) (den_pos lo) l g1 k);
      high = rounds_high f b e g r (div f x y) _ _ (pos_part y * den x) (mul-pos py (den_pos x)) (div_rounds f x y p q py)
          (div_frac (pos_part x) (neg_part x) (den x) (pos_part y) (den y) (pos_part lo) (den lo) b (up e) (down e) (den_pos lo) u g1 k);
    }

-- ---- a product with a factor from 0 to c
mul_frac : (px nx dx py ny dy b c u v : ℕ) → ny ≡ 0 → px * v ≤ b * u * dx + nx * v → py ≤ c * dy
    → (px * py + nx * ny) * v ≤ b * c * u * (dx * dy) + (px * ny + nx * py) * v
mul_frac px nx dx py ny dy b c u v N h g =
    subst (λ (z : ℕ). (px * py + nx * z) * v ≤ b * c * u * (dx * dy) + (px * z + nx * py) * v) (sym N)
    (simp (ring, zero-mul) (omega (arith, simp ring at (mul-le-mul_right py h), simp ring at (mul-le-mul_right (b * (u * dx)) g))))

-- the counts are multiplied
pub mul_at : (f : Format) (e : ℤ) {a b c : ℕ} {x y : Float} → T (exponent_fits f e) → In (fin true a e) x (fin false b e) → In zero_float y (plain c)
    → a * c < 2 ^ prec f → b * c < 2 ^ prec f → In (fin true (a * c) e) (mul f x y) (fin false (b * c) e)
mul_at f e {a} {b} {c} {x} {y} r i j h g =
    let p = in_finite i in
    let q = in_finite j in
    let n = neg_part_zero y q j.low in
    let yh : pos_part y ≤ c * den y = omega (arith, high→parts c y q j.high, n) in
    let xl : neg_part x * down e ≤ a * up e * den x + pos_part x * down e = omega (arith, le→val (fin true a e) x tt p i.low) in
    let xh : pos_part x * down e ≤ b * up e * den x + neg_part x * down e = omega (arith, le→val x (fin false b e) p tt i.high) in
    record {
      low_finite = tt;
      high_finite = tt;
      low = rounds_low f (a * c) e h r (mul f x y) _ _ (den x * den y) (mul-pos (den_pos x) (den_pos y)) (mul_rounds f x y p q)
          (omega (arith, mul_frac (neg_part x) (pos_part x) (den x) (pos_part y) (neg_part y) (den y) a c (up e) (down e) n xl yh));
      high = rounds_high f (b * c) e g r (mul f x y) _ _ (den x * den y) (mul-pos (den_pos x) (den_pos y)) (mul_rounds f x y p q)
          (mul_frac (pos_part x) (neg_part x) (den x) (pos_part y) (neg_part y) (den y) b c (up e) (down e) n xh yh);
    }

-- ---- larger counts
pub widen_at : {e : ℤ} {a b : ℕ} {x : Float} (a' b' : ℕ) → In (fin true a e) x (fin false b e) → a ≤ a' → b ≤ b' → In (fin true a' e) x (fin false b' e)
widen_at {e} {a} {b} {x} a' b' i h k =
    let l : T (le (fin true a' e) (fin true a e)) = val→le (fin true a' e) (fin true a e) tt tt (omega (arith, mul-le-mul_right (down e) (mul-le-mul_right (up e) h))) in
    let g : T (le (fin false b e) (fin false b' e)) = val→le (fin false b e) (fin false b' e) tt tt (omega (arith, mul-le-mul_right (down e) (mul-le-mul_right (up e) k))) in
    record { low_finite = tt; high_finite = tt; low = le_trans (fin true a' e) (fin true a e) x tt tt (in_finite i) l i.low; high = le_trans x (fin false b e) (fin false b' e) (in_finite i) tt tt i.high g }
