-- The rounding error: a fraction below 2 ^ j in size moves by at most 2 ^ j / 2 ^ prec. (Half of that is true too, and not needed.) Assumes nothing.
use Rattle.std.proofs.Common.{◌≡◌, ℕ, suc, ◌+◌, ◌-◌, ◌*◌, ◌/◌, ◌%◌, ◌^◌, ◌<◌, ◌≤◌, Bool, true, false, not, sym, ap, ◌∙◌, subst, le_trans, le_of_eq, lt_of_lt_of_le, lt_of_le_of_lt, mul-le-mul_right, mod-lt, mul_assoc, suc-mul, mul_comm, div-lt_iff_lt-mul, add-mul, lt_of_mul-lt-mul_right, mul-lt-mul_of_pos_right, mul-pos, div-add-mod', div-mul-le_self, le_of_mul-le-mul_right, arith, lit≤, pow_pos, pow_mono, pow-add}
use Prim.Native.Nat.{compare}
use native.Mathlib.Nat.{two-pow-succ}
use lib.Ieee.{Float, nan, inf, fin, Format, binary32, binary64, prec, emax, low, round, size, neg}
use lib.Ieee.Digits.{size-le}
use lib.Ieee.Fits.{nearest-le}
use lib.Ieee.Exact.{HasValue}
use lib.Ieee.Nearest.{closest, nearest-ge}
use lib.Ieee.Order.{drop, kept}
use lib.Ieee.Scale.{grid, overflow, round_val}
use lib.Ieee.Positive.{den}
use Rattle.ieee.specs.Value.{part, pos_part, neg_part}
use Rattle.ieee.specs.Rounding.{Rounds, nonneg, nonpos, Close}
use Rattle.ieee.specs.Units.{ulp}
use Rattle.ieee.proofs.Value.{ring, value_finite, value_parts}
use Rattle.ieee.proofs.Rounding.{round_neg}

-- ---- the nearest whole number is within 1
closest_low : (a b : ℕ) → 0 < b → a ≤ closest a b * b + b
closest_low a b B =
    omega (arith, div-add-mod' a b, mod-lt a B, mul-le-mul_right b (nearest-ge (a / b) (compare (a % b * 2) b)))

closest_high : (a b : ℕ) → closest a b * b ≤ a + b
closest_high a b =
    omega (arith, mul-le-mul_right b (nearest-le (a / b) (compare (a % b * 2) b)), suc-mul (a / b) b, div-mul-le_self a b)

-- ---- `round` in units of the least positive value
sub_le : (z p k : ℕ) → z ≤ p + k → z - p ≤ k
sub_le z p k h = omega arith

grid_near : (f : Format) (a c k : ℕ) → 0 < c → a * 2 ^ low f < 2 ^ (prec f + k) * c → (a * 2 ^ low f ≤ grid f a c * c + 2 ^ k * c) × (grid f a c * c ≤ a * 2 ^ low f + 2 ^ k * c)
grid_near f a c k C h =
    let n = a * 2 ^ low f in
    let d = drop (prec f) n c in
    let u = c * 2 ^ d in
    let less : d ≤ k = sub_le (size (n / c)) (prec f) k (size-le (n / c) (prec f + k) ((div-lt_iff_lt-mul C).1 h)) in
    let step : u ≤ 2 ^ k * c = le_trans (le_of_eq (mul_comm c (2 ^ d))) (mul-le-mul_right c (pow_mono less)) in
    let same : grid f a c * c ≡ kept (prec f) n c * u = mul_assoc (kept (prec f) n c) (2 ^ d) c ∙ ap (λ (z : ℕ). kept (prec f) n c * z) (mul_comm (2 ^ d) c) in (
      bound_low n (kept (prec f) n c * u) (grid f a c * c) u (2 ^ k * c) (closest_low n u (mul-pos C (pow_pos d))) same step,
      bound_high n (kept (prec f) n c * u) (grid f a c * c) u (2 ^ k * c) (closest_high n u) same step,
    )
  where
    bound_low : (n x g u w : ℕ) → n ≤ x + u → g ≡ x → u ≤ w → n ≤ g + w
    bound_low n x g u w p e q = omega arith

    bound_high : (n x g u w : ℕ) → x ≤ n + u → g ≡ x → u ≤ w → g ≤ n + w
    bound_high n x g u w p e q = omega arith

-- ---- the unit in the last place
prec_le_low : (f : Format) → prec f ≤ low f
prec_le_low binary32 = lit≤ tt
prec_le_low binary64 = lit≤ tt

sub_add : (f : Format) (j : ℕ) → prec f + (j + low f - prec f) ≡ j + low f
sub_add f j = go (prec f) (low f) (prec_le_low f)
  where
    go : (p l : ℕ) → p ≤ l → p + (j + l - p) ≡ j + l
    go p l h = omega arith

-- as a fraction: ulp / 2 ^ low is 2 ^ j / 2 ^ prec
pub ulp_is : (f : Format) (j : ℕ) → ulp f j * 2 ^ prec f ≡ 2 ^ j * 2 ^ low f
ulp_is f j = mul_comm (ulp f j) (2 ^ prec f) ∙ sym (pow-add 2 (prec f) (j + low f - prec f)) ∙ ap (λ (z : ℕ). 2 ^ z) (sub_add f j) ∙ pow-add 2 j (low f)

-- a fraction a / c below 2 ^ j in size
module _ (f : Format) (a c j : ℕ) (C : 0 < c) (small : a < c * 2 ^ j) where
  in_units : a * 2 ^ low f < 2 ^ (j + low f) * c
  in_units =
      lt_of_lt_of_le (mul-lt-mul_of_pos_right small (pow_pos (low f)))
      (le_of_eq (mul_assoc c (2 ^ j) (2 ^ low f) ∙ ap (λ (z : ℕ). c * z) (sym (pow-add 2 j (low f))) ∙ mul_comm c (2 ^ (j + low f))))

  near : (a * 2 ^ low f ≤ grid f a c * c + ulp f j * c) × (grid f a c * c ≤ a * 2 ^ low f + ulp f j * c)
  near = grid_near f a c (j + low f - prec f) C (subst (λ (z : ℕ). a * 2 ^ low f < 2 ^ z * c) (sym (sub_add f j)) in_units)

  no_overflow : j < emax f → grid f a c < overflow f
  no_overflow h =
      lt_of_mul-lt-mul_right c
      (lt_of_lt_of_le (twice (grid f a c * c) (a * 2 ^ low f) (ulp f j * c) (2 ^ (j + low f) * c) near.1 in_units (mul-le-mul_right c (pow_mono (less (j + low f) (prec f)))))
      (le_trans (le_of_eq (sym (add-mul (2 ^ (j + low f)) (2 ^ (j + low f)) c) ∙ ap (λ (z : ℕ). z * c) (sym (two-pow-succ (j + low f))))) (mul-le-mul_right c (pow_mono (top j (low f) (emax f) h)))))
    where
      twice : (g n w t : ℕ) → g ≤ n + w → n < t → w ≤ t → g < t + t
      twice g n w t p q r = omega arith

      less : (a b : ℕ) → a - b ≤ a
      less a b = omega arith

      top : (j l e : ℕ) → j < e → suc (j + l) ≤ l + suc e
      top j l e h = omega arith

-- ---- a fraction with a sign
value_neg : (z : Float) (a c : ℕ) → HasValue z false a c → HasValue (neg z) true a c
unfolding neg
value_neg nan a c h = absurd h
value_neg (inf t) a c h = absurd h
value_neg (fin t m e) a c h = (ap not h.0, h.1)

round_value : (f : Format) (s : Bool) (a c : ℕ) → grid f a c < overflow f → HasValue (round f s a c) s (grid f a c) (2 ^ low f)
round_value f false a c h = round_val f a c h
round_value f true a c h =
    subst (λ (y : Float). HasValue y true (grid f a c) (2 ^ low f)) (sym (round_neg f a c)) (value_neg (round f false a c) (grid f a c) (2 ^ low f) (round_val f a c h))

-- a / c and g / L differ by at most K / L: so they do with the sign s
signed_near : (s : Bool) (a c g L K : ℕ) → a * L ≤ g * c + K * c → g * c ≤ a * L + K * c
    → (part s a * L + part (not s) g * c ≤ part s g * c + part (not s) a * L + K * c) × (part (not s) a * L + part s g * c ≤ part (not s) g * c + part s a * L + K * c)
signed_near false a c g L K h k = (omega arith, omega arith)
signed_near true a c g L K h k = (omega arith, omega arith)

-- (p - n) / c is (d₊ - d₋) / c, and the value (z₊ - z₋) / dz is (g₊ - g₋) / L
frac_close : (p n c d₊ d₋ g₊ g₋ z₊ z₋ dz L Q J K : ℕ) → 0 < L → p + d₋ ≡ n + d₊ → z₊ * L ≡ g₊ * dz → z₋ * L ≡ g₋ * dz → K * Q ≡ J * L
    → d₊ * L + g₋ * c ≤ g₊ * c + d₋ * L + K * c → p * Q * dz + z₋ * Q * c ≤ z₊ * Q * c + n * Q * dz + J * c * dz
frac_close p n c d₊ d₋ g₊ g₋ z₊ z₋ dz L Q J K pl e v u w h =
    le_of_mul-le-mul_right
    (simp ring
    (omega (
      arith,
      simp ring at (mul-le-mul_right (Q * dz) h),
      simp ring at (ap (λ (y : ℕ). y * (L * (Q * dz))) e),
      simp ring at (ap (λ (y : ℕ). y * (Q * c)) v),
      simp ring at (ap (λ (y : ℕ). y * (Q * c)) u),
      simp ring at (ap (λ (y : ℕ). y * (c * dz)) w),
    ))) pl

close_at : (f : Format) (s : Bool) (z : Float) (p n c j d : ℕ) → 0 < c → j < emax f → d < c * 2 ^ j → p + part (not s) d ≡ n + part s d → z ≡ round f s d c → Close z p n c (2 ^ j) (2 ^ prec f)
close_at f s z p n c j d C t small e w =
    let g = grid f d c in
    let L = 2 ^ low f in
    let v : HasValue z s g L = subst (λ (y : Float). HasValue y s g L) (sym w) (round_value f s d c (no_overflow f d c j C small t)) in
    let k = value_parts z s g L v in
    let b = near f d c j C small in
    let a = signed_near s d c g L (ulp f j) b.0 b.1 in
    let lo = frac_close p n c (part s d) (part (not s) d) (part s g) (part (not s) g) (pos_part z) (neg_part z) (den z) L (2 ^ prec f) (2 ^ j) (ulp f j) (pow_pos (low f)) e k.0 k.1 (ulp_is f j) a.0 in
    let hi = frac_close n p c (part (not s) d) (part s d) (part (not s) g) (part s g) (neg_part z) (pos_part z) (den z) L (2 ^ prec f) (2 ^ j) (ulp f j) (pow_pos (low f)) (sym e) k.1 k.0 (ulp_is f j) a.1 in
    record { is_finite = value_finite z s g L v; low_end = omega (arith, lo); high_end = omega (arith, hi) }

shift : (p n d b : ℕ) → p ≡ n + d → p < n + b → d < b
shift p n d b e h = omega arith

nonneg_parts : (p n d : ℕ) → p ≡ n + d → p + 0 ≡ n + d
nonneg_parts p n d e = omega arith

nonpos_parts : (p n d : ℕ) → n ≡ p + d → p + d ≡ n + 0
nonpos_parts p n d e = omega arith

-- z is (p - n) / c rounded, and -2 ^ j < (p - n) / c < 2 ^ j
pub rounds_close : (f : Format) (z : Float) (p n c j : ℕ) → 0 < c → j < emax f → p < n + c * 2 ^ j → n < p + c * 2 ^ j → Rounds f z p n c → Close z p n c (2 ^ j) (2 ^ prec f)
rounds_close f z p n c j C t h k (nonneg d e w) = close_at f false z p n c j d C t (shift p n d (c * 2 ^ j) e h) (nonneg_parts p n d e) w
rounds_close f z p n c j C t h k (nonpos d e w) = close_at f true z p n c j d C t (shift n p d (c * 2 ^ j) e k) (nonpos_parts p n d e) w

-- ---- the sum of two fractions of at most m and m' in size
sum_size : (p n c q k d m m' J : ℕ) → 0 < c → 0 < d → p ≤ m * c + n → q ≤ m' * d + k → m + m' < J → p * d + q * c < n * d + k * c + c * d * J
sum_size p n c q k d m m' J C D h g r =
    let a : p * d ≤ m * (c * d) + n * d = simp ring (simp ring at (mul-le-mul_right d h)) in
    let b : q * c ≤ m' * (c * d) + k * c = simp ring (simp ring at (mul-le-mul_right c g)) in
    let e : m * (c * d) + m' * (c * d) < J * (c * d) = lt_of_le_of_lt (le_of_eq (sym (add-mul m m' (c * d)))) (mul-lt-mul_of_pos_right r (mul-pos C D)) in
    omega (arith, mul_comm J (c * d))

pub sum_close : (f : Format) (z : Float) (p n c q k d m m' j : ℕ) → 0 < c → 0 < d → p ≤ m * c + n → n ≤ m * c + p → q ≤ m' * d + k → k ≤ m' * d + q → m + m' < 2 ^ j → j < emax f
    → Rounds f z (p * d + q * c) (n * d + k * c) (c * d) → Close z (p * d + q * c) (n * d + k * c) (c * d) (2 ^ j) (2 ^ prec f)
sum_close f z p n c q k d m m' j C D xh xl yh yl r t w =
    rounds_close f z (p * d + q * c) (n * d + k * c) (c * d) j (mul-pos C D) t (sum_size p n c q k d m m' (2 ^ j) C D xh yh r) (sum_size n p c k q d m m' (2 ^ j) C D xl yl r) w
