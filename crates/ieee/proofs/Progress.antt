-- Progress: the rounded sum x + d is at least the exact x + s, for an s that is less than d by a unit in the last place; so a loop that adds such a d ends:
-- `place` is a whole number that grows with each step, and what is left of its bound is the loop's measure. Assumes nothing.
use Rattle.std.proofs.Common.{◌≡◌, ℕ, ◌+◌, ◌-◌, ◌*◌, ◌^◌, ◌<◌, ◌≤◌, Bool, ◌&&◌, T, ltb, leb, ap, le_trans, le_of_eq, lt_of_lt_of_le, mul-le-mul_right, add-mul, lt_of_mul-lt-mul_right, mul-pos, zero-mul, mul-one, mul_right_comm, le_of_mul-le-mul_right, div-one, le-add_left, arith, lit≤, ltb→lt, leb→le, pow_pos}
use native.Mathlib.Nat.{add-div_right}
use lib.Ieee.{Float, Format, binary64, of_bits, prec, emax, add, le, lt}
use lib.Ieee.Fits.{and_l, and_r}
use lib.Ieee.Nearest.{div_mono}
use lib.Ieee.Scale.{finite}
use lib.Ieee.Positive.{den, den_pos, first_pos}
use Rattle.ieee.specs.Value.{pos_part, neg_part}
use Rattle.ieee.specs.Interval.{In, plain, minus}
use Rattle.ieee.specs.Progress.{Over, place, micro, time_advance, take_advance, time_measure, take_measure}
use Rattle.ieee.proofs.Value.{ring, le→val, val→lt, high→parts, low→parts}
use Rattle.ieee.proofs.Operations.{add_rounds}
use Rattle.ieee.proofs.Interval.{in_finite, add_in}
use Rattle.ieee.proofs.Error.{sum_close}

-- ---- a step
-- s + 2 ^ j / 2 ^ prec ≤ t, neither s nor t negative, and m + m' < 2 ^ j: t exceeds s by the rounding error of a sum of that size
abbrev pub exceeds_ulp : Format → ℕ → ℕ → ℕ → Float → Float → Bool
exceeds_ulp f j m m' s t =
    leb ((pos_part s * 2 ^ prec f + 2 ^ j * den s) * den t) (pos_part t * (den s * 2 ^ prec f)) && (ltb (m + m') (2 ^ j) && (ltb j (emax f) && (leb (neg_part s) 0 && leb (neg_part t) 0)))

progress_frac : (px nx dx pd nd dd pt dt ps ds pz nz dz Q J : ℕ) → 0 < Q → 0 < dd → 0 < dt
    → (px * dd + pd * dx) * Q * dz + nz * Q * (dx * dd) ≤ pz * Q * (dx * dd) + (nx * dd + nd * dx) * Q * dz + J * (dx * dd) * dz
    → (ps * Q + J * ds) * dt ≤ pt * (ds * Q)
    → pt * dd + nd * dt ≤ pd * dt
    → (px * ds + ps * dx) * dz + nz * (dx * ds) ≤ pz * (dx * ds) + nx * ds * dz
progress_frac px nx dx pd nd dd pt dt ps ds pz nz dz Q J q d t h g k =
    le_of_mul-le-mul_right
    (simp ring (omega (arith, simp ring at (mul-le-mul_right (ds * dt) h), simp ring at (mul-le-mul_right (dx * (dd * dz)) g), simp ring at (mul-le-mul_right (dx * (dz * (ds * Q))) k))))
    (mul-pos q (mul-pos d t))

zero_of_le : (a : ℕ) → a ≤ 0 → a ≡ 0
zero_of_le a h = omega arith

-- |x| ≤ m, t ≤ d ≤ m': the rounded x + d is at least the exact x + s
pub progress : (f : Format) (j m m' : ℕ) (s : Float) {x t d : Float} → In (minus m) x (plain m) → In t d (plain m') → T (exceeds_ulp f j m m' s t) → Over x s (add f x d)
progress f j m m' s {x} {t} {d} i k w =
    let b1 = leb ((pos_part s * 2 ^ prec f + 2 ^ j * den s) * den t) (pos_part t * (den s * 2 ^ prec f)) in
    let b2 = ltb (m + m') (2 ^ j) in
    let b3 = ltb j (emax f) in
    let b4 = leb (neg_part s) 0 in
    let b5 = leb (neg_part t) 0 in
    let w2 = and_r b1 (b2 && (b3 && (b4 && b5))) w in
    let w3 = and_r b2 (b3 && (b4 && b5)) w2 in
    let w4 = and_r b3 (b4 && b5) w3 in
    let gap = leb→le ((pos_part s * 2 ^ prec f + 2 ^ j * den s) * den t) (pos_part t * (den s * 2 ^ prec f)) (and_l b1 (b2 && (b3 && (b4 && b5))) w) in
    let fit = ltb→lt (m + m') (2 ^ j) (and_l b2 (b3 && (b4 && b5)) w2) in
    let exponent_small = ltb→lt j (emax f) (and_l b3 (b4 && b5) w3) in
    let s0 = zero_of_le (neg_part s) (leb→le (neg_part s) 0 (and_l b4 b5 w4)) in
    let t0 = zero_of_le (neg_part t) (leb→le (neg_part t) 0 (and_r b4 b5 w4)) in
    let p = in_finite i in
    let q = in_finite k in
    let z = add f x d in
    let lower : pos_part t * den d + neg_part d * den t ≤ pos_part d * den t = omega (arith, le→val t d k.low_finite q k.low, ap (λ (y : ℕ). y * den d) t0, zero-mul (den d)) in
    let nd : neg_part d ≤ pos_part d = le_of_mul-le-mul_right (omega arith) (den_pos t) in
    let c = sum_close f z (pos_part x) (neg_part x) (den x) (pos_part d) (neg_part d) (den d) m m' j (den_pos x) (den_pos d)
    (high→parts m x p i.high) (low→parts m x p i.low) (high→parts m' d q k.high) (le_trans nd (le-add_left (pos_part d) (m' * den d))) fit exponent_small (add_rounds f x d p q) in
    let r = progress_frac (pos_part x) (neg_part x) (den x) (pos_part d) (neg_part d) (den d) (pos_part t) (den t) (pos_part s) (den s) (pos_part z) (neg_part z) (den z) (2 ^ prec f) (2 ^ j) (pow_pos (prec f)) (den_pos d) (den_pos t) c.low_end gap lower in
    record { exact = omega (arith, r, add-mul (neg_part x * den s) (neg_part s * den x) (den z)) }

-- ---- the loop measure
le_sub_add : (a b : ℕ) → a ≤ a - b + b
le_sub_add a b = omega arith

-- U is x + A over dx, W is z + A over dz
place_step : (px nx dx ps ds pz nz dz A U W K : ℕ) → 0 < ds → px + A * dx ≡ U + nx → pz + A * dz ≤ W + nz → ds ≤ ps * K
    → (px * ds + ps * dx) * dz + nz * (dx * ds) ≤ pz * (dx * ds) + nx * ds * dz → (U * K + dx) * dz ≤ W * K * dx
place_step px nx dx ps ds pz nz dz A U W K D e h g o =
    let a : U * (ds * dz) + ps * (dx * dz) ≤ W * (dx * ds) =
    simp ring (omega (arith, simp ring at o, simp ring at (ap (λ (y : ℕ). y * (ds * dz)) e), simp ring at (mul-le-mul_right (dx * ds) h))) in
    le_of_mul-le-mul_right (simp ring (omega (arith, simp ring at (mul-le-mul_right K a), simp ring at (mul-le-mul_right (dx * dz) g)))) D

-- s is 2 ^ -k at least, and not negative
abbrev pub step_at_least : ℕ → Float → Bool
step_at_least k s = leb (den s) (pos_part s * 2 ^ k) && leb (neg_part s) 0

-- so without the negative part of s
over_parts : (k : ℕ) (s x z : Float) → T (step_at_least k s) → Over x s z
    → (den s ≤ pos_part s * 2 ^ k) × ((pos_part x * den s + pos_part s * den x) * den z + neg_part z * (den x * den s) ≤ pos_part z * (den x * den s) + neg_part x * den s * den z)
over_parts k s x z w o =
    let s0 = zero_of_le (neg_part s) (leb→le (neg_part s) 0 (and_r (leb (den s) (pos_part s * 2 ^ k)) (leb (neg_part s) 0) w)) in (
      leb→le (den s) (pos_part s * 2 ^ k) (and_l (leb (den s) (pos_part s * 2 ^ k)) (leb (neg_part s) 0) w),
      omega (arith, o.exact, add-mul (neg_part x * den s) (neg_part s * den x) (den z), ap (λ (y : ℕ). y * den x * den z) s0, ap (λ (y : ℕ). y * den z) (zero-mul (den x)), zero-mul (den z)),
    )

-- a step raises `place`
pub place_lt : (A k : ℕ) (s : Float) {x hi z : Float} → In (minus A) x hi → T (step_at_least k s) → Over x s z → place A k x < place A k z
unfolding place
place_lt A k s {x} {hi} {z} i w o =
    let U = pos_part x + A * den x - neg_part x in
    let W = pos_part z + A * den z - neg_part z in
    let b = over_parts k s x z w o in
    let l : neg_part x ≤ A * den x + pos_part x = low→parts A x (in_finite i) i.low in
    let h = place_step (pos_part x) (neg_part x) (den x) (pos_part s) (den s) (pos_part z) (neg_part z) (den z) A U W (2 ^ k) (den_pos s) (omega arith) (le_sub_add (pos_part z + A * den z) (neg_part z)) b.0 b.1 in
    omega (arith, add-div_right (U * 2 ^ k) (den_pos x), div_mono (U * 2 ^ k + den x) (den x) (W * 2 ^ k) (den z) (den_pos x) (den_pos z) h)

-- the bound of `place`
pub place_le : (A k m : ℕ) {lo x : Float} → In lo x (plain m) → place A k x ≤ (m + A) * 2 ^ k
unfolding place
place_le A k m {lo} {x} i =
    let u : pos_part x ≤ m * den x + neg_part x = high→parts m x (in_finite i) i.high in
    let U = pos_part x + A * den x - neg_part x in
    let b : U ≤ (m + A) * den x = omega (arith, add-mul m A (den x)) in
    le_trans (div_mono (U * 2 ^ k) (den x) ((m + A) * 2 ^ k) 1 (den_pos x) (lit≤ tt)
    (le_trans (le_of_eq (mul-one (U * 2 ^ k))) (le_trans (mul-le-mul_right (2 ^ k) b) (le_of_eq (mul_right_comm (m + A) (den x) (2 ^ k)))))) (le_of_eq (div-one ((m + A) * 2 ^ k)))

-- what a loop's measure is: what is left of the bound of `place` is less after a step
pub measure_lt : (A k m : ℕ) (s : Float) {x hi lo z : Float} → In (minus A) x hi → In lo z (plain m) → T (step_at_least k s) → Over x s z
    → (m + A) * 2 ^ k - place A k z < (m + A) * 2 ^ k - place A k x
measure_lt A k m s {x} {hi} {lo} {z} i j w o = less (place A k x) (place A k z) ((m + A) * 2 ^ k) (place_lt A k s i w o) (place_le A k m j)
  where
    less : (a b t : ℕ) → a < b → b ≤ t → t - b < t - a
    less a b t h g = omega arith

-- `place` is monotone
place_keep : (px nx dx pz nz dz A U W K : ℕ) → px + A * dx ≡ U + nx → pz + A * dz ≤ W + nz → px * dz + nz * dx ≤ pz * dx + nx * dz → U * K * dz ≤ W * K * dx
place_keep px nx dx pz nz dz A U W K e h o =
    let a : U * dz ≤ W * dx = simp ring (omega (arith, simp ring at o, simp ring at (ap (λ (y : ℕ). y * dz) e), simp ring at (mul-le-mul_right dx h))) in
    simp ring (simp ring at (mul-le-mul_right K a))

pub place_mono : (A k : ℕ) {x hi : Float} (z : Float) → In (minus A) x hi → T (finite z) → T (le x z) → place A k x ≤ place A k z
unfolding place
place_mono A k {x} {hi} z i q h =
    let U = pos_part x + A * den x - neg_part x in
    let W = pos_part z + A * den z - neg_part z in
    let l : neg_part x ≤ A * den x + pos_part x = low→parts A x (in_finite i) i.low in
    div_mono (U * 2 ^ k) (den x) (W * 2 ^ k) (den z) (den_pos x) (den_pos z)
    (place_keep (pos_part x) (neg_part x) (den x) (pos_part z) (neg_part z) (den z) A U W (2 ^ k) (omega arith) (le_sub_add (pos_part z + A * den z) (neg_part z)) (le→val x z (in_finite i) q h))

-- ---- what has moved from x is above x
over_frac : (px nx dx ps ds pz nz dz : ℕ) → 0 < ps → 0 < dx → 0 < dz → (px * ds + ps * dx) * dz + nz * (dx * ds) ≤ pz * (dx * ds) + nx * ds * dz
    → px * dz + nz * dx < pz * dx + nx * dz
over_frac px nx dx ps ds pz nz dz S X Z h =
    lt_of_mul-lt-mul_right ds (simp ring (omega (arith, simp ring at h, simp ring at (mul-pos S (mul-pos X Z)))))

pub over_lt : (k : ℕ) (s : Float) {x z : Float} → T (finite x) → T (finite z) → T (step_at_least k s) → Over x s z → T (lt x z)
over_lt k s {x} {z} p q w o =
    let b = over_parts k s x z w o in
    val→lt x z p q
    (over_frac (pos_part x) (neg_part x) (den x) (pos_part s) (den s) (pos_part z) (neg_part z) (den z)
    (first_pos (pos_part s) (2 ^ k) (lt_of_lt_of_le (den_pos s) b.0)) (den_pos x) (den_pos z) b.1)

-- ---- the two steps of the replay's loops, at binary64
-- a step of 1e-6 s at least moves a time by 2 ^ -21 s at least
pub time_step : (x d : Float) → In (minus (2 ^ 18)) x (plain (2 ^ 18)) → In micro d (plain (2 ^ 18)) → Over x time_advance (add binary64 x d)
unfolding of_bits
time_step x d i k = progress binary64 20 (2 ^ 18) (2 ^ 18) time_advance i k tt

-- a step of a byte at least moves a count of bytes by 1 / 2 at least
pub take_step : (x d : Float) → In (minus (2 ^ 45)) x (plain (2 ^ 45)) → In (plain 1) d (plain (2 ^ 45)) → Over x take_advance (add binary64 x d)
take_step x d i k = progress binary64 47 (2 ^ 45) (2 ^ 45) take_advance i k tt

-- so the loop's measure is less after the step
pub time_measure_lt : (x d : Float) → In (minus (2 ^ 18)) x (plain (2 ^ 18)) → In micro d (plain (2 ^ 18)) → time_measure (add binary64 x d) < time_measure x
unfolding of_bits add le
time_measure_lt x d i k = measure_lt (2 ^ 18) 21 (2 ^ 19) time_advance i (add_in binary64 (minus (2 ^ 18)) (plain (2 ^ 19)) i k tt) tt (time_step x d i k)

pub take_measure_lt : (x d : Float) → In (minus (2 ^ 45)) x (plain (2 ^ 45)) → In (plain 1) d (plain (2 ^ 45)) → take_measure (add binary64 x d) < take_measure x
unfolding add le
take_measure_lt x d i k = measure_lt (2 ^ 45) 1 (2 ^ 46) take_advance i (add_in binary64 (minus (2 ^ 45)) (plain (2 ^ 46)) i k tt) tt (take_step x d i k)
