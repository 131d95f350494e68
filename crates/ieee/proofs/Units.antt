-- Floats in units of the least positive value: their order and, but for one `ulp`, their sums and differences are linear in these whole numbers,
-- so `omega` settles a chain of them at once. Assumes nothing.
use Rattle.std.proofs.Common.{◌≡◌, ℕ, suc, ◌+◌, ◌-◌, ◌*◌, ◌^◌, ◌<◌, ◌≤◌, ◌&&◌, T, ltb, pos, negsuc, sym, ap, ◌∙◌, le_trans, le_of_eq, mul-le-mul_right, mul_assoc, mul_comm, add-mul, mul-pos, one-mul, le_of_mul-le-mul_right, arith, ltb→lt, pow_pos, pow-add}
use lib.Ieee.{Float, nan, inf, fin, Format, prec, emax, low, add, sub, le, fits}
use lib.Ieee.Fits.{and_l, and_r, add-fits, sub-fits}
use lib.Ieee.Scale.{finite}
use lib.Ieee.Positive.{den, den_pos}
use Rattle.ieee.specs.Value.{pos_part, neg_part}
use Rattle.ieee.specs.Interval.{In, plain, minus}
use Rattle.ieee.specs.Rounding.{Rounds, Close}
use Rattle.ieee.specs.Units.{scale, pos_units, neg_units, ulp, Sum-within, Difference-within}
use Rattle.ieee.proofs.Value.{ring, le→val, val→le, high→parts, low→parts, parts→high, parts→low}
use Rattle.ieee.proofs.Representable.{fits_parts, pow_le_cancel}
use Rattle.ieee.proofs.Operations.{add_rounds, sub_rounds}
use Rattle.ieee.proofs.Interval.{in_finite}
use Rattle.ieee.proofs.Error.{sum_close, ulp_is}

-- ---- the scale of a value of the format
add_sub : (l k : ℕ) → k ≤ l → k + (l - k) ≡ l
add_sub l k h = omega arith

-- den x times its scale is one
pub den_scale : (f : Format) (x : Float) → T (fits f x) → den x * scale f x ≡ 2 ^ low f
den_scale f nan t = one-mul (2 ^ low f)
den_scale f (inf s) t = one-mul (2 ^ low f)
den_scale f (fin s m (pos k)) t = one-mul (2 ^ low f)
den_scale f (fin s m (negsuc k)) t =
    sym (pow-add 2 (suc k) (low f - suc k)) ∙ ap (λ (z : ℕ). 2 ^ z) (add_sub (low f) (suc k) (pow_le_cancel (suc k) (low f) (fits_parts f s m (negsuc k) t).1))

pub scale_pos : (f : Format) (x : Float) → 0 < scale f x
scale_pos f nan = pow_pos (low f)
scale_pos f (inf s) = pow_pos (low f)
scale_pos f (fin s m (pos k)) = pow_pos (low f)
scale_pos f (fin s m (negsuc k)) = pow_pos (low f - suc k)

-- ---- the order
-- p / c and k / d in units, where c * s and d * t are both L
frac_units : (p c s k d t L : ℕ) → c * s ≡ L → d * t ≡ L → (p * d + k * c) * (s * t) ≡ (p * s + k * t) * L
frac_units p c s k d t L e g =
    let a : p * d * (s * t) ≡ p * s * L = simp ring (simp ring at (ap (λ (z : ℕ). p * s * z) g)) in
    let b : k * c * (s * t) ≡ k * t * L = simp ring (simp ring at (ap (λ (z : ℕ). k * t * z) e)) in
    add-mul (p * d) (k * c) (s * t) ∙ ap (λ (z : ℕ). z + k * c * (s * t)) a ∙ ap (λ (z : ℕ). p * s * L + z) b ∙ sym (add-mul (p * s) (k * t) L)

-- the order of values of the format is that of their units
module _ (f : Format) (x y : Float) (p : T (finite x)) (q : T (finite y)) (t : T (fits f x)) (u : T (fits f y)) where
  left : (pos_part x * den y + neg_part y * den x) * (scale f x * scale f y) ≡ (pos_part x * scale f x + neg_part y * scale f y) * 2 ^ low f
  left = frac_units (pos_part x) (den x) (scale f x) (neg_part y) (den y) (scale f y) (2 ^ low f) (den_scale f x t) (den_scale f y u)

  right : (pos_part y * den x + neg_part x * den y) * (scale f x * scale f y) ≡ (pos_part y * scale f y + neg_part x * scale f x) * 2 ^ low f
  right =
      ap (λ (z : ℕ). (pos_part y * den x + neg_part x * den y) * z) (mul_comm (scale f x) (scale f y))
      ∙ frac_units (pos_part y) (den y) (scale f y) (neg_part x) (den x) (scale f x) (2 ^ low f) (den_scale f y u) (den_scale f x t)

  pub le→units : T (le x y) → pos_units f x + neg_units f y ≤ pos_units f y + neg_units f x
  unfolding pos_units neg_units
  le→units h =
      le_of_mul-le-mul_right
      (le_trans (le_of_eq (sym left)) (le_trans (mul-le-mul_right (scale f x * scale f y) (le→val x y p q h)) (le_of_eq right)))
      (pow_pos (low f))

  pub units→le : pos_units f x + neg_units f y ≤ pos_units f y + neg_units f x → T (le x y)
  unfolding pos_units neg_units
  units→le h =
      val→le x y p q
      (le_of_mul-le-mul_right
      (le_trans (le_of_eq left) (le_trans (mul-le-mul_right (2 ^ low f) h) (le_of_eq (sym right))))
      (mul-pos (scale_pos f x) (scale_pos f y)))

-- ---- sums and differences
-- x + y = z but for J / Q, in units 1 / L: each denominator times its scale is L, and E is J / Q in units
module _ (dx sx dy sy dz sz L Q J E : ℕ) (ex : dx * sx ≡ L) (ey : dy * sy ≡ L) (ez : dz * sz ≡ L) (je : E * Q ≡ J * L) (pL : 0 < L) (pQ : 0 < Q) where
  S : ℕ
  S = sx * (sy * sz)

  M : ℕ
  M = Q * (L * L)

  at_x : (a : ℕ) → a * dy * Q * dz * S ≡ a * sx * M
  unfolding S M
  at_x a = lemma ∙ ap (λ (w : ℕ). a * sx * (Q * (w * (dz * sz)))) ey ∙ ap (λ (w : ℕ). a * sx * (Q * (L * w))) ez
    where
      lemma : a * dy * Q * dz * (sx * (sy * sz)) ≡ a * sx * (Q * ((dy * sy) * (dz * sz)))
      lemma = simp ring

  at_y : (a : ℕ) → a * dx * Q * dz * S ≡ a * sy * M
  unfolding S M
  at_y a = lemma ∙ ap (λ (w : ℕ). a * sy * (Q * (w * (dz * sz)))) ex ∙ ap (λ (w : ℕ). a * sy * (Q * (L * w))) ez
    where
      lemma : a * dx * Q * dz * (sx * (sy * sz)) ≡ a * sy * (Q * ((dx * sx) * (dz * sz)))
      lemma = simp ring

  at_z : (a : ℕ) → a * Q * (dx * dy) * S ≡ a * sz * M
  unfolding S M
  at_z a = lemma ∙ ap (λ (w : ℕ). a * sz * (Q * (w * (dy * sy)))) ex ∙ ap (λ (w : ℕ). a * sz * (Q * (L * w))) ey
    where
      lemma : a * Q * (dx * dy) * (sx * (sy * sz)) ≡ a * sz * (Q * ((dx * sx) * (dy * sy)))
      lemma = simp ring

  at_e : J * (dx * dy) * dz * S ≡ E * M
  unfolding S M
  at_e =
      lemma ∙ ap (λ (w : ℕ). J * (w * ((dy * sy) * (dz * sz)))) ex ∙ ap (λ (w : ℕ). J * (L * (w * (dz * sz)))) ey ∙ ap (λ (w : ℕ). J * (L * (L * w))) ez
      ∙ sym (mul_assoc J L (L * L)) ∙ ap (λ (w : ℕ). w * (L * L)) (sym je) ∙ mul_assoc E Q (L * L)
    where
      lemma : J * (dx * dy) * dz * (sx * (sy * sz)) ≡ J * ((dx * sx) * ((dy * sy) * (dz * sz)))
      lemma = simp ring

  p_m : 0 < M
  unfolding M
  p_m = mul-pos pQ (mul-pos pL pL)

  in_units : (px nx py ny pz nz : ℕ) → (px * dy + py * dx) * Q * dz + nz * Q * (dx * dy) ≤ pz * Q * (dx * dy) + (nx * dy + ny * dx) * Q * dz + J * (dx * dy) * dz
      → px * sx + py * sy + nz * sz ≤ pz * sz + nx * sx + ny * sy + E
  in_units px nx py ny pz nz h =
      le_of_mul-le-mul_right
      (simp add-mul (omega (arith, simp add-mul at (mul-le-mul_right S h), at_x px, at_x nx, at_y py, at_y ny, at_z pz, at_z nz, at_e))) p_m

-- z is near (x₊ - x₋) / dx + (q - k) / dy, where y₊ and y₋ are q and k, or the other way round
within : (f : Format) (x y z : Float) (q k j : ℕ) → T (fits f x) → T (fits f y) → T (fits f z)
    → Close z (pos_part x * den y + q * den x) (neg_part x * den y + k * den x) (den x * den y) (2 ^ j) (2 ^ prec f)
    → (pos_part x * scale f x + q * scale f y + neg_part z * scale f z ≤ pos_part z * scale f z + neg_part x * scale f x + k * scale f y + ulp f j)
    × (pos_part z * scale f z + neg_part x * scale f x + k * scale f y ≤ pos_part x * scale f x + q * scale f y + neg_part z * scale f z + ulp f j)
within f x y z q k j t u v c =
    let at : (px nx q k pz nz : ℕ) → _ → _ = in_units (den x) (scale f x) (den y) (scale f y) (den z) (scale f z) (2 ^ low f) (2 ^ prec f) (2 ^ j) (ulp f j) (den_scale f x t) (den_scale f y u) (den_scale f z v) (ulp_is f j) (pow_pos (low f)) (pow_pos (prec f)) in (
      at (pos_part x) (neg_part x) q k (pos_part z) (neg_part z) c.low_end,
      omega (arith, at (neg_part x) (pos_part x) k q (neg_part z) (pos_part z) (omega (arith, c.high_end))),
    )

-- |x| ≤ m, |y| ≤ m' and m + m' < 2 ^ j: a sum, and a difference, is off by one `ulp f j` at most
module _ (f : Format) (j m m' : ℕ) {x y : Float} (i : In (minus m) x (plain m)) (k : In (minus m') y (plain m')) (t : T (fits f x)) (u : T (fits f y)) (w : T (ltb (m + m') (2 ^ j) && ltb j (emax f))) where
  close : (z : Float) (q l : ℕ) → q ≤ m' * den y + l → l ≤ m' * den y + q → Rounds f z (pos_part x * den y + q * den x) (neg_part x * den y + l * den x) (den x * den y)
      → Close z (pos_part x * den y + q * den x) (neg_part x * den y + l * den x) (den x * den y) (2 ^ j) (2 ^ prec f)
  close z q l a b r =
      sum_close f z (pos_part x) (neg_part x) (den x) q l (den y) m m' j (den_pos x) (den_pos y) (high→parts m x (in_finite i) i.high) (low→parts m x (in_finite i) i.low) a b
      (ltb→lt (m + m') (2 ^ j) (and_l (ltb (m + m') (2 ^ j)) (ltb j (emax f)) w)) (ltb→lt j (emax f) (and_r (ltb (m + m') (2 ^ j)) (ltb j (emax f)) w)) r

  pub add_units : Sum-within f x y (add f x y) (ulp f j)
  unfolding pos_units neg_units
  add_units =
      let z = add f x y in
      let c = close z (pos_part y) (neg_part y) (high→parts m' y (in_finite k) k.high) (low→parts m' y (in_finite k) k.low) (add_rounds f x y (in_finite i) (in_finite k)) in
      let r = within f x y z (pos_part y) (neg_part y) j t u (add-fits f x y) c in
      record { low_end = r.0; high_end = r.1 }

  pub sub_units : Difference-within f x y (sub f x y) (ulp f j)
  unfolding pos_units neg_units
  sub_units =
      let z = sub f x y in
      let c = close z (neg_part y) (pos_part y) (low→parts m' y (in_finite k) k.low) (high→parts m' y (in_finite k) k.high) (sub_rounds f x y (in_finite i) (in_finite k)) in
      let r = within f x y z (neg_part y) (pos_part y) j t u (sub-fits f x y) c in
      record { low_end = r.0; high_end = r.1 }

-- ---- against the whole numbers n and -n
module _ (f : Format) (n : ℕ) (x : Float) (p : T (finite x)) (t : T (fits f x)) where
  n_units : n * den x * scale f x ≡ n * 2 ^ low f
  n_units = mul_assoc n (den x) (scale f x) ∙ ap (λ (z : ℕ). n * z) (den_scale f x t)

  pub high→units : T (le x (plain n)) → pos_units f x ≤ n * 2 ^ low f + neg_units f x
  unfolding pos_units neg_units
  high→units h =
      let a = high→parts n x p h in
      omega (arith, mul-le-mul_right (scale f x) a, add-mul (n * den x) (neg_part x) (scale f x), n_units)

  pub low→units : T (le (minus n) x) → neg_units f x ≤ n * 2 ^ low f + pos_units f x
  unfolding pos_units neg_units
  low→units h =
      let a = low→parts n x p h in
      omega (arith, mul-le-mul_right (scale f x) a, add-mul (n * den x) (pos_part x) (scale f x), n_units)

  pub units→high : pos_units f x ≤ n * 2 ^ low f + neg_units f x → T (le x (plain n))
  unfolding pos_units neg_units
  units→high h =
      let a : pos_part x ≤ n * den x + neg_part x = le_of_mul-le-mul_right (omega (arith, add-mul (n * den x) (neg_part x) (scale f x), n_units)) (scale_pos f x) in
      parts→high n x p a

  pub units→low : neg_units f x ≤ n * 2 ^ low f + pos_units f x → T (le (minus n) x)
  unfolding pos_units neg_units
  units→low h =
      let a : neg_part x ≤ n * den x + pos_part x = le_of_mul-le-mul_right (omega (arith, add-mul (n * den x) (pos_part x) (scale f x), n_units)) (scale_pos f x) in
      parts→low n x p a
