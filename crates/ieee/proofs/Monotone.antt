-- Addition, subtraction, multiplication and division are monotone, rounding and overflow included. Assumes nothing.
use Rattle.std.proofs.Common.{◌≡◌, ℕ, ◌+◌, ◌*◌, ◌<◌, ◌≤◌, Bool, true, false, cond, not, T, sym, ap, subst, mul-le-mul_right, mul-pos, zero-mul, arith}
use lib.Ieee.{Float, Format, lt, le, neg, add, sub, mul, div}
use lib.Ieee.Scale.{finite}
use lib.Ieee.Positive.{den, den_pos}
use Rattle.ieee.specs.Value.{pos_part, neg_part, Frac-le}
use Rattle.ieee.specs.Interval.{zero_float}
use Rattle.ieee.proofs.Value.{ring, le→val, frac_le_trans}
use Rattle.ieee.proofs.Order.{lt_of_lt_of_le, lt→le, nle→lt, le_trans, le_neg, neg_finite}
use Rattle.ieee.proofs.Rounding.{rounds_mono}
use Rattle.ieee.proofs.Operations.{add_rounds, mul_rounds, div_rounds, neg_part_zero, pos_part_zero, pos_part_pos}

-- ---- fractions
add_frac_le : (p n c q k d p' n' c' q' k' d' : ℕ) → Frac-le p n c q k d → Frac-le p' n' c' q' k' d'
    → Frac-le (p * c' + p' * c) (n * c' + n' * c) (c * c') (q * d' + q' * d) (k * d' + k' * d) (d * d')
add_frac_le p n c q k d p' n' c' q' k' d' h g =
    simp ring (omega (arith, simp ring at (mul-le-mul_right (c' * d') h), simp ring at (mul-le-mul_right (c * d) g)))

-- times b / e, which is not negative
mul_frac_le : (p n c q k d b z e : ℕ) → z ≡ 0 → Frac-le p n c q k d
    → Frac-le (p * b + n * z) (p * z + n * b) (c * e) (q * b + k * z) (q * z + k * b) (d * e)
mul_frac_le p n c q k d b z e Z h =
    subst (λ (y : ℕ). Frac-le (p * b + n * y) (p * y + n * b) (c * e) (q * b + k * y) (q * y + k * b) (d * e)) (sym Z)
    (simp (ring, zero-mul) (omega (arith, simp ring at (mul-le-mul_right (b * e) h))))

mul_frac_le_r : (p n c q k d b z e : ℕ) → z ≡ 0 → Frac-le p n c q k d
    → Frac-le (b * p + z * n) (b * n + z * p) (e * c) (b * q + z * k) (b * k + z * q) (e * d)
mul_frac_le_r p n c q k d b z e Z h =
    subst (λ (y : ℕ). Frac-le (b * p + y * n) (b * n + y * p) (e * c) (b * q + y * k) (b * k + y * q) (e * d)) (sym Z)
    (simp (ring, zero-mul) (omega (arith, simp ring at (mul-le-mul_right (b * e) h))))

-- over b / e, above zero
div_frac_le : (p n c q k d b e : ℕ) → Frac-le p n c q k d → Frac-le (p * e) (n * e) (b * c) (q * e) (k * e) (b * d)
div_frac_le p n c q k d b e h = simp ring (omega (arith, simp ring at (mul-le-mul_right (b * e) h)))

-- p / c over a divisor b / e that grows to b' / e'
div_frac_le_r : (p n c b e b' e' : ℕ) → n ≡ 0 → b * e' ≤ b' * e → Frac-le (p * e') (n * e') (b' * c) (p * e) (n * e) (b * c)
div_frac_le_r p n c b e b' e' N h =
    subst (λ (y : ℕ). Frac-le (p * e') (y * e') (b' * c) (p * e) (y * e) (b * c)) (sym N)
    (simp (ring, zero-mul) (omega (arith, simp ring at (mul-le-mul_right (p * c) h))))

-- the same for a factor, or a dividend, that is not positive
mul_frac_le_neg : (p n c q k d z b e : ℕ) → z ≡ 0 → Frac-le p n c q k d
    → Frac-le (z * q + b * k) (z * k + b * q) (e * d) (z * p + b * n) (z * n + b * p) (e * c)
mul_frac_le_neg p n c q k d z b e Z h =
    subst (λ (y : ℕ). Frac-le (y * q + b * k) (y * k + b * q) (e * d) (y * p + b * n) (y * n + b * p) (e * c)) (sym Z)
    (simp (ring, zero-mul) (omega (arith, simp ring at (mul-le-mul_right (b * e) h))))

div_frac_le_neg : (p n c b e b' e' : ℕ) → p ≡ 0 → b * e' ≤ b' * e → Frac-le (p * e) (n * e) (b * c) (p * e') (n * e') (b' * c)
div_frac_le_neg p n c b e b' e' P h =
    subst (λ (y : ℕ). Frac-le (y * e) (n * e) (b * c) (y * e') (n * e') (b' * c)) (sym P)
    (simp (ring, zero-mul) (omega (arith, simp ring at (mul-le-mul_right (n * c) h))))

-- the order of two values above zero
pos_part_le : (y y' : Float) → T (finite y) → T (finite y') → T (lt zero_float y) → T (le y y') → pos_part y * den y' ≤ pos_part y' * den y
pos_part_le y y' q q' u h =
    let u' = lt_of_lt_of_le zero_float y y' tt q q' u h in
    omega (arith, le→val y y' q q' h, ap (λ (k : ℕ). k * den y) (neg_part_zero y' q' (lt→le zero_float y' tt q' u')), ap (λ (k : ℕ). k * den y') (neg_part_zero y q (lt→le zero_float y tt q u)), zero-mul (den y), zero-mul (den y'))

-- ---- the order of exact products, and of exact quotients by divisors above zero
abbrev pub Mul-le : Float → Float → Float → Float → Type 0
Mul-le x y x' y' = Frac-le (pos_part x * pos_part y + neg_part x * neg_part y) (pos_part x * neg_part y + neg_part x * pos_part y) (den x * den y) (pos_part x' * pos_part y' + neg_part x' * neg_part y') (pos_part x' * neg_part y' + neg_part x' * pos_part y') (den x' * den y')

abbrev pub Div-le : Float → Float → Float → Float → Type 0
Div-le x y x' y' = Frac-le (pos_part x * den y) (neg_part x * den y) (pos_part y * den x) (pos_part x' * den y') (neg_part x' * den y') (pos_part y' * den x')

mul_le_trans : (x y x' y' x'' y'' : Float) → Mul-le x y x' y' → Mul-le x' y' x'' y'' → Mul-le x y x'' y''
mul_le_trans x y x' y' x'' y'' h k = frac_le_trans _ _ (den x * den y) _ _ (den x' * den y') _ _ (den x'' * den y'') (mul-pos (den_pos x') (den_pos y')) h k

div_le_trans : (x y x' y' x'' y'' : Float) → 0 < pos_part y' → Div-le x y x' y' → Div-le x' y' x'' y'' → Div-le x y x'' y''
div_le_trans x y x' y' x'' y'' u h k = frac_le_trans _ _ (pos_part y * den x) _ _ (pos_part y' * den x') _ _ (pos_part y'' * den x'') (mul-pos u (den_pos x')) h k

pub mul_l : (x x' y : Float) → T (finite x) → T (finite x') → T (finite y) → T (le zero_float y) → T (le x x') → Mul-le x y x' y
mul_l x x' y p p' q z h = mul_frac_le (pos_part x) (neg_part x) (den x) (pos_part x') (neg_part x') (den x') (pos_part y) (neg_part y) (den y) (neg_part_zero y q z) (le→val x x' p p' h)

pub mul_r : (x y y' : Float) → T (finite x) → T (finite y) → T (finite y') → T (le zero_float x) → T (le y y') → Mul-le x y x y'
mul_r x y y' p q q' z h = mul_frac_le_r (pos_part y) (neg_part y) (den y) (pos_part y') (neg_part y') (den y') (pos_part x) (neg_part x) (den x) (neg_part_zero x p z) (le→val y y' q q' h)

mul_neg : (x y y' : Float) → T (finite x) → T (finite y) → T (finite y') → T (le x zero_float) → T (le y y') → Mul-le x y' x y
mul_neg x y y' p q q' z h = mul_frac_le_neg (pos_part y) (neg_part y) (den y) (pos_part y') (neg_part y') (den y') (pos_part x) (neg_part x) (den x) (pos_part_zero x p z) (le→val y y' q q' h)

pub div_l : (x x' y : Float) → T (finite x) → T (finite x') → T (le x x') → Div-le x y x' y
div_l x x' y p p' h = div_frac_le (pos_part x) (neg_part x) (den x) (pos_part x') (neg_part x') (den x') (pos_part y) (den y) (le→val x x' p p' h)

div_r : (x y y' : Float) → T (finite x) → T (finite y) → T (finite y') → T (le zero_float x) → T (lt zero_float y) → T (le y y') → Div-le x y' x y
div_r x y y' p q q' z u h = div_frac_le_r (pos_part x) (neg_part x) (den x) (pos_part y) (den y) (pos_part y') (den y') (neg_part_zero x p z) (pos_part_le y y' q q' u h)

div_neg : (x y y' : Float) → T (finite x) → T (finite y) → T (finite y') → T (le x zero_float) → T (lt zero_float y) → T (le y y') → Div-le x y x y'
div_neg x y y' p q q' z u h = div_frac_le_neg (pos_part x) (neg_part x) (den x) (pos_part y) (den y) (pos_part y') (den y') (pos_part_zero x p z) (pos_part_le y y' q q' u h)

-- ---- one end of a range or the other, by the sign of x
cond_if : (P : Float → Type 0) (x a b : Float) → T (finite x) → (T (le zero_float x) → P a) → (T (le x zero_float) → P b) → P (cond (le zero_float x) a b)
cond_if P x a b p h k = go (le zero_float x) h (λ (t : T (not (le zero_float x))). k (lt→le x zero_float p tt (nle→lt zero_float x tt p t)))
  where
    go : (c : Bool) → (T c → P a) → (T (not c) → P b) → P (cond c a b)
    go true h k = h tt
    go false h k = k tt

-- ---- the operations
module _ (f : Format) where
  pub add_mono : (x x' y y' : Float) → T (finite x) → T (finite x') → T (finite y) → T (finite y') → T (le x x') → T (le y y') → T (le (add f x y) (add f x' y'))
  add_mono x x' y y' p p' q q' h g =
      rounds_mono f (add f x y) (add f x' y') _ _ (den x * den y) _ _ (den x' * den y') (mul-pos (den_pos x) (den_pos y)) (mul-pos (den_pos x') (den_pos y'))
      (add_rounds f x y p q) (add_rounds f x' y' p' q')
      (add_frac_le (pos_part x) (neg_part x) (den x) (pos_part x') (neg_part x') (den x') (pos_part y) (neg_part y) (den y) (pos_part y') (neg_part y') (den y') (le→val x x' p p' h) (le→val y y' q q' g))

  pub sub_mono : (x x' y y' : Float) → T (finite x) → T (finite x') → T (finite y) → T (finite y') → T (le x x') → T (le y' y) → T (le (sub f x y) (sub f x' y'))
  unfolding sub
  sub_mono x x' y y' p p' q q' h g = add_mono x x' (neg y) (neg y') p p' (neg_finite y q) (neg_finite y' q') h (le_neg y y' g)

  pub mul_mono : (x y x' y' : Float) → T (finite x) → T (finite y) → T (finite x') → T (finite y') → Mul-le x y x' y' → T (le (mul f x y) (mul f x' y'))
  mul_mono x y x' y' p q p' q' h =
      rounds_mono f (mul f x y) (mul f x' y') _ _ (den x * den y) _ _ (den x' * den y') (mul-pos (den_pos x) (den_pos y)) (mul-pos (den_pos x') (den_pos y'))
      (mul_rounds f x y p q) (mul_rounds f x' y' p' q') h

  pub div_mono : (x y x' y' : Float) → T (finite x) → T (finite y) → T (finite x') → T (finite y') → 0 < pos_part y → 0 < pos_part y' → Div-le x y x' y' → T (le (div f x y) (div f x' y'))
  div_mono x y x' y' p q p' q' u u' h =
      rounds_mono f (div f x y) (div f x' y') _ _ (pos_part y * den x) _ _ (pos_part y' * den x') (mul-pos u (den_pos x)) (mul-pos u' (den_pos x'))
      (div_rounds f x y p q u) (div_rounds f x' y' p' q' u') h

  -- a quotient by a divisor above zero is no not-a-number: it may be infinite
  pub div_not_nan : (x y : Float) → T (finite x) → T (finite y) → T (lt zero_float y) → T (le (div f x y) (div f x y))
  div_not_nan x y p q h = div_mono x y x y p q p q (pos_part_pos y q h) (pos_part_pos y q h) (omega arith)

  -- x between lo and hi, y between lo' and hi', and y not negative
  module _ (lo x hi lo' y hi' : Float) (a : T (finite lo)) (p : T (finite x)) (b : T (finite hi)) (a' : T (finite lo')) (q : T (finite y)) (b' : T (finite hi'))
      (h : T (le lo x)) (k : T (le x hi)) (h' : T (le lo' y)) (k' : T (le y hi')) where
    pub mul_high : T (le zero_float lo') → T (le (mul f x y) (mul f hi (cond (le zero_float hi) hi' lo')))
    mul_high z =
        let first = mul_l x hi y p b q (le_trans zero_float lo' y tt a' q z h') k in
        cond_if (λ (w : Float). T (le (mul f x y) (mul f hi w))) hi hi' lo' b
        (λ (c : T (le zero_float hi)). mul_mono x y hi hi' p q b b' (mul_le_trans x y hi y hi hi' first (mul_r hi y hi' b q b' c k')))
        (λ (c : T (le hi zero_float)). mul_mono x y hi lo' p q b a' (mul_le_trans x y hi y hi lo' first (mul_neg hi lo' y b a' q c h')))

    pub mul_low : T (le zero_float lo') → T (le (mul f lo (cond (le zero_float lo) lo' hi')) (mul f x y))
    mul_low z =
        let last = mul_l lo x y a p q (le_trans zero_float lo' y tt a' q z h') h in
        cond_if (λ (w : Float). T (le (mul f lo w) (mul f x y))) lo lo' hi' a
        (λ (c : T (le zero_float lo)). mul_mono lo lo' x y a a' p q (mul_le_trans lo lo' lo y x y (mul_r lo lo' y a a' q c h') last))
        (λ (c : T (le lo zero_float)). mul_mono lo hi' x y a b' p q (mul_le_trans lo hi' lo y x y (mul_neg lo y hi' a q b' c k') last))

    pub div_high : T (lt zero_float lo') → T (le (div f x y) (div f hi (cond (le zero_float hi) lo' hi')))
    div_high z =
        let u' = lt_of_lt_of_le zero_float lo' y tt a' q z h' in
        let u = pos_part_pos y q u' in
        let ua = pos_part_pos lo' a' z in
        let ub = pos_part_pos hi' b' (lt_of_lt_of_le zero_float y hi' tt q b' u' k') in
        cond_if (λ (w : Float). T (le (div f x y) (div f hi w))) hi lo' hi' b
        (λ (c : T (le zero_float hi)). div_mono x y hi lo' p q b a' u ua (div_le_trans x y hi y hi lo' u (div_l x hi y p b k) (div_r hi lo' y b a' q c z h')))
        (λ (c : T (le hi zero_float)). div_mono x y hi hi' p q b b' u ub (div_le_trans x y hi y hi hi' u (div_l x hi y p b k) (div_neg hi y hi' b q b' c u' k')))

    pub div_low : T (lt zero_float lo') → T (le (div f lo (cond (le zero_float lo) hi' lo')) (div f x y))
    div_low z =
        let u' = lt_of_lt_of_le zero_float lo' y tt a' q z h' in
        let u = pos_part_pos y q u' in
        let ua = pos_part_pos lo' a' z in
        let ub = pos_part_pos hi' b' (lt_of_lt_of_le zero_float y hi' tt q b' u' k') in
        cond_if (λ (w : Float). T (le (div f lo w) (div f x y))) lo hi' lo' a
        (λ (c : T (le zero_float lo)). div_mono lo hi' x y a b' p q ub u (div_le_trans lo hi' lo y x y u (div_r lo y hi' a q b' c u' k') (div_l lo x y a p h)))
        (λ (c : T (le lo zero_float)). div_mono lo lo' x y a a' p q ua u (div_le_trans lo lo' lo y x y u (div_neg lo lo' y a a' q c z h') (div_l lo x y a p h)))
