-- The order of finite floats, `le`, `lt` and `eq`, is the order of their values as fractions. Assumes nothing.
use Rattle.std.proofs.Common.{◌≡◌, ℕ, ◌+◌, ◌*◌, ◌<◌, ◌≤◌, Bool, true, false, not, ◌||◌, T, eqb, ◌⊎◌, ℤ, sym, refl, ap, ◌∙◌, subst, inl, inr, mul-le-mul_right, mul_assoc, mul_comm, add-mul, lt_of_mul-lt-mul_right, eq-or-lt_of_le, mul-lt-mul_of_pos_right, zero-mul, mul-add, mul_right_comm, le_of_mul-le-mul_right, mul_left_comm, arith, eqb→eq, ltb→lt, lt→ltb}
use lib.Dec.{eqb_refl}
use lib.Ieee.{Float, nan, inf, fin, up, down, below, level, lt, le, eq}
use lib.Ieee.Exact.{HasValue}
use lib.Ieee.Fits.{and_i, and_l, and_r}
use lib.Ieee.Scale.{finite}
use lib.Ieee.Positive.{den}
use Rattle.ieee.specs.Value.{part, pos_part, neg_part, Frac-le, Frac-lt, Value-le, Value-lt}
use Rattle.ieee.specs.Interval.{plain, minus}

-- ---- tests joined by `||`
or_split : (a b : Bool) → T (a || b) → T a ⊎ T b
or_split true b t = inl tt
or_split false b t = inr t

pub or_l : (a b : Bool) → T a → T (a || b)
or_l true b t = tt
or_l false b t = absurd t

or_r : (a b : Bool) → T b → T (a || b)
or_r true b t = tt
or_r false b t = t

-- ---- two magnitudes with signs: `below`, `level` and their join, by the parts
eqb_of : (a b : ℕ) → a ≡ b → T (eqb a b)
eqb_of a b p = subst (λ (x : ℕ). T (eqb a x)) p (eqb_refl a)

parts→level : (s t : Bool) (a b : ℕ) → part s a + part (not t) b ≡ part t b + part (not s) a → T (level s a t b)
parts→level false false a b h = and_i (eqb a b) true (eqb_of a b (omega arith)) tt
parts→level false true a b h = and_i (eqb a b) (eqb a 0) (eqb_of a b (omega arith)) (eqb_of a 0 (omega arith))
parts→level true false a b h = and_i (eqb a b) (eqb a 0) (eqb_of a b (omega arith)) (eqb_of a 0 (omega arith))
parts→level true true a b h = and_i (eqb a b) true (eqb_of a b (omega arith)) tt

level→parts : (s t : Bool) (a b : ℕ) → T (level s a t b) → part s a + part (not t) b ≡ part t b + part (not s) a
level→parts false false a b h = omega (arith, eqb→eq a b (and_l (eqb a b) true h))
level→parts false true a b h = omega (arith, eqb→eq a b (and_l (eqb a b) (eqb a 0) h), eqb→eq a 0 (and_r (eqb a b) (eqb a 0) h))
level→parts true false a b h = omega (arith, eqb→eq a b (and_l (eqb a b) (eqb a 0) h), eqb→eq a 0 (and_r (eqb a b) (eqb a 0) h))
level→parts true true a b h = omega (arith, eqb→eq a b (and_l (eqb a b) true h))

parts→below : (s t : Bool) (a b : ℕ) → part s a + part (not t) b < part t b + part (not s) a → T (below s a t b)
parts→below false false a b h = lt→ltb a b (omega arith)
parts→below false true a b h = absurd (omega arith)
parts→below true false a b h = lt→ltb 0 (a + b) (omega arith)
parts→below true true a b h = lt→ltb b a (omega arith)

below→parts : (s t : Bool) (a b : ℕ) → T (below s a t b) → part s a + part (not t) b < part t b + part (not s) a
below→parts false false a b h = omega (arith, ltb→lt a b h)
below→parts false true a b h = absurd h
below→parts true false a b h = omega (arith, ltb→lt 0 (a + b) h)
below→parts true true a b h = omega (arith, ltb→lt b a h)

pub parts→ord : (s t : Bool) (a b : ℕ) → part s a + part (not t) b ≤ part t b + part (not s) a → T (below s a t b || level s a t b)
parts→ord s t a b h =
    elim (eq-or-lt_of_le h) [ inl p ↦ or_r (below s a t b) (level s a t b) (parts→level s t a b p) | inr q ↦ or_l (below s a t b) (level s a t b) (parts→below s t a b q) ]

pub ord→parts : (s t : Bool) (a b : ℕ) → T (below s a t b || level s a t b) → part s a + part (not t) b ≤ part t b + part (not s) a
ord→parts s t a b h =
    elim (or_split (below s a t b) (level s a t b) h) [ inl u ↦ omega (arith, below→parts s t a b u) | inr u ↦ omega (arith, level→parts s t a b u) ]

pub part_mul : (s : Bool) (a d : ℕ) → part s a * d ≡ part s (a * d)
part_mul false a d = refl
part_mul true a d = zero-mul d

-- ---- the order of finite floats is that of their values
-- what holds of each two `fin` holds of each two finite floats
pub both_finite : (P : Float → Float → Type 0) → ((s : Bool) (m : ℕ) (e : ℤ) (t : Bool) (n : ℕ) (d : ℤ) → P (fin s m e) (fin t n d)) → (x y : Float) → T (finite x) → T (finite y) → P x y
both_finite P h nan y p q = absurd p
both_finite P h (inf s) y p q = absurd p
both_finite P h (fin s m e) nan p q = absurd q
both_finite P h (fin s m e) (inf t) p q = absurd q
both_finite P h (fin s m e) (fin t n d) p q = h s m e t n d

pub le→val : (x y : Float) → T (finite x) → T (finite y) → T (le x y) → Value-le x y
unfolding le
le→val = both_finite (λ (x y : Float). T (le x y) → Value-le x y) (λ s m e t n d h. simp part_mul (ord→parts s t (m * up e * down d) (n * up d * down e) h))

pub val→le : (x y : Float) → T (finite x) → T (finite y) → Value-le x y → T (le x y)
unfolding le
val→le = both_finite (λ (x y : Float). Value-le x y → T (le x y)) (λ s m e t n d h. parts→ord s t (m * up e * down d) (n * up d * down e) (simp part_mul at h))

pub lt→val : (x y : Float) → T (finite x) → T (finite y) → T (lt x y) → Value-lt x y
unfolding lt
lt→val = both_finite (λ (x y : Float). T (lt x y) → Value-lt x y) (λ s m e t n d h. simp part_mul (below→parts s t (m * up e * down d) (n * up d * down e) h))

pub val→lt : (x y : Float) → T (finite x) → T (finite y) → Value-lt x y → T (lt x y)
unfolding lt
val→lt = both_finite (λ (x y : Float). Value-lt x y → T (lt x y)) (λ s m e t n d h. parts→below s t (m * up e * down d) (n * up d * down e) (simp part_mul at h))

-- equal values: so equal but for the sign of a zero
pub val→eq : (x y : Float) → T (finite x) → T (finite y) → pos_part x * den y + neg_part y * den x ≡ pos_part y * den x + neg_part x * den y → T (eq x y)
unfolding eq
val→eq = both_finite (λ (x y : Float). pos_part x * den y + neg_part y * den x ≡ pos_part y * den x + neg_part x * den y → T (eq x y))
    (λ s m e t n d h. parts→level s t (m * up e * down d) (n * up d * down e) (simp part_mul at h))

-- ---- the order of fractions
-- sums of products in one form, for `omega` to take each product as an unknown
pub ruleset ring = (add-mul, mul-add, mul_assoc, mul_comm, mul_left_comm)

pub frac_le_trans : (p n c q k d r l e : ℕ) → 0 < d → Frac-le p n c q k d → Frac-le q k d r l e → Frac-le p n c r l e
frac_le_trans p n c q k d r l e D h g =
    le_of_mul-le-mul_right (simp ring (omega (arith, simp ring at (mul-le-mul_right e h), simp ring at (mul-le-mul_right c g)))) D

pub frac_lt_of_le_of_lt : (p n c q k d r l e : ℕ) → 0 < d → 0 < c → Frac-le p n c q k d → Frac-lt q k d r l e → Frac-lt p n c r l e
frac_lt_of_le_of_lt p n c q k d r l e D C h g =
    lt_of_mul-lt-mul_right d (simp ring (omega (arith, simp ring at (mul-le-mul_right e h), simp ring at (mul-lt-mul_of_pos_right g C))))

pub frac_lt_of_lt_of_le : (p n c q k d r l e : ℕ) → 0 < d → 0 < e → Frac-lt p n c q k d → Frac-le q k d r l e → Frac-lt p n c r l e
frac_lt_of_lt_of_le p n c q k d r l e D E h g =
    lt_of_mul-lt-mul_right d (simp ring (omega (arith, simp ring at (mul-lt-mul_of_pos_right h E), simp ring at (mul-le-mul_right c g))))

-- ---- against the whole numbers n and -n
module _ (n : ℕ) (x : Float) (p : T (finite x)) where
  -- x ≤ n, and -n ≤ x, as facts on the parts of x
  pub high→parts : T (le x (plain n)) → pos_part x ≤ n * den x + neg_part x
  high→parts h = omega (arith, le→val x (plain n) p tt h, mul_right_comm n 1 (den x))

  pub low→parts : T (le (minus n) x) → neg_part x ≤ n * den x + pos_part x
  low→parts h = omega (arith, le→val (minus n) x tt p h, mul_right_comm n 1 (den x))

  pub parts→high : pos_part x ≤ n * den x + neg_part x → T (le x (plain n))
  parts→high h = val→le x (plain n) p tt (omega (arith, mul_right_comm n 1 (den x)))

  pub parts→low : neg_part x ≤ n * den x + pos_part x → T (le (minus n) x)
  parts→low h = val→le (minus n) x tt p (omega (arith, mul_right_comm n 1 (den x)))

-- ---- a float that has the value a / c with the sign s
pub value_finite : (x : Float) (s : Bool) (a c : ℕ) → HasValue x s a c → T (finite x)
value_finite nan s a c h = absurd h
value_finite (inf t) s a c h = absurd h
value_finite (fin t m e) s a c h = tt

pub value_parts : (x : Float) (s : Bool) (a c : ℕ) → HasValue x s a c → (pos_part x * c ≡ part s a * den x) × (neg_part x * c ≡ part (not s) a * den x)
value_parts nan s a c h = absurd h
value_parts (inf t) s a c h = absurd h
value_parts (fin t m e) s a c h = (both t s h.0, both (not t) (not s) (ap not h.0))
  where
    both : (t s : Bool) → t ≡ s → part t (m * up e) * c ≡ part s a * down e
    both t s q = part_mul t (m * up e) c ∙ ap (λ (b : Bool). part b (m * up e * c)) q ∙ ap (λ (z : ℕ). part s z) h.1 ∙ sym (part_mul s a (down e))
