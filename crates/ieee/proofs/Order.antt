-- The order of floats: from a test to a fact and back, and the laws of `le` and `lt` on finite floats. Assumes nothing.
use Rattle.std.proofs.Common.{◌≡◌, ℕ, ◌+◌, ◌*◌, Bool, true, false, not, ◌||◌, T, ltb, sym, refl, ap, subst, arith, ltb→lt, nltb→le, T_not}
use lib.Dec.{not_T}
use lib.Ieee.{Float, nan, inf, fin, up, down, lt, le, eq, ne, neg, below, level}
use lib.Ieee.Scale.{finite}
use lib.Ieee.Positive.{den, den_pos}
use Rattle.ieee.specs.Value.{pos_part, neg_part, Value-le, Value-lt}
use Rattle.ieee.proofs.Value.{le→val, val→le, lt→val, val→lt, val→eq, frac_le_trans, frac_lt_of_le_of_lt, frac_lt_of_lt_of_le, parts→ord, ord→parts, or_l}

-- ---- a test as a fact, and a fact as a test
pub to_t : {b : Bool} → b ≡ true → T b
to_t e = subst T (sym e) tt

pub to_not : {b : Bool} → b ≡ false → T (not b)
to_not e = subst (λ (c : Bool). T (not c)) (sym e) tt

pub truth : (b : Bool) → T b → b ≡ true
truth true t = refl
truth false t = absurd t

pub falsity : (b : Bool) → T (not b) → b ≡ false
falsity true t = absurd t
falsity false t = refl

-- ---- finite floats
-- what lies between finite floats is finite
pub between_finite : (x y z : Float) → T (finite x) → T (finite z) → T (le x y) → T (le y z) → T (finite y)
unfolding le
between_finite nan y z p r h k = absurd p
between_finite (inf s) y z p r h k = absurd p
between_finite (fin s m e) nan z p r h k = absurd h
between_finite (fin s m e) (inf true) z p r h k = absurd h
between_finite (fin s m e) (inf false) nan p r h k = absurd r
between_finite (fin s m e) (inf false) (inf t) p r h k = absurd r
between_finite (fin s m e) (inf false) (fin t n d) p r h k = absurd k
between_finite (fin s m e) (fin t n d) z p r h k = tt

module _ (x y : Float) (p : T (finite x)) (q : T (finite y)) where
  pub lt→le : T (lt x y) → T (le x y)
  lt→le h = val→le x y p q (omega (arith, lt→val x y p q h))

  -- where `<` fails the order is the other way round
  pub nlt→le : T (not (lt x y)) → T (le y x)
  nlt→le h = go (ltb (pos_part x * den y + neg_part y * den x) (pos_part y * den x + neg_part x * den y)) (ltb→lt _ _) (nltb→le _ _)
    where
      go : (b : Bool) → (T b → Value-lt x y) → (T (not b) → Value-le y x) → T (le y x)
      go true a k = absurd (T_not (lt x y) h (val→lt x y p q (a tt)))
      go false a k = val→le y x q p (k tt)

  -- where `<=` fails the order is the other way round, and strict
  pub nle→lt : T (not (le x y)) → T (lt y x)
  nle→lt h = go (ltb (pos_part y * den x + neg_part x * den y) (pos_part x * den y + neg_part y * den x)) (ltb→lt _ _) (nltb→le _ _)
    where
      go : (b : Bool) → (T b → Value-lt y x) → (T (not b) → Value-le x y) → T (lt y x)
      go true a k = val→lt y x q p (a tt)
      go false a k = absurd (T_not (le x y) h (val→le x y p q (k tt)))

  -- and back
  pub lt→nle : T (lt y x) → T (not (le x y))
  lt→nle h = not_T (le x y) (λ (t : T (le x y)). no (lt→val y x q p h) (le→val x y p q t))
    where
      no : Value-lt y x → Value-le x y → ⊥
      no a b = omega arith

  -- equal by `==`: a zero of either sign is equal to the other
  pub le_antisymm_eq : T (le x y) → T (le y x) → T (eq x y)
  le_antisymm_eq h k = val→eq x y p q (omega (arith, le→val x y p q h, le→val y x q p k))

pub le_refl : (x : Float) → T (finite x) → T (le x x)
le_refl x p = val→le x x p p (omega arith)

pub le_trans : (x y z : Float) → T (finite x) → T (finite y) → T (finite z) → T (le x y) → T (le y z) → T (le x z)
le_trans x y z p q r h k =
    val→le x z p r (frac_le_trans (pos_part x) (neg_part x) (den x) (pos_part y) (neg_part y) (den y) (pos_part z) (neg_part z) (den z) (den_pos y) (le→val x y p q h) (le→val y z q r k))

pub lt_of_le_of_lt : (x y z : Float) → T (finite x) → T (finite y) → T (finite z) → T (le x y) → T (lt y z) → T (lt x z)
lt_of_le_of_lt x y z p q r h k =
    val→lt x z p r (frac_lt_of_le_of_lt (pos_part x) (neg_part x) (den x) (pos_part y) (neg_part y) (den y) (pos_part z) (neg_part z) (den z) (den_pos y) (den_pos x) (le→val x y p q h) (lt→val y z q r k))

pub lt_of_lt_of_le : (x y z : Float) → T (finite x) → T (finite y) → T (finite z) → T (lt x y) → T (le y z) → T (lt x z)
lt_of_lt_of_le x y z p q r h k =
    val→lt x z p r (frac_lt_of_lt_of_le (pos_part x) (neg_part x) (den x) (pos_part y) (neg_part y) (den y) (pos_part z) (neg_part z) (den z) (den_pos y) (den_pos z) (lt→val x y p q h) (le→val y z q r k))

-- ---- with infinities
-- transitivity where the first, or the last, may be infinite
pub le_trans_inf_l : (z y w : Float) → T (finite y) → T (finite w) → T (le z y) → T (le y w) → T (le z w)
unfolding le
le_trans_inf_l nan y w p q h k = absurd h
le_trans_inf_l (inf s) nan w p q h k = absurd p
le_trans_inf_l (inf s) (inf t) w p q h k = absurd p
le_trans_inf_l (inf s) (fin t m d) nan p q h k = absurd q
le_trans_inf_l (inf s) (fin t m d) (inf u) p q h k = absurd q
le_trans_inf_l (inf s) (fin t m d) (fin u n c) p q h k = h
le_trans_inf_l (fin s a e) y w p q h k = le_trans (fin s a e) y w tt p q h k

pub le_trans_inf_r : (w y z : Float) → T (finite w) → T (finite y) → T (le w y) → T (le y z) → T (le w z)
unfolding le
le_trans_inf_r w nan z p q h k = absurd q
le_trans_inf_r w (inf t) z p q h k = absurd q
le_trans_inf_r nan (fin t m d) z p q h k = absurd p
le_trans_inf_r (inf u) (fin t m d) z p q h k = absurd p
le_trans_inf_r (fin u n c) (fin t m d) nan p q h k = absurd k
le_trans_inf_r (fin u n c) (fin t m d) (inf s) p q h k = k
le_trans_inf_r (fin u n c) (fin t m d) (fin s a e) p q h k = le_trans (fin u n c) (fin t m d) (fin s a e) tt tt tt h k

-- `x == -infinity`, and what is at most a finite float and not -infinity
pub eq_inf : (s : Bool) (x : Float) → T (eq x (inf s)) → x ≡ inf s
unfolding eq
eq_inf s nan t = absurd t
eq_inf true (inf true) t = refl
eq_inf true (inf false) t = absurd t
eq_inf false (inf true) t = absurd t
eq_inf false (inf false) t = refl
eq_inf s (fin u m e) t = absurd t

pub finite_of_not_inf : (x hi : Float) → T (finite hi) → T (le x hi) → T (not (eq x (inf true))) → T (finite x)
unfolding eq le
finite_of_not_inf nan hi p h t = absurd h
finite_of_not_inf (inf true) hi p h t = absurd t
finite_of_not_inf (inf false) nan p h t = absurd p
finite_of_not_inf (inf false) (inf u) p h t = absurd p
finite_of_not_inf (inf false) (fin u m e) p h t = absurd h
finite_of_not_inf (fin u m e) hi p h t = tt

-- ---- any floats; `le x x` says that x is no not-a-number
-- where y <= x, not x < y
pub le→nlt : (x y : Float) → T (le y x) → T (not (lt x y))
unfolding le lt eq
le→nlt nan y h = tt
le→nlt (inf s) nan h = absurd h
le→nlt (inf true) (inf true) h = tt
le→nlt (inf true) (inf false) h = absurd h
le→nlt (inf false) (inf t) h = tt
le→nlt (inf true) (fin t n d) h = absurd h
le→nlt (inf false) (fin t n d) h = tt
le→nlt (fin s m e) nan h = tt
le→nlt (fin s m e) (inf true) h = tt
le→nlt (fin s m e) (inf false) h = absurd h
le→nlt (fin s m e) (fin t n d) h = not_T (lt (fin s m e) (fin t n d)) (λ (k : T (lt (fin s m e) (fin t n d))). no (fin s m e) (fin t n d) (le→val (fin t n d) (fin s m e) tt tt h) (lt→val (fin s m e) (fin t n d) tt tt k))
  where
    no : (x y : Float) → Value-le y x → Value-lt x y → ⊥
    no x y a b = omega arith

-- where `<` fails, and neither is a not-a-number, the order is the other way round
pub nlt→le_any : (x y : Float) → T (le x x) → T (le y y) → T (not (lt x y)) → T (le y x)
unfolding le lt eq
nlt→le_any nan y p q h = absurd p
nlt→le_any (inf s) nan p q h = absurd q
nlt→le_any (inf true) (inf true) p q h = tt
nlt→le_any (inf true) (inf false) p q h = absurd h
nlt→le_any (inf false) (inf true) p q h = tt
nlt→le_any (inf false) (inf false) p q h = tt
nlt→le_any (inf true) (fin t n d) p q h = absurd h
nlt→le_any (inf false) (fin t n d) p q h = tt
nlt→le_any (fin s m e) nan p q h = absurd q
nlt→le_any (fin s m e) (inf true) p q h = tt
nlt→le_any (fin s m e) (inf false) p q h = absurd h
nlt→le_any (fin s m e) (fin t n d) p q h = nlt→le (fin s m e) (fin t n d) tt tt h

pub lt→le_any : (x y : Float) → T (lt x y) → T (le x y)
unfolding le
lt→le_any x y h = or_l (lt x y) (eq x y) h

-- `x != x` fails of a number
pub ne_self : (x : Float) → T (le x x) → ne x x ≡ false
unfolding ne eq le lt
ne_self nan h = absurd h
ne_self (inf true) h = refl
ne_self (inf false) h = refl
ne_self (fin s m e) h = ap not (truth (eq (fin s m e) (fin s m e)) (le_antisymm_eq (fin s m e) (fin s m e) tt tt (le_refl (fin s m e) tt) (le_refl (fin s m e) tt)))

-- ---- `neg` turns the order round
ord_neg : (s t : Bool) (a b : ℕ) → T (below t b s a || level t b s a) → T (below (not s) a (not t) b || level (not s) a (not t) b)
ord_neg false false a b h = parts→ord true true a b (omega (arith, ord→parts false false b a h))
ord_neg false true a b h = parts→ord true false a b (omega (arith, ord→parts true false b a h))
ord_neg true false a b h = parts→ord false true a b (omega (arith, ord→parts false true b a h))
ord_neg true true a b h = parts→ord false false a b (omega (arith, ord→parts true true b a h))

pub le_neg : (x y : Float) → T (le y x) → T (le (neg x) (neg y))
unfolding le neg
le_neg x nan h = absurd h
le_neg nan (inf t) h = absurd h
le_neg nan (fin t n d) h = absurd h
le_neg (inf true) (inf true) h = tt
le_neg (inf true) (inf false) h = h
le_neg (inf false) (inf true) h = tt
le_neg (inf false) (inf false) h = tt
le_neg (inf true) (fin t n d) h = absurd h
le_neg (inf false) (fin t n d) h = tt
le_neg (fin s m e) (inf true) h = tt
le_neg (fin s m e) (inf false) h = absurd h
le_neg (fin s m e) (fin t n d) h = ord_neg s t (m * up e * down d) (n * up d * down e) h

pub neg_finite : (x : Float) → T (finite x) → T (finite (neg x))
unfolding neg
neg_finite nan p = absurd p
neg_finite (inf s) p = absurd p
neg_finite (fin s m e) p = tt
