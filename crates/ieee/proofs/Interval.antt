-- Laws of enclosures, `In lo x hi`: bounds of sums, differences, products and quotients, and bounds from tests.
-- Each operation is monotone, so the operation of the bounds bounds the operation, and it computes: a law takes the wished bounds l and h and a closed test,
-- which `tt` answers under `unfolding` of the operation, `le` and `lt`. Assumes nothing.
use Rattle.std.proofs.Common.{◌≡◌, Bool, true, false, cond, ◌&&◌, T}
use lib.Ieee.{Float, Format, lt, le, neg, add, sub, mul, div}
use lib.Ieee.Fits.{and_l, and_r}
use lib.Ieee.Scale.{finite}
use Rattle.ieee.specs.Interval.{In, zero_float}
use Rattle.ieee.proofs.Order.{to_t, to_not, between_finite, le_trans, le_refl, lt→le, nlt→le, nle→lt, le_neg, neg_finite}
use Rattle.ieee.proofs.Monotone.{add_mono, sub_mono, mul_high, mul_low, div_high, div_low}

-- what is bounded is finite, so no not-a-number
pub in_finite : {lo x hi : Float} → In lo x hi → T (finite x)
in_finite {lo} {x} {hi} i = between_finite lo x hi i.low_finite i.high_finite i.low i.high

pub in_self : {lo x hi : Float} → In lo x hi → T (le x x)
in_self {lo} {x} {hi} i = le_refl x (in_finite i)

-- from lo to hi is within l to h, all four finite
abbrev pub wide : Float → Float → Float → Float → Bool
wide lo hi l h = (finite l && finite lo && le l lo) && (finite h && finite hi && le hi h)

and_three : (a b c : Bool) → T (a && b && c) → T a × T b × T c
and_three true true c t = (tt, tt, t)
and_three true false c t = absurd t
and_three false b c t = absurd t

-- x is between lo and hi, which are within l to h; lo and hi need not be known to be finite before
between : (lo x hi l h : Float) → T (le lo x) → T (le x hi) → T (wide lo hi l h) → In l x h
between lo x hi l h a b w =
    let p = and_three (finite l) (finite lo) (le l lo) (and_l (finite l && finite lo && le l lo) (finite h && finite hi && le hi h) w) in
    let q = and_three (finite h) (finite hi) (le hi h) (and_r (finite l && finite lo && le l lo) (finite h && finite hi && le hi h) w) in
    let r = between_finite lo x hi p.1 q.1 a b in
    record { low_finite = p.0; high_finite = q.0; low = le_trans l lo x p.0 p.1 r p.2 a; high = le_trans x hi h r q.1 q.0 b q.2 }

-- wider bounds, both closed
pub widen : {lo x hi : Float} (l h : Float) → In lo x hi → T (wide lo hi l h) → In l x h
widen {lo} {x} {hi} l h i w = between lo x hi l h i.low i.high w

-- either of two floats with the same bounds
pub cond_in : (b : Bool) {lo x y hi : Float} → In lo x hi → In lo y hi → In lo (cond b x y) hi
cond_in true i j = i
cond_in false i j = j

-- the negation
pub neg_in : {lo x hi : Float} → In lo x hi → In (neg hi) (neg x) (neg lo)
neg_in {lo} {x} {hi} i = record { low_finite = neg_finite hi i.high_finite; high_finite = neg_finite lo i.low_finite; low = le_neg hi x i.high; high = le_neg x lo i.low }

-- ---- sums, differences, products and quotients of bounded floats
module _ (f : Format) {lo x hi lo' y hi' : Float} (l h : Float) (i : In lo x hi) (j : In lo' y hi') where
  pub add_in : T (wide (add f lo lo') (add f hi hi') l h) → In l (add f x y) h
  add_in w =
      between (add f lo lo') (add f x y) (add f hi hi') l h
      (add_mono f lo x lo' y i.low_finite (in_finite i) j.low_finite (in_finite j) i.low j.low)
      (add_mono f x hi y hi' (in_finite i) i.high_finite (in_finite j) j.high_finite i.high j.high) w

  pub sub_in : T (wide (sub f lo hi') (sub f hi lo') l h) → In l (sub f x y) h
  sub_in w =
      between (sub f lo hi') (sub f x y) (sub f hi lo') l h
      (sub_mono f lo x hi' y i.low_finite (in_finite i) j.high_finite (in_finite j) i.low j.high)
      (sub_mono f x hi y lo' (in_finite i) i.high_finite (in_finite j) j.low_finite i.high j.low) w

  -- x of any sign, y not negative
  pub mul_in : T (le zero_float lo' && wide (mul f lo (cond (le zero_float lo) lo' hi')) (mul f hi (cond (le zero_float hi) hi' lo')) l h) → In l (mul f x y) h
  mul_in w =
      let z = and_l (le zero_float lo') (wide (mul f lo (cond (le zero_float lo) lo' hi')) (mul f hi (cond (le zero_float hi) hi' lo')) l h) w in
      between (mul f lo (cond (le zero_float lo) lo' hi')) (mul f x y) (mul f hi (cond (le zero_float hi) hi' lo')) l h
      (mul_low f lo x hi lo' y hi' i.low_finite (in_finite i) i.high_finite j.low_finite (in_finite j) j.high_finite i.low i.high j.low j.high z)
      (mul_high f lo x hi lo' y hi' i.low_finite (in_finite i) i.high_finite j.low_finite (in_finite j) j.high_finite i.low i.high j.low j.high z)
      (and_r (le zero_float lo') (wide (mul f lo (cond (le zero_float lo) lo' hi')) (mul f hi (cond (le zero_float hi) hi' lo')) l h) w)

  -- x of any sign, y above zero
  pub div_in : T (lt zero_float lo' && wide (div f lo (cond (le zero_float lo) hi' lo')) (div f hi (cond (le zero_float hi) lo' hi')) l h) → In l (div f x y) h
  div_in w =
      let z = and_l (lt zero_float lo') (wide (div f lo (cond (le zero_float lo) hi' lo')) (div f hi (cond (le zero_float hi) lo' hi')) l h) w in
      between (div f lo (cond (le zero_float lo) hi' lo')) (div f x y) (div f hi (cond (le zero_float hi) lo' hi')) l h
      (div_low f lo x hi lo' y hi' i.low_finite (in_finite i) i.high_finite j.low_finite (in_finite j) j.high_finite i.low i.high j.low j.high z)
      (div_high f lo x hi lo' y hi' i.low_finite (in_finite i) i.high_finite j.low_finite (in_finite j) j.high_finite i.low i.high j.low j.high z)
      (and_r (lt zero_float lo') (wide (div f lo (cond (le zero_float lo) hi' lo')) (div f hi (cond (le zero_float hi) lo' hi')) l h) w)

-- ---- a test that passed, or failed, hands a bound over
module _ {lo x hi lo' y hi' : Float} (i : In lo x hi) (j : In lo' y hi') where
  -- the facts
  pub le_in : T (le x y) → In lo x hi'
  le_in h = record { low_finite = i.low_finite; high_finite = j.high_finite; low = i.low; high = le_trans x y hi' (in_finite i) (in_finite j) j.high_finite h j.high }

  pub ge_in : T (le y x) → In lo' x hi
  ge_in h = record { low_finite = j.low_finite; high_finite = i.high_finite; low = le_trans lo' y x j.low_finite (in_finite j) (in_finite i) j.low h; high = i.high }

  -- x < y, and not x < y
  pub lt_in : lt x y ≡ true → In lo x hi'
  lt_in h = le_in (lt→le x y (in_finite i) (in_finite j) (to_t h))

  pub nlt_in : lt x y ≡ false → In lo' x hi
  nlt_in h = ge_in (nlt→le x y (in_finite i) (in_finite j) (to_not h))

  -- x <= y, and not x <= y
  pub lte_in : le x y ≡ true → In lo x hi'
  lte_in h = le_in (to_t h)

  pub nle_in : le x y ≡ false → In lo' x hi
  nle_in h = ge_in (lt→le y x (in_finite j) (in_finite i) (nle→lt x y (in_finite i) (in_finite j) (to_not h)))

-- a closed float between closed bounds
pub closed_in : (lo x hi : Float) → T (wide x x lo hi) → In lo x hi
closed_in lo x hi w =
    let p = and_three (finite lo) (finite x) (le lo x) (and_l (finite lo && finite x && le lo x) (finite hi && finite x && le x hi) w) in
    let q = and_three (finite hi) (finite x) (le x hi) (and_r (finite lo && finite x && le lo x) (finite hi && finite x && le x hi) w) in
    record { low_finite = p.0; high_finite = q.0; low = p.2; high = q.2 }

-- one end moved, by a closed test; the other may hold variables
pub widen_low : {lo x hi : Float} (l : Float) → In lo x hi → T (finite l && le l lo) → In l x hi
widen_low {lo} {x} {hi} l i w =
    let p = and_l (finite l) (le l lo) w in
    record { low_finite = p; high_finite = i.high_finite; low = le_trans l lo x p i.low_finite (in_finite i) (and_r (finite l) (le l lo) w) i.low; high = i.high }

pub widen_high : {lo x hi : Float} (h : Float) → In lo x hi → T (finite h && le hi h) → In lo x h
widen_high {lo} {x} {hi} h i w =
    let p = and_l (finite h) (le hi h) w in
    record { low_finite = i.low_finite; high_finite = p; low = i.low; high = le_trans x hi h (in_finite i) i.high_finite p i.high (and_r (finite h) (le hi h) w) }

-- `if lo <= x { if x <= hi { .. } }`: a not-a-number and an infinity pass neither
pub tested_in : (lo x hi : Float) → T (finite lo && finite hi) → le lo x ≡ true → le x hi ≡ true → In lo x hi
tested_in lo x hi w a b =
    record { low_finite = and_l (finite lo) (finite hi) w; high_finite = and_r (finite lo) (finite hi) w; low = to_t a; high = to_t b }
