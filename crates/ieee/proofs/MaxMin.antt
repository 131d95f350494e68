-- Laws of max_of and min_of, the larger and the smaller of two by one comparison: the order of the result and its operands, bounds.
-- And bounds of Rust's `f64::clamp`. `le x x` says that x is no not-a-number. Assumes nothing.
use Rattle.std.proofs.Common.{◌≡◌, Bool, true, false, cond, not, ◌&&◌, T, ◌⊎◌, refl, inl, inr, ⊎_elim}
use lib.Ieee.{Float, Format, nan, inf, fin, fits, lt, le, eq}
use lib.Ieee.Fits.{and_l, and_r}
use lib.Ieee.Scale.{finite}
use Rattle.ieee.specs.MaxMin.{max_of, min_of}
use Rattle.ieee.specs.Interval.{In}
use Rattle.ieee.proofs.Order.{lt→le_any, nlt→le_any, nlt→le, le_refl, le_trans}
use Rattle.ieee.proofs.Interval.{in_finite, in_self}

-- ---- by the test b
chosen : (P : Float → Type 0) (x y : Float) (b : Bool) → (T b → P y) → (T (not b) → P x) → P (cond b y x)
chosen P x y true h k = h tt
chosen P x y false h k = k tt

-- ---- the one operand or the other
pub max_or : (x y : Float) → (max_of x y ≡ x) ⊎ (max_of x y ≡ y)
unfolding max_of
max_or x y = chosen (λ (z : Float). (z ≡ x) ⊎ (z ≡ y)) x y (lt x y) (λ t. inr refl) (λ t. inl refl)

pub min_or : (x y : Float) → (min_of x y ≡ x) ⊎ (min_of x y ≡ y)
unfolding min_of
min_or x y = chosen (λ (z : Float). (z ≡ x) ⊎ (z ≡ y)) x y (lt y x) (λ t. inr refl) (λ t. inl refl)

-- ---- the larger is no less than either, and the smaller no more
module _ (x y : Float) (p : T (le x x)) where
  -- of y nothing is asked
  pub max_ge_l : T (le x (max_of x y))
  unfolding max_of
  max_ge_l = chosen (λ (z : Float). T (le x z)) x y (lt x y) (λ t. lt→le_any x y t) (λ t. p)

  pub min_le_l : T (le (min_of x y) x)
  unfolding min_of
  min_le_l = chosen (λ (z : Float). T (le z x)) x y (lt y x) (λ t. lt→le_any y x t) (λ t. p)

  module _ (q : T (le y y)) where
    pub max_ge_r : T (le y (max_of x y))
    unfolding max_of
    max_ge_r = chosen (λ (z : Float). T (le y z)) x y (lt x y) (λ t. q) (λ t. nlt→le_any x y p q t)

    pub min_le_r : T (le (min_of x y) y)
    unfolding min_of
    min_le_r = chosen (λ (z : Float). T (le z y)) x y (lt y x) (λ t. q) (λ t. nlt→le_any y x q p t)

-- of two bounded floats
module _ {lo x hi lo' y hi' : Float} (i : In lo x hi) (j : In lo' y hi') where
  pub max_l : T (le x (max_of x y))
  max_l = max_ge_l x y (in_self i)

  pub max_r : T (le y (max_of x y))
  max_r = max_ge_r x y (in_self i) (in_self j)

  pub min_l : T (le (min_of x y) x)
  min_l = min_le_l x y (in_self i)

  pub min_r : T (le (min_of x y) y)
  min_r = min_le_r x y (in_self i) (in_self j)

-- ---- bounds
finite_max : (x y hi : Float) → T (finite y) → T (finite hi) → T (le x hi) → T (not (lt x y)) → T (finite x)
unfolding le lt eq
finite_max nan y hi q r a b = absurd a
finite_max (inf true) nan hi q r a b = absurd q
finite_max (inf true) (inf t) hi q r a b = absurd q
finite_max (inf true) (fin t n d) hi q r a b = absurd b
finite_max (inf false) y nan q r a b = absurd r
finite_max (inf false) y (inf t) q r a b = absurd r
finite_max (inf false) y (fin t n d) q r a b = absurd a
finite_max (fin s m e) y hi q r a b = tt

finite_min : (x y lo : Float) → T (finite y) → T (finite lo) → T (le lo x) → T (not (lt y x)) → T (finite x)
unfolding le lt eq
finite_min nan y nan q r a b = absurd r
finite_min nan y (inf t) q r a b = absurd r
finite_min nan y (fin t n d) q r a b = absurd a
finite_min (inf false) nan lo q r a b = absurd q
finite_min (inf false) (inf t) lo q r a b = absurd q
finite_min (inf false) (fin t n d) lo q r a b = absurd b
finite_min (inf true) y nan q r a b = absurd r
finite_min (inf true) y (inf t) q r a b = absurd r
finite_min (inf true) y (fin t n d) q r a b = absurd a
finite_min (fin s m e) y lo q r a b = tt

-- x may be -infinity, as a clock's time is before its first step
pub max_in : (x : Float) {lo y hi : Float} → T (le x hi) → In lo y hi → In lo (max_of x y) hi
unfolding max_of
max_in x {lo} {y} {hi} h j =
    chosen (λ (z : Float). In lo z hi) x y (lt x y) (λ t. j)
    (λ t.
    let p = finite_max x y hi (in_finite j) j.high_finite h t in
    record { low_finite = j.low_finite; high_finite = j.high_finite; low = le_trans lo y x j.low_finite (in_finite j) p j.low (nlt→le x y p (in_finite j) t); high = h })

-- x may be infinity
pub min_in : (x : Float) {lo y hi : Float} → T (le lo x) → In lo y hi → In lo (min_of x y) hi
unfolding min_of
min_in x {lo} {y} {hi} h j =
    chosen (λ (z : Float). In lo z hi) x y (lt y x) (λ t. j)
    (λ t.
    let p = finite_min x y lo (in_finite j) j.low_finite h t in
    record { low_finite = j.low_finite; high_finite = j.high_finite; low = h; high = le_trans x y hi p (in_finite j) j.high_finite (nlt→le y x (in_finite j) p t) j.high })

-- Rust's `x.clamp(lo, hi)`: x may be infinite
pub clamp_in : (x lo hi : Float) → T (finite lo && finite hi && le lo hi) → T (le x x) → In lo (cond (lt x lo) lo (cond (lt hi x) hi x)) hi
clamp_in x lo hi w s = go (lt x lo) (lt hi x) (λ t. t) (λ t. t)
  where
    p : T (finite lo)
    p = and_l (finite lo) (finite hi) (and_l (finite lo && finite hi) (le lo hi) w)

    q : T (finite hi)
    q = and_r (finite lo) (finite hi) (and_l (finite lo && finite hi) (le lo hi) w)

    go : (a b : Bool) → (T (not a) → T (not (lt x lo))) → (T (not b) → T (not (lt hi x))) → In lo (cond a lo (cond b hi x)) hi
    go true b h k = record { low_finite = p; high_finite = q; low = le_refl lo p; high = and_r (finite lo && finite hi) (le lo hi) w }
    go false true h k = record { low_finite = p; high_finite = q; low = and_r (finite lo && finite hi) (le lo hi) w; high = le_refl hi q }
    go false false h k = record { low_finite = p; high_finite = q; low = nlt→le_any x lo s (le_refl lo p) (h tt); high = nlt→le_any hi x (le_refl hi q) s (k tt) }

-- the format holds the larger of two that it holds
pub max_fits : (f : Format) (x y : Float) → T (fits f x) → T (fits f y) → T (fits f (max_of x y))
max_fits f x y p q = ⊎_elim (λ (e : max_of x y ≡ x). rw e p) (λ (e : max_of x y ≡ y). rw e q) (max_or x y)

-- a bound below the first stays below
pub max_keeps : {lo x hi lo' y : Float} → In lo x hi → In lo' y hi → In lo (max_of x y) hi
max_keeps {lo} {x} {hi} {lo'} {y} i j =
    let m = max_in x i.high j in
    record {
      low_finite = i.low_finite;
      high_finite = i.high_finite;
      low = le_trans lo x (max_of x y) i.low_finite (in_finite i) (in_finite m) i.low (max_l i j);
      high = m.high;
    }
