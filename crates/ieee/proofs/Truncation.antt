-- A float truncated toward zero to an unsigned integer, `to_unsigned w`: of a bounded float, of a whole number, and of the larger of two.
-- At the ends of the range: `ToU64`. Assumes nothing.
use Rattle.std.proofs.Common.{◌≡◌, ℕ, suc, ◌+◌, ◌-◌, ◌*◌, ◌/◌, ◌^◌, ◌<◌, ◌≤◌, min, max, Bool, true, false, T, sym, refl, ap, ◌∙◌, true≢false, zero-le, suc-mul, div-lt_iff_lt-mul, mul-one, mul-div_cancel, arith}
use lib.Ieee.{Float, nan, inf, fin, up, down, to_unsigned, lt, le, eq}
use lib.Ieee.Fits.{down_pos}
use lib.Ieee.Nearest.{div_mono}
use lib.Ieee.Scale.{finite}
use lib.Ieee.Positive.{den}
use Rattle.ieee.specs.Value.{pos_part, neg_part}
use Rattle.ieee.specs.Interval.{In, plain}
use Rattle.ieee.specs.Whole.{Is}
use Rattle.ieee.specs.MaxMin.{max_of, max_num}
use Rattle.ieee.proofs.Value.{le→val, high→parts, parts→high}
use Rattle.ieee.proofs.Order.{to_t, to_not, le_refl, le_trans, lt→le_any, nlt→le_any}
use Rattle.ieee.proofs.Interval.{in_finite}
use Rattle.ieee.proofs.MaxNum.{max_nan_l, max_nan_r, max_is}

min_le : (q t n : ℕ) → q ≤ n → min q t ≤ n
min_le q t n h = omega arith

div_le : (a d n : ℕ) → 0 < d → a ≤ n * d + 0 → a / d ≤ n
div_le a d n D h = le_of_lt_suc ((div-lt_iff_lt-mul D).1 (omega (arith, suc-mul n d)))
  where
    le_of_lt_suc : {a b : ℕ} → a < suc b → a ≤ b
    le_of_lt_suc h = omega arith

truncation_at : (w n : ℕ) (x : Float) → T (finite x) → pos_part x ≤ n * den x + neg_part x → to_unsigned w x ≤ n
unfolding to_unsigned
truncation_at w n nan p h = absurd p
truncation_at w n (inf s) p h = absurd p
truncation_at w n (fin true m e) p h = zero-le
truncation_at w n (fin false m e) p h = min_le (m * up e / down e) (2 ^ w - 1) n (div_le (m * up e) (down e) n (down_pos e) h)

-- the truncation of a float that is n at most is n at most
pub truncation_le : (w n : ℕ) {lo x : Float} → In lo x (plain n) → to_unsigned w x ≤ n
truncation_le w n {lo} {x} i = truncation_at w n x (in_finite i) (high→parts n x (in_finite i) i.high)

min_eq : (q t n : ℕ) → q ≡ n → n < t → min q (t - 1) ≡ n
min_eq q t n e h = omega arith

-- the truncation of a whole number is that number
pub truncation_is : (w n : ℕ) (x : Float) → Is x n → n < 2 ^ w → to_unsigned w x ≡ n
unfolding to_unsigned
truncation_is w n nan p h = absurd p
truncation_is w n (inf s) p h = absurd p
truncation_is w n (fin true m e) p h = absurd (true≢false p.0)
truncation_is w n (fin false m e) p h =
    min_eq (m * up e / down e) (2 ^ w) n (ap (λ (z : ℕ). z / down e) (sym (mul-one (m * up e)) ∙ p.1) ∙ mul-div_cancel n (down_pos e)) h

-- ---- in order, and of the larger of two
min_mono : (a b t : ℕ) → a ≤ b → min a t ≤ min b t
min_mono a b t h = omega arith

min_right : (a t : ℕ) → min a t ≤ t
min_right a t = omega arith

not_negative : (a b c d : ℕ) → a * d + 0 * b ≤ c * b + 0 * d → a * d ≤ c * b
not_negative a b c d h = omega arith

pub truncation_mono : (w : ℕ) (x y : Float) → T (le x y) → to_unsigned w x ≤ to_unsigned w y
unfolding to_unsigned le lt eq
truncation_mono w nan y h = absurd h
truncation_mono w (inf true) y h = zero-le
truncation_mono w (inf false) nan h = absurd h
truncation_mono w (inf false) (inf true) h = absurd h
truncation_mono w (inf false) (inf false) h = omega arith
truncation_mono w (inf false) (fin t n d) h = absurd h
truncation_mono w (fin true m e) y h = zero-le
truncation_mono w (fin false m e) nan h = absurd h
truncation_mono w (fin false m e) (inf true) h = absurd h
truncation_mono w (fin false m e) (inf false) h = min_right (m * up e / down e) (2 ^ w - 1)
truncation_mono w (fin false m e) (fin true n d) h =
    let x = fin false m e in
    let y = fin true n d in
    truncation_at w 0 x tt (high→parts 0 x tt (le_trans x y (plain 0) tt tt tt h (parts→high 0 y tt zero-le)))
truncation_mono w (fin false m e) (fin false n d) h =
    min_mono (m * up e / down e) (n * up d / down d) (2 ^ w - 1)
    (div_mono (m * up e) (down e) (n * up d) (down d) (down_pos e) (down_pos d)
    (not_negative (m * up e) (down e) (n * up d) (down d) (le→val (fin false m e) (fin false n d) tt tt h)))

-- a float is a not-a-number, or `le x x`
by_nan : (P : Float → Type 0) → P nan → ((x : Float) → T (le x x) → P x) → (x : Float) → P x
unfolding le lt eq
by_nan P p f nan = p
by_nan P p f (inf true) = f (inf true) tt
by_nan P p f (inf false) = f (inf false) tt
by_nan P p f (fin s m e) = f (fin s m e) (le_refl (fin s m e) tt)

larger_r : (a b : ℕ) → a ≤ b → b ≡ max a b
larger_r a b h = omega arith

larger_l : (a b : ℕ) → b ≤ a → a ≡ max a b
larger_l a b h = omega arith

max_by : (w : ℕ) (x y : Float) → T (le x x) → T (le y y) → (b : Bool) → lt x y ≡ b → to_unsigned w (max_num x y) ≡ max (to_unsigned w x) (to_unsigned w y)
unfolding max_of
max_by w x y p q true e = rw (max_is x y p, e) (larger_r (to_unsigned w x) (to_unsigned w y) (truncation_mono w x y (lt→le_any x y (to_t e))))
max_by w x y p q false e = rw (max_is x y p, e) (larger_l (to_unsigned w x) (to_unsigned w y) (truncation_mono w y x (nlt→le_any x y p q (to_not e))))

-- the truncation of the larger of two is the larger of their truncations; a not-a-number counts as 0
pub truncation_max : (w : ℕ) (x y : Float) → to_unsigned w (max_num x y) ≡ max (to_unsigned w x) (to_unsigned w y)
unfolding to_unsigned
truncation_max w x y =
    by_nan (λ (u : Float). to_unsigned w (max_num u y) ≡ max (to_unsigned w u) (to_unsigned w y))
    (rw (max_nan_l y) (larger_r 0 (to_unsigned w y) zero-le))
    (λ u p. by_nan (λ (v : Float). to_unsigned w (max_num u v) ≡ max (to_unsigned w u) (to_unsigned w v))
    (rw (max_nan_r u) (larger_l (to_unsigned w u) 0 zero-le))
    (λ v q. max_by w u v p q (lt u v) refl) y) x
