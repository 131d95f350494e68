-- What each operation rounds: its exact result, as a fraction with a sign. Assumes nothing.
use Rattle.std.proofs.Common.{◌≡◌, ℕ, ◌+◌, ◌-◌, ◌*◌, ◌<◌, ◌≤◌, Bool, true, false, cond, not, T, eqb, ltb, refl, ap, ◌∙◌, subst, lt_irrefl, mul-zero, zero-mul, arith, eqb→eq, ltb→lt, nltb→le}
use lib.Ieee.{Float, nan, inf, fin, Format, up, down, unlike, lt, le, neg, round, sum, add, sub, mul, div}
use lib.Ieee.Scale.{finite}
use lib.Ieee.Positive.{den}
use Rattle.ieee.specs.Value.{part, pos_part, neg_part}
use Rattle.ieee.specs.Interval.{zero_float}
use Rattle.ieee.specs.Rounding.{Rounds, nonneg, nonpos}
use Rattle.ieee.proofs.Value.{part_mul, both_finite, le→val, lt→val}
use Rattle.ieee.proofs.Order.{neg_finite}

-- ---- the sum
sum_rounds : (f : Format) (s : Bool) (a : ℕ) (t : Bool) (b c : ℕ) → Rounds f (sum f s a t b c) (part s a + part t b) (part (not s) a + part (not t) b) c
unfolding sum
sum_rounds f false a false b c = nonneg (a + b) (omega arith) refl
sum_rounds f true a true b c = nonpos (a + b) (omega arith) refl
sum_rounds f false a true b c = go (ltb a b) (ltb→lt a b) (nltb→le a b)
  where
    go : (x : Bool) → (T x → a < b) → (T (not x) → b ≤ a) → Rounds f (cond x (round f true (b - a) c) (round f false (a - b) c)) (a + 0) (0 + b) c
    go true h k = let l = h tt in nonpos (b - a) (omega arith) refl
    go false h k = let l = k tt in nonneg (a - b) (omega arith) refl
sum_rounds f true a false b c = go (ltb a b) (ltb b a) (ltb→lt a b) (nltb→le a b) (ltb→lt b a) (nltb→le b a)
  where
    go : (x y : Bool) → (T x → a < b) → (T (not x) → b ≤ a) → (T y → b < a) → (T (not y) → a ≤ b) → Rounds f (cond x (round f false (b - a) c) (round f y (a - b) c)) (0 + b) (a + 0) c
    go true y h k g j = let l = h tt in nonneg (b - a) (omega arith) refl
    go false true h k g j = let l = k tt in nonpos (a - b) (omega arith) refl
    go false false h k g j = let l = k tt in let r = j tt in nonneg (a - b) (omega arith) refl

pub add_rounds : (f : Format) (x y : Float) → T (finite x) → T (finite y) → Rounds f (add f x y) (pos_part x * den y + pos_part y * den x) (neg_part x * den y + neg_part y * den x) (den x * den y)
unfolding add
add_rounds f = both_finite (λ (x y : Float). Rounds f (add f x y) (pos_part x * den y + pos_part y * den x) (neg_part x * den y + neg_part y * den x) (den x * den y))
    (λ s m e t n d. simp part_mul (sum_rounds f s (m * up e * down d) t (n * up d * down e) (down e * down d)))

-- ---- the difference
part_not : (b : Bool) (a : ℕ) → part (not (not b)) a ≡ part b a
part_not true a = refl
part_not false a = refl

neg_pos_part : (y : Float) → pos_part (neg y) ≡ neg_part y
unfolding neg
neg_pos_part nan = refl
neg_pos_part (inf s) = refl
neg_pos_part (fin s m e) = refl

neg_neg_part : (y : Float) → neg_part (neg y) ≡ pos_part y
unfolding neg
neg_neg_part nan = refl
neg_neg_part (inf s) = refl
neg_neg_part (fin s m e) = part_not s (m * up e)

neg_den : (y : Float) → den (neg y) ≡ den y
unfolding neg
neg_den nan = refl
neg_den (inf s) = refl
neg_den (fin s m e) = refl

pub sub_rounds : (f : Format) (x y : Float) → T (finite x) → T (finite y) → Rounds f (sub f x y) (pos_part x * den y + neg_part y * den x) (neg_part x * den y + pos_part y * den x) (den x * den y)
unfolding sub
sub_rounds f x y p q = rw (← neg_pos_part y, ← neg_neg_part y, ← neg_den y) (add_rounds f x (neg y) p (neg_finite y q))

-- ---- the product
product_rounds : (f : Format) (s t : Bool) (a b c : ℕ) → Rounds f (round f (unlike s t) (a * b) c) (part s a * part t b + part (not s) a * part (not t) b) (part s a * part (not t) b + part (not s) a * part t b) c
product_rounds f false false a b c = nonneg (a * b) (omega (arith, mul-zero a, zero-mul b)) refl
product_rounds f false true a b c = nonpos (a * b) (omega (arith, mul-zero a, zero-mul b)) refl
product_rounds f true false a b c = nonpos (a * b) (omega (arith, mul-zero a, zero-mul b)) refl
product_rounds f true true a b c = nonneg (a * b) (omega (arith, mul-zero a, zero-mul b)) refl

pub mul_rounds : (f : Format) (x y : Float) → T (finite x) → T (finite y) → Rounds f (mul f x y) (pos_part x * pos_part y + neg_part x * neg_part y) (pos_part x * neg_part y + neg_part x * pos_part y) (den x * den y)
unfolding mul
mul_rounds f = both_finite (λ (x y : Float). Rounds f (mul f x y) (pos_part x * pos_part y + neg_part x * neg_part y) (pos_part x * neg_part y + neg_part x * pos_part y) (den x * den y))
    (λ s m e t n d. product_rounds f s t (m * up e) (n * up d) (down e * down d))

-- ---- the quotient, by a divisor above zero
quotient_rounds : (f : Format) (s : Bool) (a b c : ℕ) → Rounds f (round f (unlike s false) (a * b) c) (part s a * b) (part (not s) a * b) c
quotient_rounds f false a b c = nonneg (a * b) (omega arith) refl
quotient_rounds f true a b c = nonpos (a * b) (omega arith) refl

pub div_rounds : (f : Format) (x y : Float) → T (finite x) → T (finite y) → 0 < pos_part y → Rounds f (div f x y) (pos_part x * den y) (neg_part x * den y) (pos_part y * den x)
unfolding div
div_rounds f nan y p q h = absurd p
div_rounds f (inf s) y p q h = absurd p
div_rounds f (fin s m e) nan p q h = absurd q
div_rounds f (fin s m e) (inf t) p q h = absurd q
div_rounds f (fin s m e) (fin true n d) p q h = absurd (lt_irrefl 0 h)
div_rounds f (fin s m e) (fin false n d) p q h = go (eqb n 0) (eqb→eq n 0)
  where
    go : (b : Bool) → (T b → n ≡ 0) → Rounds f (cond b (cond (eqb m 0) nan (inf (unlike s false))) (round f (unlike s false) (m * up e * down d) (n * up d * down e))) (part s (m * up e) * down d) (part (not s) (m * up e) * down d) (n * up d * down e)
    go true z = absurd (lt_irrefl 0 (subst (λ (k : ℕ). 0 < k) (ap (λ (k : ℕ). k * up d) (z tt) ∙ zero-mul (up d)) h))
    go false z = quotient_rounds f s (m * up e) (down d) (n * up d * down e)

-- ---- the parts of what is at least, above, or at most zero
one_part : (x : Float) → (neg_part x ≤ pos_part x → neg_part x ≡ 0) × (pos_part x ≤ neg_part x → pos_part x ≡ 0)
one_part nan = ((λ h. refl), (λ h. refl))
one_part (inf s) = ((λ h. refl), (λ h. refl))
one_part (fin false m e) = ((λ h. refl), (λ h. omega arith))
one_part (fin true m e) = ((λ h. omega arith), (λ h. refl))

pub neg_part_zero : (x : Float) → T (finite x) → T (le zero_float x) → neg_part x ≡ 0
neg_part_zero x p h = (one_part x).0 (omega (arith, le→val zero_float x tt p h))

pub pos_part_zero : (x : Float) → T (finite x) → T (le x zero_float) → pos_part x ≡ 0
pos_part_zero x p h = (one_part x).1 (omega (arith, le→val x zero_float p tt h))

pub pos_part_pos : (x : Float) → T (finite x) → T (lt zero_float x) → 0 < pos_part x
pos_part_pos x p h = omega (arith, lt→val zero_float x tt p h)
