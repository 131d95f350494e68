-- Rust's `f64::max` is associative, over every float, and its result is one of the two.
use Rattle.std.proofs.Common.{◌≡◌, ℕ, Bool, true, false, cond, T, ℤ, sym, refl, ◌∙◌, arith}
use lib.Ieee.{Float, nan, inf, fin, lt, ne}
use lib.Ieee.Compare.{differs_from_itself}
use Rattle.ieee.specs.MaxMin.{max_num}
use Rattle.ieee.proofs.Value.{lt→val}
use Rattle.ieee.proofs.MaxNum.{lt_nan, max_nan_l, max_nan_r}
use Rattle.ieee.proofs.Order.{to_t, to_not, truth, lt→le, nlt→le, le_trans, lt_of_lt_of_le}

true_false : {A : Type 0} → true ≡ false → A
true_false h = absurd (let z : ◌≡◌ {A = ℕ} 0 1 = cc in omega arith)

is_false : (b : Bool) → (T b → ⊥) → b ≡ false
is_false true f = absurd (f tt)
is_false false f = refl

-- ---- `<` is transitive, and so is its failing where no float is a not-a-number

lt_top : (b : Float) → lt (inf false) b ≡ false
unfolding lt
lt_top nan = refl
lt_top (inf s) = refl
lt_top (fin s m e) = refl

lt_bottom : (b : Float) → lt b (inf true) ≡ false
unfolding lt
lt_bottom nan = refl
lt_bottom (inf true) = refl
lt_bottom (inf false) = refl
lt_bottom (fin s m e) = refl

lt_trans : (a b c : Float) → lt a b ≡ true → lt b c ≡ true → lt a c ≡ true
unfolding lt
lt_trans nan b c h k = h
lt_trans (inf false) b c h k = true_false (sym h ∙ lt_top b)
lt_trans (inf true) b nan h k = true_false (sym k ∙ lt_nan b)
lt_trans (inf true) b (inf true) h k = true_false (sym k ∙ lt_bottom b)
lt_trans (inf true) b (inf false) h k = refl
lt_trans (inf true) b (fin t n d) h k = refl
lt_trans (fin s m e) nan c h k = true_false (sym h)
lt_trans (fin s m e) (inf true) c h k = true_false (sym h)
lt_trans (fin s m e) (inf false) c h k = true_false (sym k ∙ lt_top c)
lt_trans (fin s m e) (fin t n d) nan h k = true_false (sym k)
lt_trans (fin s m e) (fin t n d) (inf true) h k = true_false (sym k)
lt_trans (fin s m e) (fin t n d) (inf false) h k = refl
lt_trans (fin s m e) (fin t n d) (fin u o f) h k =
    let a = fin s m e in
    let b = fin t n d in
    let c = fin u o f in
    truth (lt a c) (lt_of_lt_of_le a b c tt tt tt (to_t h) (lt→le b c tt tt (to_t k)))

-- a number: not a not-a-number
abbrev Number : Float → Type 0
Number x = x ≡ nan → ⊥

nlt_trans : (a b c : Float) → Number a → Number b → Number c → lt a b ≡ false → lt b c ≡ false → lt a c ≡ false
unfolding lt
nlt_trans nan b c x y z h k = refl
nlt_trans (inf false) b c x y z h k = lt_top c
nlt_trans (inf true) nan c x y z h k = absurd (y refl)
nlt_trans (inf true) (inf true) c x y z h k = k
nlt_trans (inf true) (inf false) c x y z h k = true_false h
nlt_trans (inf true) (fin t n d) c x y z h k = true_false h
nlt_trans (fin s m e) b nan x y z h k = refl
nlt_trans (fin s m e) b (inf true) x y z h k = refl
nlt_trans (fin s m e) nan (inf false) x y z h k = absurd (y refl)
nlt_trans (fin s m e) (inf true) (inf false) x y z h k = true_false k
nlt_trans (fin s m e) (inf false) (inf false) x y z h k = true_false h
nlt_trans (fin s m e) (fin t n d) (inf false) x y z h k = true_false k
nlt_trans (fin s m e) nan (fin u o f) x y z h k = absurd (y refl)
nlt_trans (fin s m e) (inf true) (fin u o f) x y z h k = true_false k
nlt_trans (fin s m e) (inf false) (fin u o f) x y z h k = true_false h
nlt_trans (fin s m e) (fin t n d) (fin u o f) x y z h k =
    let a = fin s m e in
    let b = fin t n d in
    let c = fin u o f in
    let back = le_trans c b a tt tt tt (nlt→le b c tt tt (to_not k)) (nlt→le a b tt tt (to_not h)) in
    is_false (lt a c) (λ (r : T (lt a c)). let w = lt→val a a tt tt (lt_of_lt_of_le a c a tt tt tt r back) in omega arith)

-- ---- the larger of two

number_by : (x : Float) (b : Bool) → ne x x ≡ b → Number x → ne x x ≡ false
number_by x true e n = absurd (n (differs_from_itself x (to_t e)))
number_by x false e n = e

of_number : (x y : Float) → Number x → max_num x y ≡ cond (lt x y) y x
unfolding max_num
of_number x y n = rw (number_by x (ne x x) refl n)

numbers_by : (a b c : Float) → Number a → Number b → Number c → (p q : Bool) → lt a b ≡ p → lt b c ≡ q → max_num (max_num a b) c ≡ max_num a (max_num b c)
numbers_by a b c x y z true true e f = simp (of_number a b x, of_number b c y, e, f, of_number a c x, lt_trans a b c e f)
numbers_by a b c x y z true false e f = simp (of_number a b x, of_number b c y, e, f)
numbers_by a b c x y z false true e f = simp (of_number a b x, of_number b c y, e, f)
numbers_by a b c x y z false false e f = simp (of_number a b x, of_number b c y, e, f, of_number a c x, nlt_trans a b c x y z e f)

-- what holds of both holds of the larger
pub max_holds : (P : Float → Type 0) (a b : Float) → P a → P b → P (max_num a b)
unfolding max_num
max_holds P a b p q = chosen (lt a b) (ne a a)
  where
    chosen : (s t : Bool) → P (cond s b (cond t b a))
    chosen true t = q
    chosen false true = q
    chosen false false = p

numbers : (a b c : Float) → Number a → Number b → Number c → max_num (max_num a b) c ≡ max_num a (max_num b c)
numbers a b c x y z = numbers_by a b c x y z (lt a b) (lt b c) refl refl

is_number : (s : Bool) (m : ℕ) (e : ℤ) → Number (fin s m e)
is_number s m e h = let z : ◌≡◌ {A = ℕ} 0 1 = cc in omega arith

is_number_inf : (s : Bool) → Number (inf s)
is_number_inf s h = let z : ◌≡◌ {A = ℕ} 0 1 = cc in omega arith

-- a float is a not-a-number or a number
by_nan : (P : Float → Type 0) → P nan → ((x : Float) → Number x → P x) → (x : Float) → P x
by_nan P p f nan = p
by_nan P p f (inf s) = f (inf s) (is_number_inf s)
by_nan P p f (fin s m e) = f (fin s m e) (is_number s m e)

pub max_assoc : (a b c : Float) → max_num (max_num a b) c ≡ max_num a (max_num b c)
max_assoc a b c =
    by_nan (λ (x : Float). max_num (max_num x b) c ≡ max_num x (max_num b c)) (simp max_nan_l)
    (λ x nx. by_nan (λ (y : Float). max_num (max_num x y) c ≡ max_num x (max_num y c)) (simp (max_nan_l, max_nan_r))
    (λ y ny. by_nan (λ (z : Float). max_num (max_num x y) z ≡ max_num x (max_num y z)) (rw (max_nan_r y, max_nan_r (max_num x y)))
    (λ z nz. numbers x y z nx ny nz) c) b) a
