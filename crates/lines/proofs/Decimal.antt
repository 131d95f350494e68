-- Decimal digits by their last one, and the whole number toward zero by its magnitude below and above zero. Assumes nothing.
use mathlib.Core.Path.{◌≡◌, refl, sym, ap, subst, ◌∙◌}
use mathlib.Core.Bool.{true, false}
use mathlib.Core.List.{List, [], ◌∷◌, ◌++◌}
use Prim.Native.Nat.{ℕ, zero, suc, ◌/◌, ◌%◌, ◌^◌, ◌≤◌, ◌<◌, min}
use native.Mathlib.Nat.{div-add-mod', div-lt_iff_lt-mul, mod-lt, lt_of_not-le, pow-suc}
use native.Mathlib.Decide.{dec_lt}
use native.Mathlib.Omega.{arith}
use lib.ListN.{length, length-append}
use lib.IntN.{pos, neg_ℤ}
use lib.Ieee.{Float, nan, inf, fin, neg, to_signed, to_unsigned}
use borrow.Author.Tests.{lt-ltb, le-ltb}
use Rattle.lines.specs.Decimal.{ascii, digit, digits_in, decimal, integer}

-- ---- digits
short : (t n : ℕ) → n < 10 → digits_in t n ≡ digit n ∷ []
unfolding digits_in
short zero n h = refl
short (suc t) n h = rw (lt-ltb n 10 h)

long : (t n : ℕ) → 10 ≤ n → digits_in (suc t) n ≡ digits_in t (n / 10) ++ (digit (n % 10) ∷ [])
unfolding digits_in
long t n h = rw (le-ltb n 10 h)

pub tenth_less : (n : ℕ) → 10 ≤ n → n / 10 < n
tenth_less n h = omega (arith, div-add-mod' n 10)

pub digit_small : (n : ℕ) → n % 10 < 10
digit_small n = mod-lt n {m = 10} (omega arith)

-- more turns change nothing
enough_by : (s t n : ℕ) → Dec (n < 10) → (10 ≤ n → digits_in s (n / 10) ≡ digits_in t (n / 10)) → digits_in (suc s) n ≡ digits_in (suc t) n
enough_by s t n (yes h) rest = short (suc s) n h ∙ sym (short (suc t) n h)
enough_by s t n (no g) rest =
    let h : 10 ≤ n = omega (arith, lt_of_not-le g) in
    long s n h ∙ ap (λ (l : List ℕ). l ++ (digit (n % 10) ∷ [])) (rest h) ∙ sym (long t n h)

enough : (s t n : ℕ) → n ≤ s → n ≤ t → digits_in s n ≡ digits_in t n
enough zero t n p q = short zero n (omega arith) ∙ sym (short t n (omega arith))
enough (suc s) zero n p q = short (suc s) n (omega arith) ∙ sym (short zero n (omega arith))
enough (suc s) (suc t) n p q = enough_by s t n (dec_lt _ _) (λ h. enough s t (n / 10) (omega (arith, tenth_less n h)) (omega (arith, tenth_less n h)))

pub one_digit : (n : ℕ) → n < 10 → decimal n ≡ digit n ∷ []
unfolding decimal
one_digit n h = short n n h

pub last_digit : (n : ℕ) → 10 ≤ n → decimal n ≡ decimal (n / 10) ++ (digit (n % 10) ∷ [])
unfolding decimal
last_digit zero h = absurd (omega arith)
last_digit (suc k) h = long k (suc k) h ∙ ap (λ (l : List ℕ). l ++ (digit (suc k % 10) ∷ [])) (enough k (suc k / 10) (suc k / 10) (omega (arith, tenth_less (suc k) h)) (omega arith))

-- a number of k digits at most
digits_by : (k n : ℕ) → Dec (n < 10) → (10 ≤ n → length (decimal (n / 10)) ≤ k) → length (decimal n) ≤ suc k
digits_by k n (yes h) rest = rw (one_digit n h) (omega arith)
digits_by k n (no g) rest =
    let h : 10 ≤ n = omega (arith, lt_of_not-le g) in
    rw (last_digit n h, length-append) (omega (arith, rest h))

pub digits_most : (k n : ℕ) → n < 10 ^ suc k → length (decimal n) ≤ suc k
digits_most zero n h = rw (one_digit n h) (omega arith)
digits_most (suc k) n h = digits_by (suc k) n (dec_lt _ _) (λ g. digits_most k (n / 10) ((div-lt_iff_lt-mul {k = 10} (omega arith)).1 (subst (λ (p : ℕ). n < p) (pow-suc 10 (suc k)) h)))

-- ---- whole numbers below zero, and the others
minus_none : (k : ℕ) → k ≡ 0 → integer (neg_ℤ (pos k)) ≡ decimal 0
unfolding integer
minus_none zero e = refl
minus_none (suc k) e = absurd (omega arith)

minus_some : (k : ℕ) → (k ≡ 0 → ⊥) → integer (neg_ℤ (pos k)) ≡ ascii "-" ++ decimal k
unfolding integer
minus_some zero e = absurd (e refl)
minus_some (suc k) e = refl

capped : (q m n : ℕ) → n ≤ m → min (min q m) n ≡ min q n
capped q m n h = omega arith

-- the ends of an i64 and a u64
high : 9223372036854775807 ≤ 18446744073709551615
high = omega arith

low : 9223372036854775808 ≤ 18446744073709551615
low = omega arith

pub not_below : (x : Float) → min (to_unsigned 64 (neg x)) 9223372036854775808 ≡ 0 → integer (to_signed 63 x) ≡ decimal (min (to_unsigned 64 x) 9223372036854775807)
unfolding to_signed to_unsigned neg integer
not_below nan e = refl
not_below (inf true) e = absurd (omega arith)
not_below (inf false) e = refl
not_below (fin true m d) e = minus_none _ (sym (capped _ 18446744073709551615 _ low) ∙ e)
not_below (fin false m d) e = ap decimal (sym (capped _ _ _ high))

pub below : (x : Float) → (min (to_unsigned 64 (neg x)) 9223372036854775808 ≡ 0 → ⊥) → integer (to_signed 63 x) ≡ ascii "-" ++ decimal (min (to_unsigned 64 (neg x)) 9223372036854775808)
unfolding to_signed to_unsigned neg integer
below nan e = absurd (e refl)
below (inf true) e = refl
below (inf false) e = absurd (e refl)
below (fin true m d) e = minus_some _ (λ z. e (capped _ _ _ low ∙ z)) ∙ ap (λ (k : ℕ). ascii "-" ++ decimal k) (sym (capped _ _ _ low))
below (fin false m d) e = absurd (e refl)
