-- Whole numbers as floats: sums and differences of two that the format counts without a gap are exact before they are rounded, so they are `of_int` of the exact result.
-- Assumes nothing.
use Rattle.std.proofs.Common.{◌≡◌, ℕ, ◌+◌, ◌-◌, ◌*◌, ◌^◌, ◌<◌, ◌≤◌, Bool, true, false, cond, T, ltb, ℤ, pos, sym, refl, ap, ◌∙◌, true≢false, le_trans, mul-le-mul_right, zero-lt-suc, mul_assoc, mul_comm, add-mul, lt_of_mul-lt-mul_right, mul-lt-mul_of_pos_right, mul-pos, zero-mul, mul-one, not-le_of_lt, le_of_mul-le-mul_right, mul_left_comm, arith, ltb→lt}
use native.Mathlib.Nat.{mul-sub}
use lib.Ieee.{Float, nan, inf, fin, Format, prec, up, down, round, sum, add, sub, lt, le, of_int}
use lib.Ieee.Fits.{down_pos}
use lib.Ieee.Back.{round_whole}
use lib.Ieee.Scale.{finite, round_same}
use lib.Ieee.Positive.{den, den_pos}
use Rattle.ieee.specs.Value.{pos_part, neg_part}
use Rattle.ieee.specs.Interval.{In, plain}
use Rattle.ieee.specs.Whole.{Is}
use Rattle.ieee.proofs.Value.{val→le, val→lt, le→val, lt→val, value_finite, value_parts}

-- `n as f64` is n
pub of_int_is : (f : Format) (n : ℕ) → n ≤ 2 ^ prec f → Is (of_int f (pos n)) n
unfolding of_int
of_int_is f n h = round_whole f false n h

whole_eq : (m : ℕ) (u n d : ℕ) → m * u * 1 ≡ n * d → m * u ≡ n * d
whole_eq m u n d h = sym (mul-one (m * u)) ∙ h

module _ (f : Format) where
  -- a sum of whole numbers is rounded once
  pub add_is : (x y : Float) (m n : ℕ) → Is x m → Is y n → add f x y ≡ of_int f (pos (m + n))
  unfolding add of_int
  add_is nan y m n p q = absurd p
  add_is (inf s) y m n p q = absurd p
  add_is (fin true a e) y m n p q = absurd (true≢false p.0)
  add_is (fin false a e) nan m n p q = absurd q
  add_is (fin false a e) (inf t) m n p q = absurd q
  add_is (fin false a e) (fin true b d) m n p q = absurd (true≢false q.0)
  add_is (fin false a e) (fin false b d) m n p q =
      round_same f false (a * up e * down d + b * up d * down e) (down e * down d) (m + n) 1 (mul-pos (down_pos e) (down_pos d)) (zero-lt-suc 0)
      (whole_sum (a * up e) (b * up d) m n (down e) (down d) (whole_eq a (up e) m (down e) p.1) (whole_eq b (up d) n (down d) q.1))
    where
      whole_sum : (A B m n x y : ℕ) → A ≡ m * x → B ≡ n * y → (A * y + B * x) * 1 ≡ (m + n) * (x * y)
      whole_sum A B m n x y p q = mul-one (A * y + B * x) ∙ ap (λ (z : ℕ). z * y + B * x) p ∙ ap (λ (z : ℕ). m * x * y + z * x) q ∙ simp (add-mul, mul_assoc, mul_comm)

  sum_nonneg : (a b c : ℕ) → b ≤ a → sum f false a true b c ≡ round f false (a - b) c
  unfolding sum
  sum_nonneg a b c h = go (ltb a b) (ltb→lt a b)
    where
      go : (t : Bool) → (T t → a < b) → cond t (round f true (b - a) c) (round f false (a - b) c) ≡ round f false (a - b) c
      go true k = absurd (not-le_of_lt (k tt) h)
      go false k = refl

  whole_difference : (A B m n x y : ℕ) → A ≡ m * x → B ≡ n * y → n ≤ m → (B * x ≤ A * y) × ((A * y - B * x) * 1 ≡ (m - n) * (x * y))
  whole_difference A B m n x y p q h =
      let a : A * y ≡ (x * y) * m = ap (λ (z : ℕ). z * y) p ∙ simp (mul_assoc, mul_comm, mul_left_comm) in
      let b : B * x ≡ (x * y) * n = ap (λ (z : ℕ). z * x) q ∙ simp (mul_assoc, mul_comm, mul_left_comm) in
      let c : n * (x * y) ≤ m * (x * y) = mul-le-mul_right (x * y) h in (
        omega (arith, mul_comm n (x * y), mul_comm m (x * y)),
        mul-one (A * y - B * x) ∙ ap (λ (z : ℕ). z - B * x) a ∙ ap (λ (z : ℕ). x * y * m - z) b ∙ sym (mul-sub (x * y) m n) ∙ mul_comm (x * y) (m - n),
      )

  sub_is_sum : (a : ℕ) (e : ℤ) (b : ℕ) (d : ℤ) → sub f (fin false a e) (fin false b d) ≡ sum f false (a * up e * down d) true (b * up d * down e) (down e * down d)
  unfolding sub
  sub_is_sum a e b d = refl

  -- a difference that is not negative is rounded once
  pub sub_is : (x y : Float) (m n : ℕ) → Is x m → Is y n → n ≤ m → sub f x y ≡ of_int f (pos (m - n))
  unfolding of_int
  sub_is nan y m n p q h = absurd p
  sub_is (inf s) y m n p q h = absurd p
  sub_is (fin true a e) y m n p q h = absurd (true≢false p.0)
  sub_is (fin false a e) nan m n p q h = absurd q
  sub_is (fin false a e) (inf t) m n p q h = absurd q
  sub_is (fin false a e) (fin true b d) m n p q h = absurd (true≢false q.0)
  sub_is (fin false a e) (fin false b d) m n p q h =
      let k = whole_difference (a * up e) (b * up d) m n (down e) (down d) (whole_eq a (up e) m (down e) p.1) (whole_eq b (up d) n (down d) q.1) h in
      sub_is_sum a e b d
      ∙ sum_nonneg (a * up e * down d) (b * up d * down e) (down e * down d) k.0
      ∙ round_same f false (a * up e * down d - b * up d * down e) (down e * down d) (m - n) 1 (mul-pos (down_pos e) (down_pos d)) (zero-lt-suc 0) k.1

  -- of the floats that `as f64` gives
  pub add_whole : (m n : ℕ) → m ≤ 2 ^ prec f → n ≤ 2 ^ prec f → add f (of_int f (pos m)) (of_int f (pos n)) ≡ of_int f (pos (m + n))
  add_whole m n h k = add_is (of_int f (pos m)) (of_int f (pos n)) m n (of_int_is f m h) (of_int_is f n k)

  pub sub_whole : (m n : ℕ) → m ≤ 2 ^ prec f → n ≤ m → sub f (of_int f (pos m)) (of_int f (pos n)) ≡ of_int f (pos (m - n))
  sub_whole m n h k = sub_is (of_int f (pos m)) (of_int f (pos n)) m n (of_int_is f m h) (of_int_is f n (le_trans k h)) k

-- ---- the value and the order of whole numbers
pub is_finite : (x : Float) (n : ℕ) → Is x n → T (finite x)
is_finite x n p = value_finite x false n 1 p

pub is_pos_part : (x : Float) (n : ℕ) → Is x n → pos_part x ≡ n * den x
is_pos_part x n p = sym (mul-one (pos_part x)) ∙ (value_parts x false n 1 p).0

pub is_neg_part : (x : Float) (n : ℕ) → Is x n → neg_part x ≡ 0
is_neg_part x n p = sym (mul-one (neg_part x)) ∙ (value_parts x false n 1 p).1 ∙ zero-mul (den x)

-- floats that are m and n have the order of m and n
module _ (x y : Float) (m n : ℕ) (p : Is x m) (q : Is y n) where
  neg_sides : (neg_part y * den x ≡ 0) × (neg_part x * den y ≡ 0)
  neg_sides = (ap (λ (z : ℕ). z * den x) (is_neg_part y n q) ∙ zero-mul (den x), ap (λ (z : ℕ). z * den y) (is_neg_part x m p) ∙ zero-mul (den y))

  pos_sides : (pos_part x * den y ≡ m * (den x * den y)) × (pos_part y * den x ≡ n * (den x * den y))
  pos_sides = (ap (λ (z : ℕ). z * den y) (is_pos_part x m p) ∙ mul_assoc m (den x) (den y), ap (λ (z : ℕ). z * den x) (is_pos_part y n q) ∙ simp (mul_assoc, mul_comm))

  pub le_is : m ≤ n → T (le x y)
  le_is h = val→le x y (is_finite x m p) (is_finite y n q) (omega (arith, neg_sides, pos_sides, mul-le-mul_right (den x * den y) h))

  pub lt_is : m < n → T (lt x y)
  lt_is h = val→lt x y (is_finite x m p) (is_finite y n q) (omega (arith, neg_sides, pos_sides, mul-lt-mul_of_pos_right h (mul-pos (den_pos x) (den_pos y))))

  pub is_le : T (le x y) → m ≤ n
  is_le h = le_of_mul-le-mul_right (omega (arith, neg_sides, pos_sides, le→val x y (is_finite x m p) (is_finite y n q) h)) (mul-pos (den_pos x) (den_pos y))

  pub is_lt : T (lt x y) → m < n
  is_lt h = lt_of_mul-lt-mul_right (den x * den y) (omega (arith, neg_sides, pos_sides, lt→val x y (is_finite x m p) (is_finite y n q) h))

pub plain_is : (n : ℕ) → Is (plain n) n
plain_is n = (refl, simp mul-one)

-- bounds of a whole number
pub is_in : (x : Float) (n lo hi : ℕ) → Is x n → lo ≤ n → n ≤ hi → In (plain lo) x (plain hi)
is_in x n lo hi p h k = record { low_finite = tt; high_finite = tt; low = le_is (plain lo) x lo n (plain_is lo) p h; high = le_is x (plain hi) n hi p (plain_is hi) k }

-- `n as f64`
pub of_int_in_lem : (f : Format) (n hi : ℕ) → n ≤ hi → hi ≤ 2 ^ prec f → In (plain 0) (of_int f (pos n)) (plain hi)
of_int_in_lem f n hi h k = is_in (of_int f (pos n)) n 0 hi (of_int_is f n (le_trans h k)) (omega arith) h
