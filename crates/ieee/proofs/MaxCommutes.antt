-- Rust's `f64::max` of two values of a format that are above zero does not turn on their order. (Of zeros of both signs the first is taken.)
-- Assumes nothing.
use Rattle.std.proofs.Common.{◌≡◌, ℕ, ◌+◌, ◌-◌, ◌*◌, ◌/◌, ◌^◌, ◌≤◌, Bool, true, false, cond, T, ℤ, sym, refl, ap, ◌∙◌, true≢false, mul_right_comm, arith}
use lib.Ieee.{Float, nan, inf, fin, Format, prec, low, up, down, size, hid, fits, to_bits, of_bits, lt, le, eq}
use lib.Ieee.Fits.{down_pos}
use lib.Ieee.Bits.{of_bits-to_bits}
use lib.Ieee.Nearest.{div_same}
use lib.Ieee.Positive.{above}
use Rattle.ieee.specs.MaxMin.{max_of, max_num}
use Rattle.ieee.proofs.Value.{le→val}
use Rattle.ieee.proofs.Order.{to_t, to_not, falsity, le_refl, nlt→le, le→nlt, lt→le_any}
use Rattle.ieee.proofs.MaxNum.{max_is}

-- the bit pattern goes by the value
same_bits : (f : Format) (m n : ℕ) (e d : ℤ) → m * up e * down d ≡ n * up d * down e → to_bits f (fin false m e) ≡ to_bits f (fin false n d)
unfolding to_bits
same_bits f m n e d h =
    let k : m * up e * 2 ^ low f * down d ≡ n * up d * 2 ^ low f * down e =
    mul_right_comm (m * up e) (2 ^ low f) (down d) ∙ ap (λ (z : ℕ). z * 2 ^ low f) h ∙ mul_right_comm (n * up d) (down e) (2 ^ low f) in
    ap (λ (z : ℕ). 0 + (size z - prec f) * hid f + z / 2 ^ (size z - prec f)) (div_same (m * up e * 2 ^ low f) (down e) (n * up d * 2 ^ low f) (down d) (down_pos e) (down_pos d) k)

-- one value is written in one way
same_value : (f : Format) (m n : ℕ) (e d : ℤ) → T (fits f (fin false m e)) → T (fits f (fin false n d)) → m * up e * down d ≡ n * up d * down e → fin false m e ≡ fin false n d
same_value f m n e d p q h = sym (of_bits-to_bits f (fin false m e) p) ∙ ap (of_bits f) (same_bits f m n e d h) ∙ of_bits-to_bits f (fin false n d) q

between : (a b c d : ℕ) → a * d + 0 * b ≤ c * b + 0 * d → c * b + 0 * d ≤ a * d + 0 * b → a * d ≡ c * b
between a b c d h k = omega arith

-- above zero, neither below the other: one and the same
neither : (f : Format) (x y : Float) → T (fits f x) → T (fits f y) → T (above x) → T (above y) → lt x y ≡ false → lt y x ≡ false → x ≡ y
unfolding lt
neither f nan y p q a b h k = absurd a
neither f (inf true) y p q a b h k = absurd a
neither f (fin true m e) y p q a b h k = absurd a
neither f (inf false) nan p q a b h k = absurd b
neither f (inf false) (inf true) p q a b h k = absurd b
neither f (inf false) (inf false) p q a b h k = refl
neither f (inf false) (fin true n d) p q a b h k = absurd b
neither f (inf false) (fin false n d) p q a b h k = absurd (to_not k)
neither f (fin false m e) nan p q a b h k = absurd b
neither f (fin false m e) (inf true) p q a b h k = absurd b
neither f (fin false m e) (inf false) p q a b h k = absurd (to_not h)
neither f (fin false m e) (fin true n d) p q a b h k = absurd b
neither f (fin false m e) (fin false n d) p q a b h k =
    let x = fin false m e in
    let y = fin false n d in
    same_value f m n e d p q
    (between (m * up e) (down e) (n * up d) (down d) (le→val x y tt tt (nlt→le y x tt tt (to_not k))) (le→val y x tt tt (nlt→le x y tt tt (to_not h))))

above_number : (x : Float) → T (above x) → T (le x x)
unfolding le lt eq
above_number nan a = absurd a
above_number (inf true) a = absurd a
above_number (inf false) a = tt
above_number (fin s m e) a = le_refl (fin s m e) tt

-- where x < y, not y < x
lt_not_back : (x y : Float) → lt x y ≡ true → lt y x ≡ false
lt_not_back x y h = falsity (lt y x) (le→nlt y x (lt→le_any x y (to_t h)))

pub max_comm : (f : Format) (x y : Float) → T (fits f x) → T (fits f y) → T (above x) → T (above y) → max_num x y ≡ max_num y x
unfolding max_of
max_comm f x y p q a b = rw (max_is x y (above_number x a), max_is y x (above_number y b)) (by_tests (lt x y) (lt y x) refl refl)
  where
    by_tests : (s t : Bool) → lt x y ≡ s → lt y x ≡ t → cond s y x ≡ cond t x y
    by_tests true true h k = absurd (true≢false (sym k ∙ lt_not_back x y h))
    by_tests true false h k = refl
    by_tests false true h k = refl
    by_tests false false h k = neither f x y p q a b h k
