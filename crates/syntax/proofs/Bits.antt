-- Laws of bit strings, over every width and offset: a field in two parts, its bound, a field within one byte and across bytes,
-- and strings that agree. Assumes nothing.
use Prim.Native.Nat.{ℕ, zero, suc, ◌+◌, ◌-◌, ◌*◌, ◌/◌, ◌%◌, ◌^◌, ◌≤◌, ◌<◌}
use mathlib.Core.Path.{◌≡◌, refl, sym, ap, ◌∙◌}
use mathlib.Core.List.{List}
use native.Mathlib.Nat.{add-zero, add-suc, add_assoc, pow-suc, mod-lt, zero-add, div-one, mod-one}
use native.Mathlib.Numerals.{add-one}
use native.Mathlib.Omega.{arith}
use lib.ListN.{get_or, take, drop}
use lib.Pow.{mod-pow-add, shr-shr}
use lib.Seq.{get_or-take, get_or-drop}
use Rattle.syntax.specs.Bits.{bit, bits}

-- a field of v + w bits is its first v bits and its last w
pub split : (s : List ℕ) (o v w : ℕ) → bits s o (v + w) ≡ bits s o v * 2 ^ w + bits s (o + v) w
unfolding bits
split s o v zero = rw (add-zero v) (omega arith)
split s o v (suc w) = rw (add-suc v w, split s o v w, pow-suc 2 w, add_assoc o v w) (omega arith)

pub bit_bound : (s : List ℕ) (k : ℕ) → bit s k < 2
unfolding bit
bit_bound s k = mod-lt _ (omega arith)

-- a field of w bits is below 2 ^ w
pub bound : (s : List ℕ) (o w : ℕ) → bits s o w < 2 ^ w
unfolding bits
bound s o zero = omega arith
bound s o (suc w) = omega (arith, bound s o w, bit_bound s (o + w))

-- bit a of byte k
bit_at : (s : List ℕ) (k a : ℕ) → a < 8 → bit s (8 * k + a) ≡ get_or s k 0 / 2 ^ (7 - a) % 2
unfolding bit
bit_at s k a h =
    let p : (8 * k + a) / 8 ≡ k = omega arith in
    let q : (8 * k + a) % 8 ≡ a = omega arith in
    rw (p, q)

-- w + 1 binary digits of a number, the last apart
digit : (b m w : ℕ) → 2 * (b / 2 ^ suc m % 2 ^ w) + b / 2 ^ m % 2 ≡ b / 2 ^ m % 2 ^ suc w
digit b m w =
    rw (← add-one m, ← add-one w, ← shr-shr b m 1, mod-pow-add (b / 2 ^ m) w 1) (omega arith)

-- a field within byte k
pub within : (s : List ℕ) (k a w : ℕ) → a + w ≤ 8 → bits s (8 * k + a) w ≡ get_or s k 0 / 2 ^ (8 - a - w) % 2 ^ w
unfolding bits
within s k a zero h = sym (mod-one (get_or s k 0 / 2 ^ (8 - a - 0)))
within s k a (suc w) h =
    let p : 8 - a - w ≡ suc (8 - a - suc w) = omega arith in
    let q : 7 - (a + w) ≡ 8 - a - suc w = omega arith in
    rw (within s k a w (omega arith), add_assoc (8 * k) a w, bit_at s k (a + w) (omega arith), p, q)
    (digit (get_or s k 0) (8 - a - suc w) w)

-- byte k
pub byte : (s : List ℕ) (k : ℕ) → get_or s k 0 < 256 → bits s (8 * k) 8 ≡ get_or s k 0
byte s k h = rw (← add-zero (8 * k), within s k 0 8 (omega arith)) (omega arith)

-- the last v bits of byte k and w bits of those that follow
pub across : (s : List ℕ) (k a v w : ℕ) → a + v ≡ 8
    → bits s (8 * k + a) (v + w) ≡ get_or s k 0 % 2 ^ v * 2 ^ w + bits s (8 * (k + 1)) w
across s k a v w h =
    let p : 8 * k + a + v ≡ 8 * (k + 1) = omega arith in
    let q : 8 - a - v ≡ 0 = omega arith in
    rw (split s (8 * k + a) v w, within s k a v (omega arith), p, q, div-one)

-- byte k and w bits of those that follow
pub onward : (s : List ℕ) (k w : ℕ) → get_or s k 0 < 256 → bits s (8 * k) (8 + w) ≡ get_or s k 0 * 2 ^ w + bits s (8 * (k + 1)) w
onward s k w h =
    let p : 8 * k + 8 ≡ 8 * (k + 1) = omega arith in
    rw (split s (8 * k) 8 w, byte s k h, p)

-- a field of t that has its bytes from byte k of s on
pub moved : (s t : List ℕ) (k o w : ℕ) → ((i : ℕ) → o / 8 ≤ i → 8 * i < o + w → get_or t i 0 ≡ get_or s (k + i) 0)
    → bits t o w ≡ bits s (8 * k + o) w
unfolding bits bit
moved s t k o zero h = refl
moved s t k o (suc w) h =
    let p : (8 * k + o + w) / 8 ≡ k + (o + w) / 8 = omega arith in
    let q : (8 * k + o + w) % 8 ≡ (o + w) % 8 = omega arith in
    rw (moved s t k o w (λ i a b. h i a (omega arith)), p, q, h ((o + w) / 8) (omega arith) (omega arith))

-- strings alike over a field's bytes have the same field
pub alike : (s t : List ℕ) (o w : ℕ) → ((i : ℕ) → o / 8 ≤ i → 8 * i < o + w → get_or s i 0 ≡ get_or t i 0) → bits s o w ≡ bits t o w
alike s t o w h =
    moved t s 0 o w (λ i a b. h i a b ∙ ap (λ (n : ℕ). get_or t n 0) (sym (zero-add i))) ∙ ap (λ (n : ℕ). bits t n w) (zero-add o)

pub bits_drop : (s : List ℕ) (k o w : ℕ) → bits (drop k s) o w ≡ bits s (8 * k + o) w
bits_drop s k o w = moved s (drop k s) k o w (λ i a b. get_or-drop k s i 0)

pub bits_take : (s : List ℕ) (n o w : ℕ) → o + w ≤ 8 * n → bits (take n s) o w ≡ bits s o w
bits_take s n o w h = alike (take n s) s o w (λ i a b. get_or-take n s i 0 (omega arith))
