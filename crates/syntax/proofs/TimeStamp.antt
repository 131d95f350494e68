-- A time stamp by its parts' places, by its five bytes, and as a part of a longer string. Assumes nothing.
use Prim.Native.Nat.{ℕ, zero, suc, ◌+◌, ◌*◌, ◌/◌, ◌%◌, ◌^◌, ◌≤◌, ◌<◌}
use mathlib.Core.Path.{◌≡◌, refl, sym, ap, ◌∙◌}
use mathlib.Core.List.{List, [], ◌∷◌}
use native.Mathlib.Nat.{add-zero}
use native.Mathlib.Omega.{arith}
use lib.ListN.{get_or, drop}
use Rattle.syntax.specs.Bits.{bits}
use Rattle.syntax.specs.Table.{field, fields_from}
use Rattle.syntax.specs.TimeStamp.{stamp33, table_stamp, timestamp}
use Rattle.syntax.proofs.Bits.{moved, bits_drop}
use Rattle.syntax.proofs.Bytes.{Bytes, stamp}

pub timestamp_places : (s : List ℕ) → timestamp s ≡ bits s 4 3 * 2 ^ 30 + bits s 8 15 * 2 ^ 15 + bits s 24 15
unfolding timestamp stamp33 field fields_from table_stamp
timestamp_places s = refl

pub timestamp_bytes : (s : List ℕ) → Bytes s
    → timestamp s
    ≡ get_or s 0 0 / 2 % 8 * 0x4000_0000 + get_or s 1 0 * 0x40_0000 + get_or s 2 0 / 2 * 0x8000 + get_or s 3 0 * 0x80 + get_or s 4 0 / 2
timestamp_bytes s h = timestamp_places s ∙ stamp s 0 h

pub timestamp_of : (b0 b1 b2 b3 b4 : ℕ) → b0 < 256 → b1 < 256 → b2 < 256 → b3 < 256 → b4 < 256
    → timestamp (b0 ∷ b1 ∷ b2 ∷ b3 ∷ b4 ∷ []) ≡ b0 / 2 % 8 * 0x4000_0000 + b1 * 0x40_0000 + b2 / 2 * 0x8000 + b3 * 0x80 + b4 / 2
timestamp_of b0 b1 b2 b3 b4 h0 h1 h2 h3 h4 = timestamp_bytes (b0 ∷ b1 ∷ b2 ∷ b3 ∷ b4 ∷ []) five
  where
    five : Bytes (b0 ∷ b1 ∷ b2 ∷ b3 ∷ b4 ∷ [])
    five zero = h0
    five (suc zero) = h1
    five (suc (suc zero)) = h2
    five (suc (suc (suc zero))) = h3
    five (suc (suc (suc (suc zero)))) = h4
    five (suc (suc (suc (suc (suc i))))) = omega arith

-- the stamp at byte k of a string
pub timestamp_drop : (s : List ℕ) (k : ℕ)
    → timestamp (drop k s) ≡ bits s (8 * k + 4) 3 * 2 ^ 30 + bits s (8 * k + 8) 15 * 2 ^ 15 + bits s (8 * k + 24) 15
timestamp_drop s k = timestamp_places (drop k s) ∙ rw (bits_drop s k 4 3, bits_drop s k 8 15, bits_drop s k 24 15)

-- the stamp of a string's five bytes from byte k on
abbrev five_of : List ℕ → ℕ → List ℕ
five_of s k = get_or s k 0 ∷ get_or s (k + 1) 0 ∷ get_or s (k + 2) 0 ∷ get_or s (k + 3) 0 ∷ get_or s (k + 4) 0 ∷ []

five_at_lem : (s : List ℕ) (k i : ℕ) → i < 5 → get_or (five_of s k) i 0 ≡ get_or s (k + i) 0
five_at_lem s k zero h = ap (λ (n : ℕ). get_or s n 0) (sym (add-zero k))
five_at_lem s k (suc zero) h = refl
five_at_lem s k (suc (suc zero)) h = refl
five_at_lem s k (suc (suc (suc zero))) h = refl
five_at_lem s k (suc (suc (suc (suc zero)))) h = refl
five_at_lem s k (suc (suc (suc (suc (suc i))))) h = absurd (omega arith)

pub timestamp_five : (s : List ℕ) (k : ℕ)
    → timestamp (get_or s k 0 ∷ get_or s (k + 1) 0 ∷ get_or s (k + 2) 0 ∷ get_or s (k + 3) 0 ∷ get_or s (k + 4) 0 ∷ []) ≡ timestamp (drop k s)
timestamp_five s k =
    timestamp_places (five_of s k)
    ∙ rw (part 4 3 (omega arith), part 8 15 (omega arith), part 24 15 (omega arith)) (sym (timestamp_drop s k))
  where
    part : (o w : ℕ) → o + w ≤ 40 → bits (five_of s k) o w ≡ bits s (8 * k + o) w
    part o w h = moved s (five_of s k) k o w (λ i a b. five_at_lem s k i (omega arith))
