-- The numbers of several bytes that H.222.0 has, at any byte of a string, by their bytes.
-- Assumes nothing.
use Prim.Native.Nat.{ℕ, zero, suc, ◌+◌, ◌-◌, ◌*◌, ◌/◌, ◌%◌, ◌^◌, ◌≤◌, ◌<◌}
use mathlib.Core.Path.{◌≡◌, refl, ◌∙◌}
use mathlib.Core.List.{List, [], ◌∷◌}
use native.Mathlib.Nat.{add-zero, add_assoc, div-one}
use native.Mathlib.Omega.{arith}
use lib.ListN.{get_or, take, drop}
use lib.Pow.{shr_mod}
use lib.Seq.{get_or-drop}
use Rattle.syntax.specs.Bits.{bits}
use Rattle.syntax.proofs.Bits.{within, byte, across, onward}

-- each element is a byte; so of a slice of u8
abbrev pub Bytes : List ℕ → Type 0
Bytes s = (i : ℕ) → get_or s i 0 < 256

pub bytes_drop : (n : ℕ) (s : List ℕ) → Bytes s → Bytes (drop n s)
bytes_drop n s h i = rw (get_or-drop n s i 0) (h (n + i))

pub bytes_take : (n : ℕ) (s : List ℕ) → Bytes s → Bytes (take n s)
bytes_take zero s h i = omega arith
bytes_take (suc n) [] h i = omega arith
bytes_take (suc n) (x ∷ s) h zero = h 0
bytes_take (suc n) (x ∷ s) h (suc i) = bytes_take n s (λ j. h (suc j)) i

-- the first w bits of byte k
pub head : (s : List ℕ) (k w : ℕ) → get_or s k 0 < 256 → w ≤ 8 → bits s (8 * k) w ≡ get_or s k 0 / 2 ^ (8 - w)
head s k w h l =
    let p : w + (8 - w) ≡ 8 = omega arith in
    rw (← add-zero (8 * k), within s k 0 w (omega arith), shr_mod {n = get_or s k 0} w (8 - w) (rw p h))

-- the last v bits of byte k, and the next byte
pub ends_in_byte : (s : List ℕ) (k a v : ℕ) → get_or s (k + 1) 0 < 256 → a + v ≡ 8
    → bits s (8 * k + a) (v + 8) ≡ get_or s k 0 % 2 ^ v * 256 + get_or s (k + 1) 0
ends_in_byte s k a v h e = rw (across s k a v 8 e, byte s (k + 1) h)

-- byte k, and the first w bits of the next
pub byte_and : (s : List ℕ) (k w : ℕ) → get_or s k 0 < 256 → get_or s (k + 1) 0 < 256 → w ≤ 8
    → bits s (8 * k) (8 + w) ≡ get_or s k 0 * 2 ^ w + get_or s (k + 1) 0 / 2 ^ (8 - w)
byte_and s k w h j l = rw (onward s k w h, head s (k + 1) w j l)

module _ (s : List ℕ) (at : ℕ) (h : Bytes s) where
  -- 16 bits
  pub number16 : bits s (8 * at) 16 ≡ get_or s at 0 * 256 + get_or s (at + 1) 0
  number16 = byte_and s at 8 (h at) (h (at + 1)) (omega arith) ∙ rw (div-one (get_or s (at + 1) 0))

  -- 13 bits behind three: PID
  pub number13 : bits s (8 * at + 3) 13 ≡ get_or s at 0 % 32 * 256 + get_or s (at + 1) 0
  number13 = ends_in_byte s at 3 5 (h (at + 1)) refl

  -- 15 bits behind one: ltw_offset
  pub number15 : bits s (8 * at + 1) 15 ≡ get_or s at 0 % 128 * 256 + get_or s (at + 1) 0
  number15 = ends_in_byte s at 1 7 (h (at + 1)) refl

  -- 22 bits behind two: piecewise_rate
  pub number22 : bits s (8 * at + 2) 22 ≡ get_or s at 0 % 64 * 65536 + get_or s (at + 1) 0 * 256 + get_or s (at + 2) 0
  number22 =
      rw (across s at 2 6 16 refl, onward s (at + 1) 8 (h (at + 1)), add_assoc at 1 1, byte s (at + 2) (h (at + 2))) (omega arith)

  -- the 33 bits of a clock reference's base, and its extension: nine bits behind 39
  pub clock_base : bits s (8 * at) 33
      ≡ get_or s at 0 * 0x200_0000 + get_or s (at + 1) 0 * 0x2_0000 + get_or s (at + 2) 0 * 0x200 + get_or s (at + 3) 0 * 2 + get_or s (at + 4) 0 / 128
  clock_base =
      rw (
        onward s at 25 (h at),
        onward s (at + 1) 17 (h (at + 1)),
        add_assoc at 1 1,
        onward s (at + 2) 9 (h (at + 2)),
        add_assoc at 2 1,
        onward s (at + 3) 1 (h (at + 3)),
        add_assoc at 3 1,
        head s (at + 4) 1 (h (at + 4)) (omega arith),
      )
      (omega arith)

  pub clock_extension : bits s (8 * at + 39) 9 ≡ get_or s (at + 4) 0 % 2 * 256 + get_or s (at + 5) 0
  clock_extension =
      let p : 8 * at + 39 ≡ 8 * (at + 4) + 7 = omega arith in
      rw (p, ← add_assoc at 4 1) (ends_in_byte s (at + 4) 7 1 (h (at + 4 + 1)) refl)

  -- the parts of a time stamp: 3 bits behind 4, 15 behind a marker bit, 15 behind another
  pub stamp_high : bits s (8 * at + 4) 3 ≡ get_or s at 0 / 2 % 8
  stamp_high = within s at 4 3 (omega arith)

  pub stamp_middle : bits s (8 * at + 8) 15 ≡ get_or s (at + 1) 0 * 128 + get_or s (at + 2) 0 / 2
  stamp_middle =
      let p : 8 * at + 8 ≡ 8 * (at + 1) = omega arith in
      rw (p, ← add_assoc at 1 1) (byte_and s (at + 1) 7 (h (at + 1)) (h (at + 1 + 1)) (omega arith))

  pub stamp_low : bits s (8 * at + 24) 15 ≡ get_or s (at + 3) 0 * 128 + get_or s (at + 4) 0 / 2
  stamp_low =
      let p : 8 * at + 24 ≡ 8 * (at + 3) = omega arith in
      rw (p, ← add_assoc at 3 1) (byte_and s (at + 3) 7 (h (at + 3)) (h (at + 3 + 1)) (omega arith))

  pub stamp : bits s (8 * at + 4) 3 * 2 ^ 30 + bits s (8 * at + 8) 15 * 2 ^ 15 + bits s (8 * at + 24) 15
      ≡ get_or s at 0 / 2 % 8 * 0x4000_0000 + get_or s (at + 1) 0 * 0x40_0000 + get_or s (at + 2) 0 / 2 * 0x8000 + get_or s (at + 3) 0 * 0x80
      + get_or s (at + 4) 0 / 2
  stamp = rw (stamp_high, stamp_middle, stamp_low) (omega arith)
