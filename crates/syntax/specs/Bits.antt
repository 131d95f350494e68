-- Bit strings: the bits of a byte string, the most significant bit of the first byte first (H.222.0, 2.2).
-- A bit behind the end reads as 0.
use Rattle.std.specs.Prelude.{ℕ, zero, suc, ◌+◌, ◌-◌, ◌*◌, ◌/◌, ◌%◌, ◌^◌, List, get_or}

-- bit k of a byte string
unfoldable pub bit : List ℕ → ℕ → ℕ
bit s k = get_or s (k / 8) 0 / 2 ^ (7 - k % 8) % 2

-- the number that the w bits from bit o on write
unfoldable pub bits : List ℕ → ℕ → ℕ → ℕ
bits s o zero = 0
bits s o (suc w) = 2 * bits s o w + bit s (o + w)
