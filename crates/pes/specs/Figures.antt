-- The time stamps of document 01, and the test that a row holds.
use Rattle.std.specs.Prelude.{ℕ, List, [], ◌∷◌, Bool, true, ◌&&◌, eqb}
use Rattle.syntax.specs.TimeStamp.{timestamp}

-- five bytes and the stamp that they hold
pub record Figure : Type 0 where
  pub bytes : List ℕ
  pub stamp : ℕ

abbrev pub figures : List Figure
figures =
    record { bytes = 0x21 ∷ 0x00 ∷ 0x05 ∷ 0xBF ∷ 0x21 ∷ []; stamp = 90000 }
    ∷ record { bytes = 0x2F ∷ 0xFF ∷ 0xFF ∷ 0xFF ∷ 0xFF ∷ []; stamp = 8589934591 }
    ∷ []

abbrev pub all_hold : List Figure → Bool
all_hold [] = true
all_hold (r ∷ rs) = eqb (timestamp r.bytes) r.stamp && all_hold rs
