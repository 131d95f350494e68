-- Document 01's figures for `extend_near`.
use Rattle.std.specs.Prelude.{ℕ, List, [], ◌∷◌}

pub record Row : Type 0 where
  pub raw : ℕ
  pub reference : ℕ
  pub timestamp : ℕ

unfoldable pub extend_near_rows : List Row
extend_near_rows =
    record { raw = 0; reference = 8589934591; timestamp = 8589934592 }
    ∷ record { raw = 8589934591; reference = 0; timestamp = 8589934591 }
    ∷ record { raw = 0; reference = 4294967296; timestamp = 0 }
    ∷ []
