-- The figures of document 01 on clock references: the six bytes of a PCR, and its ticks.
use Rattle.std.specs.Prelude.{ℕ, List, [], ◌∷◌, Bool, true, ◌&&◌, eqb}
use Rattle.packet.specs.AdaptationField.{pcr_of, pcr_ticks}

abbrev pub pcr_figures : List (List ℕ × ℕ)
pcr_figures =
    (0x00 ∷ 0x00 ∷ 0xAF ∷ 0xC8 ∷ 0x7E ∷ 0x00 ∷ [], 27000000)
    ∷ []

-- an adaptation field of length 7 with the PCR flag, then the six bytes
abbrev pub pcr_holds : List (List ℕ × ℕ) → Bool
pcr_holds [] = true
pcr_holds (x ∷ xs) = eqb (pcr_ticks (pcr_of (7 ∷ 0x10 ∷ x.0))) x.1 && pcr_holds xs
