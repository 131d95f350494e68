-- The stream ids whose PES packets have no optional header (H.222.0, table 2-21).
use Rattle.std.specs.Prelude.{ℕ, List, [], ◌∷◌, Bool, not, eqb}
use Rattle.std.specs.List.{list_any}

-- program_stream_map, padding_stream, private_stream_2, ECM_stream, EMM_stream, program_stream_directory, DSMCC_stream, H.222.1 type E
abbrev pub without_header : List ℕ
without_header = 0xBC ∷ 0xBE ∷ 0xBF ∷ 0xF0 ∷ 0xF1 ∷ 0xFF ∷ 0xF2 ∷ 0xF8 ∷ []

abbrev pub member : ℕ → List ℕ → Bool
member x ys = list_any (λ y. eqb y x) ys

unfoldable pub has_optional_header : ℕ → Bool
has_optional_header id = not (member id without_header)
