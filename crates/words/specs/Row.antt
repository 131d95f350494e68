-- The chain row in words: the records of the chains one after the other, as many whole ones as the row has room for.
use Rattle.std.specs.Prelude.{ℕ, ◌/◌, length, take, drop}
use mathlib.Core.List.{List, [], ◌∷◌, ◌++◌, flat_map}
use Rattle.report.specs.declared.TStdChainStats.{TStdChainStats}
use Rattle.answer.specs.declared.Figures.{Figures}
use Rattle.words.specs.Bits.{bits_of}

-- the words of a record
abbrev pub record_len : ℕ
record_len = 6

unfoldable pub chain_words : TStdChainStats → List ℕ
chain_words s =
    s.pid
    ∷ s.peak_tb_bytes
    ∷ s.peak_main_bytes
    ∷ s.peak_eb_bytes
    ∷ s.access_units
    ∷ bits_of s.max_delay_seconds
    ∷ []

abbrev pub row_words : List TStdChainStats → List ℕ
row_words ss = flat_map chain_words ss

-- the chains in use
abbrev pub chains_of : Figures → List TStdChainStats
chains_of f = take f.count f.rows

-- new words in front, the others of the row as they were
abbrev pub in_front : List ℕ → List ℕ → List ℕ
in_front ws row = ws ++ drop (length ws) row

unfoldable pub row_after : List TStdChainStats → List ℕ → List ℕ
row_after ss row = in_front (row_words (take (length row / record_len) ss)) row
