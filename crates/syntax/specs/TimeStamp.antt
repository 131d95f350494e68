-- A time stamp of 33 bits in three parts (H.222.0, 2.4.3.7): bits 32..30, 29..15 and 14..0, each before a marker bit.
use Rattle.std.specs.Prelude.{ℕ, ◌+◌, ◌*◌, ◌^◌, List, [], ◌∷◌}
use Prim.Native.String.{String}
use Rattle.syntax.specs.Table.{Fields, Row, row, always, field}

-- the number in the fields of three names
unfoldable pub stamp33 : Fields → String → String → String → ℕ
stamp33 f high middle low = f high * 2 ^ 30 + f middle * 2 ^ 15 + f low

-- the five bytes of a time stamp by themselves
unfoldable pub table_stamp : List Row
table_stamp =
    row "prefix" always 4
    ∷ row "stamp[32..30]" always 3
    ∷ row "marker_bit" always 1
    ∷ row "stamp[29..15]" always 15
    ∷ row "marker_bit" always 1
    ∷ row "stamp[14..0]" always 15
    ∷ row "marker_bit" always 1
    ∷ []

unfoldable pub timestamp : List ℕ → ℕ
timestamp s = stamp33 (field table_stamp s) "stamp[32..30]" "stamp[29..15]" "stamp[14..0]"
