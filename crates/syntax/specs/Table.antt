-- Syntax tables: rows of name, condition and width in the standard's order, and what a byte string says under a table.
-- A row whose condition fails has width 0; a field is the bits at the sum of the widths before it.
use Rattle.std.specs.Prelude.{ℕ, ◌+◌, ◌*◌, List, [], ◌∷◌, Bool, true, cond, ◌&&◌, eqb, ltb}
use Prim.Native.String.{String}
use lib.Text.{eqt}
use Rattle.syntax.specs.Bits.{bits}

-- the fields read so far; 0 for one that is absent or comes later
abbrev pub Fields : Type 0
Fields = String → ℕ

-- condition and width go by the fields before the row
pub record Row : Type 0 where
  pub name : String
  pub condition : Fields → Bool
  pub width : Fields → ℕ

-- conditions: none, a flag of one bit is set, a number is above 0, a field has a value, both
abbrev pub always : Fields → Bool
always f = true

abbrev pub flag : String → Fields → Bool
flag n f = eqb (f n) 1

abbrev pub above0 : String → Fields → Bool
above0 n f = ltb 0 (f n)

abbrev pub equals : String → ℕ → Fields → Bool
equals n v f = eqb (f n) v

abbrev pub both : (Fields → Bool) → (Fields → Bool) → Fields → Bool
both c d f = c f && d f

-- a row of a number of bits, and one of as many bytes as a field says
abbrev pub row : String → (Fields → Bool) → ℕ → Row
row n c w = record { name = n; condition = c; width = λ (f : Fields). w }

abbrev pub row_of_bytes : String → (Fields → Bool) → String → Row
row_of_bytes n c m = record { name = n; condition = c; width = λ (f : Fields). 8 * f m }

-- the width of a row in bits
abbrev pub width_of : Row → Fields → ℕ
width_of r f = cond (r.condition f) (r.width f) 0

abbrev pub no_fields : Fields
no_fields n = 0

-- the fields behind a row that begins at bit o; a row whose condition fails leaves them as they are
abbrev pub read_row : Row → List ℕ → ℕ → Fields → Fields
read_row r s o f n = cond (eqt r.name n && r.condition f) (bits s o (r.width f)) (f n)

-- the fields of a byte string by the rows from a bit on, behind the fields f
unfoldable pub fields_from : List Row → List ℕ → ℕ → Fields → Fields
fields_from [] s o f = f
fields_from (r ∷ rs) s o f = fields_from rs s (o + width_of r f) (read_row r s o f)

-- the bit at which the row of a name begins whose condition holds
unfoldable pub offset_from : List Row → List ℕ → ℕ → Fields → String → ℕ
offset_from [] s o f n = o
offset_from (r ∷ rs) s o f n =
    cond (eqt r.name n && r.condition f) o (offset_from rs s (o + width_of r f) (read_row r s o f) n)

-- the field of a name under a table, and the bit at which it begins
unfoldable pub field : List Row → List ℕ → String → ℕ
unfolding fields_from
field t s n = fields_from t s 0 no_fields n

unfoldable pub offset : List Row → List ℕ → String → ℕ
unfolding offset_from
offset t s n = offset_from t s 0 no_fields n
