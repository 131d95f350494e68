-- Tables in parts: where row k begins, the fields before it, and what the rows from it on make of these. Assumes nothing.
use Prim.Native.Nat.{ℕ, ◌+◌}
use Prim.Native.String.{String}
use mathlib.Core.Path.{◌≡◌, refl, sym, ap, ◌∙◌}
use mathlib.Core.Bool.{Bool, true, false, cond, not, ◌&&◌, false≢true}
use mathlib.Core.List.{List, [], ◌∷◌, ◌++◌}
use lib.ListN.{take, drop, take-append-drop}
use lib.Seq.{take-add}
use lib.Text.{eqt}
use Rattle.syntax.specs.Bits.{bits}
use Rattle.syntax.specs.Table.{Fields, Row, width_of, read_row, no_fields, fields_from, offset_from, field, offset}

-- the bit behind rows that begin at bit o
abbrev pub end_from : List Row → List ℕ → ℕ → Fields → ℕ
end_from [] s o f = o
end_from (r ∷ rs) s o f = end_from rs s (o + width_of r f) (read_row r s o f)

fields_append : (p q : List Row) (s : List ℕ) (o : ℕ) (f : Fields)
    → fields_from (p ++ q) s o f ≡ fields_from q s (end_from p s o f) (fields_from p s o f)
unfolding fields_from
fields_append [] q s o f = refl
fields_append (r ∷ p) q s o f = fields_append p q s (o + width_of r f) (read_row r s o f)

end_append : (p q : List Row) (s : List ℕ) (o : ℕ) (f : Fields)
    → end_from (p ++ q) s o f ≡ end_from q s (end_from p s o f) (fields_from p s o f)
unfolding fields_from
end_append [] q s o f = refl
end_append (r ∷ p) q s o f = end_append p q s (o + width_of r f) (read_row r s o f)

-- no row has the name
abbrev pub absent : String → List Row → Bool
absent n [] = true
absent n (r ∷ rs) = not (eqt r.name n) && absent n rs

differs : (n : String) (r : Row) (rs : List Row) → absent n (r ∷ rs) ≡ true → (eqt r.name n ≡ false) × (absent n rs ≡ true)
differs n r rs h = go (eqt r.name n) h
  where
    go : (b : Bool) → not b && absent n rs ≡ true → (b ≡ false) × (absent n rs ≡ true)
    go true e = absurd (false≢true e)
    go false e = (refl, e)

-- rows without the name leave its field as it was, and its offset to the rows behind them
fields_kept : (n : String) (rs : List Row) (s : List ℕ) (o : ℕ) (f : Fields) → absent n rs ≡ true → fields_from rs s o f n ≡ f n
unfolding fields_from
fields_kept n [] s o f h = refl
fields_kept n (r ∷ rs) s o f h =
    fields_kept n rs s (o + width_of r f) (read_row r s o f) (differs n r rs h).1
    ∙ ap (λ (b : Bool). cond (b && r.condition f) (bits s o (r.width f)) (f n)) (differs n r rs h).0

offsets_append : (n : String) (p q : List Row) (s : List ℕ) (o : ℕ) (f : Fields) → absent n p ≡ true
    → offset_from (p ++ q) s o f n ≡ offset_from q s (end_from p s o f) (fields_from p s o f) n
unfolding fields_from offset_from
offsets_append n [] q s o f h = refl
offsets_append n (r ∷ p) q s o f h =
    ap (λ (b : Bool). cond (b && r.condition f) o (offset_from (p ++ q) s (o + width_of r f) (read_row r s o f) n)) (differs n r p h).0
    ∙ offsets_append n p q s (o + width_of r f) (read_row r s o f) (differs n r p h).1

-- row k of a table: the bit at which it begins, and the fields before it
module _ (t : List Row) (s : List ℕ) where
  unfoldable pub place : ℕ → ℕ
  place k = end_from (take k t) s 0 no_fields

  unfoldable pub before : ℕ → Fields
  before k = fields_from (take k t) s 0 no_fields

  -- a field by the rows from row k on
  pub field_from : (k : ℕ) (n : String) → field t s n ≡ fields_from (drop k t) s (place k) (before k) n
  unfolding field place before
  field_from k n =
      ap (λ (rs : List Row). fields_from rs s 0 no_fields n) (sym (take-append-drop k t))
      ∙ ap (λ (g : Fields). g n) (fields_append (take k t) (drop k t) s 0 no_fields)

  -- one that no row from k on has stands before row k, and one that no row before k has is 0 there
  pub field_before : (k : ℕ) (n : String) → absent n (drop k t) ≡ true → before k n ≡ field t s n
  field_before k n h = sym (field_from k n ∙ fields_kept n (drop k t) s (place k) (before k) h)

  pub none_before : (k : ℕ) (n : String) → absent n (take k t) ≡ true → before k n ≡ 0
  unfolding before
  none_before k n h = fields_kept n (take k t) s 0 no_fields h

  -- m rows on
  pub place_from : (k m : ℕ) → place (k + m) ≡ end_from (take m (drop k t)) s (place k) (before k)
  unfolding place before
  place_from k m =
      ap (λ (rs : List Row). end_from rs s 0 no_fields) (take-add k m t) ∙ end_append (take k t) (take m (drop k t)) s 0 no_fields

  -- the offset of a name that no row before k has
  pub offset_from_lem : (k : ℕ) (n : String) → absent n (take k t) ≡ true
      → offset t s n ≡ offset_from (drop k t) s (place k) (before k) n
  unfolding offset place before
  offset_from_lem k n h =
      ap (λ (rs : List Row). offset_from rs s 0 no_fields n) (sym (take-append-drop k t))
      ∙ offsets_append n (take k t) (drop k t) s 0 no_fields h
