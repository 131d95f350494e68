-- Events of any keys may change places once their key has a line: where the larger of two figures does not turn on their order.
use mathlib.Core.Path.{◌≡◌, refl, sym, ap, ◌∙◌}
use mathlib.Core.Bool.{Bool, true, false}
use mathlib.Core.List.{List, [], ◌∷◌}
use Prim.Native.Nat.{ℕ, max}
use native.Mathlib.Omega.{arith}
use lib.Ieee.{Float}
use Rattle.ieee.specs.MaxMin.{max_num}
use Rattle.report.specs.declared.violation.Figure.{Figure}
use Rattle.report.specs.declared.violation.Figure.TheVariants.{Bytes, Seconds}
use Rattle.report.specs.declared.violation.Key.{Key}
use Rattle.report.specs.declared.violation.TStdViolation.{TStdViolation}
use Rattle.report.specs.declared.ViolationLine.{ViolationLine}
use Rattle.report.specs.Violation.{fields_of, key_of, same_key, worse, merge_of, FigureHas}
use Rattle.report.specs.Keys.{has_key}
use Rattle.report.specs.Record.{keys_of, record_line}
use Rattle.std.proofs.lemmas.Bool.{true≢false}
use Rattle.report.proofs.Keys.{same_key_eq, same_key_refl}
use Rattle.report.proofs.Merge.{in_bytes?, same_sort, merge_fields, merge_key}
use Rattle.report.proofs.Lines.{key_of_line, same_key_line, swapped}

-- violations of one key are of one kind
pub kind_eq : (v w : TStdViolation) → key_of v ≡ key_of w → (fields_of v).kind ≡ (fields_of w).kind
unfolding key_of
kind_eq v w e = ap (λ (k : Key). k.kind) e

-- into a line of its key an event brings its figure alone
merge_figure : (a v w : TStdViolation) → key_of v ≡ key_of w → (fields_of v).figure ≡ (fields_of w).figure → merge_of a v ≡ merge_of a w
unfolding merge_of
merge_figure a v w e f = rw (kind_eq v w e, f)

module _ (v w : TStdViolation) (same : key_of v ≡ key_of w) (figures : (fields_of v).figure ≡ (fields_of w).figure) where
  absorbed_by : (l : ViolationLine) (ls : List ViolationLine) (b : Bool) → same_key (key_of_line l) (key_of v) ≡ b → (has_key (keys_of ls) (key_of v) ≡ true → record_line ls v ≡ record_line ls w) → has_key (keys_of (l ∷ ls)) (key_of v) ≡ true → record_line (l ∷ ls) v ≡ record_line (l ∷ ls) w
  unfolding record_line has_key keys_of
  absorbed_by l ls true e ih h = rw (← same, e, merge_figure l.violation v w same figures)
  absorbed_by l ls false e ih h = rw (← same, e, ih (rw e at h))

  absorbed : (ls : List ViolationLine) → has_key (keys_of ls) (key_of v) ≡ true → record_line ls v ≡ record_line ls w
  unfolding has_key keys_of
  absorbed [] h = absurd (true≢false (sym h))
  absorbed (l ∷ ls) h = absorbed_by l ls (same_key (key_of_line l) (key_of v)) refl (absorbed ls) h

module _ (S : Float → Type 0) (commutes : (s t : Float) → S s → S t → max_num s t ≡ max_num t s) where
  worse_comm : (f g : Figure) → in_bytes? f ≡ in_bytes? g → FigureHas (λ (n : ℕ). Unit) S f → FigureHas (λ (n : ℕ). Unit) S g → worse f g ≡ worse g f
  unfolding worse
  worse_comm (Bytes m) (Bytes n) e p q = let c : max m n ≡ max n m = omega arith in ap Bytes c
  worse_comm (Bytes m) (Seconds t) e p q = absurd (true≢false e)
  worse_comm (Seconds s) (Bytes n) e p q = absurd (true≢false (sym e))
  worse_comm (Seconds s) (Seconds t) e p q = ap Seconds (commutes s t p q)

  -- violations whose figure is in bytes, or in seconds of which S holds
  abbrev pub Orderless : TStdViolation → Type 0
  Orderless v = FigureHas (λ (n : ℕ). Unit) S (fields_of v).figure

  module _ (a b : TStdViolation) (p : Orderless a) (q : Orderless b) (ls : List ViolationLine) (there : has_key (keys_of ls) (key_of b) ≡ true) where
    same_keys : same_key (key_of a) (key_of b) ≡ true → same_key (key_of b) (key_of a) ≡ true → record_line (record_line ls a) b ≡ record_line (record_line ls b) a
    same_keys h k =
        let e : key_of a ≡ key_of b = same_key_eq (key_of a) (key_of b) h in
        let kinds : (fields_of a).kind ≡ (fields_of b).kind = kind_eq a b e in
        let keys : key_of (merge_of a b) ≡ key_of (merge_of b a) = merge_key a b ∙ e ∙ sym (merge_key b a) in
        let figures : (fields_of (merge_of a b)).figure ≡ (fields_of (merge_of b a)).figure =
        rw (merge_fields a b kinds, merge_fields b a (sym kinds)) (worse_comm (fields_of a).figure (fields_of b).figure (sym (same_sort a b kinds)) p q) in
        let line : has_key (keys_of ls) (key_of (merge_of a b)) ≡ true = rw (merge_key a b, e) there in
        same_key_line a b h ls ∙ absorbed (merge_of a b) (merge_of b a) keys figures ls line ∙ sym (same_key_line b a k ls)

    by_key : (t : Bool) → same_key (key_of a) (key_of b) ≡ t → record_line (record_line ls a) b ≡ record_line (record_line ls b) a
    by_key true h =
        let k : same_key (key_of b) (key_of a) ≡ true = rw (same_key_eq (key_of a) (key_of b) h) (same_key_refl (key_of b)) in
        same_keys h k
    by_key false h = swapped a b h ls there

    -- b, whose key has a line, may come before a
    pub changed_places : record_line (record_line ls a) b ≡ record_line (record_line ls b) a
    changed_places = by_key (same_key (key_of a) (key_of b)) refl
