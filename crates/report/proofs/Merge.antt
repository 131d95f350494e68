-- Laws of merging: all but the figure is the first's, the figure is the worse of the two, and merging is associative among violations of one kind.
use mathlib.Core.Path.{◌≡◌, refl, sym, ap, ◌∙◌}
use mathlib.Core.Bool.{Bool, true, false}
use mathlib.Core.List.{List, [], ◌∷◌}
use Prim.Native.Nat.{ℕ, max, ◌≤◌}
use native.Mathlib.Nat.{max-eq_left, max-eq_right}
use native.Mathlib.Omega.{arith}
use lib.Dec.{eqb, leb}
use lib.Ieee.{Float}
use borrow.Author.Tests.{eqb-true, eq-eqb, leb-true, leb-false}
use mir.Val.{has_key}
use Rattle.report.specs.declared.violation.Figure.{Figure}
use Rattle.report.specs.declared.violation.Figure.TheVariants.{Bytes, Seconds}
use Rattle.report.specs.declared.violation.ViolationFields.{ViolationFields}
use Rattle.report.specs.declared.violation.TStdViolation.{TStdViolation}
use Rattle.report.specs.declared.violation.TStdViolation.TheVariants.{TbOverflow, TbBusyOverOneSecond, MainOverflow, MainUnderflow, MbOverflow, MbBusyOverOneSecond, EbUnderflow, DelayOverOneSecond, BsysOverflow}
use Rattle.report.specs.Violation.{fields_of, key_of, worse, bytes_or, seconds_or, with_figure, merge_of, FigureHas, FieldsHave}
use Rattle.std.proofs.lemmas.Bool.{true≢false}
use Rattle.ieee.proofs.MaxAssociative.{max_assoc, max_holds}

-- ---- figures: in bytes, or in seconds

abbrev pub in_bytes? : Figure → Bool
in_bytes? (Bytes n) = true
in_bytes? (Seconds s) = false

bytes_or_lem : (n : ℕ) (f : Figure) → in_bytes? f ≡ true → Bytes (bytes_or n f) ≡ f
bytes_or_lem n (Bytes m) e = refl
bytes_or_lem n (Seconds s) e = absurd (true≢false (sym e))

seconds_or_lem : (s : Float) (f : Figure) → in_bytes? f ≡ false → Seconds (seconds_or s f) ≡ f
seconds_or_lem s (Bytes n) e = absurd (true≢false e)
seconds_or_lem s (Seconds t) e = refl

worse_sort : (f g : Figure) → in_bytes? (worse f g) ≡ in_bytes? f
unfolding worse
worse_sort (Bytes m) (Bytes n) = refl
worse_sort (Bytes m) (Seconds t) = refl
worse_sort (Seconds s) (Bytes n) = refl
worse_sort (Seconds s) (Seconds t) = refl

worse_assoc : (f g h : Figure) → in_bytes? g ≡ in_bytes? f → in_bytes? h ≡ in_bytes? f → worse (worse f g) h ≡ worse f (worse g h)
unfolding worse
worse_assoc (Bytes l) (Bytes m) (Bytes n) p q = let e : max (max l m) n ≡ max l (max m n) = omega arith in ap Bytes e
worse_assoc (Bytes l) (Bytes m) (Seconds t) p q = absurd (true≢false (sym q))
worse_assoc (Bytes l) (Seconds s) h p q = absurd (true≢false (sym p))
worse_assoc (Seconds r) (Bytes m) h p q = absurd (true≢false p)
worse_assoc (Seconds r) (Seconds s) (Bytes n) p q = absurd (true≢false q)
worse_assoc (Seconds r) (Seconds s) (Seconds t) p q = ap Seconds (max_assoc r s t)

worse_has : (B : ℕ → Type 0) (S : Float → Type 0) (f g : Figure) → FigureHas B S f → FigureHas B S g → FigureHas B S (worse f g)
unfolding worse
worse_has B S (Bytes m) (Bytes n) p q = larger m n (leb m n) refl p q
  where
    larger : (m n : ℕ) (t : Bool) → leb m n ≡ t → B m → B n → B (max m n)
    larger m n true e p q = rw (max-eq_right (leb-true m n e)) q
    larger m n false e p q = let h : n ≤ m = omega (arith, leb-false m n e) in rw (max-eq_left h) p
worse_has B S (Bytes m) (Seconds t) p q = p
worse_has B S (Seconds s) (Bytes n) p q = p
worse_has B S (Seconds s) (Seconds t) p q = max_holds S s t p q

-- ---- a violation with another figure

-- the kinds whose figure is in bytes
abbrev bytes_kinds : List ℕ
bytes_kinds = 0 ∷ 2 ∷ 3 ∷ 4 ∷ 6 ∷ 8 ∷ []

-- the sort of the figure goes by the kind
sort_kind : (v : TStdViolation) → in_bytes? (fields_of v).figure ≡ has_key bytes_kinds (fields_of v).kind
unfolding fields_of
sort_kind (TbOverflow p x) = refl
sort_kind (TbBusyOverOneSecond p x) = refl
sort_kind (MainOverflow p x l) = refl
sort_kind (MainUnderflow p t x) = refl
sort_kind (MbOverflow p x l) = refl
sort_kind (MbBusyOverOneSecond p x) = refl
sort_kind (EbUnderflow p t x) = refl
sort_kind (DelayOverOneSecond p t x) = refl
sort_kind (BsysOverflow x) = refl

pub same_sort : (a b : TStdViolation) → (fields_of a).kind ≡ (fields_of b).kind → in_bytes? (fields_of b).figure ≡ in_bytes? (fields_of a).figure
same_sort a b e = sort_kind b ∙ ap (has_key bytes_kinds) (sym e) ∙ sym (sort_kind a)

abbrev pub fields_with : ViolationFields → Figure → ViolationFields
fields_with r f = record { kind = r.kind; pid = r.pid; limit = r.limit; decode_time = r.decode_time; figure = f }

with_fields : (v : TStdViolation) (f : Figure) → in_bytes? f ≡ in_bytes? (fields_of v).figure → fields_of (with_figure v f) ≡ fields_with (fields_of v) f
unfolding fields_of with_figure
with_fields (TbOverflow p x) f e = rw (bytes_or_lem x f e)
with_fields (TbBusyOverOneSecond p x) f e = rw (seconds_or_lem x f e)
with_fields (MainOverflow p x l) f e = rw (bytes_or_lem x f e)
with_fields (MainUnderflow p t x) f e = rw (bytes_or_lem x f e)
with_fields (MbOverflow p x l) f e = rw (bytes_or_lem x f e)
with_fields (MbBusyOverOneSecond p x) f e = rw (seconds_or_lem x f e)
with_fields (EbUnderflow p t x) f e = rw (bytes_or_lem x f e)
with_fields (DelayOverOneSecond p t x) f e = rw (seconds_or_lem x f e)
with_fields (BsysOverflow x) f e = rw (bytes_or_lem x f e)

bytes_twice : (n : ℕ) (f g : Figure) → in_bytes? g ≡ true → bytes_or (bytes_or n f) g ≡ bytes_or n g
bytes_twice n f (Bytes m) e = refl
bytes_twice n f (Seconds s) e = absurd (true≢false (sym e))

seconds_twice : (s : Float) (f g : Figure) → in_bytes? g ≡ false → seconds_or (seconds_or s f) g ≡ seconds_or s g
seconds_twice s f (Bytes n) e = absurd (true≢false e)
seconds_twice s f (Seconds t) e = refl

with_twice : (v : TStdViolation) (f g : Figure) → in_bytes? g ≡ in_bytes? (fields_of v).figure → with_figure (with_figure v f) g ≡ with_figure v g
unfolding fields_of with_figure
with_twice (TbOverflow p x) f g e = ap (TbOverflow p) (bytes_twice x f g e)
with_twice (TbBusyOverOneSecond p x) f g e = ap (TbBusyOverOneSecond p) (seconds_twice x f g e)
with_twice (MainOverflow p x l) f g e = rw (bytes_twice x f g e)
with_twice (MainUnderflow p t x) f g e = ap (MainUnderflow p t) (bytes_twice x f g e)
with_twice (MbOverflow p x l) f g e = rw (bytes_twice x f g e)
with_twice (MbBusyOverOneSecond p x) f g e = ap (MbBusyOverOneSecond p) (seconds_twice x f g e)
with_twice (EbUnderflow p t x) f g e = ap (EbUnderflow p t) (bytes_twice x f g e)
with_twice (DelayOverOneSecond p t x) f g e = ap (DelayOverOneSecond p t) (seconds_twice x f g e)
with_twice (BsysOverflow x) f g e = ap BsysOverflow (bytes_twice x f g e)

-- ---- merging

module _ (a b : TStdViolation) where
  -- violations of two kinds leave the first
  pub merge_unlike : eqb (fields_of a).kind (fields_of b).kind ≡ false → merge_of a b ≡ a
  unfolding merge_of
  merge_unlike e = rw e

  pub merge_like : (fields_of a).kind ≡ (fields_of b).kind → merge_of a b ≡ with_figure a (worse (fields_of a).figure (fields_of b).figure)
  unfolding merge_of
  merge_like e = rw (eq-eqb (fields_of a).kind (fields_of b).kind e)

  -- of one kind: the first's fields, but for the figure, which is the worse
  pub merge_fields : (fields_of a).kind ≡ (fields_of b).kind → fields_of (merge_of a b) ≡ fields_with (fields_of a) (worse (fields_of a).figure (fields_of b).figure)
  merge_fields e = rw (merge_like e) (with_fields a (worse (fields_of a).figure (fields_of b).figure) (worse_sort (fields_of a).figure (fields_of b).figure))

  -- what holds of the first, and of the second where it is of the same kind, to what holds of the merged one
  merge_by : (P : TStdViolation → Type 0) (t : Bool) → eqb (fields_of a).kind (fields_of b).kind ≡ t → P a → ((fields_of a).kind ≡ (fields_of b).kind → P (merge_of a b)) → P (merge_of a b)
  merge_by P true e p q = q (eqb-true (fields_of a).kind (fields_of b).kind e)
  merge_by P false e p q = rw (merge_unlike e) p

  pub merge_key : key_of (merge_of a b) ≡ key_of a
  unfolding key_of
  merge_key = merge_by (λ (v : TStdViolation). key_of v ≡ key_of a) (eqb (fields_of a).kind (fields_of b).kind) refl refl (λ e. rw (merge_fields e))

  -- what is asked of limit, decode time and figure is kept
  pub merge_has : (L : ℕ → Type 0) (D : Float → Type 0) (B : ℕ → Type 0) (S : Float → Type 0) → FieldsHave L D B S a → FieldsHave L D B S b → FieldsHave L D B S (merge_of a b)
  merge_has L D B S p q =
      merge_by (FieldsHave L D B S) (eqb (fields_of a).kind (fields_of b).kind) refl p (λ e. record {
        limit = rw (merge_fields e) p.limit;
        decode = rw (merge_fields e) p.decode;
        figure = rw (merge_fields e) (worse_has B S (fields_of a).figure (fields_of b).figure p.figure q.figure);
      })

pub merge_assoc : (a b c : TStdViolation) → (fields_of a).kind ≡ (fields_of b).kind → (fields_of b).kind ≡ (fields_of c).kind → merge_of (merge_of a b) c ≡ merge_of a (merge_of b c)
merge_assoc a b c e f =
    let fa = (fields_of a).figure in
    let fb = (fields_of b).figure in
    let fc = (fields_of c).figure in
    let ab : (fields_of (merge_of a b)).kind ≡ (fields_of c).kind = rw (merge_fields a b e) (e ∙ f) in
    let bc : (fields_of a).kind ≡ (fields_of (merge_of b c)).kind = rw (merge_fields b c f) e in
    let sorted : in_bytes? (worse (worse fa fb) fc) ≡ in_bytes? fa = worse_sort (worse fa fb) fc ∙ worse_sort fa fb in
    let left : merge_of (merge_of a b) c ≡ with_figure a (worse (worse fa fb) fc) = merge_like (merge_of a b) c ab ∙ rw (merge_fields a b e, merge_like a b e) (with_twice a (worse fa fb) (worse (worse fa fb) fc) sorted) in
    let right : merge_of a (merge_of b c) ≡ with_figure a (worse fa (worse fb fc)) = merge_like a (merge_of b c) bc ∙ rw (merge_fields b c f) in
    left ∙ ap (with_figure a) (worse_assoc fa fb fc (same_sort a b e) (same_sort a c (e ∙ f))) ∙ sym right
