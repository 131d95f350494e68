-- The kind of a violation against the tags of a `match` on it.
use mathlib.Core.Path.{◌≡◌, refl, sym, ap, subst, ◌∙◌}
use mathlib.Core.Bool.{Bool, true, false, not, cond, ◌&&◌}
use mathlib.Core.List.{List, [], ◌∷◌}
use mathlib.Core.Logic.{inl, inr}
use Prim.Native.Nat.{ℕ}
use lib.Dec.{T, eqb}
use lib.Ieee.{Float, nan}
use lib.Ieee.Fits.{and_l, and_r}
use borrow.Author.Tests.{ne_eqb}
use types.Run.{OneOf, miss}
use mir.Val.{has_key}
use denote.Enum.Declared.{tag_of}
use Rattle.report.specs.Violation.{bytes_or, seconds_or, fields_of, with_figure}
use Rattle.report.specs.declared.violation.ViolationFields.{ViolationFields}
use Rattle.report.specs.declared.violation.Figure.TheVariants.{Bytes, Seconds}
use Rattle.report.specs.declared.violation.TStdViolation.{TStdViolation}
use Rattle.report.specs.declared.violation.TStdViolation.TheVariants.{TbOverflow, TbBusyOverOneSecond, MainOverflow, MainUnderflow, MbOverflow, MbBusyOverOneSecond, EbUnderflow, DelayOverOneSecond, BsysOverflow}
use Rattle.report.specs.contracts.violation.TStdViolation.{the_type}

-- the tag is the kind
pub tag_kind : (v : TStdViolation) → tag_of the_type v ≡ (fields_of v).kind
unfolding fields_of
tag_kind (TbOverflow p x) = refl
tag_kind (TbBusyOverOneSecond p x) = refl
tag_kind (MainOverflow p x l) = refl
tag_kind (MainUnderflow p t x) = refl
tag_kind (MbOverflow p x l) = refl
tag_kind (MbBusyOverOneSecond p x) = refl
tag_kind (EbUnderflow p t x) = refl
tag_kind (DelayOverOneSecond p t x) = refl
tag_kind (BsysOverflow x) = refl

-- the tags of a `_` arm beside an arm for the tag k
abbrev pub but_for : ℕ → List ℕ → List ℕ
but_for k [] = []
but_for k (t ∷ ts) = cond (eqb k t) (but_for k ts) (t ∷ but_for k ts)

abbrev pub tags : List ℕ
tags = 0 ∷ 1 ∷ 2 ∷ 3 ∷ 4 ∷ 5 ∷ 6 ∷ 7 ∷ 8 ∷ []

-- in the `_` arm of a match on v, beside an arm for the kind k, v is of another kind
pub other_kind : (k : ℕ) (v : TStdViolation) → T (not (has_key (but_for k tags) k)) → OneOf (but_for k tags) (tag_of the_type v) → eqb k (fields_of v).kind ≡ false
other_kind k v h o = ne_eqb k (fields_of v).kind (λ e. miss (but_for k tags) k h (subst (OneOf (but_for k tags)) (tag_kind v ∙ sym e) o))

-- none of js is among ks
abbrev pub disjoint : List ℕ → List ℕ → Bool
disjoint [] ks = true
disjoint (j ∷ js) ks = not (has_key ks j) && disjoint js ks

pub apart : (js ks : List ℕ) (x : ℕ) → T (disjoint js ks) → OneOf js x → OneOf ks x → ⊥
apart [] ks x d o q = o
apart (j ∷ []) ks x d o q = miss ks j (and_l (not (has_key ks j)) true d) (subst (OneOf ks) o q)
apart (j ∷ i ∷ js) ks x d o q =
    elim o [
      | inl e ↦ miss ks j (and_l (not (has_key ks j)) (disjoint (i ∷ js) ks) d) (subst (OneOf ks) e q)
      | inr p ↦ apart (i ∷ js) ks x (and_r (not (has_key ks j)) (disjoint (i ∷ js) ks) d) p q
    ]

-- the kinds whose figure is in seconds, and those whose figure is in bytes
abbrev pub seconds_tags : List ℕ
seconds_tags = 1 ∷ 5 ∷ 7 ∷ []

abbrev pub bytes_tags : List ℕ
bytes_tags = 0 ∷ 2 ∷ 3 ∷ 4 ∷ 6 ∷ 8 ∷ []

-- a figure of the other sort changes nothing
pub other_figure : (v : TStdViolation) (n : ℕ) (s : Float) →
    (OneOf seconds_tags (tag_of the_type v) → v ≡ with_figure v (Bytes n)) × (OneOf bytes_tags (tag_of the_type v) → v ≡ with_figure v (Seconds s))
unfolding with_figure
other_figure (TbOverflow p x) n s = (λ o. absurd (miss seconds_tags 0 tt o), λ o. refl)
other_figure (TbBusyOverOneSecond p x) n s = (λ o. refl, λ o. absurd (miss bytes_tags 1 tt o))
other_figure (MainOverflow p x l) n s = (λ o. absurd (miss seconds_tags 2 tt o), λ o. refl)
other_figure (MainUnderflow p t x) n s = (λ o. absurd (miss seconds_tags 3 tt o), λ o. refl)
other_figure (MbOverflow p x l) n s = (λ o. absurd (miss seconds_tags 4 tt o), λ o. refl)
other_figure (MbBusyOverOneSecond p x) n s = (λ o. refl, λ o. absurd (miss bytes_tags 5 tt o))
other_figure (EbUnderflow p t x) n s = (λ o. absurd (miss seconds_tags 6 tt o), λ o. refl)
other_figure (DelayOverOneSecond p t x) n s = (λ o. refl, λ o. absurd (miss bytes_tags 7 tt o))
other_figure (BsysOverflow x) n s = (λ o. absurd (miss seconds_tags 8 tt o), λ o. refl)

-- what an arm leaves to the arms below it
abbrev pub NotTbOverflow : TStdViolation → Type 0
NotTbOverflow v = (p : ℕ) (x : ℕ) → v ≡ TbOverflow p x → ⊥

abbrev pub NotTbBusyOverOneSecond : TStdViolation → Type 0
NotTbBusyOverOneSecond v = (p : ℕ) (x : Float) → v ≡ TbBusyOverOneSecond p x → ⊥

abbrev pub NotMainOverflow : TStdViolation → Type 0
NotMainOverflow v = (p : ℕ) (x : ℕ) (l : ℕ) → v ≡ MainOverflow p x l → ⊥

abbrev pub NotMainUnderflow : TStdViolation → Type 0
NotMainUnderflow v = (p : ℕ) (t : Float) (x : ℕ) → v ≡ MainUnderflow p t x → ⊥

abbrev pub NotMbOverflow : TStdViolation → Type 0
NotMbOverflow v = (p : ℕ) (x : ℕ) (l : ℕ) → v ≡ MbOverflow p x l → ⊥

abbrev pub NotMbBusyOverOneSecond : TStdViolation → Type 0
NotMbBusyOverOneSecond v = (p : ℕ) (x : Float) → v ≡ MbBusyOverOneSecond p x → ⊥

abbrev pub NotEbUnderflow : TStdViolation → Type 0
NotEbUnderflow v = (p : ℕ) (t : Float) (x : ℕ) → v ≡ EbUnderflow p t x → ⊥

abbrev pub NotDelayOverOneSecond : TStdViolation → Type 0
NotDelayOverOneSecond v = (p : ℕ) (t : Float) (x : Float) → v ≡ DelayOverOneSecond p t x → ⊥

abbrev pub NotBsysOverflow : TStdViolation → Type 0
NotBsysOverflow v = (x : ℕ) → v ≡ BsysOverflow x → ⊥

-- beside the arms for bytes
pub is_seconds : (v : TStdViolation) → NotTbOverflow v → NotMainOverflow v → NotMainUnderflow v → NotMbOverflow v → NotEbUnderflow v → NotBsysOverflow v → OneOf seconds_tags (tag_of the_type v)
is_seconds (TbOverflow p x) n _ _ _ _ _ = absurd (n p x refl)
is_seconds (TbBusyOverOneSecond p x) _ _ _ _ _ _ = inl refl
is_seconds (MainOverflow p x l) _ n _ _ _ _ = absurd (n p x l refl)
is_seconds (MainUnderflow p t x) _ _ n _ _ _ = absurd (n p t x refl)
is_seconds (MbOverflow p x l) _ _ _ n _ _ = absurd (n p x l refl)
is_seconds (MbBusyOverOneSecond p x) _ _ _ _ _ _ = inr (inl refl)
is_seconds (EbUnderflow p t x) _ _ _ _ n _ = absurd (n p t x refl)
is_seconds (DelayOverOneSecond p t x) _ _ _ _ _ _ = inr (inr refl)
is_seconds (BsysOverflow x) _ _ _ _ _ n = absurd (n x refl)

-- beside the arms for seconds
pub is_bytes : (v : TStdViolation) → NotTbBusyOverOneSecond v → NotMbBusyOverOneSecond v → NotDelayOverOneSecond v → OneOf bytes_tags (tag_of the_type v)
is_bytes (TbOverflow p x) _ _ _ = inl refl
is_bytes (TbBusyOverOneSecond p x) n _ _ = absurd (n p x refl)
is_bytes (MainOverflow p x l) _ _ _ = inr (inl refl)
is_bytes (MainUnderflow p t x) _ _ _ = inr (inr (inl refl))
is_bytes (MbOverflow p x l) _ _ _ = inr (inr (inr (inl refl)))
is_bytes (MbBusyOverOneSecond p x) _ n _ = absurd (n p x refl)
is_bytes (EbUnderflow p t x) _ _ _ = inr (inr (inr (inr (inl refl))))
is_bytes (DelayOverOneSecond p t x) _ _ n = absurd (n p t x refl)
is_bytes (BsysOverflow x) _ _ _ = inr (inr (inr (inr (inr refl))))

-- beside the arms for overflows
pub is_no_overflow : (v : TStdViolation) → NotTbOverflow v → NotMainOverflow v → NotMbOverflow v → NotBsysOverflow v → OneOf (1 ∷ 3 ∷ 5 ∷ 6 ∷ 7 ∷ []) (tag_of the_type v)
is_no_overflow (TbOverflow p x) n _ _ _ = absurd (n p x refl)
is_no_overflow (TbBusyOverOneSecond p x) _ _ _ _ = inl refl
is_no_overflow (MainOverflow p x l) _ n _ _ = absurd (n p x l refl)
is_no_overflow (MainUnderflow p t x) _ _ _ _ = inr (inl refl)
is_no_overflow (MbOverflow p x l) _ _ n _ = absurd (n p x l refl)
is_no_overflow (MbBusyOverOneSecond p x) _ _ _ _ = inr (inr (inl refl))
is_no_overflow (EbUnderflow p t x) _ _ _ _ = inr (inr (inr (inl refl)))
is_no_overflow (DelayOverOneSecond p t x) _ _ _ _ = inr (inr (inr (inr refl)))
is_no_overflow (BsysOverflow x) _ _ _ n = absurd (n x refl)

-- beside the arms for all others
pub is_overflow : (v : TStdViolation) → NotTbBusyOverOneSecond v → NotMainUnderflow v → NotMbBusyOverOneSecond v → NotEbUnderflow v → NotDelayOverOneSecond v → OneOf (0 ∷ 2 ∷ 4 ∷ 8 ∷ []) (tag_of the_type v)
is_overflow (TbOverflow p x) _ _ _ _ _ = inl refl
is_overflow (TbBusyOverOneSecond p x) n _ _ _ _ = absurd (n p x refl)
is_overflow (MainOverflow p x l) _ _ _ _ _ = inr (inl refl)
is_overflow (MainUnderflow p t x) _ n _ _ _ = absurd (n p t x refl)
is_overflow (MbOverflow p x l) _ _ _ _ _ = inr (inr (inl refl))
is_overflow (MbBusyOverOneSecond p x) _ _ n _ _ = absurd (n p x refl)
is_overflow (EbUnderflow p t x) _ _ _ n _ = absurd (n p t x refl)
is_overflow (DelayOverOneSecond p t x) _ _ _ _ n = absurd (n p t x refl)
is_overflow (BsysOverflow x) _ _ _ _ _ = inr (inr (inr refl))

-- the violation of a kind with these fields
abbrev of_kind : ℕ → ViolationFields → TStdViolation
of_kind k f =
    cond (eqb k 0) (TbOverflow f.pid (bytes_or 0 f.figure))
    (cond (eqb k 1) (TbBusyOverOneSecond f.pid (seconds_or nan f.figure))
    (cond (eqb k 2) (MainOverflow f.pid (bytes_or 0 f.figure) f.limit)
    (cond (eqb k 3) (MainUnderflow f.pid f.decode_time (bytes_or 0 f.figure))
    (cond (eqb k 4) (MbOverflow f.pid (bytes_or 0 f.figure) f.limit)
    (cond (eqb k 5) (MbBusyOverOneSecond f.pid (seconds_or nan f.figure))
    (cond (eqb k 6) (EbUnderflow f.pid f.decode_time (bytes_or 0 f.figure))
    (cond (eqb k 7) (DelayOverOneSecond f.pid f.decode_time (seconds_or nan f.figure))
    (BsysOverflow (bytes_or 0 f.figure)))))))))

by_fields : (v : TStdViolation) → v ≡ of_kind (fields_of v).kind (fields_of v)
unfolding fields_of
by_fields (TbOverflow p x) = refl
by_fields (TbBusyOverOneSecond p x) = refl
by_fields (MainOverflow p x l) = refl
by_fields (MainUnderflow p t x) = refl
by_fields (MbOverflow p x l) = refl
by_fields (MbBusyOverOneSecond p x) = refl
by_fields (EbUnderflow p t x) = refl
by_fields (DelayOverOneSecond p t x) = refl
by_fields (BsysOverflow x) = refl

-- in a `_` arm beside an arm for the kind k, v is of another kind
pub not_kind : (k : ℕ) (v : TStdViolation) → (v ≡ of_kind k (fields_of v) → ⊥) → eqb k (fields_of v).kind ≡ false
not_kind k v n = ne_eqb k (fields_of v).kind (λ e. n (by_fields v ∙ ap (λ (j : ℕ). of_kind j (fields_of v)) (sym e)))
