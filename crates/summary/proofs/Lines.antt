-- The lines that the slots' violations make, in the order of first events, under one event more: where its slot is new, and where it has a figure already.
use mathlib.Core.Path.{◌≡◌, refl, sym, ap, ◌∙◌}
use mathlib.Core.Logic.{⊎_elim}
use mathlib.Core.Bool.{Bool, true, false}
use mathlib.Core.List.{List, [], ◌∷◌, map, map-append, append-nil}
use Prim.Native.Nat.{ℕ, zero, suc, ◌≤◌, ◌<◌}
use native.Mathlib.Omega.{arith}
use lib.ListN.{length, get_or}
use lib.Dec.{T, eqb}
use lib.Ieee.{Float, binary64, fits, lt}
use lib.Ieee.Positive.{positive, above_of_le}
use borrow.Author.Tests.{eqb-true, eqb-false}
use Rattle.ieee.specs.MaxMin.{max_num}
use Rattle.ieee.proofs.Order.{lt→le_any}
use Rattle.ieee.proofs.MaxCommutes.{max_comm}
use Rattle.report.specs.declared.violation.TStdViolation.{TStdViolation}
use Rattle.report.specs.declared.ViolationLine.{ViolationLine}
use Rattle.report.specs.Violation.{key_of, same_key, merge_of}
use Rattle.report.specs.Keys.{has_key}
use Rattle.report.specs.Record.{keys_of, record_line, record_lines}
use Rattle.report.proofs.Keys.{same_key_refl, has_add, has_added}
use Rattle.report.proofs.Lines.{line_keys, lines_append, same_key_line}
use Rattle.report.proofs.Commute.{changed_places}
use Rattle.summary.specs.Summary.{slot_first, first_slots}
use Rattle.summary.specs.Violation.{AboveZero}
use Rattle.summary.specs.Next.{FirstSlot}
use Rattle.summary.proofs.Merge.{AboveZeroIn}
use Rattle.summary.proofs.Order.{slot_or, same_on_slots}

-- the lines of the slots up to n, where slot j has the violation f j
abbrev pub lines_to : List ℕ → (ℕ → TStdViolation) → ℕ → List ViolationLine
lines_to firsts f n = record_lines [] (map f (first_slots firsts n))

module _ (firsts : List ℕ) (f : ℕ → TStdViolation) (n : ℕ) where
  pub line_there : (k : ℕ) → slot_first firsts (suc n) ≡ k ∷ [] → lines_to firsts f (suc n) ≡ record_line (lines_to firsts f n) (f k)
  unfolding first_slots record_lines
  line_there k e = rw (e, map-append f (first_slots firsts n) (k ∷ [])) (lines_append [] (map f (first_slots firsts n)) (f k ∷ []))

  pub line_none : slot_first firsts (suc n) ≡ [] → lines_to firsts f (suc n) ≡ lines_to firsts f n
  unfolding first_slots
  line_none e = rw (e, append-nil)

above_commutes : (s t : Float) → AboveZero s → AboveZero t → max_num s t ≡ max_num t s
above_commutes s t p q = max_comm binary64 s t p.0 q.0 p.1 q.1

-- seconds over a threshold that is above zero
pub above_threshold : (least s : Float) → T (positive least) → T (lt least s) → T (fits binary64 s) → AboveZero s
above_threshold least s p h f = (f, above_of_le least s p (lt→le_any least s h))

-- a slot k that has a figure already: the event v merges into its violation, and the other slots keep theirs
module _ (firsts : List ℕ) (before after : ℕ → TStdViolation) (k : ℕ) (v : TStdViolation)
    (low : 0 < k) (high : k < length firsts) (used : 0 < get_or firsts k 0)
    (apart : (j : ℕ) → 0 < j → j < length firsts → get_or firsts j 0 ≡ get_or firsts k 0 → j ≡ k)
    (key : key_of (before k) ≡ key_of v) (merged : after k ≡ merge_of (before k) v)
    (kept : (j : ℕ) → 0 < j → j < length firsts → (j ≡ k → ⊥) → after j ≡ before j)
    (above : (j : ℕ) → 0 < j → j < length firsts → 0 < get_or firsts j 0 → AboveZeroIn (before j)) (above-v : AboveZeroIn v) where
  record Joined (n : ℕ) : Type 0 where
    lines : lines_to firsts after n ≡ record_line (lines_to firsts before n) v
    there : has_key (keys_of (lines_to firsts before n)) (key_of v) ≡ true

  -- the slots up to n, without slot k, have the same violations
  same_before : (n : ℕ) → n < get_or firsts k 0 → lines_to firsts after n ≡ lines_to firsts before n
  same_before n h =
      ap (record_lines []) (same_on_slots after before firsts n (λ j l w p q. kept j l w (λ e. let g : get_or firsts j 0 ≡ get_or firsts k 0 = ap (λ (i : ℕ). get_or firsts i 0) e in omega arith)))

  module _ (n : ℕ) where
    own : slot_first firsts (suc n) ≡ k ∷ [] → get_or firsts k 0 ≡ suc n → Joined (suc n)
    own e a =
        let ls = lines_to firsts before n in
        let same : same_key (key_of (before k)) (key_of v) ≡ true = rw key (same_key_refl (key_of v)) in
        let below : n < get_or firsts k 0 = omega arith in
        record {
          lines = rw (line_there firsts after n k e, line_there firsts before n k e, same_before n below, merged) (sym (same_key_line (before k) v same ls));
          there = rw (line_there firsts before n k e, line_keys ls (before k), ← key) (has_added (keys_of ls) (key_of (before k)));
        }

    other : (j : ℕ) → slot_first firsts (suc n) ≡ j ∷ [] → FirstSlot firsts (suc n) j → (j ≡ k → ⊥) → Joined n → Joined (suc n)
    other j e f ne i =
        let ls = lines_to firsts before n in
        let a : AboveZeroIn (before j) = above j f.low f.high (omega (arith, f.at)) in
        record {
          lines =
              rw (line_there firsts after n j e, line_there firsts before n j e, i.lines, kept j f.low f.high ne)
              (sym (changed_places AboveZero above_commutes (before j) v a above-v ls i.there));
          there = rw (line_there firsts before n j e, line_keys ls (before j)) (has_add (keys_of ls) (key_of (before j)) (key_of v) i.there);
        }

    none : slot_first firsts (suc n) ≡ [] → Joined n → Joined (suc n)
    none e i = record { lines = rw (line_none firsts after n e, line_none firsts before n e) i.lines; there = rw (line_none firsts before n e) i.there }

  -- event suc n is slot k's first, or another slot's, or the first of none
  next_by : (n : ℕ) (b : Bool) → eqb (get_or firsts k 0) (suc n) ≡ b → get_or firsts k 0 ≤ suc n → (get_or firsts k 0 ≤ n → Joined n) → Joined (suc n)
  next_by n true t h ih =
      let a : get_or firsts k 0 ≡ suc n = eqb-true (get_or firsts k 0) (suc n) t in
      ⊎_elim
      (λ s. own n (s.1.1 ∙ ap (λ (j : ℕ). j ∷ []) (apart s.0 s.1.0.low s.1.0.high (s.1.0.at ∙ sym a))) a)
      (λ s. absurd (s.0 k low high a))
      (slot_or firsts (suc n))
  next_by n false t h ih =
      let ne : get_or firsts k 0 ≡ suc n → ⊥ = eqb-false (get_or firsts k 0) (suc n) t in
      let i : Joined n = ih (omega arith) in
      ⊎_elim
      (λ s. other n s.0 s.1.1 s.1.0 (λ e. ne (sym (ap (λ (j : ℕ). get_or firsts j 0) e) ∙ s.1.0.at)) i)
      (λ s. none n s.1 i)
      (slot_or firsts (suc n))

  joined : (n : ℕ) → get_or firsts k 0 ≤ n → Joined n
  joined zero h = absurd (omega arith)
  joined (suc n) h = next_by n (eqb (get_or firsts k 0) (suc n)) refl h (joined n)

  pub lines_merged : (n : ℕ) → get_or firsts k 0 ≤ n → lines_to firsts after n ≡ record_line (lines_to firsts before n) v
  lines_merged n h = (joined n h).lines
