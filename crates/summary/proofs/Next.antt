-- The search for the slot whose first event comes next: of the slots below k the best is kept.
use mathlib.Core.Path.{◌≡◌, refl, sym, ap, ◌∙◌}
use mathlib.Core.Bool.{Bool, true, false, ◌&&◌}
use mathlib.Core.List.{List}
use Prim.Native.Nat.{ℕ, ◌+◌, ◌≤◌, ◌<◌}
use native.Mathlib.Omega.{arith}
use lib.ListN.{length, get_or}
use lib.Dec.{ltb, leb, eqb}
use borrow.Author.Tests.{ltb-true, ltb-false, leb-true, leb-false, eqb-true, eqb-false, lt-ltb}
use Rattle.std.specs.Prelude.{Option, Some, None}
use Rattle.std.proofs.lemmas.Bool.{and_parts, and_from, true≢false}
use Rattle.summary.specs.Next.{NextSlot}

-- slot j may come next
pub record Candidate (firsts : List ℕ) (events after j : ℕ) : Type 0 where
  pub low : 0 < j
  pub behind : after < get_or firsts j 0
  pub counted : get_or firsts j 0 ≤ events

-- of the candidates below k, b is the lowest with the least number
pub record Best (firsts : List ℕ) (events after k b : ℕ) : Type 0 where
  pub passed : b < k
  pub candidate : Candidate firsts events after b
  pub lowest : (j : ℕ) → 0 < j → j < b → get_or firsts j 0 ≡ get_or firsts b 0 → ⊥
  pub least : (j : ℕ) → j < k → Candidate firsts events after j → get_or firsts b 0 ≤ get_or firsts j 0

abbrev pub Scanned : List ℕ → ℕ → ℕ → ℕ → Option ℕ → Type 0
Scanned firsts events after k None = (j : ℕ) → j < k → Candidate firsts events after j → ⊥
Scanned firsts events after k (Some b) = Best firsts events after k b

-- the number of slot k is before that of the best so far, or counted where there is none
abbrev pub sooner : List ℕ → ℕ → Option ℕ → ℕ → Bool
sooner firsts events None first = leb first (events)
sooner firsts events (Some b) first = ltb first (get_or firsts b 0)

module _ (firsts : List ℕ) (events after : ℕ) where
  pub scan_starts : Scanned firsts events after 1 None
  scan_starts j h c = omega (arith, c.low)

  module _ (k : ℕ) (low : 0 < k) where
    abbrev f : ℕ
    f = get_or firsts k 0

    -- slot j is k or lies below it
    at_or_below : (j : ℕ) {P : Type 0} → j < k + 1 → (j ≡ k → P) → (j < k → P) → P
    at_or_below j {P} h p q = go (eqb j k) refl
      where
        go : (b : Bool) → eqb j k ≡ b → P
        go true e = p (eqb-true j k e)
        go false e = let ne : j ≡ k → ⊥ = eqb-false j k e in q (omega arith)

    at_k : (j : ℕ) → j ≡ k → get_or firsts j 0 ≡ f
    at_k j e = ap (λ (i : ℕ). get_or firsts i 0) e

    pub scan_better : (best : Option ℕ) → Scanned firsts events after k best → (ltb after f && sooner firsts events best f) ≡ true → Scanned firsts events after (k + 1) (Some k)
    scan_better None s t =
        let p = ltb-true after f (and_parts (ltb after f) _ t).0 in
        let q = leb-true f (events) (and_parts (ltb after f) _ t).1 in
        record {
          passed = omega arith;
          candidate = record { low = low; behind = p; counted = q };
          lowest = λ j l h e. s j h (record { low = l; behind = omega arith; counted = omega arith });
          least = λ j h c. at_or_below j h (λ e. omega (arith, at_k j e)) (λ g. absurd (s j g c));
        }
    scan_better (Some b) s t =
        let p = ltb-true after f (and_parts (ltb after f) _ t).0 in
        let q = ltb-true f (get_or firsts b 0) (and_parts (ltb after f) _ t).1 in
        let counted = s.candidate.counted in
        record {
          passed = omega arith;
          candidate = record { low = low; behind = p; counted = omega arith };
          lowest = λ j l h e. let w = s.least j h (record { low = l; behind = omega arith; counted = omega arith }) in omega arith;
          least = λ j h c. at_or_below j h (λ e. omega (arith, at_k j e)) (λ g. let w = s.least j g c in omega arith);
        }

    -- the test fails
    fails : (best : Option ℕ) → (ltb after f && sooner firsts events best f) ≡ false → after < f → sooner firsts events best f ≡ false
    fails best t p = go (sooner firsts events best f) refl
      where
        go : (b : Bool) → sooner firsts events best f ≡ b → sooner firsts events best f ≡ false
        go true e = absurd (true≢false (sym (and_from (ltb after f) _ (lt-ltb after f p) e) ∙ t))
        go false e = e

    pub scan_other : (best : Option ℕ) → Scanned firsts events after k best → (ltb after f && sooner firsts events best f) ≡ false → Scanned firsts events after (k + 1) best
    scan_other None s t = λ j h c.
        at_or_below j h
        (λ e. let g = at_k j e in let b = c.behind in let d = c.counted in let w = leb-false f (events) (fails None t (omega arith)) in omega arith)
        (λ g. s j g c)
    scan_other (Some b) s t =
        let passed = s.passed in
        record {
          passed = omega arith;
          candidate = s.candidate;
          lowest = s.lowest;
          least = λ j h c.
              at_or_below j h
              (λ e. let g = at_k j e in let a = c.behind in let w = ltb-false f (get_or firsts b 0) (fails (Some b) t (omega arith)) in omega arith)
              (λ g. s.least j g c);
        }

  pub scan_ends : (k : ℕ) (best : Option ℕ) → length firsts ≡ k → Scanned firsts events after k best → NextSlot firsts events after best
  scan_ends k None n s = λ j l h i a w e. s i (omega arith) (record { low = a; behind = omega arith; counted = omega arith })
  scan_ends k (Some b) n s =
      let passed = s.passed in
      let c = s.candidate in
      record {
        slot = record { low = c.low; high = omega arith; at = refl; first = s.lowest };
        behind = c.behind;
        counted = c.counted;
        between = λ j l h i a w e. let m = s.least i (omega arith) (record { low = a; behind = omega arith; counted = let d = c.counted in omega arith }) in omega arith;
      }
