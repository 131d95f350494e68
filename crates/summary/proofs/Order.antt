-- Laws of the slots in the order of their first events: which slot is the first of an event, and which lists of numbers give the same slots.
use mathlib.Core.Path.{◌≡◌, refl, sym, ap, ◌∙◌}
use mathlib.Core.Logic.{◌⊎◌, inl, inr, ⊎_elim}
use mathlib.Core.Bool.{Bool, true, false}
use mathlib.Core.List.{List, [], ◌∷◌, ◌++◌, map, map-append, append-nil}
use Prim.Native.Nat.{ℕ, zero, suc, ◌+◌, ◌-◌, ◌≤◌, ◌<◌}
use native.Mathlib.Nat.{add-zero, add-suc}
use native.Mathlib.Omega.{arith}
use lib.ListN.{length, get_or, drop, length-drop, length-append}
use lib.Seq.{get_or-drop}
use borrow.Author.Tests.{ltb-false}
use Rattle.profile.specs.Owner.{contains, first_index}
use Rattle.profile.proofs.Search.{contains_index, index_before}
use Rattle.profile.proofs.Ownership.{FirstOf, first_of}
use Rattle.summary.specs.Summary.{slot_first, first_slots}
use Rattle.summary.specs.Next.{FirstSlot, NoSlot}

module _ (firsts : List ℕ) (n : ℕ) where
  abbrev i : ℕ
  i = first_index (drop 1 firsts) n

  behind : (j : ℕ) → 0 < j → get_or (drop 1 firsts) (j - 1) 0 ≡ get_or firsts j 0
  behind j h = let e : 1 + (j - 1) ≡ j = omega arith in get_or-drop 1 firsts (j - 1) 0 ∙ ap (λ (k : ℕ). get_or firsts k 0) e

  first_slot : contains (drop 1 firsts) n ≡ true → FirstSlot firsts n (suc i)
  first_slot e =
      let f : FirstOf (drop 1 firsts) n i = first_of (drop 1 firsts) n e in
      record {
        low = omega arith;
        high = omega (arith, f.inside, length-drop 1 firsts);
        at = sym (behind (suc i) (omega arith)) ∙ at_pred f.at;
        first = λ j l h q. f.first (j - 1) (omega arith) (behind j l ∙ q);
      }
    where
      at_pred : get_or (drop 1 firsts) i 0 ≡ n → get_or (drop 1 firsts) (suc i - 1) 0 ≡ n
      at_pred e = let p : suc i - 1 ≡ i = omega arith in rw p e

  no_slot : contains (drop 1 firsts) n ≡ false → NoSlot firsts n
  no_slot e j l h q =
      let past : length (drop 1 firsts) ≤ i = ltb-false i (length (drop 1 firsts)) (sym (contains_index (drop 1 firsts) n) ∙ e) in
      let before : j - 1 < i = omega (arith, length-drop 1 firsts) in
      index_before n (drop 1 firsts) (j - 1) before (behind j l ∙ q)

  abbrev pub There : Type 0
  There = (k : ℕ) × (FirstSlot firsts n k × (slot_first firsts n ≡ k ∷ []))

  abbrev pub Nowhere : Type 0
  Nowhere = NoSlot firsts n × (slot_first firsts n ≡ [])

  pub slot_or : There ⊎ Nowhere
  unfolding slot_first
  slot_or = by_test (contains (drop 1 firsts) n) refl
    where
      by_test : (b : Bool) → contains (drop 1 firsts) n ≡ b → There ⊎ Nowhere
      by_test true e = inl (suc i, (first_slot e, rw e))
      by_test false e = inr (no_slot e, rw e)

  same_slot : (j k : ℕ) → FirstSlot firsts n j → FirstSlot firsts n k → j ≡ k
  same_slot j k g f =
      let a : j < k → ⊥ = λ h. f.first j g.low h g.at in
      let b : k < j → ⊥ = λ h. g.first k f.low h f.at in
      omega arith

  pub slot_there : (k : ℕ) → FirstSlot firsts n k → slot_first firsts n ≡ k ∷ []
  slot_there k f = ⊎_elim (λ s. s.1.1 ∙ ap (λ (j : ℕ). j ∷ []) (same_slot s.0 k s.1.0 f)) (λ s. absurd (s.0 k f.low f.high f.at)) slot_or

  pub slot_none : NoSlot firsts n → slot_first firsts n ≡ []
  slot_none none = ⊎_elim (λ s. absurd (none s.0 s.1.0.low s.1.0.high s.1.0.at)) (λ s. s.1) slot_or

-- ---- numbers that agree on the events 1 to n

-- the same slots have the number n
pub record SameAt (firsts later : List ℕ) (n : ℕ) : Type 0 where
  pub forth : (j : ℕ) → 0 < j → j < length firsts → get_or firsts j 0 ≡ n → get_or later j 0 ≡ n
  pub back : (j : ℕ) → 0 < j → j < length firsts → get_or later j 0 ≡ n → get_or firsts j 0 ≡ n

module _ (firsts later : List ℕ) (long : length later ≡ length firsts) where
  same_at : (n : ℕ) → SameAt firsts later n → slot_first later n ≡ slot_first firsts n
  same_at n s = ⊎_elim (λ t. slot_there later n t.0 (moved t.0 t.1.0) ∙ sym t.1.1) (λ t. slot_none later n (nowhere t.0) ∙ sym t.1) (slot_or firsts n)
    where
      moved : (k : ℕ) → FirstSlot firsts n k → FirstSlot later n k
      moved k f =
          record {
            low = f.low;
            high = omega (arith, f.high, long);
            at = s.forth k f.low f.high f.at;
            first = λ j l h q. f.first j l h (s.back j l (omega (arith, f.high)) q);
          }

      nowhere : NoSlot firsts n → NoSlot later n
      nowhere none j l h q = let w : j < length firsts = omega (arith, long) in none j l w (s.back j l w q)

  pub same_slots : (n : ℕ) → ((m : ℕ) → 0 < m → m ≤ n → SameAt firsts later m) → first_slots later n ≡ first_slots firsts n
  unfolding first_slots
  same_slots zero s = refl
  same_slots (suc n) s =
      rw (same_slots n (λ m l h. s m l (omega arith)), same_at (suc n) (s (suc n) (omega arith) (omega arith)))

-- ---- events that are the first of no slot

-- the slots up to n are those up to the events behind it that are the first of no slot
pub slots_skipped : (firsts : List ℕ) (n m : ℕ) → ((j : ℕ) → n < j → j ≤ n + m → NoSlot firsts j) → first_slots firsts (n + m) ≡ first_slots firsts n
unfolding first_slots
slots_skipped firsts n zero none = ap (first_slots firsts) (add-zero n)
slots_skipped firsts n (suc m) none =
    ap (first_slots firsts) (add-suc n m)
    ∙ rw (slot_none firsts (suc (n + m)) (none (suc (n + m)) (omega arith) (omega arith)), append-nil)
    (slots_skipped firsts n m (λ j l h. none j l (omega arith)))

-- and with the next event that is the first of a slot comes that slot
pub slots_next : (firsts : List ℕ) (n m k : ℕ) → n < m → FirstSlot firsts m k → ((j : ℕ) → n < j → j < m → NoSlot firsts j) → first_slots firsts m ≡ first_slots firsts n ++ (k ∷ [])
unfolding first_slots
slots_next firsts n m k h f none =
    let e : m ≡ suc (n + (m - 1 - n)) = omega arith in
    let g : FirstSlot firsts (suc (n + (m - 1 - n))) k = rw (← e) f in
    ap (first_slots firsts) e
    ∙ rw (slot_there firsts (suc (n + (m - 1 - n))) k g, slots_skipped firsts n (m - 1 - n) (λ j l w. none j l (omega arith)))

-- ---- what holds of the slots up to n

-- two functions that agree on the slots whose first events are among 1 to n
pub same_on_slots : {A : Type 0} (f g : ℕ → A) (firsts : List ℕ) (n : ℕ) → ((j : ℕ) → 0 < j → j < length firsts → 0 < get_or firsts j 0 → get_or firsts j 0 ≤ n → f j ≡ g j) → map f (first_slots firsts n) ≡ map g (first_slots firsts n)
unfolding first_slots
same_on_slots f g firsts zero same = refl
same_on_slots {A} f g firsts (suc n) same =
    rw (map-append f (first_slots firsts n) (slot_first firsts (suc n)), map-append g (first_slots firsts n) (slot_first firsts (suc n)), same_on_slots f g firsts n (λ j l h p q. same j l h p (omega arith)))
    (ap (λ (r : List A). map g (first_slots firsts n) ++ r)
    (⊎_elim
    (λ t. rw t.1.1 (ap (λ (a : A). a ∷ []) (same t.0 t.1.0.low t.1.0.high (omega (arith, t.1.0.at)) (omega (arith, t.1.0.at)))))
    (λ t. rw t.1)
    (slot_or firsts (suc n))))

-- there are no more than n of them
pub slots_few : (firsts : List ℕ) (n : ℕ) → length (first_slots firsts n) ≤ n
unfolding first_slots
slots_few firsts zero = omega arith
slots_few firsts (suc n) =
    rw (length-append (first_slots firsts n) (slot_first firsts (suc n)))
    (⊎_elim (λ t. rw t.1.1 (omega (arith, slots_few firsts n))) (λ t. rw t.1 (omega (arith, slots_few firsts n))) (slot_or firsts (suc n)))
