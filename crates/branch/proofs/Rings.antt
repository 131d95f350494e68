-- The laws of a queue in a ring, over the width n of an entry and its reading `at`: a push adds its entry at the end, a pop takes
-- the first away, and a store elsewhere changes none.
use Prim.Native.Nat.{ℕ, zero, suc, ◌+◌, ◌-◌, ◌*◌, ◌≤◌, ◌<◌}
use mathlib.Core.Path.{◌≡◌, refl, sym, ap, ◌∙◌}
use mathlib.Core.Bool.{Bool, true, false}
use mathlib.Core.List.{List, [], ◌∷◌, ◌++◌}
use mathlib.Core.Logic.{◌⊎◌, ◌≢◌, inl, inr, ⊎_elim}
use native.Mathlib.Omega.{arith}
use native.Mathlib.Numerals.{add-one}
use native.Mathlib.Nat.{add-zero, zero-add, add-suc, suc-add, one-mul, mul-suc, mul-le-mul_left, mul-le-mul_right}
use lib.ListN.{length, get_or, take, drop, drop_of_length-le}
use lib.Seq.{drop-cons, drop-append_seam, take-append_seam}
use lib.Dec.{ltb, eqb}
use lib.Ieee.{Float, nan}
use borrow.Author.Tests.{lt-ltb, le-leb, leb-true, ltb-true, ltb-false, eqb-true, eqb-false, eq-eqb, ne_eqb}
use Rattle.std.proofs.lemmas.Bool.{and_parts}
use Rattle.branch.specs.declared.QueueFull.{QueueFull}
use Rattle.branch.specs.declared.queue.Place.{Place}
use Rattle.branch.specs.declared.queue.Ring.{Ring}
use Rattle.std.specs.Prelude.{⊤, Some, None, Result, is_err}
use Rattle.std.proofs.lemmas.List.{get_or-drop, get_or-take, get_or_append_left, get_or-append_right, ext_get_or, length-append, length-drop, length-take, length-take-le}
use Rattle.std.proofs.lemmas.Option.{none-some}
use Rattle.branch.specs.Queue.{Lies, fits, SameOutside, slot_of, place_of, entries_from, entries, pop_def, longer, floats_at, pushed_def, PushedTo}

-- ---- products

pub next_multiple : (n k d : ℕ) → k < d → n * k + n ≤ n * d
next_multiple n k d h = rw mul-suc at (mul-le-mul_left {m = suc k} {n = d} n h)

pub multiple_covers : (n d : ℕ) → 0 < n → d ≤ n * d
multiple_covers n d h = rw one-mul at (mul-le-mul_right {m = 1} {n = n} d h)

lt_of : {a b : ℕ} → a ≢ b → a ≤ b → a < b
lt_of c s = omega arith

-- ---- slots

slot_by : (d : ℕ) (q : Ring) (i : ℕ) (b : Bool) → ltb (q.head + i) d ≡ b → ((q.head + i < d) × (slot_of d q i ≡ q.head + i)) ⊎ ((d ≤ q.head + i) × (slot_of d q i ≡ q.head + i - d))
unfolding slot_of
slot_by d q i true e = inl (ltb-true _ _ e, rw e)
slot_by d q i false e = inr (ltb-false _ _ e, rw e)

pub slot_is : (d : ℕ) (q : Ring) (i : ℕ) → ((q.head + i < d) × (slot_of d q i ≡ q.head + i)) ⊎ ((d ≤ q.head + i) × (slot_of d q i ≡ q.head + i - d))
slot_is d q i = slot_by d q i (ltb (q.head + i) d) refl

pub slot_in : (d : ℕ) (q : Ring) (i : ℕ) → q.head < d → i < d → slot_of d q i < d
slot_in d q i h k = ⊎_elim (λ a. omega arith) (λ a. omega arith) (slot_is d q i)

pub slots_apart : (d : ℕ) (q : Ring) (i j : ℕ) → q.head < d → i < j → j < d → (slot_of d q i < slot_of d q j) ⊎ (slot_of d q j < slot_of d q i)
slots_apart d q i j h k m =
    ⊎_elim (λ a. ⊎_elim (λ b. inl (omega arith)) (λ b. inr (omega arith)) (slot_is d q j))
    (λ a. ⊎_elim (λ b. absurd (omega arith)) (λ b. inl (omega arith)) (slot_is d q j)) (slot_is d q i)

head_by : (d : ℕ) (q : Ring) (b : Bool) → eqb (q.head + 1) d ≡ b → ((q.head + 1 ≡ d) × ((pop_def d q).head ≡ 0)) ⊎ ((q.head + 1 ≢ d) × ((pop_def d q).head ≡ q.head + 1))
unfolding pop_def
head_by d q true e = inl (eqb-true _ _ e, rw e)
head_by d q false e = inr (eqb-false _ _ e, rw e)

pub head_popped : (d : ℕ) (q : Ring) → ((q.head + 1 ≡ d) × ((pop_def d q).head ≡ 0)) ⊎ ((q.head + 1 ≢ d) × ((pop_def d q).head ≡ q.head + 1))
head_popped d q = head_by d q (eqb (q.head + 1) d) refl

pub count_popped : (d : ℕ) (q : Ring) → (pop_def d q).count ≡ q.count - 1
unfolding pop_def
count_popped d q = refl

-- the entry k + 1 is the entry k after a pop
pub slot_next : (d : ℕ) (q : Ring) (k : ℕ) → q.head < d → k + 1 < d → slot_of d q (1 + k) ≡ slot_of d (pop_def d q) (0 + k)
slot_next d q k h l =
    let o = pop_def d q in
    ⊎_elim
    (λ n. ⊎_elim (λ x. ⊎_elim (λ y. omega arith) (λ y. omega arith) (slot_is d o (0 + k))) (λ x. ⊎_elim (λ y. omega arith) (λ y. omega arith) (slot_is d o (0 + k))) (slot_is d q (1 + k)))
    (λ n. ⊎_elim (λ x. ⊎_elim (λ y. omega arith) (λ y. omega arith) (slot_is d o (0 + k))) (λ x. ⊎_elim (λ y. omega arith) (λ y. omega arith) (slot_is d o (0 + k))) (slot_is d q (1 + k)))
    (head_popped d q)

-- ---- places

module _ (n : ℕ) (p : Place) (q : Ring) (i : ℕ) (h : q.head < p.depth) (k : i < p.depth) where
  pub place_in : (p.base ≤ place_of n p q i) × (place_of n p q i + n ≤ p.base + n * p.depth)
  unfolding place_of
  place_in =
      let s = slot_in p.depth q i h k in
      let m = next_multiple n (slot_of p.depth q i) p.depth s in
      (omega arith, omega arith)

pub places_apart : (n : ℕ) (p : Place) (q : Ring) (i j : ℕ) → q.head < p.depth → i < j → j < p.depth → (place_of n p q i + n ≤ place_of n p q j) ⊎ (place_of n p q j + n ≤ place_of n p q i)
unfolding place_of
places_apart n p q i j h k m =
    ⊎_elim
    (λ a. let b = next_multiple n (slot_of p.depth q i) (slot_of p.depth q j) a in inl (omega arith))
    (λ a. let b = next_multiple n (slot_of p.depth q j) (slot_of p.depth q i) a in inr (omega arith))
    (slots_apart p.depth q i j h k m)

-- ---- what a change of the work leaves

pub outside_refl : (lo hi : ℕ) (w : List Float) → SameOutside lo hi w w
outside_refl lo hi w = record { size = refl; same = λ i h. refl }

pub outside_then : {lo hi : ℕ} {w v u : List Float} → SameOutside lo hi w v → SameOutside lo hi v u → SameOutside lo hi w u
outside_then a b = record { size = b.size ∙ a.size; same = λ i h. b.same i h ∙ a.same i h }

pub outside_wider : {lo hi lo' hi' : ℕ} {w v : List Float} → lo' ≤ lo → hi ≤ hi' → SameOutside lo hi w v → SameOutside lo' hi' w v
outside_wider l h a = record { size = a.size; same = λ i k. a.same i (⊎_elim (λ x. inl (omega arith)) (λ x. inr (omega arith)) k) }

-- an entry that is n floats wide is read from these alone
abbrev pub Local : {A : Type 0} → ℕ → (List Float → ℕ → A) → Type 0
Local n at = (w v : List Float) (o : ℕ) → length v ≡ length w → ((k : ℕ) → k < n → get_or v (o + k) nan ≡ get_or w (o + k) nan) → at v o ≡ at w o

module _ {A : Type 0} (n : ℕ) (at : List Float → ℕ → A) where
  -- two rings that have the same entries
  pub same_entries : (w v : List Float) (p o : Place) (q r : Ring) (i j m : ℕ) → ((k : ℕ) → k < m → at w (place_of n p q (i + k)) ≡ at v (place_of n o r (j + k))) → entries_from n at w p q i m ≡ entries_from n at v o r j m
  unfolding entries_from
  same_entries w v p o q r i j zero h = refl
  same_entries w v p o q r i j (suc m) h =
      let e : at w (place_of n p q i) ≡ at v (place_of n o r j) = simp add-zero at (h 0 (omega arith)) in
      let t : entries_from n at w p q (suc i) m ≡ entries_from n at v o r (suc j) m = same_entries w v p o q r (suc i) (suc j) m (λ k l. simp (add-suc, ← suc-add) at (h (suc k) (omega arith))) in
      rw (e, t)

  pub last_entry : (w : List Float) (p : Place) (q : Ring) (i m : ℕ) → entries_from n at w p q i (suc m) ≡ entries_from n at w p q i m ++ (at w (place_of n p q (i + m)) ∷ [])
  unfolding entries_from
  last_entry w p q i zero = simp add-zero
  last_entry w p q i (suc m) = ap (λ (x : List A). at w (place_of n p q i) ∷ x) (last_entry w p q (suc i) m ∙ rw (suc-add, add-suc))

  pub entry_at : (w : List Float) (p : Place) (q : Ring) (i k m : ℕ) (d : A) → k < m → get_or (entries_from n at w p q i m) k d ≡ at w (place_of n p q (i + k))
  unfolding entries_from
  entry_at w p q i k zero d h = absurd (omega arith)
  entry_at w p q i zero (suc m) d h = rw add-zero
  entry_at w p q i (suc k) (suc m) d h = entry_at w p q (suc i) k m d (omega arith) ∙ rw (suc-add, add-suc)

  pub count_from : (w : List Float) (p : Place) (q : Ring) (i m : ℕ) → length (entries_from n at w p q i m) ≡ m
  unfolding entries_from
  count_from w p q i zero = refl
  count_from w p q i (suc m) = ap suc (count_from w p q (suc i) m)

  pub count_entries : (w : List Float) (p : Place) (q : Ring) → length (entries n at w p q) ≡ q.count
  unfolding entries
  count_entries w p q = count_from w p q 0 q.count

  pub no_entries_lem : (w : List Float) (p : Place) (q : Ring) → q.count ≡ 0 → entries n at w p q ≡ []
  unfolding entries entries_from
  no_entries_lem w p q h = ap (entries_from n at w p q 0) h

  -- the entries from i on, by the entry i
  pub drop_entries : (w : List Float) (p : Place) (q : Ring) (i : ℕ) → i < q.count → drop i (entries n at w p q) ≡ at w (place_of n p q i) ∷ drop (i + 1) (entries n at w p q)
  unfolding entries
  drop_entries w p q i h =
      let d = at w 0 in
      drop-cons (entries n at w p q) i d (rw (count_from w p q 0 q.count) h) ∙ rw (entry_at w p q 0 i q.count d h, zero-add, add-one)

  pub drop_all : (w : List Float) (p : Place) (q : Ring) (i : ℕ) → q.count ≤ i → drop i (entries n at w p q) ≡ []
  drop_all w p q i h =
      let l : length (entries n at w p q) ≤ i = rw (count_entries w p q) h in
      drop_of_length-le (entries n at w p q) l

  -- a pop takes the first entry away
  pub popped : (w : List Float) (p : Place) (q : Ring) → Lies n w p q → 0 < q.count → entries n at w p q ≡ at w (place_of n p q 0) ∷ entries n at w p (pop_def p.depth q)
  unfolding entries entries_from place_of
  popped w p q v h =
      let m = q.count - 1 in
      let o = pop_def p.depth q in
      let e : q.count ≡ suc m = omega arith in
      let f : o.count ≡ m = count_popped p.depth q in
      ap (entries_from n at w p q 0) e
      ∙ ap (λ (x : List A). at w (place_of n p q 0) ∷ x)
      (same_entries w w p p q o 1 0 m (λ k l. ap (λ (s : ℕ). at w (p.base + n * s)) (slot_next p.depth q k v.inside (omega arith))) ∙ ap (entries_from n at w p o 0) (sym f))

module _ {A : Type 0} (n : ℕ) (at : List Float → ℕ → A) (local : Local n at) where
  pub same_at : {lo hi : ℕ} {w v : List Float} (o : ℕ) → SameOutside lo hi w v → (o + n ≤ lo) ⊎ (hi ≤ o) → at v o ≡ at w o
  same_at {lo} {hi} {w} {v} o a h = local w v o a.size (λ k l. a.same (o + k) (⊎_elim (λ x. inl (omega arith)) (λ x. inr (omega arith)) h))

  -- a change elsewhere leaves the entries
  pub kept : {lo hi : ℕ} {w v : List Float} (p : Place) (q : Ring) → Lies n w p q → SameOutside lo hi w v → (p.base + n * p.depth ≤ lo) ⊎ (hi ≤ p.base) → entries n at v p q ≡ entries n at w p q
  unfolding entries
  kept {lo} {hi} {w} {v} p q l a h =
      same_entries n at v w p p q q 0 0 q.count (λ k m.
      let i = place_in n p q (0 + k) l.inside (omega arith) in
      same_at (place_of n p q (0 + k)) a (⊎_elim (λ x. inl (omega arith)) (λ x. inr (omega arith)) h))

  -- a push: the place behind the last is written, and holds the new entry
  pub pushed : (w v : List Float) (p : Place) (q : Ring) → Lies n w p q → q.count < p.depth → SameOutside (place_of n p q q.count) (place_of n p q q.count + n) w v →
      entries n at v p (longer q) ≡ entries n at w p q ++ (at v (place_of n p q q.count) ∷ [])
  unfolding entries place_of slot_of
  pushed w v p q l h a =
      let e : entries_from n at v p (longer q) 0 q.count ≡ entries_from n at w p q 0 q.count =
      same_entries n at v w p p (longer q) q 0 0 q.count (λ k m. same_at (place_of n p q (0 + k)) a (simp zero-add (places_apart n p q k q.count l.inside m h))) in
      let b : place_of n p (longer q) (0 + q.count) ≡ place_of n p q q.count = rw zero-add in
      ap (entries_from n at v p (longer q) 0) (add-one q.count) ∙ (last_entry n at v p (longer q) 0 q.count ∙ rw (e, b))

-- a loop over the entries by their index: what is left of F at the entry i, with the sum s so far, is z
pub record Walking {A X : Type 0} (n : ℕ) (at : List Float → ℕ → A) (F : List A → Float → X) (w : List Float) (p : Place) (q : Ring) (i : ℕ) (s : Float) (z : X) : Type 0 where
  pub within : i ≤ q.count
  pub rest : F (drop i (entries n at w p q)) s ≡ z

pub walk_starts : {A X : Type 0} (n : ℕ) (at : List Float → ℕ → A) (F : List A → Float → X) (w : List Float) (p : Place) (q : Ring) (s : Float) → Walking n at F w p q 0 s (F (entries n at w p q) s)
walk_starts n at F w p q s = record { within = omega arith; rest = refl }

module _ {A X : Type 0} {n : ℕ} {at : List Float → ℕ → A} {F : List A → Float → X} {w : List Float} {p : Place} {q : Ring} {i : ℕ} {s : Float} {z : X} (v : Walking n at F w p q i s z) where
  pub walk_next : (s' : Float) → i < q.count → ((l : List A) → F (at w (place_of n p q i) ∷ l) s ≡ F l s') → Walking n at F w p q (i + 1) s' z
  walk_next s' h e =
      record { within = omega arith; rest = sym (e (drop (i + 1) (entries n at w p q))) ∙ (ap (λ (l : List A). F l s) (sym (drop_entries n at w p q i h)) ∙ v.rest) }

  pub walk_stop : (y : X) → i < q.count → ((l : List A) → F (at w (place_of n p q i) ∷ l) s ≡ y) → y ≡ z
  walk_stop y h e = sym (e (drop (i + 1) (entries n at w p q))) ∙ (ap (λ (l : List A). F l s) (sym (drop_entries n at w p q i h)) ∙ v.rest)

  pub walk_end : (y : X) → q.count ≤ i → F [] s ≡ y → y ≡ z
  walk_end y h e = sym e ∙ (ap (λ (l : List A). F l s) (sym (drop_all n at w p q i h)) ∙ v.rest)

-- ---- the test of a ring

pub ring_fits : (n : ℕ) (w : List Float) (p : Place) (q : Ring) → p.base + n * p.depth ≤ length w → fits q p.depth ≡ true → Lies n w p q
ring_fits n w p q h e =
    let t = and_parts _ _ e in
    record { inside = ltb-true _ _ t.0; some = leb-true _ _ t.1; room = h }

pub lying_fits : {n : ℕ} {w : List Float} {p : Place} {q : Ring} → Lies n w p q → fits q p.depth ≡ true
lying_fits {n} {w} {p} {q} l = simp (lt-ltb q.head p.depth l.inside, le-leb q.count p.depth l.some)

-- ---- the ring stays in the work

module _ {n : ℕ} where
  pub lies_popped : (w : List Float) (p : Place) (q : Ring) → Lies n w p q → 0 < q.count → Lies n w p (pop_def p.depth q)
  lies_popped w p q l h =
      let c = count_popped p.depth q in
      record { inside = ⊎_elim (λ x. omega arith) (λ x. omega arith) (head_popped p.depth q); some = omega arith; room = l.room }

  pub lies_kept : {lo hi : ℕ} {w v : List Float} {p : Place} {q : Ring} → SameOutside lo hi w v → Lies n w p q → Lies n v p q
  lies_kept a l = record { inside = l.inside; some = l.some; room = rw a.size l.room }

  pub lies_longer : {w : List Float} {p : Place} {q : Ring} → Lies n w p q → q.count < p.depth → Lies n w p (longer q)
  lies_longer l h = record { inside = l.inside; some = omega arith; room = l.room }

-- ---- what a push ensures

full_by : (d : ℕ) (q : Ring) (b : Bool) → eqb q.count d ≡ b → ((q.count ≡ d) × (pushed_def d q ≡ None)) ⊎ ((q.count ≢ d) × (pushed_def d q ≡ Some (longer q)))
unfolding pushed_def
full_by d q true e = inl (eqb-true _ _ e, rw e)
full_by d q false e = inr (eqb-false _ _ e, rw e)

pub full_is : (d : ℕ) (q : Ring) → ((q.count ≡ d) × (pushed_def d q ≡ None)) ⊎ ((q.count ≢ d) × (pushed_def d q ≡ Some (longer q)))
full_is d q = full_by d q (eqb q.count d) refl

pub some_is : {A : Type 0} {a b : A} → Some a ≡ Some b → a ≡ b
some_is e = cc

module _ {n : ℕ} {w v : List Float} {p : Place} {q o : Ring} {e : List Float} {r : Result ⊤ QueueFull} (l : Lies n w p q) (m : PushedTo n w p q e r o v) where
  -- a push that is refused changes nothing
  pub push_refused : is_err r ≡ true → ((o ≡ q) × (v ≡ w)) × (eqb q.count p.depth ≡ true)
  push_refused f =
      let none : None ≡ pushed_def p.depth q = rw f at m.result in
      (m.refused f, ⊎_elim (λ x. eq-eqb _ _ x.0) (λ x. absurd (none-some (longer q) (none ∙ x.1))) (full_is p.depth q))

  module _ (f : is_err r ≡ false) where
    added : (q.count ≢ p.depth) × (o ≡ longer q)
    added =
        let some : Some o ≡ pushed_def p.depth q = rw f at m.result in
        ⊎_elim (λ x. absurd (none-some o (sym (some ∙ x.1)))) (λ x. (x.0, some_is (some ∙ x.1))) (full_is p.depth q)

    pub push_room : eqb q.count p.depth ≡ false
    push_room = ne_eqb _ _ added.0

    room : q.count < p.depth
    room = lt_of added.0 l.some

    -- one that is not refused adds its entry at the end, however the entries are read
    pub push_adds : {B : Type 0} (g : List Float → B) → Local n (λ u i. g (floats_at n u i)) → entries n (λ u i. g (floats_at n u i)) v p o ≡ entries n (λ u i. g (floats_at n u i)) w p q ++ (g e ∷ [])
    push_adds g local = rw added.1 (pushed n (λ u i. g (floats_at n u i)) local w v p q l room m.outside ∙ rw (m.entry f) refl)

    lies_added : Lies n v p o
    lies_added = rw added.1 (lies_kept m.outside (lies_longer l room))

    -- the ring's own part of the work alone is written
    taken_outside : SameOutside p.base (p.base + n * p.depth) w v
    taken_outside = let i = place_in n p q q.count l.inside room in outside_wider i.0 i.1 m.outside

  lies_by : (b : Bool) → is_err r ≡ b → Lies n v p o
  lies_by true f = rw ((m.refused f).0, (m.refused f).1) l
  lies_by false f = lies_added f

  pub push_lies : Lies n v p o
  push_lies = lies_by (is_err r) refl

  outside_by : (b : Bool) → is_err r ≡ b → SameOutside p.base (p.base + n * p.depth) w v
  outside_by true f = rw (m.refused f).1 (outside_refl _ _ w)
  outside_by false f = taken_outside f

  pub push_outside : SameOutside p.base (p.base + n * p.depth) w v
  push_outside = outside_by (is_err r) refl

-- ---- the floats of an entry

pub floats_local : (n : ℕ) {B : Type 0} (f : List Float → B) → Local n (λ u o. f (floats_at n u o))
unfolding floats_at
floats_local n f w v o z h =
    ap f
    (ext_get_or nan (take n (drop o v)) (take n (drop o w)) (simp (length-take, length-drop, z))
    (λ i k.
    let j : i < n = omega (arith, length-take n (drop o v)) in
    simp (get_or-take n (drop o v) i nan j, get_or-take n (drop o w) i nan j, get_or-drop) (h i j)))

-- e in the place of the n floats at p: the store of a push
module _ (w e : List Float) (p n : ℕ) (z : length e ≡ n) (h : p + n ≤ length w) where
  abbrev front : List Float
  front = take p w

  abbrev behind : List Float
  behind = drop (p + n - p) (drop p w)

  abbrev stored : List Float
  stored = front ++ (e ++ behind)

  front_long : length front ≡ p
  front_long = length-take-le p w (omega arith)

  same_before : (i : ℕ) → i < p → get_or stored i nan ≡ get_or w i nan
  same_before i k = get_or_append_left front (e ++ behind) nan i (rw front_long k) ∙ get_or-take p w i nan k

  same_behind : (i : ℕ) → p + n ≤ i → get_or stored i nan ≡ get_or w i nan
  same_behind i k =
      let d : p + ((p + n - p) + (i - p - n)) ≡ i = omega arith in
      get_or-append_right front (e ++ behind) p i nan front_long (omega arith)
      ∙ (get_or-append_right e behind n (i - p) nan z (omega arith)
      ∙ (get_or-drop (p + n - p) (drop p w) (i - p - n) nan ∙ (get_or-drop p w ((p + n - p) + (i - p - n)) nan ∙ ap (λ (j : ℕ). get_or w j nan) d)))

  pub store_outside : SameOutside p (p + n) w stored
  store_outside =
      record { size = simp (length-append, length-drop, front_long, z) (omega arith); same = λ i k. ⊎_elim (same_before i) (same_behind i) k }

  pub store_read : floats_at n stored p ≡ e
  unfolding floats_at
  store_read =
      ap (λ (k : ℕ). take n (drop k stored)) (sym front_long)
      ∙ (ap (take n) (drop-append_seam front (e ++ behind)) ∙ (ap (λ (k : ℕ). take k (e ++ behind)) (sym z) ∙ take-append_seam e behind))
