-- What a change of one part, or of one chain, leaves of the others. Assumes nothing.
use Prim.Native.Nat.{ℕ, ◌+◌, ◌*◌, ◌≤◌, ◌<◌}
use native.Mathlib.Omega.{arith}
use mathlib.Core.Path.{◌≡◌, refl, ◌∙◌}
use mathlib.Core.Bool.{Bool, true, false}
use mathlib.Core.List.{List}
use mathlib.Core.Logic.{◌⊎◌, inl, inr, ⊎_elim, ◌≢◌}
use lib.ListN.{get_or}
use lib.Dec.{ltb}
use lib.Ieee.{Float, nan}
use borrow.Author.Tests.{ltb-true, ltb-false}
use Rattle.rows.specs.declared.Rows.{Rows}
use Rattle.rows.specs.Rows.{rows_of, Sized, Kept, tb_in, main_in, video_in, scanner_in, OnlyTb, OnlyMain, OnlyVideo, OnlyScanner, OnlyChain}

kept_refl : {A : Type 0} {d : A} {lo hi : ℕ} {l : List A} → Kept d lo hi l l
kept_refl = record { size = refl; same = λ i h. refl }

kept_then : {A : Type 0} {d : A} {lo hi : ℕ} {l v u : List A} → Kept d lo hi l v → Kept d lo hi v u → Kept d lo hi l u
kept_then a b = record { size = b.size ∙ a.size; same = λ i h. b.same i h ∙ a.same i h }

kept_wider : {A : Type 0} {d : A} {lo hi lo' hi' : ℕ} {l v : List A} → lo' ≤ lo → hi ≤ hi' → Kept d lo hi l v → Kept d lo' hi' l v
kept_wider g h a = record { size = a.size; same = λ i k. a.same i (⊎_elim (λ x. inl (omega arith)) (λ x. inr (omega arith)) k) }

-- the numbers from b + from to b + to, which lie apart from the changed ones
part : {A : Type 0} {d : A} {lo hi : ℕ} {l v : List A} (b from to : ℕ) → Kept d lo hi l v → (b + to ≤ lo) ⊎ (hi ≤ b + from) → (j : ℕ) → from ≤ j → j < to → get_or v (b + j) d ≡ get_or l (b + j) d
part b from to k h j g f = k.same (b + j) (⊎_elim (λ x. inl (omega arith)) (λ x. inr (omega arith)) h)

-- what reads the floats of chain i from place f to f' and its counts from k to k', and nothing else
abbrev ReadsPart : {A : Type 0} → (f f' k k' : ℕ) → (List Float → List ℕ → ℕ → A) → ℕ → Type 0
ReadsPart f f' k k' read i =
    (lo hi lo' hi' : ℕ) (l v : List Float) (n o : List ℕ) → Kept nan lo hi l v → (32 * i + f' ≤ lo) ⊎ (hi ≤ 32 * i + f) → Kept 0 lo' hi' n o → (16 * i + k' ≤ lo') ⊎ (hi' ≤ 16 * i + k)
    → read v o i ≡ read l n i

module _ (i : ℕ) where
  tb_kept : {lo hi : ℕ} {l v : List Float} → Kept nan lo hi l v → (32 * i + 5 ≤ lo) ⊎ (hi ≤ 32 * i + 0) → tb_in v i ≡ tb_in l i
  unfolding tb_in
  tb_kept k h =
      let at = part (32 * i) 0 5 k h in
      rw (at 0 (omega arith) (omega arith), at 1 (omega arith) (omega arith), at 2 (omega arith) (omega arith), at 3 (omega arith) (omega arith), at 4 (omega arith) (omega arith))

  main_kept : ReadsPart 5 13 0 5 main_in i
  unfolding main_in
  main_kept lo hi lo' hi' l v n o k h k' h' =
      let at = part (32 * i) 5 13 k h in
      let of = part (16 * i) 0 5 k' h' in
      rw (of 0 (omega arith) (omega arith), of 1 (omega arith) (omega arith), of 2 (omega arith) (omega arith), of 3 (omega arith) (omega arith), of 4 (omega arith) (omega arith), at 5 (omega arith) (omega arith), at 6 (omega arith) (omega arith), at 7 (omega arith) (omega arith), at 8 (omega arith) (omega arith), at 9 (omega arith) (omega arith), at 10 (omega arith) (omega arith), at 11 (omega arith) (omega arith), at 12 (omega arith) (omega arith))

  video_kept : ReadsPart 13 28 5 12 video_in i
  unfolding video_in
  video_kept lo hi lo' hi' l v n o k h k' h' =
      let at = part (32 * i) 13 28 k h in
      let of = part (16 * i) 5 12 k' h' in
      rw (of 5 (omega arith) (omega arith), of 6 (omega arith) (omega arith), of 7 (omega arith) (omega arith), of 8 (omega arith) (omega arith), of 9 (omega arith) (omega arith), of 10 (omega arith) (omega arith), of 11 (omega arith) (omega arith), at 13 (omega arith) (omega arith), at 14 (omega arith) (omega arith), at 15 (omega arith) (omega arith), at 16 (omega arith) (omega arith), at 17 (omega arith) (omega arith), at 18 (omega arith) (omega arith), at 19 (omega arith) (omega arith), at 20 (omega arith) (omega arith), at 21 (omega arith) (omega arith), at 22 (omega arith) (omega arith), at 23 (omega arith) (omega arith), at 24 (omega arith) (omega arith), at 25 (omega arith) (omega arith), at 26 (omega arith) (omega arith), at 27 (omega arith) (omega arith))

  scanner_kept : {lo hi : ℕ} {l v : List ℕ} → Kept 0 lo hi l v → (16 * i + 16 ≤ lo) ⊎ (hi ≤ 16 * i + 0) → scanner_in v i ≡ scanner_in l i
  unfolding scanner_in
  scanner_kept k h =
      let at = part (16 * i) 0 16 k h in
      rw (at 0 (omega arith) (omega arith), at 1 (omega arith) (omega arith), at 2 (omega arith) (omega arith), at 3 (omega arith) (omega arith), at 4 (omega arith) (omega arith), at 5 (omega arith) (omega arith), at 6 (omega arith) (omega arith), at 7 (omega arith) (omega arith), at 8 (omega arith) (omega arith), at 9 (omega arith) (omega arith), at 10 (omega arith) (omega arith), at 11 (omega arith) (omega arith), at 12 (omega arith) (omega arith), at 13 (omega arith) (omega arith), at 14 (omega arith) (omega arith), at 15 (omega arith) (omega arith))

  -- ---- a change of one part leaves the chain's others

  tb_leaves : {A : Type 0} (f f' k k' : ℕ) (read : List Float → List ℕ → ℕ → A) → ReadsPart f f' k k' read i → 5 ≤ f → {l v : List Float} (n : List ℕ) → OnlyTb i l v → read v n i ≡ read l n i
  tb_leaves f f' k k' read m h n o = m _ _ (16 * i + k') (16 * i + k') _ _ _ _ o (inr (omega arith)) kept_refl (inl (omega arith))

  pub tb_leaves_main : {l v : List Float} (n : List ℕ) → OnlyTb i l v → main_in v n i ≡ main_in l n i
  tb_leaves_main = tb_leaves 5 13 0 5 main_in main_kept (omega arith)

  pub tb_leaves_video : {l v : List Float} (n : List ℕ) → OnlyTb i l v → video_in v n i ≡ video_in l n i
  tb_leaves_video = tb_leaves 13 28 5 12 video_in video_kept (omega arith)

  module _ {l v : List Float} {n o : List ℕ} where
    pub main_leaves_tb : OnlyMain i l v n o → tb_in v i ≡ tb_in l i
    main_leaves_tb k = tb_kept k.floats (inl (omega arith))

    pub main_leaves_video : OnlyMain i l v n o → video_in v o i ≡ video_in l n i
    main_leaves_video k = video_kept _ _ _ _ _ _ _ _ k.floats (inr (omega arith)) k.counts (inr (omega arith))

    pub video_leaves_tb : OnlyVideo i l v n o → tb_in v i ≡ tb_in l i
    video_leaves_tb k = tb_kept k.floats (inl (omega arith))

    pub video_leaves_main : OnlyVideo i l v n o → main_in v o i ≡ main_in l n i
    video_leaves_main k = main_kept _ _ _ _ _ _ _ _ k.floats (inl (omega arith)) k.counts (inl (omega arith))

    -- ---- and is a change of the chain

    pub main_of_chain : {b : List ℕ} → OnlyMain i l v n o → OnlyChain i (rows_of l n b) (rows_of v o b)
    main_of_chain k = record { floats = kept_wider (omega arith) (omega arith) k.floats; counts = kept_wider (omega arith) (omega arith) k.counts; bytes = kept_refl }

    pub video_of_chain : {b : List ℕ} → OnlyVideo i l v n o → OnlyChain i (rows_of l n b) (rows_of v o b)
    video_of_chain k = record { floats = kept_wider (omega arith) (omega arith) k.floats; counts = kept_wider (omega arith) (omega arith) k.counts; bytes = kept_refl }

  pub tb_of_chain : {l v : List Float} {n b : List ℕ} → OnlyTb i l v → OnlyChain i (rows_of l n b) (rows_of v n b)
  tb_of_chain k = record { floats = kept_wider (omega arith) (omega arith) k; counts = kept_refl; bytes = kept_refl }

  pub scanner_of_chain : {l : List Float} {n b o : List ℕ} → OnlyScanner i b o → OnlyChain i (rows_of l n b) (rows_of l n o)
  scanner_of_chain k = record { floats = kept_refl; counts = kept_refl; bytes = k }

pub scanner_unchanged : (i : ℕ) {b : List ℕ} → OnlyScanner i b b
scanner_unchanged i = kept_refl

pub chain_unchanged : {i : ℕ} {r : Rows} → OnlyChain i r r
chain_unchanged = record { floats = kept_refl; counts = kept_refl; bytes = kept_refl }

pub chain_then : {i : ℕ} {r v u : Rows} → OnlyChain i r v → OnlyChain i v u → OnlyChain i r u
chain_then a b = record { floats = kept_then a.floats b.floats; counts = kept_then a.counts b.counts; bytes = kept_then a.bytes b.bytes }

-- ---- the other chains

module _ {i : ℕ} {r v : Rows} (o : OnlyChain i r v) (j : ℕ) (n : j ≢ i) where
  apart_by : (x y : Bool) → ltb j i ≡ x → ltb i j ≡ y → (j + 1 ≤ i) ⊎ (i + 1 ≤ j)
  apart_by true y e f = inl (omega (arith, ltb-true j i e))
  apart_by false true e f = inr (omega (arith, ltb-true i j f))
  apart_by false false e f =
      let a = ltb-false j i e in
      let b = ltb-false i j f in
      let z : j ≡ i = omega arith in
      absurd (n z)

  apart : (j + 1 ≤ i) ⊎ (i + 1 ≤ j)
  apart = apart_by (ltb j i) (ltb i j) refl refl

  pub tb_other : tb_in v.floats j ≡ tb_in r.floats j
  tb_other = tb_kept j o.floats (⊎_elim (λ x. inl (omega arith)) (λ x. inr (omega arith)) apart)

  part_other : {A : Type 0} (f f' k k' : ℕ) (read : List Float → List ℕ → ℕ → A) → ReadsPart f f' k k' read j → f' ≤ 32 → k' ≤ 16 → read v.floats v.counts j ≡ read r.floats r.counts j
  part_other f f' k k' read m g h = m _ _ _ _ _ _ _ _ o.floats (⊎_elim (λ x. inl (omega arith)) (λ x. inr (omega arith)) apart) o.counts (⊎_elim (λ x. inl (omega arith)) (λ x. inr (omega arith)) apart)

  pub main_other : main_in v.floats v.counts j ≡ main_in r.floats r.counts j
  main_other = part_other 5 13 0 5 main_in (main_kept j) (omega arith) (omega arith)

  pub video_other : video_in v.floats v.counts j ≡ video_in r.floats r.counts j
  video_other = part_other 13 28 5 12 video_in (video_kept j) (omega arith) (omega arith)

  pub scanner_other : scanner_in v.bytes j ≡ scanner_in r.bytes j
  scanner_other = scanner_kept j o.bytes (⊎_elim (λ x. inl (omega arith)) (λ x. inr (omega arith)) apart)

pub sized_kept : {i : ℕ} {r v : Rows} → OnlyChain i r v → Sized r → Sized v
sized_kept o s = record { floats = o.floats.size ∙ s.floats; counts = o.counts.size ∙ s.counts; bytes = o.bytes.size ∙ s.bytes }
