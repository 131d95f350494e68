-- Laws of `nearest` over any list: what it picks, and that the nearest of a list with one number more is the nearer of two.
use Prim.Native.Nat.{ℕ, ◌≤◌, ◌<◌}
use mathlib.Core.Path.{◌≡◌, refl, sym, ◌∙◌}
use mathlib.Core.Bool.{Bool, true, false, and-false}
use mathlib.Core.List.{List, [], ◌∷◌, ◌++◌}
use native.Mathlib.Decide.{dec_le}
use native.Mathlib.Nat.{le_refl, le_trans, le_of_lt, lt_of_lt_of_le, lt_of_not-le}
use borrow.Author.Tests.{le-leb, lt-leb}
use Rattle.clock.specs.Timestamp.{none_closer, first, nearest}
use Rattle.std.specs.Int.{abs_diff}

module _ (reference : ℕ) where
  abbrev away : ℕ → ℕ
  away x = abs_diff x reference

  abbrev pub NoneCloser : ℕ → List ℕ → Type 0
  NoneCloser c [] = Unit {0}
  NoneCloser c (x ∷ xs) = (away c ≤ away x) × NoneCloser c xs

  -- r is the first number of the list than which none of the list lies closer
  pub data Picks : List ℕ → ℕ → Type 0 where
    here : {c : ℕ} {cs : List ℕ} → NoneCloser c cs → Picks (c ∷ cs) c
    there : {c r : ℕ} {cs : List ℕ} → away r < away c → Picks cs r → Picks (c ∷ cs) r

  none_closer_by : (x c : ℕ) → away x ≤ away c → (cs : List ℕ) → NoneCloser c cs → NoneCloser x cs
  none_closer_by x c h [] n = tt
  none_closer_by x c h (y ∷ cs) n = (le_trans h n.0, none_closer_by x c h cs n.1)

  none_closer_lem : {cs : List ℕ} {r : ℕ} (x : ℕ) → Picks cs r → away x ≤ away r → NoneCloser x cs
  none_closer_lem x (here {c} {cs} n) h = (h, none_closer_by x c h cs n)
  none_closer_lem x (there g p) h = (le_trans h (le_of_lt g), none_closer_lem x p h)

  test_true : (c : ℕ) (cs : List ℕ) → NoneCloser c cs → none_closer reference c cs ≡ true
  unfolding none_closer
  test_true c [] n = refl
  test_true c (x ∷ cs) n = rw (le-leb (away c) (away x) n.0) (test_true c cs n.1)

  test_false : {cs : List ℕ} {r : ℕ} (x : ℕ) → Picks cs r → away r < away x → none_closer reference x cs ≡ false
  unfolding none_closer
  test_false x (here {c} n) h = rw (lt-leb (away x) (away c) h)
  test_false x (there {c} g p) h = rw (test_false x p h, and-false)

  first_is : (p : ℕ → Bool) {cs : List ℕ} {r : ℕ} → p r ≡ true → ((x : ℕ) → away r < away x → p x ≡ false) → Picks cs r
      → first p cs ≡ r
  unfolding first
  first_is p at-r before (here n) = rw at-r
  first_is p at-r before (there {c} h q) = rw (before c h) (first_is p at-r before q)

  pub nearest_is : {cs : List ℕ} {r : ℕ} → Picks cs r → nearest reference cs ≡ r
  unfolding nearest
  nearest_is {cs} {r} p =
      first_is (λ c. none_closer reference c cs) (test_true r cs (none_closer_lem r p (le_refl _))) (λ x h. test_false x p h) p

  before : (c : ℕ) {cs : List ℕ} {r : ℕ} → Picks cs r → Dec (away c ≤ away r) → (s : ℕ) × Picks (c ∷ cs) s
  before c p (yes h) = (c, here (none_closer_lem c p h))
  before c {cs} {r} p (no f) = (r, there (lt_of_not-le f) p)

  some : (c : ℕ) (cs : List ℕ) → (r : ℕ) × Picks (c ∷ cs) r
  some c [] = (c, here tt)
  some c (d ∷ ds) = before c (some d ds).1 (dec_le _ _)

  -- a list that is not empty has a nearest number
  pub picked : (c : ℕ) (cs : List ℕ) → Picks (c ∷ cs) (nearest reference (c ∷ cs))
  picked c cs = rw (nearest_is (some c cs).1) (some c cs).1

  module _ (y : ℕ) where
    none_closer_in : (r : ℕ) → away r ≤ away y → (cs : List ℕ) → NoneCloser r cs → NoneCloser r (cs ++ (y ∷ []))
    none_closer_in r h [] n = (h, tt)
    none_closer_in r h (x ∷ cs) n = (n.0, none_closer_in r h cs n.1)

    keeps : {cs : List ℕ} {r : ℕ} → away r ≤ away y → Picks cs r → Picks (cs ++ (y ∷ [])) r
    keeps h (here {c} {cs} n) = here (none_closer_in c h cs n)
    keeps h (there g p) = there g (keeps h p)

    past : (r : ℕ) → away y < away r → (cs : List ℕ) → NoneCloser r cs → Picks (cs ++ (y ∷ [])) y
    past r h [] n = here tt
    past r h (x ∷ cs) n = there (lt_of_lt_of_le h n.0) (past r h cs n.1)

    takes : {cs : List ℕ} {r : ℕ} → away y < away r → Picks cs r → Picks (cs ++ (y ∷ [])) y
    takes h (here {c} {cs} n) = there h (past c h cs n)
    takes h (there g p) = there (lt_of_lt_of_le h (le_of_lt g)) (takes h p)

    nearer : {cs : List ℕ} {r : ℕ} → Picks cs r → Dec (away r ≤ away y)
        → nearest reference (cs ++ (y ∷ [])) ≡ nearest reference (r ∷ y ∷ [])
    nearer p (yes h) = nearest_is (keeps h p) ∙ sym (nearest_is (here (h, tt)))
    nearer p (no f) = nearest_is (takes (lt_of_not-le f) p) ∙ sym (nearest_is (there (lt_of_not-le f) (here tt)))

    -- the nearest of a list with y behind it
    pub nearest_more : (c : ℕ) (cs : List ℕ) → nearest reference ((c ∷ cs) ++ (y ∷ [])) ≡ nearest reference (nearest reference (c ∷ cs) ∷ y ∷ [])
    nearest_more c cs = nearer (picked c cs) (dec_le _ _)
