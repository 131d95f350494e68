-- A queue in a ring of places of the work, over the width of an entry, and the list of its entries.
use Rattle.std.specs.Prelude.{ℕ, zero, suc, ◌+◌, ◌-◌, ◌*◌, ◌≤◌, ◌<◌, ◌≡◌, Bool, ◌&&◌, cond, List, [], ◌∷◌, ◌⊎◌, Option, Some, None, ⊤, Result, is_err, true, false, length, get_or, take, drop, ltb, leb, eqb, Float}
use Rattle.std.specs.Float.{nan}
use Rattle.branch.specs.declared.QueueFull.{QueueFull}
use Rattle.branch.specs.declared.queue.Place.{Place}
use Rattle.branch.specs.declared.queue.Ring.{Ring}

-- the ring, of entries n floats wide, lies in the work
pub record Lies (n : ℕ) (w : List Float) (p : Place) (q : Ring) : Type 0 where
  pub inside : q.head < p.depth
  pub some : q.count ≤ p.depth
  pub room : p.base + n * p.depth ≤ length w

-- the test that the ring's head and count suit a depth
abbrev pub fits : Ring → ℕ → Bool
fits q depth = ltb q.head depth && leb q.count depth

-- v is w but for what stands from lo to hi
pub record SameOutside (lo hi : ℕ) (w v : List Float) : Type 0 where
  pub size : length v ≡ length w
  pub same : (i : ℕ) → (i < lo) ⊎ (hi ≤ i) → get_or v i nan ≡ get_or w i nan

-- behind the last place of the ring comes the first
unfoldable pub slot_of : ℕ → Ring → ℕ → ℕ
slot_of depth q i = cond (ltb (q.head + i) depth) (q.head + i) (q.head + i - depth)

unfoldable pub place_of : ℕ → Place → Ring → ℕ → ℕ
place_of n p q i = p.base + n * slot_of p.depth q i

-- m entries from the entry i on, each as `at` reads it
unfoldable pub entries_from : {A : Type 0} → ℕ → (List Float → ℕ → A) → List Float → Place → Ring → ℕ → ℕ → List A
entries_from n at w p q i zero = []
entries_from n at w p q i (suc m) = at w (place_of n p q i) ∷ entries_from n at w p q (suc i) m

unfoldable pub entries : {A : Type 0} → ℕ → (List Float → ℕ → A) → List Float → Place → Ring → List A
entries n at w p q = entries_from n at w p q 0 q.count

unfoldable pub pop_def : ℕ → Ring → Ring
pop_def depth q = record { head = cond (eqb (q.head + 1) depth) 0 (q.head + 1); count = q.count - 1 }

-- the n floats at p
unfoldable pub floats_at : ℕ → List Float → ℕ → List Float
floats_at n w p = take n (drop p w)

-- the ring with one entry more
abbrev pub longer : Ring → Ring
longer q = record { head = q.head; count = q.count + 1 }

-- what a push gives: none where the ring has no place left
unfoldable pub pushed_def : ℕ → Ring → Option Ring
pushed_def depth q = cond (eqb q.count depth) None (Some (longer q))

-- a push of e to a ring of entries n floats wide: q' is the ring, and v the work after it
pub record PushedTo (n : ℕ) (w : List Float) (p : Place) (q : Ring) (e : List Float) (r : Result ⊤ QueueFull) (q' : Ring) (v : List Float) : Type 0 where
  pub result : cond (is_err r) None (Some q') ≡ pushed_def p.depth q
  pub refused : is_err r ≡ true → (q' ≡ q) × (v ≡ w)
  pub outside : SameOutside (place_of n p q q.count) (place_of n p q q.count + n) w v
  pub entry : is_err r ≡ false → floats_at n v (place_of n p q q.count) ≡ e
