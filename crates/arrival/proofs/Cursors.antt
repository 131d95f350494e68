-- The cursor over the intervals in lent work, place by place and step by step.
use Rattle.std.proofs.Common.{◌≡◌, ℕ, zero, suc, ◌+◌, ◌-◌, ◌*◌, ◌/◌, ◌<◌, ◌≤◌, Bool, true, false, cond, ◌&&◌, ltb, List, length, get_or, refl, arith, lt-ltb, le-leb}
use borrow.Author.Tests.{lt-leb}
use lib.Ieee.{Float}
use Rattle.arrival.specs.declared.Cursor.{Cursor}
use Rattle.arrival.specs.Work.{holds, interval_in, cursor_at, advance_by, advance}

-- enough room for n intervals
pub record Room (n : ℕ) (times : List Float) (places : List ℕ) : Type 0 where
  pub of_times : 3 * n ≤ length times
  pub of_places : 2 * n ≤ length places

module _ (n : ℕ) (times : List Float) (places : List ℕ) where
  pub holds_room : holds n times places ≡ true → Room n times places
  unfolding holds
  holds_room h = record { of_times = grind arith; of_places = grind arith }

  pub room_holds : Room n times places → holds n times places ≡ true
  unfolding holds
  room_holds r =
      rw (le-leb n (length times / 3) (omega (arith, r.of_times)), le-leb n (length places / 2) (omega (arith, r.of_places)))

index_of : (b : Bool) (x y : Cursor) (i : ℕ) → x.index ≡ i → y.index ≡ i → (cond b x y).index ≡ i
index_of true x y i p q = p
index_of false x y i p q = q

module _ (times : List Float) (places : List ℕ) (count i : ℕ) where
  module _ (h : holds count times places ≡ true) where
    pub cursor_inner : i + 1 < count
        → cursor_at times places count i ≡ record { index = i; until = get_or places (2 * (i + 1)) 0; interval = interval_in times places i }
    unfolding cursor_at
    cursor_inner g = rw (h, lt-ltb i count (omega arith), lt-ltb (i + 1) count g)

  pub cursor_index : (cursor_at times places count i).index ≡ i
  unfolding cursor_at
  cursor_index = index_of (ltb i count && holds count times places) _ _ i refl refl

module _ (times : List Float) (places : List ℕ) (count : ℕ) (c : Cursor) (p : ℕ) where
  pub advance_last : count - 1 ≤ c.index → advance times places count c p ≡ c
  unfolding advance advance_by
  advance_last h = let e : count - 1 - c.index ≡ 0 = omega arith in rw e

  pub advance_here : p < c.until → advance times places count c p ≡ c
  unfolding advance advance_by
  advance_here h = by (count - 1 - c.index)
    where
      by : (n : ℕ) → advance_by n times places count c p ≡ c
      by zero = refl
      by (suc n) = rw (lt-leb c.until p h)

  pub advance_on : c.index < count - 1 → c.until ≤ p
      → advance times places count c p ≡ advance times places count (cursor_at times places count (c.index + 1)) p
  unfolding advance advance_by
  advance_on g h =
      let e : count - 1 - c.index ≡ suc (count - 1 - (c.index + 1)) = omega arith in
      rw (e, le-leb c.until p h, cursor_index times places count (c.index + 1))
