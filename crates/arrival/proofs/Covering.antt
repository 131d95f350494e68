-- The cursor moves forward only: asked again at the same byte or at an earlier one it stays, so that the end of a packet and
-- the start of the next have one interval and one time; and the cursor in lent work is the one over the list of intervals.
use Rattle.std.proofs.Common.{◌≡◌, ℕ, zero, suc, ◌+◌, ◌-◌, ◌*◌, ◌^◌, ◌<◌, ◌≤◌, Bool, true, false, cond, leb, ◌⊎◌, List, [], ◌∷◌, refl, ap, ◌∙◌, inl, inr, ⊎_elim, le_trans, arith, lt-ltb, le-leb, leb-false, leb-true}
use borrow.Author.Tests.{lt-leb}
use lib.Ieee.{Float}
use Rattle.arrival.specs.declared.RateInterval.{RateInterval}
use Rattle.arrival.specs.declared.Cursor.{Cursor}
use Rattle.arrival.specs.declared.PacketArrival.{PacketArrival}
use Rattle.arrival.specs.Times.{advance_to, first, covering, time_of, arrival_at}
use Rattle.arrival.specs.Work.{holds, interval_in, intervals_in, never, cursor_at, advance, start_of_arrival, next_arrival}
use Rattle.arrival.proofs.Cursors.{cursor_inner, advance_last, advance_here, advance_on, cursor_index}

-- ---- over the list
module _ (p q : ℕ) (h : p ≤ q) where
  pub advance_forward : (is : List RateInterval) → advance_to q (advance_to p is) ≡ advance_to q is
  unfolding advance_to
  advance_forward [] = refl
  advance_forward (i ∷ []) = refl
  advance_forward (i ∷ j ∷ is) = by (advance_forward (j ∷ is)) (leb j.start_pos p) refl
    where
      by : advance_to q (advance_to p (j ∷ is)) ≡ advance_to q (j ∷ is) → (b : Bool) → leb j.start_pos p ≡ b
          → advance_to q (cond b (advance_to p (j ∷ is)) (i ∷ j ∷ is)) ≡ cond (leb j.start_pos q) (advance_to q (j ∷ is)) (i ∷ j ∷ is)
      by again true e = rw (le-leb j.start_pos q (le_trans (leb-true j.start_pos p e) h)) again
      by again false e = refl

  pub advance_back : (is : List RateInterval) → advance_to p (advance_to q is) ≡ advance_to q is
  unfolding advance_to
  advance_back [] = refl
  advance_back (i ∷ []) = refl
  advance_back (i ∷ j ∷ is) = by (advance_back (j ∷ is)) (leb j.start_pos q) refl
    where
      by : advance_to p (advance_to q (j ∷ is)) ≡ advance_to q (j ∷ is) → (b : Bool) → leb j.start_pos q ≡ b
          → advance_to p (cond b (advance_to q (j ∷ is)) (i ∷ j ∷ is)) ≡ cond b (advance_to q (j ∷ is)) (i ∷ j ∷ is)
      by again true e = again
      by again false e = let g = leb-false j.start_pos q e in rw (lt-leb j.start_pos p (omega arith))

-- ---- in lent work
module _ (times : List Float) (places : List ℕ) (count : ℕ) where
  -- the cursor is at the interval of the list from which the intervals moved on to byte p begin
  pub record Found (p : ℕ) (is : List RateInterval) (c : Cursor) : Type 0 where
    pub index : ℕ
    pub left : ℕ
    pub inside : index + suc left ≡ count
    pub here : c ≡ cursor_at times places count index
    pub rest : intervals_in times places index (suc left) ≡ advance_to p is

  module _ (room : holds count times places ≡ true) where
    pub interval_here : (i : ℕ) → i < count → (cursor_at times places count i).interval ≡ interval_in times places i
    unfolding cursor_at
    interval_here i h = rw (lt-ltb i count h, room)

    pub found_interval : {p : ℕ} {is : List RateInterval} {c : Cursor} → Found p is c → c.interval ≡ covering p is
    unfolding intervals_in
    found_interval f =
        ap (λ (x : Cursor). x.interval) f.here ∙ interval_here f.index (omega (arith, f.inside)) ∙ ap first f.rest

    module _ (p i : ℕ) where
      start : Cursor
      start = cursor_at times places count i

      stays : (n : ℕ) → i + suc n ≡ count → (n ≡ 0) ⊎ (p < start.until)
          → intervals_in times places i (suc n) ≡ advance_to p (intervals_in times places i (suc n))
          → Found p (intervals_in times places i (suc n)) (advance times places count start p)
      unfolding start
      stays n e h r =
          record {
            index = i;
            left = n;
            inside = e;
            here =
                ⊎_elim
                (λ (z : n ≡ 0). advance_last times places count start p (omega (arith, cursor_index times places count i)))
                (λ (g : p < start.until). advance_here times places count start p g)
                h;
            rest = r;
          }

      goes : (n : ℕ) → i + suc (suc n) ≡ count → start.until ≤ p → leb (interval_in times places (i + 1)).start_pos p ≡ true
          → Found p (intervals_in times places (i + 1) (suc n)) (advance times places count (cursor_at times places count (i + 1)) p)
          → Found p (intervals_in times places i (suc (suc n))) (advance times places count start p)
      unfolding start intervals_in advance_to
      goes n e u t f =
          let k = cursor_index times places count i in
          record {
            index = f.index;
            left = f.left;
            inside = f.inside;
            here =
                advance_on times places count start p (omega arith) u
                ∙ ap (λ (x : ℕ). advance times places count (cursor_at times places count (x + 1)) p) k
                ∙ f.here;
            rest = f.rest ∙ rw t;
          }

    pub finds : (p n i : ℕ) → i + suc n ≡ count
        → Found p (intervals_in times places i (suc n)) (advance times places count (cursor_at times places count i) p)
    unfolding intervals_in advance_to interval_in start
    finds p zero i e = stays p i zero e (inl refl) refl
    finds p (suc n) i e = by (finds p n (i + 1) (omega arith)) (leb (interval_in times places (i + 1)).start_pos p) refl
      where
        until_is : (cursor_at times places count i).until ≡ (interval_in times places (i + 1)).start_pos
        until_is = ap (λ (x : Cursor). x.until) (cursor_inner times places count i room (omega arith))

        by : Found p (intervals_in times places (i + 1) (suc n)) (advance times places count (cursor_at times places count (i + 1)) p)
            → (b : Bool) → leb (interval_in times places (i + 1)).start_pos p ≡ b
            → Found p (intervals_in times places i (suc (suc n))) (advance times places count (cursor_at times places count i) p)
        by f true g = goes p i n e (rw until_is (leb-true _ p g)) g f
        by f false g = stays p i (suc n) e (inr (rw until_is (leb-false _ p g))) (rw g)

    -- on from a cursor that was found for an earlier byte
    pub found_on : {p : ℕ} {is : List RateInterval} {c : Cursor} (q : ℕ) → p ≤ q → Found p is c → Found q is (advance times places count c q)
    found_on {p} {is} {c} q h f =
        let g = finds q f.left f.index f.inside in
        record {
          index = g.index;
          left = g.left;
          inside = g.inside;
          here = ap (λ (x : Cursor). advance times places count x q) f.here ∙ g.here;
          rest = g.rest ∙ ap (advance_to q) f.rest ∙ advance_forward p q h is;
        }

-- ---- packets
module _ (times : List Float) (places : List ℕ) (n : ℕ) (room : holds (suc n) times places ≡ true) where
  abbrev pub clock : List RateInterval
  clock = intervals_in times places 0 (suc n)

  -- k packets have arrived, the last until t1
  pub record AtEnd (k : ℕ) (a : PacketArrival) : Type 0 where
    pub end_is : a.end ≡ 188 * k
    pub found : Found times places (suc n) (188 * k) clock a.cursor
    pub t1_is : a.t1 ≡ arrival_at clock (188 * k)

  -- the interval that covers the end, by which stamps and the system rate go
  pub end_interval : {k : ℕ} {a : PacketArrival} → AtEnd k a → a.cursor.interval ≡ covering (188 * k) clock
  end_interval s = found_interval times places (suc n) room s.found

  pub starts : AtEnd 0 (start_of_arrival times places (suc n))
  unfolding start_of_arrival
  starts =
      let f = finds times places (suc n) room 0 n 0 (omega arith) in
      record { end_is = refl; found = f; t1_is = ap (λ (i : RateInterval). time_of i 0) (found_interval times places (suc n) room f) }

  -- packet k arrives from the end of the one before, by the same interval and so at the same time, to its own end
  pub next_arrives : (k : ℕ) (a : PacketArrival) → 188 * k + 188 < 2 ^ 64 → AtEnd k a
      → AtEnd (k + 1) (next_arrival times places (suc n) a) × ((next_arrival times places (suc n) a).t0 ≡ arrival_at clock (188 * k))
  unfolding next_arrival
  next_arrives k a h s =
      let e : a.end + 188 ≡ 188 * (k + 1) = omega (arith, s.end_is) in
      let l : a.end ≤ never - 188 = omega (arith, s.end_is) in
      let f = found_on times places (suc n) room (188 * (k + 1)) (omega arith) s.found in
      rw (le-leb a.end (never - 188) l, e)
      (record { end_is = refl; found = f; t1_is = ap (λ (i : RateInterval). time_of i (188 * (k + 1))) (found_interval times places (suc n) room f) }, s.t1_is)
