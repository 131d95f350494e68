-- A turn of the leak that is not the last: what has left rises by over half a byte and stays at most 2 ^ 24 + 1, or the time has come. Assumes nothing.
use mathlib.Core.Bool.{Bool, cond, false, not, true, true≢false}
use mathlib.Core.Logic.{◌⊎◌, inl, inr}
use mathlib.Core.Path.{◌≡◌, ap, refl, sym}
use Prim.Native.Nat.{◌+◌, ◌^◌, ◌≤◌, ℕ}
use native.Mathlib.Omega.{arith}
use lib.Dec.{T, lit<, lit≤}
use lib.Ieee.{Float, add, binary64, eq, fits, le, lt, mul, neg, of_bits, sub}
use lib.Ieee.Fits.{mul-fits, sub-fits}
use lib.Ieee.Scale.{finite}
use Rattle.ieee.specs.Binary64.{0f, 1e-6f, 1f, ◌⊕◌, ◌⊖◌, ◌⊗◌, ◌⊘◌}
use Rattle.ieee.specs.Interval.{In, minus, plain, zero_float}
use Rattle.ieee.specs.MaxMin.{max_of, min_of}
use Rattle.ieee.specs.Progress.{Over, take_advance}
use Rattle.ieee.proofs.Interval.{add_in, closed_in, ge_in, in_finite, le_in, mul_in, nle_in, sub_in, widen, widen_high, widen_low}
use Rattle.ieee.proofs.MaxMin.{min_in, min_l, min_or, min_r}
use Rattle.ieee.proofs.Order.{falsity, le_trans as fl-trans, lt_of_le_of_lt as fl-lt, lt→le, to_t}
use Rattle.ieee.proofs.Sign.{add_ge, sub_le, sub_nonneg}
use Rattle.ieee.proofs.Value.{lt→val}
use Rattle.ieee.proofs.MaxMin.{max_keeps}
use Rattle.branch.specs.CumulativeIn.{settle, time_of_cumulative}
use Rattle.branch.specs.VideoBranch.{Leak, Transfer, Turned, VideoRates, arriving, backlog_take, backlogged, break, eb_room, filled, gone, looked, mb_fullness, moved, on, pace_take, paced, transfer}
use Rattle.std.specs.Prelude.{Option, Some, None}
use Rattle.bounds.specs.Runs.{InflowIn, TimeIn}
use Rattle.bounds.specs.Video.{EbCount, RatesIn}
use Rattle.bounds.proofs.Arrived.{arrived_fits, arrived_in, arrived_of, settle_keeps}
use Rattle.bounds.proofs.Rate.{micro_in}
use Rattle.bounds.proofs.Take.{TransferredIn, min_fits, min_three, sum_below, transfer_step}
use Rattle.bounds.proofs.TimeOf.{FoundAt, FoundIn, time_found}

-- what a turn needs of the state
pub record TurnIn (s : Leak) : Type 0 where
  pub inflow : InflowIn (2 ^ 24) s.mb_in.runs s.mb_in.settled
  pub transferred : TransferredIn s.flow.transferred
  pub transferred_fits : T (fits binary64 s.flow.transferred)
  pub eb_in : EbCount s.flow.eb_in
  pub eb_removed : EbCount s.flow.eb_removed
  pub time : TimeIn s.proc_time
  pub time_fits : T (fits binary64 s.proc_time)

pub record Moves (x y : Float) : Type 0 where
  pub over : Over x take_advance y
  pub top : In (minus 0) y (plain (2 ^ 24 + 1))

-- ---- parts of a turn
room_in : (r : VideoRates) (f : Transfer) → RatesIn r → EbCount f.eb_in → EbCount f.eb_removed → In (minus (2 ^ 34)) (eb_room r f) (plain (2 ^ 34))
unfolding eb_room sub add neg le lt eq
room_in r f q i j = sub_in binary64 (minus (2 ^ 34)) (plain (2 ^ 34)) q.eb (sub_in binary64 (minus (2 ^ 33)) (plain (2 ^ 33)) i j tt) tt

turn_arrival : (s : Leak) (t : Float) → TurnIn s → TimeIn t → In (minus 0) (arrived_of s.mb_in.runs s.mb_in.settled t) (plain (2 ^ 24))
turn_arrival s t q c = arrived_in (2 ^ 24) t s.mb_in.runs s.mb_in.settled (lit< tt) q.inflow c

pub full_in : (s : Leak) (t : Float) → TurnIn s → TimeIn t → In (minus (2 ^ 46)) (mb_fullness s t) (plain (2 ^ 24))
unfolding mb_fullness sub add neg le lt eq
full_in s t q c = sub_in binary64 (minus (2 ^ 46)) (plain (2 ^ 24)) (turn_arrival s t q c) q.transferred tt

one_in : In (plain 1) 1f (plain 1)
unfolding of_bits le lt eq
one_in = closed_in (plain 1) 1f (plain 1) tt

-- what is not at most 1 is 1 at least
over_one : {lo x hi : Float} → In lo x hi → le x 1f ≡ false → In (plain 1) x hi
over_one i e = nle_in i one_in e

-- a time before t, by over a millionth
pub before : (now t : Float) → TimeIn now → TimeIn t → T (fits binary64 t) → lt now (t ⊖ 1e-6f) ≡ true → T (le now t)
unfolding sub add neg le lt eq
before now t i j f e =
    let d = sub_in binary64 (minus (2 ^ 19)) (plain (2 ^ 19)) j micro_in tt in
    fl-trans now (t ⊖ 1e-6f) t (in_finite i) (in_finite d) (in_finite j) (lt→le now (t ⊖ 1e-6f) (in_finite i) (in_finite d) (to_t e))
    (sub_le binary64 t 1e-6f (in_finite j) (in_finite micro_in) f micro_in.low)

pub span_in : (now t : Float) → TimeIn now → TimeIn t → T (fits binary64 t) → lt now (t ⊖ 1e-6f) ≡ true → In zero_float (t ⊖ now) (plain (2 ^ 19))
unfolding sub add neg le lt eq
span_in now t i j f e =
    let z = sub_in binary64 (minus (2 ^ 19)) (plain (2 ^ 19)) j i tt in
    record { low_finite = tt; high_finite = tt; low = sub_nonneg binary64 t now (in_finite j) (in_finite i) (before now t i j f e); high = z.high }

-- ---- bytes wait
pub moved_is : (f : Transfer) (b : Float) → le b 0f ≡ false → (transfer f b).transferred ≡ add binary64 f.transferred b
unfolding transfer moved
moved_is f b e = simp e

pub some_bytes : {b hi : Float} → In (plain 1) b hi → le b 0f ≡ false
unfolding of_bits le lt eq
some_bytes {b} {hi} i = falsity (le b 0f) (no (le b 0f) (λ (t : T (le b 0f)). absurd (fl-trans (plain 1) b 0f tt (in_finite i) tt i.low t)))
  where
    no : (c : Bool) → (T c → ⊥) → T (not c)
    no true k = absurd (k tt)
    no false k = tt

-- the time at which the rate ends: what a turn that takes by the rate comes to
unfoldable pub rate_time : Leak → Float → Float → Float
rate_time s rbx t = s.proc_time ⊕ (max_of ((rbx ⊗ (t ⊖ s.proc_time)) ⊘ rbx) 1e-6f)

from_one : {lo x hi : Float} → In lo x hi → T (le 1f x) → In (plain 1) x hi
from_one i h = ge_in i one_in h

-- the take of a turn in which bytes wait
module _ (A T0 by room : Float) (i : In (minus 0) A (plain (2 ^ 24))) (j : TransferredIn T0) (fa : T (fits binary64 A)) (ft : T (fits binary64 T0)) (b : In zero_float by (plain (2 ^ 47)))
    (fb : T (fits binary64 by))
    (q : In (plain 1) room (plain (2 ^ 34))) (fq : T (fits binary64 room)) (e : le (A ⊖ T0) 1f ≡ false) where
  a_in : In (plain 1) (A ⊖ T0) (plain (2 ^ 24))
  unfolding sub add neg le lt eq
  a_in = over_one (sub_in binary64 (minus (2 ^ 46)) (plain (2 ^ 24)) i j tt) e

  first_in : In zero_float (min_of by (A ⊖ T0)) (plain (2 ^ 24))
  unfolding le lt eq
  first_in = min_in _ b.low (widen_low zero_float a_in tt)

  pub take_in : In zero_float (min_of (min_of by (A ⊖ T0)) room) (plain (2 ^ 24))
  unfolding le lt eq
  take_in =
      let m = min_in _ first_in.low (widen_low zero_float q tt) in
      le_in m first_in (min_l first_in q)

  pub take_at_most : T (le (min_of (min_of by (A ⊖ T0)) room) (A ⊖ T0))
  take_at_most =
      fl-trans (min_of (min_of by (A ⊖ T0)) room) (min_of by (A ⊖ T0)) (A ⊖ T0) (in_finite take_in) (in_finite first_in) (in_finite a_in) (min_l first_in q) (min_r b a_in)

  pub take_room : T (le (min_of (min_of by (A ⊖ T0)) room) room)
  take_room = min_r first_in q

  pub take_fits : T (fits binary64 (min_of (min_of by (A ⊖ T0)) room))
  take_fits = min_fits (min_of by (A ⊖ T0)) room (min_fits by (A ⊖ T0) fb (sub-fits binary64 A T0)) fq

  pub take_top : In (minus 0) (T0 ⊕ (min_of (min_of by (A ⊖ T0)) room)) (plain (2 ^ 24 + 1))
  unfolding le lt eq
  take_top = sum_below A T0 (min_of (min_of by (A ⊖ T0)) room) i j (widen (minus 0) (plain (2 ^ 33)) take_in tt) fa ft take_fits take_at_most

  by_one : T (le 1f (min_of (min_of by (A ⊖ T0)) room)) → Moves T0 (T0 ⊕ (min_of (min_of by (A ⊖ T0)) room))
  unfolding le lt eq
  by_one h = record { over = transfer_step T0 _ j (widen_high (plain (2 ^ 35)) (from_one take_in h) tt); top = take_top }

  pub take_moves : ((min_of (min_of by (A ⊖ T0)) room) ≡ by) ⊎ Moves T0 (T0 ⊕ (min_of (min_of by (A ⊖ T0)) room))
  unfolding of_bits le lt eq
  take_moves =
      go (min_three by (A ⊖ T0) room a_in.low q.low (min_or (min_of by (A ⊖ T0)) room) (min_or by (A ⊖ T0))) by_one
    where
      go : {B : Type 0} → ((min_of (min_of by (A ⊖ T0)) room) ≡ by) ⊎ T (le 1f (min_of (min_of by (A ⊖ T0)) room)) → (T (le 1f (min_of (min_of by (A ⊖ T0)) room)) → B)
          → ((min_of (min_of by (A ⊖ T0)) room) ≡ by) ⊎ B
      go (inl x) k = inl x
      go (inr x) k = inr (k x)

-- no x + 1 is below x
not_less : {lo x hi : Float} → In lo x hi → In (minus (2 ^ 60)) (x ⊕ 1f) (plain (2 ^ 60)) → T (fits binary64 x) → lt (x ⊕ 1f) x ≡ true → ⊥
unfolding of_bits le lt eq
not_less {lo} {x} {hi} i j f e =
    let g = add_ge binary64 x 1f (in_finite i) tt f tt in
    irrefl x (in_finite i) (fl-lt x (x ⊕ 1f) x (in_finite i) (in_finite j) (in_finite i) g (to_t e))
  where
    irrefl : (x : Float) → T (finite x) → T (lt x x) → ⊥
    irrefl x p h = let k = lt→val x x p p h in omega arith

-- the take of a turn that keeps pace and goes on
module _ (arr room T0 : Float) (i : In (minus (2 ^ 47)) arr (plain (2 ^ 47))) (fi : T (fits binary64 arr)) (q : In (plain 1) room (plain (2 ^ 34))) (j : TransferredIn T0)
    (e : lt ((min_of arr (max_of room 0f)) ⊕ 1f) arr ≡ true) where
  room_up : In (plain 1) (max_of room 0f) (plain (2 ^ 34))
  unfolding of_bits le lt eq
  room_up = max_keeps q (closed_in zero_float 0f (plain (2 ^ 34)) tt)

  one_more : In (minus (2 ^ 60)) (arr ⊕ 1f) (plain (2 ^ 60))
  unfolding of_bits add le lt eq
  one_more = add_in binary64 (minus (2 ^ 60)) (plain (2 ^ 60)) i one_in tt

  is_room : (min_of arr (max_of room 0f) ≡ arr) ⊎ (min_of arr (max_of room 0f) ≡ max_of room 0f) → min_of arr (max_of room 0f) ≡ max_of room 0f
  is_room (inl x) = absurd (not_less i one_more fi (rw x at e))
  is_room (inr x) = x

  pub go_in : In (plain 1) (max_of (min_of arr (max_of room 0f)) 0f) (plain (2 ^ 34))
  unfolding of_bits le lt eq
  go_in = rw (is_room (min_or arr (max_of room 0f))) (max_keeps room_up (closed_in zero_float 0f (plain (2 ^ 34)) tt))

  pub go_moves : T (le (T0 ⊕ (max_of (min_of arr (max_of room 0f)) 0f)) (plain (2 ^ 24))) → Moves T0 (T0 ⊕ (max_of (min_of arr (max_of room 0f)) 0f))
  unfolding add le lt eq
  go_moves h =
      let z = add_in binary64 (minus 0) (plain (2 ^ 46)) j go_in tt in
      record {
        over = transfer_step T0 _ j (widen_high (plain (2 ^ 35)) go_in tt);
        top = widen_high (plain (2 ^ 24 + 1)) (record { low_finite = tt; high_finite = tt; low = z.low; high = h }) tt;
      }

-- ---- the turn
-- what a turn by the rate takes, and where it ends
pub record ByRate (s s' : Leak) (rbx t : Float) : Type 0 where
  pub few : In zero_float (rbx ⊗ (t ⊖ s.proc_time)) (plain (2 ^ 24))
  pub time : s'.proc_time ≡ rate_time s rbx t
  pub top : In (minus 0) s'.flow.transferred (plain (2 ^ 24 + 1))

module _ (r : VideoRates) (t : Float) (s : Leak) (q : TurnIn s) (g : RatesIn r) (c : TimeIn t) (f : T (fits binary64 t)) (h : lt s.proc_time (t ⊖ 1e-6f) ≡ true)
    (k : le (eb_room r s.flow) 1f ≡ false) where
  pub room_one : In (plain 1) (eb_room r s.flow) (plain (2 ^ 34))
  room_one = over_one (room_in r s.flow g q.eb_in q.eb_removed) k

  by_in : In zero_float (r.rbx ⊗ (t ⊖ s.proc_time)) (plain (2 ^ 47))
  unfolding mul le lt eq
  by_in = mul_in binary64 zero_float (plain (2 ^ 47)) g.rbx (span_in s.proc_time t q.time c f h) tt

  pub room_fits : T (fits binary64 (eb_room r s.flow))
  unfolding eb_room
  room_fits = sub-fits binary64 r.eb_size (s.flow.eb_in ⊖ s.flow.eb_removed)

  module _ (m : le (mb_fullness s s.proc_time) 1f ≡ false) where
    abbrev next : Leak
    next = backlogged r (looked s) t (mb_fullness s s.proc_time) (eb_room r s.flow)

    A-in : In (minus 0) (arrived_of s.mb_in.runs s.mb_in.settled s.proc_time) (plain (2 ^ 24))
    A-in = turn_arrival s s.proc_time q q.time

    A-fits : T (fits binary64 (arrived_of s.mb_in.runs s.mb_in.settled s.proc_time))
    A-fits = arrived_fits (2 ^ 24) s.proc_time s.mb_in.runs s.mb_in.settled (lit≤ tt) q.inflow

    abbrev taken : Float
    taken = backlog_take r (looked s) t (mb_fullness s s.proc_time) (eb_room r s.flow)

    back_or : (taken ≡ r.rbx ⊗ (t ⊖ s.proc_time)) ⊎ Moves s.flow.transferred (s.flow.transferred ⊕ taken)
    unfolding backlog_take looked mb_fullness
    back_or =
        take_moves (arrived_of s.mb_in.runs s.mb_in.settled s.proc_time) s.flow.transferred _ _ A-in q.transferred A-fits q.transferred_fits by_in
        (mul-fits binary64 r.rbx (t ⊖ s.proc_time)) room_one room_fits m

    pub back_take_in : In zero_float taken (plain (2 ^ 24))
    unfolding backlog_take looked mb_fullness
    back_take_in =
        take_in (arrived_of s.mb_in.runs s.mb_in.settled s.proc_time) s.flow.transferred _ _ A-in q.transferred A-fits q.transferred_fits by_in
        (mul-fits binary64 r.rbx (t ⊖ s.proc_time)) room_one room_fits m

    pub back_most : T (le taken (mb_fullness s s.proc_time))
    unfolding backlog_take looked mb_fullness
    back_most =
        take_at_most (arrived_of s.mb_in.runs s.mb_in.settled s.proc_time) s.flow.transferred _ _ A-in q.transferred A-fits q.transferred_fits by_in
        (mul-fits binary64 r.rbx (t ⊖ s.proc_time)) room_one room_fits m

    pub back_room : T (le taken (eb_room r s.flow))
    unfolding backlog_take looked mb_fullness
    back_room =
        take_room (arrived_of s.mb_in.runs s.mb_in.settled s.proc_time) s.flow.transferred _ _ A-in q.transferred A-fits q.transferred_fits by_in
        (mul-fits binary64 r.rbx (t ⊖ s.proc_time)) room_one room_fits m

    pub back_fits : T (fits binary64 taken)
    unfolding backlog_take looked mb_fullness
    back_fits =
        take_fits (arrived_of s.mb_in.runs s.mb_in.settled s.proc_time) s.flow.transferred _ _ A-in q.transferred A-fits q.transferred_fits by_in
        (mul-fits binary64 r.rbx (t ⊖ s.proc_time)) room_one room_fits m

    pub back_top : In (minus 0) (s.flow.transferred ⊕ taken) (plain (2 ^ 24 + 1))
    unfolding backlog_take looked mb_fullness
    back_top =
        take_top (arrived_of s.mb_in.runs s.mb_in.settled s.proc_time) s.flow.transferred _ _ A-in q.transferred A-fits q.transferred_fits by_in
        (mul-fits binary64 r.rbx (t ⊖ s.proc_time)) room_one room_fits m

    moved_in : (b : Bool) → le taken 0f ≡ b → In (minus 0) (transfer s.flow taken).transferred (plain (2 ^ 24 + 1))
    unfolding transfer moved of_bits le lt eq
    moved_in true e =
        simp e
        (le_in q.transferred back_top
        (add_ge binary64 s.flow.transferred taken (in_finite q.transferred) (in_finite back_take_in) q.transferred_fits back_take_in.low))
    moved_in false e = simp e back_top

    -- a take of 1 at least, or one by the rate
    back_from : (taken ≡ r.rbx ⊗ (t ⊖ s.proc_time)) ⊎ Moves s.flow.transferred (s.flow.transferred ⊕ taken)
        → ((x : T (le 1f taken)) → Moves s.flow.transferred (transfer s.flow taken).transferred) → T (le 1f taken) ⊎ (taken ≡ r.rbx ⊗ (t ⊖ s.proc_time))
        → Moves s.flow.transferred next.flow.transferred ⊎ ByRate s next r.rbx t
    unfolding backlogged looked rate_time
    back_from z k (inl x) = inl (k x)
    back_from z k (inr e) = inr (record { few = rw e at back_take_in; time = ap (λ (y : Float). s.proc_time ⊕ (max_of (y ⊘ r.rbx) 1e-6f)) e; top = moved_in (le taken 0f) refl })

    one_moves : T (le 1f taken) → Moves s.flow.transferred (transfer s.flow taken).transferred
    unfolding le lt eq
    one_moves x =
        let i = from_one back_take_in x in
        rw (moved_is s.flow taken (some_bytes i)) (record { over = transfer_step s.flow.transferred taken q.transferred (widen_high (plain (2 ^ 35)) i tt); top = back_top })

    pub back_which : T (le 1f taken) ⊎ (taken ≡ r.rbx ⊗ (t ⊖ s.proc_time))
    unfolding backlog_take looked mb_fullness
    back_which = swap (min_three _ _ _ (from (over_one (full_in s s.proc_time q q.time) m)) (from room_one) (min_or _ _) (min_or _ _))
      where
        swap : {X Y : Type 0} → X ⊎ Y → Y ⊎ X
        swap (inl x) = inr x
        swap (inr y) = inl y

        from : {x hi : Float} → In (plain 1) x hi → T (le 1f x)
        from {x} {hi} i = fl-trans 1f (plain 1) x (in_finite one_in) tt (in_finite i) one_in.high i.low

    pub back_moves : Moves s.flow.transferred next.flow.transferred ⊎ ByRate s next r.rbx t
    back_moves = back_from back_or one_moves back_which

-- ---- the leak keeps pace
pub looked_turn_in : (s : Leak) → TurnIn s → TurnIn (looked s)
unfolding looked settle
looked_turn_in s q =
    record {
      inflow = settle_keeps (2 ^ 24) s.proc_time s.mb_in.runs s.mb_in.settled (lit≤ tt) q.inflow;
      transferred = q.transferred;
      transferred_fits = q.transferred_fits;
      eb_in = q.eb_in;
      eb_removed = q.eb_removed;
      time = q.time;
      time_fits = q.time_fits;
    }

pub arriving_in : (s : Leak) (t a : Float) → TurnIn s → TimeIn t → In (minus (2 ^ 46)) a (plain (2 ^ 24)) → In (minus (2 ^ 47)) (arriving s t a) (plain (2 ^ 47))
unfolding arriving sub add neg le lt eq
arriving_in s t a q c i = sub_in binary64 (minus (2 ^ 47)) (plain (2 ^ 47)) (full_in s t q c) i tt

pub arriving_fits : (s : Leak) (t a : Float) → T (fits binary64 (arriving s t a))
unfolding arriving
arriving_fits s t a = sub-fits binary64 (mb_fullness s t) a

-- the ways through a turn that keeps pace: it goes on from a time that is found, or ends at t
module _ (N : ℕ) (s : Leak) (t a room : Float) (h : N ≤ 2 ^ 53) (q : InflowIn N s.mb_in.runs s.mb_in.settled) where
  module _ (P : Turned → Type 0) (number : lt ((pace_take s t a room) ⊕ 1f) (arriving s t a) ≡ true → T (finite (transfer s.flow (max_of (pace_take s t a room) 0f)).transferred))
      (goes : lt ((pace_take s t a room) ⊕ 1f) (arriving s t a) ≡ true → (x : Float) → FoundAt N (transfer s.flow (max_of (pace_take s t a room) 0f)).transferred x → P (on (gone s t (max_of (pace_take s t a room) 0f) (max_of x s.proc_time))))
      (ends : P (break (gone s t (max_of (pace_take s t a room) 0f) t))) where
    by_time : lt ((pace_take s t a room) ⊕ 1f) (arriving s t a) ≡ true → (f : Option Float) → FoundIn N (transfer s.flow (max_of (pace_take s t a room) 0f)).transferred f
        → P (filled s t (max_of (pace_take s t a room) 0f) f)
    unfolding filled
    by_time e (Some x) k = goes e x k
    by_time e None k = ends

    by_test : (b : Bool) → lt ((pace_take s t a room) ⊕ 1f) (arriving s t a) ≡ b
        → P (cond b (filled s t (max_of (pace_take s t a room) 0f) (time_of_cumulative (settle s.mb_in t) (transfer s.flow (max_of (pace_take s t a room) 0f)).transferred)) (break (gone s t (max_of (pace_take s t a room) 0f) t)))
    unfolding settle
    by_test true e = by_time e _ (time_found N (settle s.mb_in t) _ h (settle_keeps N t s.mb_in.runs s.mb_in.settled h q) (number e))
    by_test false e = ends

    pub paced_elim : P (paced s t a room)
    unfolding paced
    paced_elim = by_test (lt ((pace_take s t a room) ⊕ 1f) (arriving s t a)) refl

-- s is looked at; a what waits, room what EB has
module _ (t : Float) (s : Leak) (q : TurnIn s) (c : TimeIn t) (a room : Float) (i : In (minus (2 ^ 46)) a (plain (2 ^ 24))) (j : In (plain 1) room (plain (2 ^ 34))) where
  module _ (e : lt ((pace_take s t a room) ⊕ 1f) (arriving s t a) ≡ true) where
    pub taken_in : In (plain 1) (max_of (pace_take s t a room) 0f) (plain (2 ^ 34))
    unfolding pace_take
    taken_in = go_in (arriving s t a) room s.flow.transferred (arriving_in s t a q c i) (arriving_fits s t a) j q.transferred e

    pub taken_is : (transfer s.flow (max_of (pace_take s t a room) 0f)).transferred ≡ s.flow.transferred ⊕ (max_of (pace_take s t a room) 0f)
    taken_is = moved_is s.flow (max_of (pace_take s t a room) 0f) (some_bytes taken_in)

    pub taken_finite : T (finite (transfer s.flow (max_of (pace_take s t a room) 0f)).transferred)
    unfolding add le lt eq
    taken_finite = rw taken_is (in_finite (add_in binary64 (minus 0) (plain (2 ^ 46)) q.transferred taken_in tt))

    pub taken_moves : (x : Float) → FoundAt (2 ^ 24) (transfer s.flow (max_of (pace_take s t a room) 0f)).transferred x
        → Moves s.flow.transferred (transfer s.flow (max_of (pace_take s t a room) 0f)).transferred
    unfolding pace_take
    taken_moves x f = rw taken_is (go_moves (arriving s t a) room s.flow.transferred (arriving_in s t a q c i) (arriving_fits s t a) j q.transferred e (rw taken_is at f.top))

  pub paced_moves : (paced s t a room).more ≡ true → Moves s.flow.transferred (paced s t a room).leak.flow.transferred
  unfolding gone
  paced_moves =
      paced_elim (2 ^ 24) s t a room (lit≤ tt) q.inflow (λ (u : Turned). u.more ≡ true → Moves s.flow.transferred u.leak.flow.transferred) taken_finite
      (λ (e : lt ((pace_take s t a room) ⊕ 1f) (arriving s t a) ≡ true) (x : Float) (f : FoundAt (2 ^ 24) (transfer s.flow (max_of (pace_take s t a room) 0f)).transferred x) (m : true ≡ true). taken_moves e x f)
      (λ (m : false ≡ true). absurd (true≢false (sym m)))
