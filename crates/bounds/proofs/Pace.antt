-- The bounds of the leak are kept by a turn that keeps pace with the arrivals, by a turn that finds EBn full, and behind the loop. Assumes nothing.
use mathlib.Core.Bool.{Bool, false, true}
use mathlib.Core.Logic.{◌⊎◌, inl, inr}
use mathlib.Core.Path.{◌∙◌, ◌≡◌, ap, refl, subst, sym}
use Prim.Native.Nat.{◌*◌, ◌+◌, ◌^◌, ◌≤◌, ℕ}
use native.Mathlib.Nat.{add-le-add, add-mul, le-add_right, le_of_lt, le_trans, mul-le-mul_right, one-mul}
use native.Mathlib.Omega.{arith}
use lib.Dec.{T, lit≤}
use lib.Ieee.{Float, add, binary64, eq, fits, le, lt, neg, of_bits, sub}
use lib.Ieee.Fits.{add-fits, sub-fits}
use lib.Ieee.Scale.{finite}
use Rattle.ieee.specs.Binary64.{0f, 1f, ◌⊕◌, ◌⊖◌}
use Rattle.ieee.specs.Interval.{In, minus, plain, zero_float}
use Rattle.ieee.specs.MaxMin.{max_of, min_of}
use Rattle.ieee.specs.Units.{pos_units, ulp}
use Rattle.ieee.proofs.Growth.{widen_at}
use Rattle.ieee.proofs.Interval.{closed_in, in_finite, in_self, le_in, sub_in, widen_low}
use Rattle.ieee.proofs.MaxMin.{max_in, max_or, min_in, min_le_l}
use Rattle.ieee.proofs.Order.{le_refl as fl-refl, le_trans as fl-trans, le_trans_inf_l}
use Rattle.ieee.proofs.Units.{high→units}
use Rattle.ieee.proofs.Whole.{le_is, plain_is}
use Rattle.ieee.proofs.MaxMin.{max_fits}
use Rattle.branch.specs.CumulativeIn.{arrived_by, rest_at, settle, settled_at}
use Rattle.branch.specs.VideoBranch.{Leak, Turned, VideoRates, arriving, break, eb_room, gone, mb_fullness, on, pace_take, paced, transfer}
use Rattle.bounds.specs.Events.{UpTo, earliest_time}
use Rattle.bounds.specs.Runs.{InflowIn}
use Rattle.bounds.specs.Video.{RatesIn, Running, ahead_limit, leak_time, transfer_limit, turn_limit}
use Rattle.bounds.proofs.Ahead.{ahead_next, ahead_top_lem}
use Rattle.bounds.proofs.Arrived.{settle_keeps}
use Rattle.bounds.proofs.Rate.{neg_units_zero}
use Rattle.bounds.proofs.Running.{Reach, ahead_mono, aim_in, clock_in, few_53, turn_in}
use Rattle.bounds.proofs.Settled.{arrival_fits, arrival_in, arrived_later, arrived_settled, units_later}
use Rattle.bounds.proofs.Take.{min_fits}
use Rattle.bounds.proofs.TimeOf.{FoundAt, found_limit}
use Rattle.bounds.proofs.Transfer.{transfer_keeps, transfer_moves}
use Rattle.bounds.proofs.TurnParts.{TurnIn, arriving_fits, arriving_in, full_in, moved_is, paced_elim, taken_finite, taken_is, taken_moves}

-- what goes is at most the room, and at most what arrives
module _ (arr room : Float) (i : In (minus (2 ^ 47)) arr (plain (2 ^ 47))) (q : In (plain 1) room (plain (2 ^ 34))) where
  room_in : In zero_float 0f room
  unfolding of_bits le lt eq
  room_in = record { low_finite = tt; high_finite = in_finite q; low = tt; high = fl-trans 0f (plain 1) room tt tt (in_finite q) tt q.low }

  take_in : In (minus (2 ^ 47)) (min_of arr (max_of room 0f)) room
  unfolding le lt eq
  take_in = min_in arr i.low (widen_low (minus (2 ^ 47)) (max_in room (fl-refl room (in_finite q)) room_in) tt)

  pub go_room : In zero_float (max_of (min_of arr (max_of room 0f)) 0f) room
  go_room = max_in (min_of arr (max_of room 0f)) take_in.high room_in

  pub go_arriving : (pos_units binary64 (max_of (min_of arr (max_of room 0f)) 0f) ≡ 0) ⊎ T (le (max_of (min_of arr (max_of room 0f)) 0f) arr)
  unfolding of_bits pos_units
  go_arriving = go (max_or (min_of arr (max_of room 0f)) 0f)
    where
      go : (max_of (min_of arr (max_of room 0f)) 0f ≡ min_of arr (max_of room 0f)) ⊎ (max_of (min_of arr (max_of room 0f)) 0f ≡ 0f)
          → (pos_units binary64 (max_of (min_of arr (max_of room 0f)) 0f) ≡ 0) ⊎ T (le (max_of (min_of arr (max_of room 0f)) 0f) arr)
      go (inl e) = inr (subst (λ (y : Float). T (le y arr)) (sym e) (min_le_l arr (max_of room 0f) (in_self i)))
      go (inr e) = inl (ap (λ (y : Float). pos_units binary64 y) e)

  -- so it is at most 2 ^ 26 where that is
  pub go_few : T (le arr (plain (2 ^ 26))) → In zero_float (max_of (min_of arr (max_of room 0f)) 0f) (plain (2 ^ 26))
  unfolding of_bits le lt eq
  go_few h =
      let z : In zero_float 0f (plain (2 ^ 26)) = closed_in zero_float 0f (plain (2 ^ 26)) tt in
      max_in (min_of arr (max_of room 0f)) (fl-trans (min_of arr (max_of room 0f)) arr (plain (2 ^ 26)) (in_finite take_in) (in_finite i) tt (min_le_l arr (max_of room 0f) (in_self i)) h) z

found_mono : {n N : ℕ} {target x : Float} → n ≤ N → T (finite target) → FoundAt n target x → FoundAt N target x
found_mono {n} {N} {target} h p f =
    record { top = fl-trans target (plain n) (plain N) p tt tt f.top (le_is (plain n) (plain N) n N (plain_is n) (plain_is N) h); number = f.number; high = f.high; fit = f.fit }

ahead_wide : (e : ℕ) → ahead_limit e + (ulp binary64 28 + ulp binary64 28 + (ulp binary64 28 + ulp binary64 28)) ≤ ahead_limit (e + 1)
ahead_wide e =
    wide (2 ^ 24 * 2 ^ 1074) (e * ulp binary64 30) (ulp binary64 28 + ulp binary64 28 + (ulp binary64 28 + ulp binary64 28)) (ulp binary64 30) ((e + 1) * ulp binary64 30) (lit≤ tt)
    (add-mul e 1 (ulp binary64 30) ∙ ap (λ (z : ℕ). e * ulp binary64 30 + z) (one-mul (ulp binary64 30)))
  where
    wide : (a x v U y : ℕ) → v ≤ U → y ≡ x + U → a + x + v ≤ a + y
    wide a x v U y h k = omega arith

ahead_top : (e : ℕ) → e ≤ turn_limit → ahead_limit e ≤ (2 ^ 24 + 1) * 2 ^ 1074
ahead_top e h = most (2 ^ 24 * 2 ^ 1074) (e * ulp binary64 30) (turn_limit * ulp binary64 30) ((2 ^ 24 + 1) * 2 ^ 1074) (mul-le-mul_right (ulp binary64 30) h) (lit≤ tt)
  where
    most : (a x y b : ℕ) → x ≤ y → a + y ≤ b → a + x ≤ b
    most a x y b h k = omega arith

module _ {n A L : ℕ} (w : Reach n A L) where
  -- ---- a turn that keeps pace: s is looked at, and a is what waits
  module _ {e : ℕ} (r : VideoRates) (t : Float) (s : Leak) (he : e + 1 ≤ turn_limit) (q : Running n L e s) (g : RatesIn r) (c : UpTo A t) (f : T (fits binary64 t))
      (b : T (le s.proc_time t)) (room : Float) (j : In (plain 1) room (plain (2 ^ 34)))
      (is : room ≡ eb_room r s.flow) where
    abbrev a : Float
    a = mb_fullness s s.proc_time

    abbrev take : Float
    take = max_of (pace_take s t (mb_fullness s s.proc_time) room) 0f

    he' : e ≤ turn_limit
    he' = le_trans (le-add_right e 1) he

    d : TurnIn s
    d = turn_in w q he'

    a_in : In (minus (2 ^ 46)) (mb_fullness s s.proc_time) (plain (2 ^ 24))
    a_in = full_in s s.proc_time d (clock_in w q.time)

    arr_in : In (minus (2 ^ 47)) (arriving s t (mb_fullness s s.proc_time)) (plain (2 ^ 47))
    arr_in = arriving_in s t (mb_fullness s s.proc_time) d (aim_in w c) a_in

    room_fits : T (fits binary64 room)
    unfolding eb_room
    room_fits = rw is (sub-fits binary64 r.eb_size (s.flow.eb_in ⊖ s.flow.eb_removed))

    take_fits : T (fits binary64 take)
    unfolding pace_take of_bits fits
    take_fits = max_fits binary64 _ 0f (min_fits _ _ (arriving_fits s t (mb_fullness s s.proc_time)) (max_fits binary64 room 0f room_fits tt)) tt

    take_room : In zero_float take room
    unfolding pace_take
    take_room = go_room (arriving s t (mb_fullness s s.proc_time)) room arr_in j

    take_most : In zero_float take (plain (2 ^ 34))
    take_most =
        le_in take_room j take_room.high

    room_high : T (le take (r.eb_size ⊖ (s.flow.eb_in ⊖ s.flow.eb_removed)))
    unfolding eb_room
    room_high = subst (λ (y : Float). T (le take y)) is take_room.high

    settled_inflow : InflowIn n (rest_at s.mb_in.runs t) (settled_at s.mb_in.runs s.mb_in.settled t)
    settled_inflow = settle_keeps n t s.mb_in.runs s.mb_in.settled (le_of_lt (few_53 w)) q.parts.inflow

    -- EBn filled up, and the leak goes on from the time that was found
    goes_running : lt ((pace_take s t (mb_fullness s s.proc_time) room) ⊕ 1f) (arriving s t (mb_fullness s s.proc_time)) ≡ true → (x : Float)
        → FoundAt n (transfer s.flow take).transferred x → Running n L e (gone s t take (max_of x s.proc_time))
    unfolding gone settle le lt eq
    goes_running z x k =
        let p = taken_finite t s d (aim_in w c) (mb_fullness s s.proc_time) room a_in j z in
        let m = taken_moves t s d (aim_in w c) (mb_fullness s s.proc_time) room a_in j z x (found_mono w.few p k) in
        let v = taken_is t s d (aim_in w c) (mb_fullness s s.proc_time) room a_in j z in
        let high : T (le (transfer s.flow take).transferred (plain (2 ^ 24))) = (found_mono w.few p k).top in
        let fit = subst (λ (y : Float). T (fits binary64 y)) (sym v) (add-fits binary64 s.flow.transferred take) in
        record {
          parts = record {
            inflow = settled_inflow;
            flow = transfer_moves n e s.flow r.eb_size take q.parts.flow w.few he' g.eb g.eb_fits take_most take_fits room_high
                (subst (λ (y : Float). T (le y (plain transfer_limit))) v (top (transfer s.flow take).transferred p high)) m.over;
            since = q.parts.since;
            longest = q.parts.longest;
            peak = q.parts.peak;
          };
          time = max_in x (fl_trans_inf x k.high) q.time;
          time_fits = max_fits binary64 x s.proc_time k.fit q.time_fits;
          ahead = chain _ _ (pos_units binary64 (arrived_by (settle s.mb_in t) (max_of x s.proc_time))) (2 ^ 24 * 2 ^ 1074) (e * ulp binary64 30)
              (high→units binary64 (2 ^ 24) (transfer s.flow take).transferred p fit high) (neg_units_zero (transfer s.flow take).transferred p (low m.top));
        }
      where
        top : (y : Float) → T (finite y) → T (le y (plain (2 ^ 24))) → T (le y (plain transfer_limit))
        top y p h = fl-trans y (plain (2 ^ 24)) (plain transfer_limit) p tt tt h tt

        low : {y : Float} → In (minus 0) y (plain (2 ^ 24 + 1)) → T (le zero_float y)
        low i = (widen_low zero_float i tt).low

        fl_trans_inf : (y : Float) → T (le y (plain found_limit)) → T (le y (plain L))
        fl_trans_inf y h = le_trans_inf_l y (plain found_limit) (plain L) tt tt h (le_is (plain found_limit) (plain L) found_limit L (plain_is found_limit) (plain_is L) w.found)

        chain : (x o a M y : ℕ) → x ≤ M + o → o ≡ 0 → x ≤ a + (M + y)
        chain x o a M y h k = omega arith

    -- all that arrives up to t has left, or EBn is full and the byte is not queued
    arrived_t : arrived_by (settle s.mb_in t) t ≡ arrived_by s.mb_in t
    arrived_t = arrived_settled t t (aim_in w c) (aim_in w c) (fl-refl t (in_finite c)) n s.mb_in q.parts.inflow

    X-in : In zero_float (arrived_by s.mb_in t) (plain (2 ^ 24))
    unfolding le lt eq
    X-in = widen_low zero_float (widen_at 0 (2 ^ 24) (arrival_in n (few_53 w) s.mb_in q.parts.inflow t (aim_in w c)) (lit≤ tt) w.few) tt

    A-in : In zero_float (arrived_by s.mb_in s.proc_time) (plain (2 ^ 24))
    unfolding le lt eq
    A-in = widen_low zero_float (widen_at 0 (2 ^ 24) (arrival_in n (few_53 w) s.mb_in q.parts.inflow s.proc_time (clock_in w q.time)) (lit≤ tt) w.few) tt

    arr_few : T (le (arriving s t (mb_fullness s s.proc_time)) (plain (2 ^ 26)))
    unfolding arriving mb_fullness sub add neg le lt eq
    arr_few =
        (sub_in binary64 (minus (2 ^ 27)) (plain (2 ^ 26)) (sub_in binary64 (minus (2 ^ 26)) (plain (2 ^ 24)) X-in q.parts.flow.transferred tt)
        (sub_in binary64 (minus transfer_limit) (plain (2 ^ 24)) A-in q.parts.flow.transferred tt) tt).high

    take_few : In zero_float take (plain (2 ^ 26))
    unfolding pace_take
    take_few = go_few (arriving s t (mb_fullness s s.proc_time)) room arr_in j arr_few

    takes : (pos_units binary64 take ≡ 0) ⊎ T (le take (((arrived_by s.mb_in t) ⊖ s.flow.transferred) ⊖ ((arrived_by s.mb_in s.proc_time) ⊖ s.flow.transferred)))
    unfolding pace_take arriving mb_fullness
    takes = go_arriving (arriving s t (mb_fullness s s.proc_time)) room arr_in j

    grows : T (le (arrived_by s.mb_in s.proc_time) (arrived_by s.mb_in t))
    grows = arrived_later n (few_53 w) s.mb_in q.parts.inflow s.proc_time t (clock_in w q.time) (aim_in w c) b

    sum_ahead : pos_units binary64 (s.flow.transferred ⊕ take) ≤ pos_units binary64 (arrived_by s.mb_in t) + ahead_limit (e + 1)
    sum_ahead =
        ahead_next (arrived_by s.mb_in t) (arrived_by s.mb_in s.proc_time) s.flow.transferred take (ahead_limit e) (ahead_limit (e + 1)) X-in A-in
        q.parts.flow.transferred take_few
        (arrival_fits n (few_53 w) s.mb_in q.parts.inflow t) (arrival_fits n (few_53 w) s.mb_in q.parts.inflow s.proc_time) q.parts.flow.transferred_fits take_fits grows
        q.ahead
        (ahead_wide e) takes

    sum_top : T (le (s.flow.transferred ⊕ take) (plain transfer_limit))
    sum_top =
        ahead_top_lem (arrived_by s.mb_in t) (arrived_by s.mb_in s.proc_time) s.flow.transferred take (ahead_limit e) (ahead_limit (e + 1)) X-in A-in q.parts.flow.transferred take_few
        (arrival_fits n (few_53 w) s.mb_in q.parts.inflow t) (arrival_fits n (few_53 w) s.mb_in q.parts.inflow s.proc_time) q.parts.flow.transferred_fits take_fits grows
        q.ahead
        (ahead_wide e) takes (ahead_top (e + 1) he)

    last_ahead : (z : Bool) → le take 0f ≡ z → pos_units binary64 (transfer s.flow take).transferred ≤ pos_units binary64 (arrived_by s.mb_in t) + ahead_limit (e + 1)
    unfolding transfer
    last_ahead true z =
        simp z
        (le_trans q.ahead (add-le-add (units_later n (few_53 w) s.mb_in q.parts.inflow s.proc_time t (clock_in w q.time) (aim_in w c) b) (ahead_mono e (e + 1) (le-add_right e 1))))
    last_ahead false z = subst (λ (y : Float). pos_units binary64 y ≤ pos_units binary64 (arrived_by s.mb_in t) + ahead_limit (e + 1)) (sym (moved_is s.flow take z)) sum_ahead

    last_running : Running n L (e + 1) (gone s t take t)
    unfolding gone settle
    last_running =
        record {
          parts = record {
            inflow = settled_inflow;
            flow = transfer_keeps n e s.flow r.eb_size take q.parts.flow w.few he' g.eb g.eb_fits take_most take_fits room_high sum_top;
            since = q.parts.since;
            longest = q.parts.longest;
            peak = q.parts.peak;
          };
          time = widen_at earliest_time L c (lit≤ tt) (le_trans (le-add_right A leak_time) w.leak);
          time_fits = f;
          ahead = subst (λ (y : Float). pos_units binary64 (transfer s.flow take).transferred ≤ pos_units binary64 y + ahead_limit (e + 1)) (sym arrived_t) (last_ahead (le take 0f) refl);
        }

    -- whichever way it goes
    pub paced_running : (P : Turned → Type 0) → ((y : Leak) → Running n L e y → P (on y)) → ((y : Leak) → Running n L (e + 1) y → P (break y))
        → P (paced s t (mb_fullness s s.proc_time) room)
    paced_running P p z =
        paced_elim n s t (mb_fullness s s.proc_time) room (le_of_lt (few_53 w)) q.parts.inflow P (taken_finite t s d (aim_in w c) (mb_fullness s s.proc_time) room a_in j)
        (λ h x k. p (gone s t take (max_of x s.proc_time)) (goes_running h x k)) (z (gone s t take t) last_running)
