-- The bounds of the leak are kept by each turn that is not the last. Assumes nothing.
use mathlib.Core.Bool.{Bool, cond, false, true, true≢false}
use mathlib.Core.Logic.{◌⊎◌, inl, inr}
use mathlib.Core.Path.{◌∙◌, ◌≡◌, refl, subst, sym}
use Prim.Native.Nat.{◌*◌, ◌+◌, ◌<◌, ◌^◌, ◌≤◌, ℕ}
use native.Mathlib.Nat.{add-le-add, le-add_right, le_of_lt, le_refl, le_trans, lt_of_le_of_lt, mul-le-mul_right}
use lib.Dec.{T, lit<, lit≤}
use lib.Ieee.{Float, add, binary64, div, eq, fits, le, lt, neg, sub}
use lib.Ieee.Fits.{add-fits}
use lib.IntN.{pos}
use Rattle.ieee.specs.Binary64.{0f, 1e-6f, 1f, ◌⊕◌, ◌⊖◌, ◌⊘◌, -∞}
use Rattle.ieee.specs.Interval.{In, minus, plain, zero_float}
use Rattle.ieee.specs.MaxMin.{max_of}
use Rattle.ieee.specs.Progress.{Over, take_advance}
use Rattle.ieee.specs.Units.{pos_units, ulp}
use Rattle.ieee.proofs.Growth.{add_at, widen_at}
use Rattle.ieee.proofs.Interval.{div_in, in_finite, le_in, sub_in, widen, widen_high, widen_low}
use Rattle.ieee.proofs.Order.{le_refl as fl-refl}
use Rattle.ieee.proofs.Sign.{add_ge}
use Rattle.ieee.proofs.MaxMin.{max_keeps}
use Rattle.branch.specs.CumulativeIn.{arrived_by, settle}
use Rattle.branch.specs.VideoBranch.{Leak, VideoRates, backlog_take, backlogged, eb_room, longest_seen, looked, mb_fullness, since_seen, transfer}
use Rattle.bounds.specs.Events.{UpTo, busy_limit, earliest_time}
use Rattle.bounds.specs.Runs.{TimeIn, byte_limit}
use Rattle.bounds.specs.Video.{LeakIn, RatesIn, Running, Since, ahead_limit, drain_limit, last_limit, leak_time, transfer_limit, turn_limit}
use Rattle.bounds.proofs.Ahead.{backlog_ahead}
use Rattle.bounds.proofs.Arrived.{inflow_mono, settle_keeps}
use Rattle.bounds.proofs.Rate.{micro_in}
use Rattle.bounds.proofs.Settled.{arrival_fits, arrival_in, arrived_settled, units_later}
use Rattle.bounds.proofs.TimeOf.{found_limit}
use Rattle.bounds.proofs.Transfer.{eb_held, looser, transfer_either}
use Rattle.bounds.proofs.TurnParts.{TurnIn, back_fits, back_most, back_room, back_take_in, back_top, before, full_in, moved_is}

-- n bytes are queued, calls go up to A, and the clock stays within L
pub record Reach (n A L : ℕ) : Type 0 where
  pub few : n ≤ byte_limit
  pub aim : A ≤ drain_limit
  pub leak : A + leak_time ≤ L
  pub most : L ≤ last_limit
  pub found : found_limit ≤ L

pub since_some : {x : Float} → Since x → eq x -∞ ≡ false → In (minus earliest_time) x (plain (2 ^ 18))
since_some (inl e) f = absurd (true≢false (sym e ∙ f))
since_some (inr i) f = i

pub ahead_mono : (e e' : ℕ) → e ≤ e' → ahead_limit e ≤ ahead_limit e'
ahead_mono e e' h = add-le-add (le_refl (2 ^ 24 * 2 ^ 1074)) (mul-le-mul_right (ulp binary64 30) h)

pub running_mono : {n L : ℕ} {s : Leak} (e e' : ℕ) → e ≤ e' → Running n L e s → Running n L e' s
running_mono {n} {L} {s} e e' h q =
    record {
      parts = record { inflow = q.parts.inflow; flow = looser e e' h q.parts.flow; since = q.parts.since; longest = q.parts.longest; peak = q.parts.peak };
      time = q.time;
      time_fits = q.time_fits;
      ahead = le_trans q.ahead (add-le-add (le_refl (pos_units binary64 (arrived_by s.mb_in s.proc_time))) (ahead_mono e e' h));
    }

module _ {n A L : ℕ} (w : Reach n A L) where
  pub clock_in : {t : Float} → UpTo L t → TimeIn t
  clock_in i = widen_at (2 ^ 18) (2 ^ 18) i (lit≤ tt) (le_trans w.most (lit≤ tt))

  pub aim_in : {t : Float} → UpTo A t → TimeIn t
  aim_in i = widen_at (2 ^ 18) (2 ^ 18) i (lit≤ tt) (le_trans w.aim (lit≤ tt))

  pub few_53 : n < 2 ^ 53
  few_53 = lt_of_le_of_lt w.few (lit< tt)

  pub parts_turn_in : {e : ℕ} {s : Leak} → LeakIn n e s → e ≤ turn_limit → TimeIn s.proc_time → T (fits binary64 s.proc_time) → TurnIn s
  unfolding le lt eq
  parts_turn_in {e} {s} q h c f =
      record {
        inflow = inflow_mono w.few q.inflow;
        transferred = widen (minus 0) (plain (2 ^ 45)) q.flow.transferred tt;
        transferred_fits = q.flow.transferred_fits;
        eb_in = eb_held n e s.flow q.flow h;
        eb_removed = q.flow.removed;
        time = c;
        time_fits = f;
      }

  pub turn_in : {e : ℕ} {s : Leak} → Running n L e s → e ≤ turn_limit → TurnIn s
  turn_in q h = parts_turn_in q.parts h (clock_in q.time) q.time_fits

  -- ---- MBn is looked at
  since_seen_lem : (x : Float) (over : Bool) (now : Float) → Since x → UpTo A now → Since (since_seen x over now)
  unfolding since_seen eq
  since_seen_lem x over now q i = go over (eq x -∞)
    where
      go : (a b : Bool) → Since (cond a (cond b now x) -∞)
      go true true = inr (widen_at earliest_time (2 ^ 18) i (lit≤ tt) (le_trans w.aim (lit≤ tt)))
      go true false = q
      go false b = inl refl

  pub stretch_in : (now x : Float) → UpTo A now → In (minus earliest_time) x (plain (2 ^ 18)) → In (minus (2 ^ 19)) (now ⊖ x) (plain busy_limit)
  unfolding sub add neg le lt eq
  stretch_in now x i j = sub_in binary64 (minus (2 ^ 19)) (plain busy_limit) (widen_at earliest_time drain_limit i (lit≤ tt) w.aim) j tt

  longest_seen_lem : (l x : Float) (over : Bool) (now : Float) → In zero_float l (plain busy_limit) → Since x → UpTo A now → In zero_float (longest_seen l x over now) (plain busy_limit)
  unfolding longest_seen
  longest_seen_lem l x over now k q i = go over (eq x -∞) refl
    where
      go : (a b : Bool) → eq x -∞ ≡ b → In zero_float (cond a l (cond b l (max_of l (now ⊖ x)))) (plain busy_limit)
      go true b e = k
      go false true e = k
      go false false e = max_keeps k (stretch_in now x i (since_some q e))

  module _ {e : ℕ} (t : Float) (s : Leak) (he : e ≤ turn_limit) (q : Running n L e s) (c : UpTo A t) (f : T (fits binary64 t)) (h : lt s.proc_time (t ⊖ 1e-6f) ≡ true) where
    pub now_before : T (le s.proc_time t)
    now_before = before s.proc_time t (clock_in q.time) (aim_in c) f h

    pub now_in : UpTo A s.proc_time
    now_in = le_in q.time c now_before

    pub now_again : arrived_by (settle s.mb_in s.proc_time) s.proc_time ≡ arrived_by s.mb_in s.proc_time
    now_again = arrived_settled s.proc_time s.proc_time (clock_in q.time) (clock_in q.time) (fl-refl s.proc_time (in_finite q.time)) n s.mb_in q.parts.inflow

    pub looked_running : Running n L e (looked s)
    unfolding looked settle
    looked_running =
        record {
          parts = record {
            inflow = settle_keeps n s.proc_time s.mb_in.runs s.mb_in.settled (le_of_lt few_53) q.parts.inflow;
            flow = q.parts.flow;
            since = since_seen_lem s.busy_since (lt 1f (mb_fullness s s.proc_time)) s.proc_time q.parts.since now_in;
            longest = longest_seen_lem s.longest_busy s.busy_since (lt 1f (mb_fullness s s.proc_time)) s.proc_time q.parts.longest q.parts.since now_in;
            peak = max_keeps q.parts.peak (full_in s s.proc_time (turn_in q he) (clock_in q.time));
          };
          time = q.time;
          time_fits = q.time_fits;
          ahead = subst (λ (y : Float). pos_units binary64 s.flow.transferred ≤ pos_units binary64 y + ahead_limit e) (sym now_again) q.ahead;
        }

  -- ---- bytes wait
  step_time : (now take rbx : Float) → UpTo A now → In zero_float take (plain (2 ^ 24)) → In (plain 1000) rbx (plain (2 ^ 27)) → UpTo L (now ⊕ (max_of (take ⊘ rbx) 1e-6f))
  unfolding div le lt eq
  step_time now take rbx i j k =
      let d = div_in binary64 zero_float (plain leak_time) j k tt in
      let m = max_keeps d (widen_high (plain leak_time) micro_in tt) in
      widen_at earliest_time L (add_at binary64 (pos 0) tt i (widen_low (minus 0) m tt) (lit< tt) (lt_of_le_of_lt (le_trans w.leak w.most) (lit< tt))) (lit≤ tt) w.leak

  step_after : (now take rbx : Float) → UpTo A now → T (fits binary64 now) → In zero_float take (plain (2 ^ 24)) → In (plain 1000) rbx (plain (2 ^ 27))
      → T (le now (now ⊕ (max_of (take ⊘ rbx) 1e-6f)))
  unfolding div le lt eq
  step_after now take rbx i f j k =
      let d = div_in binary64 zero_float (plain leak_time) j k tt in
      let m = max_keeps d (widen_high (plain leak_time) micro_in tt) in
      add_ge binary64 now (max_of (take ⊘ rbx) 1e-6f) (in_finite i) (in_finite m) f m.low

  module _ {e : ℕ} (r : VideoRates) (t : Float) (s : Leak) (he : e ≤ turn_limit) (q : Running n L e s) (g : RatesIn r) (c : UpTo A t) (f : T (fits binary64 t))
      (h : lt s.proc_time (t ⊖ 1e-6f) ≡ true)
      (k : le (eb_room r s.flow) 1f ≡ false) (m : le (mb_fullness s s.proc_time) 1f ≡ false) where
    abbrev taken : Float
    taken = backlog_take r (looked s) t (mb_fullness s s.proc_time) (eb_room r s.flow)

    d : TurnIn s
    d = turn_in q he

    take_in : In zero_float taken (plain (2 ^ 24))
    take_in = back_take_in r t s d g (aim_in c) f h k m

    abbrev time' : Float
    time' = s.proc_time ⊕ (max_of (taken ⊘ r.rbx) 1e-6f)

    time_in : UpTo L time'
    time_in = step_time s.proc_time taken r.rbx (now_in t s he q c f h) take_in g.rbx

    time_after : T (le s.proc_time time')
    time_after = step_after s.proc_time taken r.rbx (now_in t s he q c f h) q.time_fits take_in g.rbx

    arrived_then : arrived_by (settle s.mb_in s.proc_time) time' ≡ arrived_by s.mb_in time'
    arrived_then = arrived_settled s.proc_time time' (clock_in q.time) (clock_in time_in) time_after n s.mb_in q.parts.inflow

    arrived_more : pos_units binary64 (arrived_by s.mb_in s.proc_time) ≤ pos_units binary64 (arrived_by s.mb_in time')
    arrived_more = units_later n few_53 s.mb_in q.parts.inflow s.proc_time time' (clock_in q.time) (clock_in time_in) time_after

    moved_ahead : pos_units binary64 (s.flow.transferred ⊕ taken) ≤ pos_units binary64 (arrived_by s.mb_in s.proc_time) + (ulp binary64 28 + ulp binary64 28)
    unfolding mb_fullness le lt eq
    moved_ahead =
        backlog_ahead (arrived_by s.mb_in s.proc_time) s.flow.transferred taken
        (widen_low zero_float (widen_at 0 (2 ^ 24) (arrival_in n few_53 s.mb_in q.parts.inflow s.proc_time (clock_in q.time)) (lit≤ tt) w.few) tt) q.parts.flow.transferred
        (widen_high (plain (2 ^ 26)) take_in tt)
        (arrival_fits n few_53 s.mb_in q.parts.inflow s.proc_time) q.parts.flow.transferred_fits (back_fits r t s d g (aim_in c) f h k m)
        (back_most r t s d g (aim_in c) f h k m)

    ahead_by : (e' : ℕ) → e ≤ e' → (b : Bool) → le taken 0f ≡ b → pos_units binary64 (transfer s.flow taken).transferred ≤ pos_units binary64 (arrived_by s.mb_in time') + ahead_limit e'
    unfolding transfer
    ahead_by e' l true z = simp z (le_trans q.ahead (add-le-add arrived_more (ahead_mono e e' l)))
    ahead_by e' l false z =
        subst (λ (y : Float). pos_units binary64 y ≤ pos_units binary64 (arrived_by s.mb_in time') + ahead_limit e') (sym (moved_is s.flow taken z))
        (le_trans moved_ahead (add-le-add arrived_more (le_trans (lit≤ tt) (le-add_right (2 ^ 24 * 2 ^ 1074) (e' * ulp binary64 30)))))

    pub backlogged_running : (e' : ℕ) → e ≤ e' → Over s.flow.transferred take_advance (transfer s.flow taken).transferred ⊎ (e + 1 ≤ e')
        → Running n L e' (backlogged r (looked s) t (mb_fullness s s.proc_time) (eb_room r s.flow))
    unfolding backlogged looked settle eb_room le lt eq
    backlogged_running e' l o =
        let p = (looked_running t s he q c f h).parts in
        record {
          parts = record {
            inflow = p.inflow;
            flow =
                transfer_either n e s.flow r.eb_size taken q.parts.flow w.few he g.eb g.eb_fits (widen_high (plain (2 ^ 34)) take_in tt)
                (back_fits r t s d g (aim_in c) f h k m) (back_room r t s d g (aim_in c) f h k m)
                (widen_high (plain transfer_limit) (back_top r t s d g (aim_in c) f h k m) tt).high e' l o;
            since = p.since;
            longest = p.longest;
            peak = p.peak;
          };
          time = time_in;
          time_fits = add-fits binary64 s.proc_time (max_of (taken ⊘ r.rbx) 1e-6f);
          ahead = subst (λ (y : Float). pos_units binary64 (transfer s.flow taken).transferred ≤ pos_units binary64 y + ahead_limit e') (sym arrived_then) (ahead_by e' l (le taken 0f) refl);
        }
