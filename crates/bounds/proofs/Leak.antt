-- `leak_until` keeps the bounds of the leak, its loop ends by its own test, and what it finds is within bounds. Assumes nothing.
use mathlib.Core.Bool.{Bool, cond, false, true, true≢false}
use mathlib.Core.Logic.{◌⊎◌, inl, inr}
use mathlib.Core.Path.{◌∙◌, ◌≡◌, ap, refl, subst, sym}
use Prim.Native.Nat.{◌+◌, ◌^◌, ◌≤◌, ℕ}
use native.Mathlib.Nat.{add-le-add, le-add_right, le_of_lt, le_refl, le_trans}
use lib.Dec.{T, lit≤}
use lib.Ieee.{Float, binary64, eq, fin, fits, inf, le, lt, nan}
use lib.Ieee.Scale.{finite}
use Rattle.ieee.specs.Binary64.{1e-6f, 1f, ◌⊖◌, -∞}
use Rattle.ieee.specs.Interval.{In, minus, plain, zero_float}
use Rattle.ieee.specs.MaxMin.{max_of}
use Rattle.ieee.specs.Progress.{Over, take_advance}
use Rattle.ieee.specs.Units.{pos_units}
use Rattle.ieee.proofs.Growth.{widen_at}
use Rattle.ieee.proofs.Interval.{in_finite}
use Rattle.ieee.proofs.MaxMin.{max_in, max_l, max_r}
use Rattle.ieee.proofs.Order.{le_refl as fl-refl}
use Rattle.ieee.proofs.MaxMin.{max_fits, max_keeps}
use Rattle.branch.specs.CumulativeIn.{arrived_by, rest_at, settle, settled_at}
use Rattle.branch.specs.VideoBranch.{Leak, Turned, VideoRates, backlog_take, backlogged, break, budget, closed, eb_room, looked, mb_fullness, on, paced, ran, stalled, transfer, turn, turns}
use Rattle.bounds.specs.Events.{UpTo, busy_limit, earliest_time}
use Rattle.bounds.specs.Runs.{InflowIn}
use Rattle.bounds.specs.Video.{RatesIn, Running, Since, ahead_limit, leak_time, loop_limit, turn_limit}
use Rattle.bounds.proofs.Arrived.{settle_keeps}
use Rattle.bounds.proofs.Loop.{ends, few_half_bytes, leaves}
use Rattle.bounds.proofs.Pace.{paced_running}
use Rattle.bounds.proofs.Running.{Reach, aim_in, backlogged_running, clock_in, few_53, looked_running, now_again, now_before, running_mono, since_some, stretch_in, turn_in}
use Rattle.bounds.proofs.Settled.{arrived_settled, units_later}
use Rattle.bounds.proofs.TurnCases.{turn_backlogged, turn_none, turn_paced, turn_stalled}
use Rattle.bounds.proofs.TurnParts.{ByRate, Moves, TurnIn, full_in, room_one}

not_last : {x y : Turned} → x ≡ y → x.more ≡ true → y.more ≡ false → ⊥
not_last e p k = true≢false (sym p ∙ (ap (λ (z : Turned). z.more) e ∙ k))

not_on : {x y : Turned} → x ≡ y → x.more ≡ false → y.more ≡ true → ⊥
not_on e p k = true≢false (sym k ∙ (ap (λ (z : Turned). z.more) (sym e) ∙ p))

pub finite_not_inf : (x : Float) → T (finite x) → eq x -∞ ≡ false
unfolding eq
finite_not_inf nan p = absurd p
finite_not_inf (inf s) p = absurd p
finite_not_inf (fin s m e) p = refl

module _ {n A L : ℕ} (w : Reach n A L) (r : VideoRates) (t : Float) (g : RatesIn r) (c : UpTo A t) (f : T (fits binary64 t)) where
  t_in : UpTo L t
  t_in = widen_at earliest_time L c (lit≤ tt) (le_trans (le-add_right A leak_time) w.leak)

  -- ---- EBn is full, and behind the loop
  module _ {e : ℕ} (s : Leak) (he : e ≤ turn_limit) (q : Running n L e s) where
    settled_inflow : InflowIn n (rest_at s.mb_in.runs t) (settled_at s.mb_in.runs s.mb_in.settled t)
    settled_inflow = settle_keeps n t s.mb_in.runs s.mb_in.settled (le_of_lt (few_53 w)) q.parts.inflow

    pub full_at : In (minus (2 ^ 46)) (mb_fullness s t) (plain (2 ^ 24))
    full_at = full_in s t (turn_in w q he) (aim_in w c)

    later_ahead : (t' : Float) → UpTo L t' → T (le t t') → T (le s.proc_time t')
        → pos_units binary64 s.flow.transferred ≤ pos_units binary64 (arrived_by (settle s.mb_in t) t') + ahead_limit e
    later_ahead t' i k l =
        subst (λ (y : Float). pos_units binary64 s.flow.transferred ≤ pos_units binary64 y + ahead_limit e)
        (sym (arrived_settled t t' (aim_in w c) (clock_in w i) k n s.mb_in q.parts.inflow))
        (le_trans q.ahead (add-le-add (units_later n (few_53 w) s.mb_in q.parts.inflow s.proc_time t' (clock_in w q.time) (clock_in w i) l) (le_refl (ahead_limit e))))

    since_held : (over : Bool) → Since (cond (eq s.busy_since -∞) (cond over s.proc_time -∞) s.busy_since)
    unfolding eq
    since_held over = go (eq s.busy_since -∞) over
      where
        go : (a b : Bool) → Since (cond a (cond b s.proc_time -∞) s.busy_since)
        go true true = inr (widen_at earliest_time (2 ^ 18) q.time (lit≤ tt) (le_trans w.most (lit≤ tt)))
        go true false = inl refl
        go false b = q.parts.since

    stalled_running : T (le s.proc_time t) → Running n L e (stalled s t)
    unfolding stalled settle
    stalled_running b =
        record {
          parts = record {
            inflow = settled_inflow;
            flow = q.parts.flow;
            since = since_held (lt 1f (mb_fullness s t));
            longest = q.parts.longest;
            peak = max_keeps q.parts.peak full_at;
          };
          time = t_in;
          time_fits = f;
          ahead = later_ahead t t_in (fl-refl t (in_finite c)) b;
        }

    longest_closed : In zero_float (cond (eq s.busy_since -∞) s.longest_busy (max_of s.longest_busy (t ⊖ s.busy_since))) (plain busy_limit)
    longest_closed = go (eq s.busy_since -∞) refl
      where
        go : (b : Bool) → eq s.busy_since -∞ ≡ b → In zero_float (cond b s.longest_busy (max_of s.longest_busy (t ⊖ s.busy_since))) (plain busy_limit)
        go true z = q.parts.longest
        go false z = max_keeps q.parts.longest (stretch_in w t s.busy_since c (since_some q.parts.since z))

    pub closed_running : Running n L e (closed s t)
    unfolding closed settle
    closed_running =
        let m : UpTo L (max_of s.proc_time t) = max_in s.proc_time q.time.high t_in in
        record {
          parts = record {
            inflow = settled_inflow;
            flow = q.parts.flow;
            since = q.parts.since;
            longest = longest_closed;
            peak = max_keeps q.parts.peak full_at;
          };
          time = m;
          time_fits = max_fits binary64 s.proc_time t q.time_fits f;
          ahead = later_ahead (max_of s.proc_time t) m (max_r q.time c) (max_l q.time c);
        }

  -- ---- a turn
  module _ {e : ℕ} (s : Leak) (he : e + 1 ≤ turn_limit) (q : Running n L e s) where
    he' : e ≤ turn_limit
    he' = le_trans (le-add_right e 1) he

    module _ (h : lt s.proc_time (t ⊖ 1e-6f) ≡ true) where
      look : Running n L e (looked s)
      look = looked_running w t s he' q c f h

      full_looked : mb_fullness (looked s) (looked s).proc_time ≡ mb_fullness s s.proc_time
      unfolding looked mb_fullness
      full_looked = ap (λ (y : Float). y ⊖ s.flow.transferred) (now_again w t s he' q c f h)

      looked_before : T (le (looked s).proc_time t)
      unfolding looked
      looked_before = now_before w t s he' q c f h

      room_looked : eb_room r s.flow ≡ eb_room r (looked s).flow
      unfolding looked
      room_looked = refl

      module _ (k : le (eb_room r s.flow) 1f ≡ false) where
        room_in : In (plain 1) (eb_room r s.flow) (plain (2 ^ 34))
        room_in = room_one r t s (turn_in w q he') g (aim_in w c) f h k

        -- a turn that keeps pace, whichever way it goes
        paced_all : (P : Turned → Type 0) → ((y : Leak) → Running n L e y → P (on y)) → ((y : Leak) → Running n L (e + 1) y → P (break y))
            → P (paced (looked s) t (mb_fullness s s.proc_time) (eb_room r s.flow))
        paced_all P p b =
            subst (λ (y : Float). P (paced (looked s) t y (eb_room r s.flow))) full_looked
            (paced_running w r t (looked s) he look g c f looked_before (eb_room r s.flow) room_in room_looked P p b)

    on_by : (e' : ℕ) → e ≤ e' → (turn r t s).more ≡ true → Over s.flow.transferred take_advance (turn r t s).leak.flow.transferred ⊎ (e + 1 ≤ e')
        → (a b d : Bool) → lt s.proc_time (t ⊖ 1e-6f) ≡ a → le (eb_room r s.flow) 1f ≡ b → le (mb_fullness s s.proc_time) 1f ≡ d → Running n L e' (turn r t s).leak
    unfolding backlogged looked
    on_by e' l m o false b d h k j = absurd (not_last (turn_none r t s h) m refl)
    on_by e' l m o true true d h k j = absurd (not_last (turn_stalled r t s h k) m refl)
    on_by e' l m o true false true h k j =
        let z = turn_paced r t s h k j in
        subst (λ (u : Turned). Running n L e' u.leak) (sym z)
        (paced_all h k (λ (u : Turned). u.more ≡ true → Running n L e' u.leak) (λ y p v. running_mono e e' l p) (λ y p v. absurd (true≢false (sym v)))
        (sym (ap (λ (u : Turned). u.more) z) ∙ m))
    on_by e' l m o true false false h k j =
        let z = turn_backlogged r t s h k j in
        subst (λ (u : Turned). Running n L e' u.leak) (sym z)
        (backlogged_running w r t s he' q g c f h k j e' l (how (subst (λ (u : Turned). Over s.flow.transferred take_advance u.leak.flow.transferred ⊎ (e + 1 ≤ e')) z o)))
      where
        how : Over s.flow.transferred take_advance (backlogged r (looked s) t (mb_fullness s s.proc_time) (eb_room r s.flow)).flow.transferred ⊎ (e + 1 ≤ e')
            → Over s.flow.transferred take_advance (transfer s.flow (backlog_take r (looked s) t (mb_fullness s s.proc_time) (eb_room r s.flow))).transferred ⊎ (e + 1 ≤ e')
        how y = y

    -- one that is not the last
    pub turn_on : (e' : ℕ) → e ≤ e' → (turn r t s).more ≡ true → Over s.flow.transferred take_advance (turn r t s).leak.flow.transferred ⊎ (e + 1 ≤ e')
        → Running n L e' (turn r t s).leak
    turn_on e' l m o = on_by e' l m o (lt s.proc_time (t ⊖ 1e-6f)) (le (eb_room r s.flow) 1f) (le (mb_fullness s s.proc_time) 1f) refl refl refl

    last_by : (turn r t s).more ≡ false → (a b d : Bool) → lt s.proc_time (t ⊖ 1e-6f) ≡ a → le (eb_room r s.flow) 1f ≡ b → le (mb_fullness s s.proc_time) 1f ≡ d
        → Running n L (e + 1) (turn r t s).leak
    last_by m false b d h k j = subst (λ (u : Turned). Running n L (e + 1) u.leak) (sym (turn_none r t s h)) (running_mono e (e + 1) (le-add_right e 1) q)
    last_by m true true d h k j =
        subst (λ (u : Turned). Running n L (e + 1) u.leak) (sym (turn_stalled r t s h k))
        (running_mono e (e + 1) (le-add_right e 1) (stalled_running (looked s) he' (look h) (looked_before h)))
    last_by m true false true h k j =
        let z = turn_paced r t s h k j in
        subst (λ (u : Turned). Running n L (e + 1) u.leak) (sym z)
        (paced_all h k (λ (u : Turned). u.more ≡ false → Running n L (e + 1) u.leak) (λ y p v. absurd (true≢false v)) (λ y p v. p)
        (sym (ap (λ (u : Turned). u.more) z) ∙ m))
    last_by m true false false h k j = absurd (not_on (turn_backlogged r t s h k j) m refl)

    pub turn_last : (turn r t s).more ≡ false → Running n L (e + 1) (turn r t s).leak
    turn_last m = last_by m (lt s.proc_time (t ⊖ 1e-6f)) (le (eb_room r s.flow) 1f) (le (mb_fullness s s.proc_time) 1f) refl refl refl

  -- ---- the loop
  module _ {e : ℕ} (he : e + 1 ≤ turn_limit) where
    keeps : (s : Leak) → Running n L e s → (turn r t s).more ≡ true → Moves s.flow.transferred (turn r t s).leak.flow.transferred → Running n L e (turn r t s).leak
    keeps s q m v = turn_on s he q e (le_refl e) m (inl v.over)

    turns_in : (s : Leak) → Running n L e s → TurnIn s
    turns_in s q = turn_in w q (le_trans (le-add_right e 1) he)

    -- the loop ends by its own test
    pub leak_ends : (k : ℕ) → loop_limit ≤ k → (s : Leak) → Running n L e s → (turns k r t (on s)).more ≡ false
    leak_ends k h s q = ends r t g (aim_in w c) f (Running n L e) turns_in keeps k s q (le_trans (few_half_bytes s.flow.transferred) h)

    pub ran_running : (s : Leak) → Running n L e s → Running n L (e + 1) (ran r t s)
    unfolding ran
    ran_running s q =
        leaves r t g (aim_in w c) f (Running n L e) turns_in keeps (Running n L (e + 1)) (λ (y : Leak) (p : Running n L e y). running_mono e (e + 1) (le-add_right e 1) p)
        (λ (y : Leak) (p : Running n L e y) (m : (turn r t y).more ≡ false). turn_last y he p m)
        (λ (y : Leak) (p : Running n L e y) (m : (turn r t y).more ≡ true) (b : ByRate y (turn r t y).leak r.rbx t). turn_on y he p (e + 1) (le-add_right e 1) m (inr (le_refl (e + 1)))) budget s q
