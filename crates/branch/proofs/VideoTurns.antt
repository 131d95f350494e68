-- The turns of the leak by their tests, over lists and floats, and from what the parts of a turn give.
use Prim.Native.Nat.{ℕ, zero, suc, ◌-◌, ◌≤◌, ◌<◌}
use mathlib.Core.Path.{◌≡◌, refl, sym, ap, ◌∙◌}
use mathlib.Core.Bool.{Bool, true, false, cond}
use mathlib.Core.List.{List, []}
use native.Mathlib.Omega.{arith}
use lib.Ieee.{Float, lt, le, eq}
use Rattle.ieee.specs.Binary64.{◌⊕◌, ◌⊖◌, ◌⊗◌, ◌⊘◌, 0f, 1f, 1e-6f, -∞}
use Rattle.ieee.specs.MaxMin.{max_of, min_of}
use Rattle.std.specs.Prelude.{not, Option, Some, None}
use Rattle.std.specs.Option.{is_some}
use Rattle.std.proofs.lemmas.Option.{none-some}
use Rattle.branch.proofs.Rings.{some_is}
use Rattle.branch.specs.declared.inflow.Arrived.{Arrived}
use Rattle.branch.specs.InflowInWork.{inflow_of, ArrivedTo}
use Rattle.branch.specs.declared.leak.VideoLayout.{VideoLayout}
use Rattle.branch.specs.declared.leak.Flow.{Flow}
use Rattle.branch.specs.declared.leak.Leak.{Leak as LeakState}
use Rattle.branch.specs.declared.leak.Turned.{Turned as TurnState}
use Rattle.branch.specs.CumulativeIn.{Inflow, settle, arrived_by, time_of_cumulative}
use Rattle.branch.specs.VideoBranch.{VideoRates, Transfer, transfer, Leak, mb_fullness, eb_room, since_seen, longest_seen, looked, stalled, gone, Turned, on, break, arriving, pace_take, filled, paced, backlog_take, backlogged, step, turn, turns, ran, started, closed, leak_until, leak_events}
use Rattle.events.specs.declared.Event.{Event}
use Rattle.events.specs.declared.Event.TheVariants.{Overflow}
use Rattle.events.specs.Event.{when}
use Rattle.events.specs.declared.Slots.{Slots}
use Rattle.events.specs.Slots.{noted_all}
use Rattle.branch.specs.VideoInWork.{rates_of, flow_of, leak_of, Transferred, LeakLies, LeakIs, SettledAt, TurnIs, TurnsEnd, settled_leak, ReachedBy, closed_state, ClosedBy, LeaksTo}
use Rattle.branch.proofs.Settling.{settle_again, arrived_again}

-- ---- a look at t that was the last one

pub settled_at_lem : (i j : Inflow) (t total : Float) → j ≡ settle i t → total ≡ arrived_by i t → SettledAt j t total
settled_at_lem i j t total e f = rw e (record { inflow = settle_again i.runs i.settled t; arrived = f ∙ sym (arrived_again i t) })

-- ---- the parts of a turn

module _ (S : Leak) (t : Float) where
  pub full_by : (total : Float) → total ≡ arrived_by S.mb_in t → total ⊖ S.flow.transferred ≡ mb_fullness S t
  unfolding mb_fullness
  full_by total e = rw e

  pub stalled_by : (i : Inflow) (full since peak : Float) → i ≡ settle S.mb_in t → full ≡ mb_fullness S t
      → since ≡ cond (eq S.busy_since -∞) (cond (lt 1f full) S.proc_time -∞) S.busy_since → peak ≡ max_of S.mb_peak full
      → record { mb_in = i; flow = S.flow; busy_since = since; longest_busy = S.longest_busy; mb_peak = peak; proc_time = t } ≡ stalled S t
  unfolding stalled
  stalled_by i full since peak e f g h = rw (e, g, h, f)

  pub gone_by : (b c time time' : Float) (i : Inflow) (f : Transfer) → i ≡ settle S.mb_in t → f ≡ transfer S.flow c → c ≡ b → time ≡ time'
      → record { mb_in = i; flow = f; busy_since = S.busy_since; longest_busy = S.longest_busy; mb_peak = S.mb_peak; proc_time = time } ≡ gone S t b time'
  unfolding gone
  gone_by b c time time' i f e g h k = rw (e, g, h, k)

  pub arriving_by : (a total : Float) → total ≡ arrived_by S.mb_in t → (total ⊖ S.flow.transferred) ⊖ a ≡ arriving S t a
  unfolding arriving mb_fullness
  arriving_by a total e = rw e

  pub take_by : (a room arr m take : Float) → arr ≡ arriving S t a → m ≡ max_of room 0f → take ≡ min_of arr m → take ≡ pace_take S t a room
  unfolding pace_take
  take_by a room arr m take e f g = g ∙ rw (e, f)

  pub found_by : (b c : Float) (i : Inflow) (f : Transfer) (r : Option Float) → i ≡ settle S.mb_in t → f ≡ transfer S.flow c → c ≡ b → r ≡ time_of_cumulative i f.transferred
      → time_of_cumulative (settle S.mb_in t) (transfer S.flow b).transferred ≡ r
  found_by b c i f r e g h k = sym (k ∙ rw (e, g, h))

  module _ (a room take arr : Float) (p : take ≡ pace_take S t a room) (q : arr ≡ arriving S t a) where
    pub paced_on : (tt : Float) → lt (take ⊕ 1f) arr ≡ true → time_of_cumulative (settle S.mb_in t) (transfer S.flow (max_of take 0f)).transferred ≡ Some tt
        → paced S t a room ≡ on (gone S t (max_of take 0f) (max_of tt S.proc_time))
    unfolding paced filled
    paced_on tt h e = rw (← p, ← q) (simp (h, e))

    pub paced_off : lt (take ⊕ 1f) arr ≡ true → time_of_cumulative (settle S.mb_in t) (transfer S.flow (max_of take 0f)).transferred ≡ None
        → paced S t a room ≡ break (gone S t (max_of take 0f) t)
    unfolding paced filled
    paced_off h e = rw (← p, ← q) (simp (h, e))

    pub paced_all : lt (take ⊕ 1f) arr ≡ false → paced S t a room ≡ break (gone S t (max_of take 0f) t)
    unfolding paced
    paced_all h = rw (← p, ← q) (simp h)

pub look_by : (S : Leak) (i : Inflow) (full since longest peak : Float) → i ≡ settle S.mb_in S.proc_time → full ≡ mb_fullness S S.proc_time
    → since ≡ since_seen S.busy_since (lt 1f full) S.proc_time → longest ≡ longest_seen S.longest_busy S.busy_since (lt 1f full) S.proc_time → peak ≡ max_of S.mb_peak full
    → record { mb_in = i; flow = S.flow; busy_since = since; longest_busy = longest; mb_peak = peak; proc_time = S.proc_time } ≡ looked S
unfolding looked
look_by S i full since longest peak e f g h k = rw (e, g, h, k, f)

pub backlogged_by : (r : VideoRates) (S : Leak) (t a room m take d : Float) (f : Transfer) → m ≡ min_of (r.rbx ⊗ (t ⊖ S.proc_time)) a → take ≡ min_of m room → f ≡ transfer S.flow take → d ≡ max_of (take ⊘ r.rbx) 1e-6f
    → record { mb_in = S.mb_in; flow = f; busy_since = S.busy_since; longest_busy = S.longest_busy; mb_peak = S.mb_peak; proc_time = S.proc_time ⊕ d } ≡ backlogged r S t a room
unfolding backlogged backlog_take
backlogged_by r S t a room m take d f e g h k = rw (h, k, g, e)

-- ---- the leak keeps pace, from what its calls ensure

module _ (w : List Float) (m : VideoLayout) (l : LeakState) (t a room mx take b : Float) (got : Arrived) (f : Flow) (v : LeakLies w m l)
    (g : ArrivedTo w m.runs l.mb_in t got) (p0 : mx ≡ max_of room 0f) (p1 : take ≡ min_of ((got.total ⊖ l.flow.transferred) ⊖ a) mx) (p2 : b ≡ max_of take 0f)
    (x : Transferred w m.marks l.flow b f) where
  abbrev S : Leak
  S = leak_of w m l

  abbrev arr : Float
  arr = (got.total ⊖ l.flow.transferred) ⊖ a

  abbrev at : Float → LeakState
  at time = record { mb_in = got.inflow; flow = f; busy_since = l.busy_since; longest_busy = l.longest_busy; mb_peak = l.mb_peak; proc_time = time }

  arr_is : arr ≡ arriving S t a
  unfolding leak_of flow_of
  arr_is = arriving_by S t a got.total g.total

  take_is : take ≡ pace_take S t a room
  take_is = take_by S t a room arr mx take arr_is p0 p1

  gone_is : (y time : Float) → y ≡ time → LeakIs w m (at y) (gone S t (max_of take 0f) time)
  unfolding leak_of
  gone_is y time e =
      record {
        lies = record { runs = g.after.lies; marks = x.lies };
        state = gone_by S t (max_of take 0f) b y time _ (flow_of w m.marks f) g.after.state x.state p2 e;
      }

  seen : SettledAt (leak_of w m (at t)).mb_in t got.total
  unfolding leak_of
  seen = settled_at_lem _ _ t got.total g.after.state g.total

  seen_at : (x : Float) → Some got.total ≡ Some x → SettledAt (leak_of w m (at t)).mb_in t x
  seen_at x f = rw (← some_is f) seen

  found : (r : Option Float) → r ≡ time_of_cumulative (inflow_of w m.runs got.inflow) f.transferred → time_of_cumulative (settle S.mb_in t) (transfer S.flow (max_of take 0f)).transferred ≡ r
  unfolding leak_of flow_of
  found r k = found_by S t (max_of take 0f) b _ (flow_of w m.marks f) r g.after.state x.state p2 k

  pub paced_fills : (r : Option Float) (tt y : Float) → lt (take ⊕ 1f) arr ≡ true → r ≡ time_of_cumulative (inflow_of w m.runs got.inflow) f.transferred → r ≡ Some tt → y ≡ max_of tt l.proc_time
      → TurnIs w m t (record { total = None; leak = at y }) (paced S t a room)
  unfolding leak_of
  paced_fills r tt y h k e z =
      rw (paced_on S t a room take arr take_is arr_is tt h (found r k ∙ e)) (record { more = refl; leak = gone_is y _ z; seen = λ x f. absurd (none-some x f) })

  pub paced_unfound : (r : Option Float) → lt (take ⊕ 1f) arr ≡ true → r ≡ time_of_cumulative (inflow_of w m.runs got.inflow) f.transferred → r ≡ None
      → TurnIs w m t (record { total = Some got.total; leak = at t }) (paced S t a room)
  paced_unfound r h k e = rw (paced_off S t a room take arr take_is arr_is h (found r k ∙ e)) (record { more = refl; leak = gone_is t t refl; seen = λ x f. seen_at x f })

  pub paced_through : lt (take ⊕ 1f) arr ≡ false → TurnIs w m t (record { total = Some got.total; leak = at t }) (paced S t a room)
  paced_through h = rw (paced_all S t a room take arr take_is arr_is h) (record { more = refl; leak = gone_is t t refl; seen = λ x f. seen_at x f })

-- ---- a turn, from its parts

module _ (r : VideoRates) (t : Float) (S : Leak) (a room : Float) where
  step_stalled : le room 1f ≡ true → step r t S a room ≡ break (stalled S t)
  unfolding step
  step_stalled h = simp h

  step_paced : le room 1f ≡ false → le a 1f ≡ true → step r t S a room ≡ paced S t a room
  unfolding step
  step_paced h k = simp (h, k)

  step_backlogged : le room 1f ≡ false → le a 1f ≡ false → step r t S a room ≡ on (backlogged r S t a room)
  unfolding step
  step_backlogged h k = simp (h, k)

module _ (w : List Float) (m : VideoLayout) (t a v room : Float) (S : Leak) (l : LeakState) (e : LeakIs w m l S) (q : v ≡ a) where
  pub stalled_turn : (x : TurnState) → le room 1f ≡ true → TurnIs w m t x (break (stalled (leak_of w m l) t)) → TurnIs w m t x (step (rates_of m) t S a room)
  stalled_turn x h y = rw (step_stalled (rates_of m) t S a room h) (rw e.state at y)

  pub paced_turn : (x : TurnState) → le room 1f ≡ false → le v 1f ≡ true → TurnIs w m t x (paced (leak_of w m l) t v room) → TurnIs w m t x (step (rates_of m) t S a room)
  paced_turn x h k y = rw (step_paced (rates_of m) t S a room h (rw q at k)) (rw (e.state, q) at y)

  pub backlogged_turn : (x : LeakState) → le room 1f ≡ false → le v 1f ≡ false → LeakIs w m x (backlogged (rates_of m) (leak_of w m l) t v room)
      → TurnIs w m t (record { total = None; leak = x }) (step (rates_of m) t S a room)
  backlogged_turn x h k y = rw (step_backlogged (rates_of m) t S a room h (rw q at k)) (record { more = refl; leak = rw (e.state, q) at y; seen = λ z f. absurd (none-some z f) })

-- ---- the loop: what is left of the budget gives from here what the whole budget gives from the start

abbrev pub turned : List Float → VideoLayout → TurnState → Turned
turned w m s = record { more = not (is_some s.total); leak = leak_of w m s.leak }

pub record Turning (w : List Float) (m : VideoLayout) (t : Float) (S : Leak) (left : ℕ) (s : TurnState) : Type 0 where
  pub lies : LeakLies w m s.leak
  pub rest : (turns left (rates_of m) t (turned w m s)).leak ≡ ran (rates_of m) t S
  pub seen : (total : Float) → s.total ≡ Some total → SettledAt (leak_of w m s.leak).mb_in t total

pub turns_start : (w : List Float) (m : VideoLayout) (t : Float) (l : LeakState) → LeakLies w m l → Turning w m t (leak_of w m l) 33554436 (record { total = None; leak = l })
unfolding ran
turns_start w m t l v = record { lies = v; rest = refl; seen = λ x f. absurd (none-some x f) }

turn_on : (r : VideoRates) (t : Float) (S : Leak) → lt S.proc_time (t ⊖ 1e-6f) ≡ true → turn r t S ≡ step r t (looked S) (mb_fullness S S.proc_time) (eb_room r S.flow)
unfolding turn
turn_on r t S h = simp h

turn_off : (r : VideoRates) (t : Float) (S : Leak) → lt S.proc_time (t ⊖ 1e-6f) ≡ false → turn r t S ≡ break S
unfolding turn
turn_off r t S h = simp h

stopped : (k : ℕ) (r : VideoRates) (t : Float) (S : Leak) → turns k r t (break S) ≡ break S
unfolding turns
stopped zero r t S = refl
stopped (suc k) r t S = refl

opened : (k : ℕ) (r : VideoRates) (t : Float) (S : Leak) → 0 < k → turns k r t (on S) ≡ turns (k - 1) r t (turn r t S)
unfolding turns
opened k r t S h =
    let z : k ≡ suc (k - 1) = omega arith in
    ap (λ (n : ℕ). turns n r t (on S)) z

module _ (w : List Float) (m : VideoLayout) (t : Float) (S : Leak) (left : ℕ) (s : TurnState) (inv : Turning w m t S left s) where
  state : (b : Bool) → is_some s.total ≡ b → ◌≡◌ {A = Turned} (turned w m s) (record { more = not b; leak = leak_of w m s.leak })
  state b e = rw e

  ended : leak_of w m s.leak ≡ ran (rates_of m) t S → TurnsEnd w m t s (ran (rates_of m) t S)
  ended e = record { leak = record { lies = inv.lies; state = e }; seen = inv.seen }

  pub turns_stop : is_some s.total ≡ true → TurnsEnd w m t s (ran (rates_of m) t S)
  turns_stop e =
      let z = ap (λ (x : Turned). (turns left (rates_of m) t x).leak) (state true e) in
      let y = ap (λ (x : Turned). x.leak) (stopped left (rates_of m) t (leak_of w m s.leak)) in
      ended (sym y ∙ (sym z ∙ inv.rest))

  pub turns_end : left ≤ 0 → TurnsEnd w m t s (ran (rates_of m) t S)
  unfolding turns
  turns_end h =
      let z : left ≡ 0 = omega arith in
      ended (sym (ap (λ (k : ℕ). (turns k (rates_of m) t (turned w m s)).leak) z) ∙ inv.rest)

  module _ (h : 0 < left) (e : is_some s.total ≡ false) where
    next : turns left (rates_of m) t (turned w m s) ≡ turns (left - 1) (rates_of m) t (turn (rates_of m) t (leak_of w m s.leak))
    next = ap (turns left (rates_of m) t) (state false e) ∙ opened left (rates_of m) t (leak_of w m s.leak) h

    pub turns_done : lt (leak_of w m s.leak).proc_time (t ⊖ 1e-6f) ≡ false → TurnsEnd w m t s (ran (rates_of m) t S)
    turns_done k =
        let z = ap (λ (x : Turned). turns (left - 1) (rates_of m) t x) (turn_off (rates_of m) t (leak_of w m s.leak) k) ∙ stopped (left - 1) (rates_of m) t (leak_of w m s.leak) in
        ended (sym (ap (λ (x : Turned). x.leak) (next ∙ z)) ∙ inv.rest)

    pub turns_more : (x : TurnState) → lt (leak_of w m s.leak).proc_time (t ⊖ 1e-6f) ≡ true
        → TurnIs w m t x (step (rates_of m) t (looked (leak_of w m s.leak)) (mb_fullness (leak_of w m s.leak) (leak_of w m s.leak).proc_time) (eb_room (rates_of m) (leak_of w m s.leak).flow))
        → Turning w m t S (left - 1) x
    turns_more x k y =
        let z : turned w m x ≡ turn (rates_of m) t (leak_of w m s.leak) = rw (y.more, y.leak.state) (sym (turn_on (rates_of m) t (leak_of w m s.leak) k)) in
        record {
          lies = y.leak.lies;
          rest = ap (λ (u : Turned). (turns (left - 1) (rates_of m) t u).leak) z ∙ (sym (ap (λ (u : Turned). u.leak) next) ∙ inv.rest);
          seen = y.seen;
        }

-- ---- the leak: the turns, and the closing

pub reached_by : (w : List Float) (m : VideoLayout) (t : Float) (l : LeakState) (got : Arrived) → LeakLies w m l → ArrivedTo w m.runs l.mb_in t got
    → ReachedBy w m t l (record { mb_in = got.inflow; flow = l.flow; busy_since = l.busy_since; longest_busy = l.longest_busy; mb_peak = l.mb_peak; proc_time = l.proc_time }) got.total
unfolding leak_of settled_leak
reached_by w m t l got v g = record { leak = record { lies = record { runs = g.after.lies; marks = v.marks }; state = rw g.after.state }; arrived = g.total }

pub reached_again : (w : List Float) (m : VideoLayout) (t : Float) (l : LeakState) (total : Float) → LeakLies w m l → SettledAt (leak_of w m l).mb_in t total → ReachedBy w m t l l total
unfolding leak_of settled_leak
reached_again w m t l total v e = record { leak = record { lies = v; state = rw e.inflow }; arrived = e.arrived }

pub closed_state_lem : (l : LeakState) (total t a b c : Float) → a ≡ cond (eq l.busy_since -∞) l.longest_busy (max_of l.longest_busy (t ⊖ l.busy_since)) → b ≡ max_of l.mb_peak (total ⊖ l.flow.transferred) → c ≡ max_of l.proc_time t
    → record { mb_in = l.mb_in; flow = l.flow; busy_since = l.busy_since; longest_busy = a; mb_peak = b; proc_time = c } ≡ closed_state l total t
unfolding closed_state
closed_state_lem l total t a b c e f g = rw (e, f, g)

closed_by_lem : (X R : Leak) (t full : Float) → X ≡ settled_leak R t → full ≡ mb_fullness R t
    → record {
      mb_in = X.mb_in;
      flow = X.flow;
      busy_since = X.busy_since;
      longest_busy = cond (eq X.busy_since -∞) X.longest_busy (max_of X.longest_busy (t ⊖ X.busy_since));
      mb_peak = max_of X.mb_peak full;
      proc_time = max_of X.proc_time t;
    } ≡ closed R t
unfolding closed settled_leak
closed_by_lem X R t full e f = rw (e, f)

leak_started : (r : VideoRates) (t : Float) (S : Leak) → eq S.proc_time -∞ ≡ true → (leak_until r t S ≡ started S t) × (leak_events r t S ≡ [])
unfolding leak_until leak_events
leak_started r t S h = (simp h, simp h)

leak_run : (r : VideoRates) (t : Float) (S : Leak) → eq S.proc_time -∞ ≡ false
    → (leak_until r t S ≡ closed (ran r t S) t) × (leak_events r t S ≡ when (lt (r.mb_size ⊕ 1f) (mb_fullness (ran r t S) t)) (Overflow (mb_fullness (ran r t S) t)))
unfolding leak_until leak_events
leak_run r t S h = (simp h, simp h)

pub leak_first : (w : List Float) (m : VideoLayout) (t : Float) (k : ℕ) (s : Slots) (l : LeakState) → LeakLies w m l → eq l.proc_time -∞ ≡ true
    → LeaksTo w m t k s s (leak_of w m l) (record { mb_in = l.mb_in; flow = l.flow; busy_since = l.busy_since; longest_busy = l.longest_busy; mb_peak = l.mb_peak; proc_time = t })
unfolding started leak_of noted_all
leak_first w m t k s l v h =
    let e = leak_started (rates_of m) t (leak_of w m l) h in
    record { leak = record { lies = record { runs = v.runs; marks = v.marks }; state = sym e.0 }; events = sym (ap (λ (x : List Event). noted_all k x s) e.1) }

module _ (w : List Float) (m : VideoLayout) (t : Float) (k : ℕ) (before after : Slots) (l : LeakState) (s : TurnState) (e r : LeakState) (amount : Float) (h : eq l.proc_time -∞ ≡ false)
    (a : TurnsEnd w m t s (ran (rates_of m) t (leak_of w m l))) (b : ReachedBy w m t s.leak e amount) (c : ClosedBy m e amount t k before after r) where
  abbrev R : Leak
  R = ran (rates_of m) t (leak_of w m l)

  reached : leak_of w m e ≡ settled_leak R t
  reached = b.leak.state ∙ rw a.leak.state

  total : amount ≡ arrived_by R.mb_in t
  total = b.arrived ∙ rw a.leak.state

  transferred : (leak_of w m e).flow.transferred ≡ R.flow.transferred
  unfolding settled_leak
  transferred = ap (λ (x : Leak). x.flow.transferred) reached

  full : amount ⊖ (leak_of w m e).flow.transferred ≡ mb_fullness R t
  unfolding mb_fullness
  full = rw (total, transferred)

  closed_is : leak_of w m (closed_state e amount t) ≡ closed R t
  unfolding leak_of flow_of closed_state
  closed_is = closed_by_lem (leak_of w m e) R t _ reached full

  closed_lies : LeakLies w m (closed_state e amount t)
  unfolding closed_state
  closed_lies = record { runs = b.leak.lies.runs; marks = b.leak.lies.marks }

  events : when (lt (m.mb_size ⊕ 1f) (amount ⊖ (leak_of w m e).flow.transferred)) (Overflow (amount ⊖ (leak_of w m e).flow.transferred))
      ≡ when (lt (m.mb_size ⊕ 1f) (mb_fullness R t)) (Overflow (mb_fullness R t))
  events = ap (λ (x : Float). when (lt (m.mb_size ⊕ 1f) x) (Overflow x)) full

  pub leak_rest : LeaksTo w m t k before after (leak_of w m l) r
  unfolding leak_of flow_of
  leak_rest =
      let q = leak_run (rates_of m) t (leak_of w m l) h in
      record {
        leak = record { lies = rw c.leak closed_lies; state = ap (leak_of w m) c.leak ∙ (closed_is ∙ sym q.0) };
        events = c.events ∙ ap (λ (x : List Event). noted_all k x before) (events ∙ sym q.1);
      }
