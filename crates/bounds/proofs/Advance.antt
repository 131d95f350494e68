-- `VideoBranch::advance` keeps the bounds of the branch, and its events are within theirs. Assumes nothing.
use mathlib.Core.Bool.{Bool, false, true}
use mathlib.Core.List.{List, [], ◌∷◌}
use mathlib.Core.Logic.{◌⊎◌, inl, inr}
use mathlib.Core.Path.{◌≡◌, refl, subst}
use Prim.Native.Nat.{◌+◌, ◌^◌, ◌≤◌, suc, zero-le, ℕ}
use native.Mathlib.Nat.{le-add_right, le_trans}
use native.Mathlib.Omega.{arith}
use lib.Dec.{T, lit≤}
use lib.Ieee.{Float, add, binary64, eq, fits, le, lt, neg, of_bits, sub}
use lib.Ieee.Fits.{add-fits}
use lib.ListN.{length}
use Rattle.ieee.specs.Binary64.{0f, 1f, ◌⊕◌, ◌⊖◌, -∞}
use Rattle.ieee.specs.Interval.{In, minus, plain, zero_float}
use Rattle.ieee.specs.MaxMin.{max_of, min_of}
use Rattle.ieee.specs.Units.{pos_units}
use Rattle.ieee.specs.Whole.{Is}
use Rattle.ieee.proofs.Growth.{widen_at}
use Rattle.ieee.proofs.Interval.{add_in, closed_in, in_finite, in_self, sub_in, widen, widen_high}
use Rattle.ieee.proofs.MaxMin.{min_in, min_le_l}
use Rattle.ieee.proofs.Order.{le_trans as fl-trans, lt→le, to_t}
use Rattle.ieee.proofs.Sign.{add_ge, sub_nonneg}
use Rattle.ieee.proofs.Whole.{is_in}
use Rattle.ieee.proofs.MaxMin.{max_keeps}
use Rattle.branch.specs.CumulativeIn.{arrived_by}
use Rattle.branch.specs.VideoBranch.{Leak, Video, VideoRates, advance, advance_from, leak_events, leak_until, mb_fullness, ran, remove_events, remove_unit, started, with_removed}
use Rattle.branch.specs.declared.AccessUnit.{AccessUnit}
use Rattle.bounds.specs.Events.{EventsIn, UpTo, delay_limit, earliest_time, latest_time, missing_limit, no_events}
use Rattle.bounds.specs.Runs.{byte_limit}
use Rattle.bounds.specs.Units.{UnitIs, Units, a_unit}
use Rattle.bounds.specs.Video.{AdvancedIn, RatesIn, Running, TransferIn, Unstarted, VideoIn, ahead_limit, leak_time, turn_limit}
use Rattle.bounds.proofs.Arrived.{whole_add}
use Rattle.bounds.proofs.Events.{age_in, delay_in, events_append, events_when, over_in, units_within}
use Rattle.bounds.proofs.Leak.{closed_running, finite_not_inf, full_at, ran_running}
use Rattle.bounds.proofs.Running.{Reach, running_mono}
use Rattle.bounds.proofs.Take.{min_fits}
use Rattle.bounds.proofs.Transfer.{eb_held, eb_in}
use Rattle.events.specs.declared.Event.TheVariants.{Overflow, Underflow}
use Rattle.events.specs.Event.{when}

zero_float_units : (y : Float) → y ≡ 0f → (x : ℕ) → pos_units binary64 y ≤ x
unfolding of_bits pos_units
zero_float_units y e x = rw e zero-le

-- ---- a call of `leak_until`, the first one or another
module _ {n A L : ℕ} (w : Reach n A L) (r : VideoRates) (t : Float) (g : RatesIn r) (c : UpTo A t) (f : T (fits binary64 t)) where
  started_running : (s : Leak) → Unstarted n s → Running n L 0 (started s t)
  unfolding started
  started_running s q =
      record {
        parts = record { inflow = q.parts.inflow; flow = q.parts.flow; since = q.parts.since; longest = q.parts.longest; peak = q.parts.peak };
        time = widen_at earliest_time L c (lit≤ tt) (le_trans (le-add_right A leak_time) w.leak);
        time_fits = f;
        ahead = zero_float_units s.flow.transferred q.transferred (pos_units binary64 (arrived_by s.mb_in t) + ahead_limit 0);
      }

  unstarted_eq : (s : Leak) → s.proc_time ≡ -∞ → eq s.proc_time -∞ ≡ true
  unfolding eq
  unstarted_eq s e = rw e

  pub until_leak : {e : ℕ} → e + 1 ≤ turn_limit → (s : Leak) → Unstarted n s ⊎ Running n L e s → Running n L (e + 1) (leak_until r t s)
  unfolding leak_until
  until_leak {e} h s (inl q) = simp (unstarted_eq s q.time) (running_mono 0 (e + 1) zero-le (started_running s q))
  until_leak {e} h s (inr q) = simp (finite_not_inf s.proc_time (in_finite q.time)) (closed_running w r t g c f (ran r t s) h (ran_running w r t g c f h s q))

  overflow_in_lem : {e : ℕ} → e ≤ turn_limit → (s : Leak) → Running n L e s → EventsIn (when (lt (r.mb_size ⊕ 1f) (mb_fullness s t)) (Overflow (mb_fullness s t)))
  unfolding of_bits add le lt eq
  overflow_in_lem h s q =
      events_when (lt (r.mb_size ⊕ 1f) (mb_fullness s t)) (Overflow (mb_fullness s t))
      (λ (z : lt (r.mb_size ⊕ 1f) (mb_fullness s t) ≡ true). over_in (add_in binary64 zero_float (plain (2 ^ 31)) g.mb (closed_in (plain 1) 1f (plain 1) tt) tt) (full_at w r t g c f s h q) z)

  pub until_events : {e : ℕ} → e + 1 ≤ turn_limit → (s : Leak) → Unstarted n s ⊎ Running n L e s → EventsIn (leak_events r t s)
  unfolding leak_events
  until_events {e} h s (inl q) = simp (unstarted_eq s q.time) no_events
  until_events {e} h s (inr q) = simp (finite_not_inf s.proc_time (in_finite q.time)) (overflow_in_lem h (ran r t s) (ran_running w r t g c f h s q))

-- ---- the removal of a unit
module _ {n L e : ℕ} (w : n ≤ byte_limit) (he : e ≤ turn_limit) (s : Leak) (q : Running n L e s) (x : Float) (m : ℕ) (i : Is x m) (few : m ≤ byte_limit) (fx : T (fits binary64 x)) where
  x_in : In (plain 0) x (plain (2 ^ 24))
  x_in = is_in x m 0 (2 ^ 24) i zero-le few

  removed_in : TransferIn n e (record { marks = s.flow.marks; transferred = s.flow.transferred; eb_in = s.flow.eb_in; eb_removed = min_of x s.flow.eb_in; eb_peak = s.flow.eb_peak })
  unfolding le lt eq
  removed_in =
      let p = q.parts.flow in
      let z = min_in x (widen (minus (2 ^ 32)) (plain (2 ^ 32)) x_in tt).low (eb_held n e s.flow p he) in
      record {
        marks = p.marks;
        few = p.few;
        transferred = p.transferred;
        transferred_fits = p.transferred_fits;
        eb_finite = p.eb_finite;
        eb_fits = p.eb_fits;
        eb_low = p.eb_low;
        eb_high = p.eb_high;
        removed = z;
        removed_high = fl-trans (min_of x s.flow.eb_in) x (plain (2 ^ 25)) (in_finite z) (in_finite x_in) tt (min_le_l x s.flow.eb_in (in_self x_in)) (widen_high (plain (2 ^ 25)) x_in tt).high;
        removed_fits = min_fits x s.flow.eb_in fx p.eb_fits;
        peak = p.peak;
      }

  -- the bytes that are missing
  missing_in : lt (s.flow.eb_in ⊕ 1f) x ≡ true → In zero_float (x ⊖ s.flow.eb_in) (plain missing_limit)
  unfolding of_bits add sub neg le lt eq
  missing_in z =
      let p = q.parts.flow in
      let b = eb_in n e s.flow p he in
      let d = sub_in binary64 (minus (2 ^ 32)) (plain missing_limit) x_in b tt in
      let o = closed_in zero_float 1f (plain 1) tt in
      let a = add_in binary64 (minus (2 ^ 32)) (plain (2 ^ 32)) b o tt in
      let l = add_ge binary64 s.flow.eb_in 1f p.eb_finite tt p.eb_fits o.low in
      let k = fl-trans s.flow.eb_in (s.flow.eb_in ⊕ 1f) x p.eb_finite (in_finite a) (in_finite x_in) l (lt→le (s.flow.eb_in ⊕ 1f) x (in_finite a) (in_finite x_in) (to_t z)) in
      record { low_finite = tt; high_finite = tt; low = sub_nonneg binary64 x s.flow.eb_in (in_finite x_in) p.eb_finite k; high = d.high }

-- ---- the branch
abbrev pub leaked_to : VideoRates → Float → Video → Video
leaked_to r t v = record { leak = leak_until r t v.leak; queued = v.queued; eb_required = v.eb_required; pending = v.pending; max_delay = v.max_delay; units = v.units }

pub calls_few : {L n q p a : ℕ} (v : Video) → VideoIn L n q p a v → a + p + 1 ≤ turn_limit → a + v.units + 1 ≤ turn_limit
calls_few {L} {n} {q} {p} {a} v b h = less a v.units (length v.pending) p turn_limit b.counted h
  where
    less : (a u l p m : ℕ) → u + l ≤ p → a + p + 1 ≤ m → a + u + 1 ≤ m
    less a u l p m h k = omega arith

frontier_by : (L n q p a : ℕ) (r : VideoRates) (t : Float) (u : AccessUnit) (us : List AccessUnit) (v : Video) (z : Bool) → le u.decode_time t ≡ z
    → AdvancedIn L n q p a (record { branch = leaked_to r t v; events = leak_events r t v.leak })
    → EventsIn (leak_events r u.decode_time v.leak) → EventsIn (remove_events (leaked_to r u.decode_time v) u)
    → AdvancedIn L n q p a (advance_from r t us (remove_unit (leaked_to r u.decode_time v) u us))
    → AdvancedIn L n q p a (advance_from r t (u ∷ us) v)
unfolding advance_from
frontier_by L n q p a r t u us v true z x y1 y2 y = simp z (record { branch = y.branch; events = events_append (events_append y1 y2) y.events })
frontier_by L n q p a r t u us v false z x y1 y2 y = simp z x

module _ {L n q p a A : ℕ} (w : Reach n A L) (latest : latest_time ≤ A) (calls : a + p + 1 ≤ turn_limit) (r : VideoRates) (g : RatesIn r) where
  -- the leak up to the frontier
  at_frontier : (t : Float) → UpTo A t → T (fits binary64 t) → (v : Video) → VideoIn L n q p a v
      → AdvancedIn L n q p (a + 1) (record { branch = leaked_to r t v; events = leak_events r t v.leak })
  at_frontier t c f v b =
      record {
        branch = record {
          few = b.few;
          units_few = b.units_few;
          leak = inr (running_mono (a + v.units + 1) (a + 1 + v.units) (turn a v.units) (until_leak w r t g c f (calls_few v b calls) v.leak b.leak));
          queued = b.queued;
          removed = b.removed;
          required = b.required;
          required_fits = b.required_fits;
          pending = b.pending;
          counted = b.counted;
          delay = b.delay;
        };
        events = until_events w r t g c f (calls_few v b calls) v.leak b.leak;
      }
    where
      turn : (a u : ℕ) → a + u + 1 ≤ a + 1 + u
      turn a u = omega arith

  -- up to a unit's decode time, and its removal
  module _ (u : AccessUnit) (us : List AccessUnit) (v : Video) (b : VideoIn L n q p a v) (k : ℕ) (i : UnitIs u k) (l : Units q us (b.removed + k))
      (many : v.units + suc (length us) ≤ p) where
    pub decode_in : UpTo A u.decode_time
    decode_in = widen_at earliest_time A i.decode (lit≤ tt) latest

    leak_then : Running n L (a + v.units + 1) (leak_until r u.decode_time v.leak)
    leak_then = until_leak w r u.decode_time g decode_in i.decode_fits (calls_few v b calls) v.leak b.leak

    whole : Is (v.eb_required ⊕ u.bytes) (b.removed + k)
    whole = whole_add v.eb_required u.bytes b.removed k (le_trans (units_within l) (le_trans b.units_few (lit≤ tt))) b.required i.bytes

    few_whole : b.removed + k ≤ byte_limit
    few_whole = le_trans (units_within l) b.units_few

    delay_more : In zero_float (max_of v.max_delay (u.decode_time ⊖ u.first_input_time)) (plain delay_limit)
    delay_more = max_keeps b.delay (age_in i)

    pub after_removal : VideoIn L n q p a (remove_unit (leaked_to r u.decode_time v) u us)
    unfolding remove_unit with_removed
    after_removal =
        let s = leak_until r u.decode_time v.leak in
        let z = removed_in b.few (calls_few v b calls) s leak_then (v.eb_required ⊕ u.bytes) (b.removed + k) whole few_whole (add-fits binary64 v.eb_required u.bytes) in
        record {
          few = b.few;
          units_few = b.units_few;
          leak = inr (running_mono (a + v.units + 1) (a + (v.units + 1)) (turn a v.units)
              (record {
                parts = record { inflow = leak_then.parts.inflow; flow = z; since = leak_then.parts.since; longest = leak_then.parts.longest; peak = leak_then.parts.peak };
                time = leak_then.time;
                time_fits = leak_then.time_fits;
                ahead = leak_then.ahead;
              }));
          queued = b.queued;
          removed = b.removed + k;
          required = whole;
          required_fits = add-fits binary64 v.eb_required u.bytes;
          pending = l;
          counted = less v.units (length us) p many;
          delay = delay_more;
        }
      where
        turn : (a u : ℕ) → a + u + 1 ≤ a + (u + 1)
        turn a u = omega arith

        less : (u l p : ℕ) → u + suc l ≤ p → u + 1 + l ≤ p
        less u l p h = omega arith

    removal_events_lem : EventsIn (remove_events (leaked_to r u.decode_time v) u)
    unfolding remove_events
    removal_events_lem =
        let s = leak_until r u.decode_time v.leak in
        events_append
        (events_when (lt (s.flow.eb_in ⊕ 1f) (v.eb_required ⊕ u.bytes)) (Underflow u.decode_time ((v.eb_required ⊕ u.bytes) ⊖ s.flow.eb_in))
        (λ (e : lt (s.flow.eb_in ⊕ 1f) (v.eb_required ⊕ u.bytes) ≡ true).
        (i.decode, missing_in b.few (calls_few v b calls) s leak_then (v.eb_required ⊕ u.bytes) (b.removed + k) whole few_whole (add-fits binary64 v.eb_required u.bytes) e)))
        (delay_in i)

  unit_keeps : (t : Float) → UpTo A t → T (fits binary64 t) → (u : AccessUnit) (us : List AccessUnit) (v : Video) (b : VideoIn L n q p a v)
      → ((x : Video) → x.pending ≡ us → VideoIn L n q p a x → AdvancedIn L n q p (a + 1) (advance_from r t us x))
      → Units q (u ∷ us) b.removed → v.units + length (u ∷ us) ≤ p → AdvancedIn L n q p (a + 1) (advance_from r t (u ∷ us) v)
  unfolding remove_unit
  unit_keeps t c f u us v b rest (a_unit k i l) many =
      frontier_by L n q p (a + 1) r t u us v (le u.decode_time t) refl (at_frontier t c f v b)
      (until_events w r u.decode_time g (decode_in u us v b k i l many) i.decode_fits (calls_few v b calls) v.leak b.leak) (removal_events_lem u us v b k i l many)
      (rest (remove_unit (leaked_to r u.decode_time v) u us) refl (after_removal u us v b k i l many))

  from_keeps : (t : Float) → UpTo A t → T (fits binary64 t) → (us : List AccessUnit) (v : Video) → v.pending ≡ us → VideoIn L n q p a v → AdvancedIn L n q p (a + 1) (advance_from r t us v)
  unfolding advance_from
  from_keeps t c f [] v e b = at_frontier t c f v b
  from_keeps t c f (u ∷ us) v e b =
      unit_keeps t c f u us v b (λ (x : Video). from_keeps t c f us x) (subst (λ (y : List AccessUnit). Units q y b.removed) e b.pending)
      (subst (λ (y : List AccessUnit). v.units + length y ≤ p) e b.counted)

  pub advance_keeps : (t : Float) → UpTo A t → T (fits binary64 t) → (v : Video) → VideoIn L n q p a v → AdvancedIn L n q p (a + 1) (advance r t v)
  unfolding advance
  advance_keeps t c f v b = from_keeps t c f v.pending v refl b
