-- The main branch within bounds: a new one, one into which a run or a unit has come, one that has been drained, and its end. Assumes nothing.
use mathlib.Core.Bool.{Bool, false, true}
use mathlib.Core.List.{List, [], ◌++◌, ◌∷◌}
use mathlib.Core.Path.{◌≡◌, refl, subst, sym}
use Prim.Native.Nat.{◌+◌, ◌<◌, ◌^◌, ◌≤◌, suc, zero-le, ℕ}
use native.Mathlib.Nat.{add-zero, le_of_lt, le_trans, lt_of_le_of_lt}
use native.Mathlib.Omega.{arith}
use lib.Dec.{lit<, lit≤}
use lib.Ieee.{Float, add, binary64, eq, fits, le, lt, neg, of_bits, sub}
use lib.ListN.{length, length-append}
use Rattle.ieee.specs.Binary64.{+∞, 0f, 1f, ◌⊕◌, ◌⊖◌}
use Rattle.ieee.specs.Interval.{In, minus, plain, zero_float}
use Rattle.ieee.specs.Whole.{Is}
use Rattle.ieee.proofs.Growth.{widen_at}
use Rattle.ieee.proofs.Interval.{add_in, closed_in, in_finite, sub_in, widen, widen_low}
use Rattle.ieee.proofs.MaxMin.{min_in}
use Rattle.ieee.proofs.Order.{le_trans as fl-trans, lt→le, to_t}
use Rattle.ieee.proofs.Sign.{add_ge, sub_nonneg}
use Rattle.ieee.proofs.Whole.{is_in, plain_is}
use Rattle.ieee.proofs.MaxMin.{max_keeps}
use Rattle.branch.specs.CumulativeIn.{Inflow, arrived_by, bytes_from, final_total, push_run, settle}
use Rattle.branch.specs.MainBranch.{Main, at_peak, drain, drain_from, final_fullness, finish, look_at_end, new_main, removal_events, remove_events, remove_unit}
use Rattle.branch.specs.declared.AccessUnit.{AccessUnit}
use Rattle.branch.specs.declared.Run.{Run}
use Rattle.bounds.specs.Events.{EventsIn, delay_limit, missing_limit, no_events}
use Rattle.bounds.specs.Main.{DrainedIn, MainBounded, SizeIn}
use Rattle.bounds.specs.Runs.{InflowIn, RunIs, RunsWithin, TimeIn, a_run, byte_limit, no_runs}
use Rattle.bounds.specs.Units.{UnitIs, Units, a_unit, no_units}
use Rattle.bounds.proofs.Arrived.{inflow_append, settle_keeps, whole_add, within}
use Rattle.bounds.proofs.Events.{age_in, delay_in, events_append, events_when, over_in, units_append, units_within}
use Rattle.bounds.proofs.Settled.{arrival_fits, arrival_in}
use Rattle.bounds.proofs.Windows.{run_some}
use Rattle.events.specs.declared.Event.TheVariants.{Overflow, Underflow}
use Rattle.events.specs.Event.{when}

decode_time_lem : {u : AccessUnit} {k : ℕ} → UnitIs u k → TimeIn u.decode_time
unfolding le lt eq
decode_time_lem q = widen (minus (2 ^ 18)) (plain (2 ^ 18)) q.decode tt

-- ---- a new branch, and what comes
pub new_main_lem : MainBounded 0 0 0 new_main
unfolding new_main of_bits le lt eq fits
new_main_lem =
    record {
      few = zero-le;
      units_few = zero-le;
      inflow = record { count = 0; settled = plain_is 0; fit = tt; runs = no_runs zero-le };
      removed = closed_in (minus 0) 0f (plain byte_limit) tt;
      whole = 0;
      required = plain_is 0;
      pending = no_units zero-le;
      counted = zero-le;
      peak = closed_in zero_float 0f (plain byte_limit) tt;
      delay = closed_in zero_float 0f (plain delay_limit) tt;
    }

pub push_main : {n q p k : ℕ} (b : Main) (r : Run) → MainBounded n q p b → RunIs r k → n + k ≤ byte_limit
    → MainBounded (n + k) q p (record { inflow = push_run b.inflow r; open_au = b.open_au; removed = b.removed; required = b.required; pending = b.pending; peak = b.peak; max_delay = b.max_delay; units = b.units })
unfolding push_run
push_main {n} {q} {p} {k} b r m i few =
    simp (run_some i).1
    (record {
      few = few;
      units_few = m.units_few;
      inflow = inflow_append k m.inflow i;
      removed = m.removed;
      whole = m.whole;
      required = m.required;
      pending = m.pending;
      counted = m.counted;
      peak = m.peak;
      delay = m.delay;
    })

pub pend_main : {n q p k : ℕ} (b : Main) (u : AccessUnit) → MainBounded n q p b → UnitIs u k → q + k ≤ byte_limit
    → MainBounded n (q + k) (p + 1) (record { inflow = b.inflow; open_au = b.open_au; removed = b.removed; required = b.required; pending = b.pending ++ (u ∷ []); peak = b.peak; max_delay = b.max_delay; units = b.units })
pend_main {n} {q} {p} {k} b u m i few =
    record {
      few = m.few;
      units_few = few;
      inflow = m.inflow;
      removed = m.removed;
      whole = m.whole;
      required = m.required;
      pending = units_append k b.pending m.pending i;
      counted = subst (λ (l : ℕ). b.units + l ≤ p + 1) (sym (length-append b.pending (u ∷ []))) (one b.units (length b.pending) p m.counted);
      peak = m.peak;
      delay = m.delay;
    }
  where
    one : (u l p : ℕ) → u + l ≤ p → u + (l + 1) ≤ p + 1
    one u l p h = omega arith

-- ---- the removal of a unit
overflow_in_lem : (size x : Float) → SizeIn size → In (minus byte_limit) x (plain byte_limit) → EventsIn (when (lt (size ⊕ 1f) x) (Overflow x))
unfolding of_bits add le lt eq
overflow_in_lem size x g i =
    events_when (lt (size ⊕ 1f) x) (Overflow x)
    (λ (z : lt (size ⊕ 1f) x ≡ true). over_in (add_in binary64 zero_float (plain (2 ^ 31)) g (closed_in (plain 1) 1f (plain 1) tt) tt) i z)

module _ {n q p : ℕ} (size : Float) (g : SizeIn size) (b : Main) (m : MainBounded n q p b) (u : AccessUnit) (us : List AccessUnit) (k : ℕ) (i : UnitIs u k) (l : Units q us (m.whole + k))
    (many : b.units + suc (length us) ≤ p) where
  few_53 : n < 2 ^ 53
  few_53 = lt_of_le_of_lt m.few (lit< tt)

  abbrev arrived : Float
  arrived = arrived_by b.inflow u.decode_time

  abbrev required : Float
  required = b.required ⊕ u.bytes

  arrived_then : In (minus 0) arrived (plain byte_limit)
  arrived_then = widen_at 0 byte_limit (arrival_in n few_53 b.inflow m.inflow u.decode_time (decode_time_lem i)) (lit≤ tt) m.few

  fullness_in : In (minus byte_limit) (arrived ⊖ b.removed) (plain byte_limit)
  unfolding sub add neg le lt eq
  fullness_in = sub_in binary64 (minus byte_limit) (plain byte_limit) arrived_then m.removed tt

  whole_then : Is required (m.whole + k)
  whole_then = whole_add b.required u.bytes m.whole k (le_trans (units_within l) (le_trans m.units_few (lit≤ tt))) m.required i.bytes

  required_in : In zero_float required (plain byte_limit)
  required_in = is_in required (m.whole + k) 0 byte_limit whole_then zero-le (le_trans (units_within l) m.units_few)

  missing_in : lt (arrived ⊕ 1f) required ≡ true → In zero_float (required ⊖ arrived) (plain missing_limit)
  unfolding of_bits add sub neg le lt eq
  missing_in z =
      let d = sub_in binary64 (minus byte_limit) (plain missing_limit) required_in arrived_then tt in
      let o = closed_in zero_float 1f (plain 1) tt in
      let a = add_in binary64 (minus byte_limit) (plain (2 ^ 25)) arrived_then o tt in
      let h = add_ge binary64 arrived 1f (in_finite arrived_then) tt (arrival_fits n few_53 b.inflow m.inflow u.decode_time) o.low in
      let c = fl-trans arrived (arrived ⊕ 1f) required (in_finite arrived_then) (in_finite a) (in_finite required_in) h (lt→le (arrived ⊕ 1f) required (in_finite a) (in_finite required_in) (to_t z)) in
      record { low_finite = tt; high_finite = tt; low = sub_nonneg binary64 required arrived (in_finite required_in) (in_finite arrived_then) c; high = d.high }

  removed_keeps : MainBounded n q p (remove_unit b u us)
  unfolding remove_unit settle le lt eq
  removed_keeps =
      record {
        few = m.few;
        units_few = m.units_few;
        inflow = settle_keeps n u.decode_time b.inflow.runs b.inflow.settled (le_of_lt few_53) m.inflow;
        removed = min_in required (widen_low (minus 0) required_in tt).low arrived_then;
        whole = m.whole + k;
        required = whole_then;
        pending = l;
        counted = less b.units (length us) p many;
        peak = max_keeps m.peak fullness_in;
        delay = max_keeps m.delay (age_in i);
      }
    where
      less : (u l p : ℕ) → u + suc l ≤ p → u + 1 + l ≤ p
      less u l p h = omega arith

  removed_events : EventsIn (remove_events size b u)
  unfolding remove_events removal_events
  removed_events =
      events_append (overflow_in_lem size (arrived ⊖ b.removed) g fullness_in)
      (events_append (events_when (lt (arrived ⊕ 1f) required) (Underflow u.decode_time (required ⊖ arrived)) (λ (z : lt (arrived ⊕ 1f) required ≡ true). (i.decode, missing_in z)))
      (delay_in i))

-- ---- the removals up to a frontier, which may be infinite
drain_by : (n q p : ℕ) (size t : Float) (u : AccessUnit) (us : List AccessUnit) (b : Main) (z : Bool) → lt t u.decode_time ≡ z → MainBounded n q p b → EventsIn (remove_events size b u)
    → DrainedIn n q p (drain_from size t us (remove_unit b u us)) → DrainedIn n q p (drain_from size t (u ∷ us) b)
unfolding drain_from
drain_by n q p size t u us b true z m e d = simp z (record { branch = m; events = no_events })
drain_by n q p size t u us b false z m e d = simp z (record { branch = d.branch; events = events_append e d.events })

unit_drains : {n q p : ℕ} (size t : Float) → SizeIn size → (u : AccessUnit) (us : List AccessUnit) (b : Main) (m : MainBounded n q p b)
    → ((x : Main) → x.pending ≡ us → MainBounded n q p x → DrainedIn n q p (drain_from size t us x))
    → Units q (u ∷ us) m.whole → b.units + length (u ∷ us) ≤ p → DrainedIn n q p (drain_from size t (u ∷ us) b)
unfolding remove_unit
unit_drains {n} {q} {p} size t g u us b m rest (a_unit k i l) many =
    drain_by n q p size t u us b (lt t u.decode_time) refl m (removed_events size g b m u us k i l many) (rest (remove_unit b u us) refl (removed_keeps size g b m u us k i l many))

from_drains : {n q p : ℕ} (size t : Float) → SizeIn size → (us : List AccessUnit) (b : Main) → b.pending ≡ us → MainBounded n q p b → DrainedIn n q p (drain_from size t us b)
unfolding drain_from
from_drains size t g [] b e m = record { branch = m; events = no_events }
from_drains {n} {q} {p} size t g (u ∷ us) b e m =
    unit_drains size t g u us b m (λ (x : Main). from_drains size t g us x) (subst (λ (y : List AccessUnit). Units q y m.whole) e m.pending)
    (subst (λ (y : List AccessUnit). b.units + length y ≤ p) e m.counted)

pub drain_main : {n q p : ℕ} (size t : Float) (b : Main) → SizeIn size → MainBounded n q p b → DrainedIn n q p (drain size t b)
unfolding drain
drain_main size t b g m = from_drains size t g b.pending b refl m

-- ---- the end
-- the bytes of the runs, of which j are in x; m0 were before
record Total (N m0 : ℕ) (x : Float) : Type 0 where
  count : ℕ
  is : Is x count
  within_all : m0 + count ≤ N

bytes_from_lem : (N m0 j : ℕ) (rs : List Run) (x : Float) → N ≤ 2 ^ 53 → RunsWithin N rs (m0 + j) → Is x j → Total N m0 (bytes_from rs x)
unfolding bytes_from
bytes_from_lem N m0 j [] x h (no_runs g) i = record { count = j; is = i; within_all = g }
bytes_from_lem N m0 j (r ∷ rs) x h (a_run k q l) i =
    bytes_from_lem N m0 (j + k) rs (x ⊕ r.bytes) h (subst (λ (y : ℕ). RunsWithin N rs y) (turn m0 j k) l) (whole_add x r.bytes j k (less m0 j k N (within l) h) i q.bytes)
  where
    turn : (a b c : ℕ) → a + b + c ≡ a + (b + c)
    turn a b c = omega arith

    less : (a b c N : ℕ) → a + b + c ≤ N → N ≤ 2 ^ 53 → b + c ≤ 2 ^ 53
    less a b c N h g = omega arith

final_in : (n : ℕ) (i : Inflow) → n ≤ byte_limit → InflowIn n i.runs i.settled → In zero_float (final_total i) (plain byte_limit)
unfolding final_total of_bits
final_in n i h q =
    let s = bytes_from_lem n q.count 0 i.runs 0f (le_trans h (lit≤ tt)) (subst (λ (y : ℕ). RunsWithin n i.runs y) (sym (add-zero q.count)) q.runs) (plain_is 0) in
    let x = whole_add i.settled (bytes_from i.runs 0f) q.count s.count (le_trans s.within_all (le_trans h (lit≤ tt))) q.settled s.is in
    is_in (i.settled ⊕ (bytes_from i.runs 0f)) (q.count + s.count) 0 byte_limit x zero-le (le_trans s.within_all h)

pub finish_main : {n q p : ℕ} (size : Float) (b : Main) → SizeIn size → MainBounded n q p b → DrainedIn n q p (finish size b)
unfolding finish look_at_end at_peak final_fullness sub add neg le lt eq
finish_main {n} size b g m =
    let d = drain_main size +∞ b g m in
    let x = (drain size +∞ b).branch in
    let i = sub_in binary64 (minus byte_limit) (plain byte_limit) (final_in n x.inflow d.branch.few d.branch.inflow) d.branch.removed tt in
    record {
      branch = record {
        few = d.branch.few;
        units_few = d.branch.units_few;
        inflow = d.branch.inflow;
        removed = d.branch.removed;
        whole = d.branch.whole;
        required = d.branch.required;
        pending = d.branch.pending;
        counted = d.branch.counted;
        peak = max_keeps d.branch.peak i;
        delay = d.branch.delay;
      };
      events = events_append d.events (overflow_in_lem size ((final_total x.inflow) ⊖ x.removed) g i);
    }
