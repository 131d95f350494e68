-- The turns of the loops of `CumulativeIn`, in terms of the runs in the ring.
use Prim.Native.Nat.{ℕ, ◌+◌, ◌≤◌, ◌<◌}
use mathlib.Core.Path.{◌≡◌, refl, sym, ap, ◌∙◌}
use mathlib.Core.Bool.{Bool, true, false}
use mathlib.Core.List.{List, ◌∷◌}
use native.Mathlib.Omega.{arith}
use lib.Ieee.{Float, lt, le}
use Rattle.ieee.specs.Binary64.{◌⊕◌, ◌⊖◌, ◌⊗◌, ◌⊘◌, 0f, -∞}
use Rattle.branch.specs.declared.Run.{Run}
use Rattle.branch.specs.declared.queue.Place.{Place}
use Rattle.branch.specs.declared.queue.Ring.{Ring}
use Rattle.branch.specs.declared.inflow.CumulativeIn.{CumulativeIn}
use Rattle.std.specs.Prelude.{⊤, Option, Some, None, Result, Ok, is_err}
use Rattle.branch.specs.declared.QueueFull.{QueueFull}
use Rattle.branch.specs.Queue.{Lies, place_of, floats_at, pop_def, PushedTo}
use Rattle.branch.specs.CumulativeIn.{Inflow, settle, arrived_by, fraction, total_of, bytes_from, time_from, front_time, time_of_cumulative, push_run, run_refused}
use Rattle.branch.specs.InflowInWork.{run_of, floats_of_run, runs_of, inflow_of, SettledTo, RunPushedTo}
use Rattle.branch.proofs.Rings.{popped, lies_popped, no_entries_lem, count_entries, floats_local, Walking, walk_next, walk_stop, walk_end, push_room, push_refused, push_adds, push_lies, push_outside, outside_refl}
use Rattle.branch.proofs.Settling.{inflow, settle_spent, settle_left, settle_none}

abbrev pub run_in : List Float → Place → Ring → ℕ → Run
run_in w p q i = run_of (floats_at 3 w (place_of 3 p q i))

abbrev read_run : List Float → ℕ → Run
read_run u o = run_of (floats_at 3 u o)

-- ---- settle

pub record Settling (w : List Float) (p : Place) (t : Float) (o : Ring) (b : Float) (q : Ring) (s : Float) : Type 0 where
  pub lies : Lies 3 w p q
  pub state : settle (inflow (runs_of w p q) s) t ≡ settle (inflow (runs_of w p o) b) t

pub settle_starts : (w : List Float) (p : Place) (t : Float) (q : Ring) (s : Float) → Lies 3 w p q → Settling w p t q s q s
settle_starts w p t q s l = record { lies = l; state = refl }

module _ (w : List Float) (p : Place) (t : Float) (c : CumulativeIn) (q : Ring) (s : Float) (inv : Settling w p t c.runs c.settled q s) where
  first : 0 < q.count → runs_of w p q ≡ run_in w p q 0 ∷ runs_of w p (pop_def p.depth q)
  first h = popped 3 read_run w p q inv.lies h

  pub settle_more : 0 < q.count → le (run_in w p q 0).t1 t ≡ true → Settling w p t c.runs c.settled (pop_def p.depth q) (s ⊕ (run_in w p q 0).bytes)
  settle_more h e =
      record {
        lies = lies_popped w p q inv.lies h;
        state = sym (settle_spent (run_in w p q 0) (runs_of w p (pop_def p.depth q)) s t e) ∙ (ap (λ (l : List Run). settle (inflow l s) t) (sym (first h)) ∙ inv.state);
      }

  pub settle_stops : 0 < q.count → le (run_in w p q 0).t1 t ≡ false → SettledTo w p c t (record { runs = q; settled = s })
  settle_stops h e =
      let d : settle (inflow (runs_of w p q) s) t ≡ inflow (runs_of w p q) s = rw (first h) (settle_left (run_in w p q 0) (runs_of w p (pop_def p.depth q)) s t e) in
      record { lies = inv.lies; state = sym d ∙ inv.state }

  pub settle_ends : q.count ≤ 0 → SettledTo w p c t (record { runs = q; settled = s })
  settle_ends h =
      let z : q.count ≡ 0 = omega arith in
      let d : settle (inflow (runs_of w p q) s) t ≡ inflow (runs_of w p q) s = rw (no_entries_lem 3 read_run w p q z) (settle_none s t) in
      record { lies = inv.lies; state = sym d ∙ inv.state }

-- ---- the sums over the runs by their index

abbrev pub Totals : List Float → Place → Ring → Float → ℕ → Float → Float → Type 0
Totals w p q t i s z = Walking 3 read_run (λ l a. total_of l a t) w p q i s z

module _ (t : Float) {w : List Float} {p : Place} {q : Ring} {i : ℕ} {s z : Float} (inv : Totals w p q t i s z) (h : i < q.count) where
  pub total_more : le t (run_in w p q i).t0 ≡ false → Totals w p q t (i + 1) (s ⊕ (run_in w p q i).bytes ⊗ fraction (run_in w p q i) t) z
  unfolding total_of
  total_more e = walk_next inv _ h (λ l. simp e)

  pub total_stops : le t (run_in w p q i).t0 ≡ true → s ≡ z
  unfolding total_of
  total_stops e = walk_stop inv _ h (λ l. simp e)

pub total_ends : (t : Float) {w : List Float} {p : Place} {q : Ring} {i : ℕ} {s z : Float} → Totals w p q t i s z → q.count ≤ i → s ≡ z
unfolding total_of
total_ends t inv h = walk_end inv _ h refl

abbrev pub Finals : List Float → Place → Ring → ℕ → Float → Float → Type 0
Finals w p q i s z = Walking 3 read_run bytes_from w p q i s z

module _ {w : List Float} {p : Place} {q : Ring} {i : ℕ} {s z : Float} (inv : Finals w p q i s z) where
  pub final_more : i < q.count → Finals w p q (i + 1) (s ⊕ (run_in w p q i).bytes) z
  unfolding bytes_from
  final_more h = walk_next inv _ h (λ l. refl)

  pub final_ends : q.count ≤ i → s ≡ z
  unfolding bytes_from
  final_ends h = walk_end inv _ h refl

abbrev pub Times : List Float → Place → Ring → Float → ℕ → Float → Option Float → Type 0
Times w p q target i s z = Walking 3 read_run (λ l a. time_from l a target) w p q i s z

module _ (target : Float) {w : List Float} {p : Place} {q : Ring} {i : ℕ} {s : Float} {z : Option Float} (inv : Times w p q target i s z) (h : i < q.count) where
  pub time_more : le target (s ⊕ (run_in w p q i).bytes) ≡ false → Times w p q target (i + 1) (s ⊕ (run_in w p q i).bytes) z
  unfolding time_from
  time_more e = walk_next inv _ h (λ l. simp e)

  pub time_stops : le target (s ⊕ (run_in w p q i).bytes) ≡ true → Some ((run_in w p q i).t0 ⊕ ((run_in w p q i).t1 ⊖ (run_in w p q i).t0) ⊗ ((target ⊖ s) ⊘ (run_in w p q i).bytes)) ≡ z
  unfolding time_from
  time_stops e = walk_stop inv _ h (λ l. simp e)

pub time_ends : (target : Float) {w : List Float} {p : Place} {q : Ring} {i : ℕ} {s : Float} {z : Option Float} → Times w p q target i s z → q.count ≤ i → None ≡ z
unfolding time_from
time_ends target inv h = walk_end inv _ h refl

pub total_settled : {w : List Float} {p : Place} {c : CumulativeIn} {t : Float} {r : CumulativeIn} → SettledTo w p c t r → total_of (runs_of w p r.runs) r.settled t ≡ arrived_by (inflow_of w p c) t
unfolding arrived_by
total_settled {t = t} m = ap (λ (i : Inflow). total_of i.runs i.settled t) m.state

-- what is settled has the time of the first run left
module _ (w : List Float) (p : Place) (c : CumulativeIn) (target : Float) where
  settled_time : le target c.settled ≡ true → Some (front_time (runs_of w p c.runs)) ≡ time_of_cumulative (inflow_of w p c) target
  unfolding time_of_cumulative
  settled_time e = simp e

  pub time_forgotten : le target c.settled ≡ true → c.runs.count ≡ 0 → Some -∞ ≡ time_of_cumulative (inflow_of w p c) target
  unfolding front_time
  time_forgotten e z = ap (λ (l : List Run). Some (front_time l)) (sym (no_entries_lem 3 read_run w p c.runs z)) ∙ settled_time e

  pub time_first : le target c.settled ≡ true → Lies 3 w p c.runs → 0 < c.runs.count → Some (run_in w p c.runs 0).t0 ≡ time_of_cumulative (inflow_of w p c) target
  unfolding front_time
  time_first e l h = ap (λ (l : List Run). Some (front_time l)) (sym (popped 3 read_run w p c.runs l h)) ∙ settled_time e

  -- what is not: the sum over the runs
  pub time_unsettled : le target c.settled ≡ false → time_from (runs_of w p c.runs) c.settled target ≡ time_of_cumulative (inflow_of w p c) target
  unfolding time_of_cumulative
  time_unsettled e = simp e

-- ---- push_run

pub run_empty : (w : List Float) (p : Place) (c : CumulativeIn) (run : Run) → Lies 3 w p c.runs → lt 0f run.bytes ≡ false → RunPushedTo w p c run (Ok tt) c w
unfolding run_refused push_run
run_empty w p c run l e = record { lies = l; outside = outside_refl _ _ w; full = simp e; refused = λ f. (refl, refl); taken = λ f. simp e }

module _ (w v : List Float) (p : Place) (c : CumulativeIn) (run : Run) (lies : Lies 3 w p c.runs) (r : Result ⊤ QueueFull) (q : Ring) (e : lt 0f run.bytes ≡ true) (m : PushedTo 3 w p c.runs (floats_of_run run) r q v) where
  abbrev taken : CumulativeIn
  taken = record { runs = q; settled = c.settled }

  full_by : (b : Bool) → is_err r ≡ b → is_err r ≡ run_refused p.depth (inflow_of w p c) run
  unfolding run_refused
  full_by true f = f ∙ sym (simp (e, count_entries 3 read_run w p c.runs) (push_refused lies m f).1)
  full_by false f = f ∙ sym (simp (e, count_entries 3 read_run w p c.runs) (push_room lies m f))

  pub run_pushed : RunPushedTo w p c run r taken v
  unfolding push_run
  run_pushed =
      record {
        lies = push_lies lies m;
        outside = push_outside lies m;
        full = full_by (is_err r) refl;
        refused = λ f. let k = (push_refused lies m f).0 in (ap (λ (z : Ring). record { runs = z; settled = c.settled }) k.0, k.1);
        taken = λ f. simp (e, push_adds lies m f run_of (floats_local 3 run_of));
      }
