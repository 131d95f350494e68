-- What a packet delivers to a main branch, and its end, in terms of the lists in the two rings.
use Prim.Native.Nat.{ℕ}
use mathlib.Core.Path.{◌≡◌, refl, sym, ap, ◌∙◌}
use mathlib.Core.Bool.{Bool, true, false, cond}
use mathlib.Core.List.{List}
use mathlib.Core.Logic.{inl, inr}
use native.Mathlib.Omega.{arith}
use lib.Ieee.{Float, lt}
use Rattle.ieee.specs.Binary64.{◌⊕◌, ◌⊖◌, 0f, 1f}
use Rattle.ieee.specs.MaxMin.{max_of}
use Rattle.events.specs.declared.Event.TheVariants.{Overflow}
use Rattle.events.specs.Event.{when}
use Rattle.events.specs.declared.Slots.{Slots}
use Rattle.events.specs.Slots.{noted_all}
use Rattle.branch.specs.declared.AccessUnit.{AccessUnit}
use Rattle.branch.specs.declared.Run.{Run}
use Rattle.branch.specs.declared.QueueFull.{QueueFull}
use Rattle.branch.specs.declared.queue.Place.{Place}
use Rattle.branch.specs.declared.inflow.CumulativeIn.{CumulativeIn}
use Rattle.std.specs.Prelude.{⊤, Result, Ok, Err, is_err, IsErr, Option}
use Rattle.branch.specs.declared.units.Units.{Units}
use Rattle.branch.specs.declared.main_branch.MainModel.{MainModel}
use Rattle.branch.specs.declared.main_branch.MainBranch.{MainBranch}
use Rattle.branch.specs.Queue.{floats_at}
use Rattle.branch.specs.CumulativeIn.{final_total, run_refused}
use Rattle.branch.specs.InflowInWork.{run_of, inflow_of, RunPushedTo}
use Rattle.branch.specs.Units.{Queued, close_units, open_units}
use Rattle.branch.specs.UnitsInWork.{waiting_of, UnitsTo, grown_units}
use Rattle.branch.specs.MainBranch.{Main, Fed, refused, fed, and_then, waiting, queued_to, close_au, open_unit, add_bytes, add_run, final_fullness, at_peak, look_at_end}
use Rattle.branch.specs.MainInWork.{runs_place, units_place, main_of, BranchLies, DrainedTo, FedTo}
use Rattle.branch.proofs.Rings.{kept, floats_local, lies_kept, outside_refl, outside_then, outside_wider}
use Rattle.branch.proofs.UnitQueues.{units_kept}

-- ---- the look at the end

pub looked : (w : List Float) (p : MainModel) (b : MainBranch) (k : ℕ) (s x : Slots) (total peak : Float) → BranchLies w p b → total ≡ final_total (inflow_of w (runs_place p) b.inflow) →
    x ≡ noted_all k (when (lt (p.buffer_size ⊕ 1f) (total ⊖ b.removed)) (Overflow (total ⊖ b.removed))) s → peak ≡ max_of b.peak (total ⊖ b.removed) →
    DrainedTo w p k s (look_at_end p.buffer_size (main_of w p b))
    (record { inflow = b.inflow; units = b.units; removed = b.removed; required = b.required; peak = peak })
    x
unfolding look_at_end at_peak final_fullness main_of
looked w p b k s x total peak l t n h =
    record {
      lies = record { runs = l.runs; pending = l.pending };
      state = rw (h, t);
      slots = rw t at n;
    }

-- ---- a branch that is left as it is

pub fed_same : (w : List Float) (p : MainModel) (b : MainBranch) (x : Fed) → BranchLies w p b → x ≡ fed (main_of w p b) → FedTo w p b x (Ok tt) b w
fed_same w p b x l e = rw e (record { lies = l; outside = outside_refl _ _ w; full = refl; state = refl; units = refl })

-- ---- the units, and what else is in the branch

module _ (w v : List Float) (p : MainModel) (b : MainBranch) (pl : Place) (at : pl ≡ units_place p) (l : BranchLies w p b) (r : Result ⊤ QueueFull) (u : Units) where
  abbrev with_units' : MainBranch
  with_units' = record { inflow = b.inflow; units = u; removed = b.removed; required = b.required; peak = b.peak }

  waiting_is : waiting_of w (units_place p) b.units ≡ waiting (main_of w p b)
  unfolding waiting_of main_of
  waiting_is = refl

  queued : (x : Queued) → UnitsTo w (units_place p) b.units x r u v → FedTo w p b (queued_to (main_of w p b) x) r with_units' v
  unfolding main_of waiting_of
  queued x m =
      let o = m.outside in
      let runs = kept 3 (λ y i. run_of (floats_at 3 y i)) (floats_local 3 run_of) (runs_place p) b.inflow.runs l.runs o (inl (omega arith)) in
      record {
        lies = record { runs = lies_kept o l.runs; pending = m.lies };
        outside = outside_wider (omega arith) (omega arith) o;
        full = m.full;
        state = rw (runs, ← m.state) refl;
        units = m.count;
      }

  pub units_closed : UnitsTo w pl b.units (close_units pl.depth (waiting_of w pl b.units)) r u v → FedTo w p b (close_au p.depth (main_of w p b)) r with_units' v
  unfolding close_au
  units_closed m =
      let here : UnitsTo w (units_place p) b.units (close_units p.depth (waiting_of w (units_place p) b.units)) r u v = rw at at m in
      rw (← waiting_is) (queued _ here)

  pub units_opened : (o : Option AccessUnit) → UnitsTo w pl b.units (open_units pl.depth o (waiting_of w pl b.units)) r u v → FedTo w p b (open_unit p.depth o (main_of w p b)) r with_units' v
  unfolding open_unit
  units_opened o m =
      let here : UnitsTo w (units_place p) b.units (open_units p.depth o (waiting_of w (units_place p) b.units)) r u v = rw at at m in
      rw (← waiting_is) (queued _ here)

-- ---- one after the other

module _ (w u : List Float) (p : MainModel) (b b' : MainBranch) (x : Fed) (r : Result ⊤ QueueFull) (m : FedTo w p b x r b' u) (g : Main → Fed) where
  pub fed_stop : (e : QueueFull) (r' : Result ⊤ QueueFull) → r ≡ Err e → IsErr r' → FedTo w p b (and_then x g) r' b' u
  unfolding and_then
  fed_stop e r' f h =
      let t : x.full ≡ true = sym m.full ∙ ap is_err f in
      rw t (record { lies = m.lies; outside = m.outside; full = h; state = m.state; units = m.units })

  pub fed_next : (v : List Float) (r' : Result ⊤ QueueFull) (c : MainBranch) → r ≡ Ok tt → FedTo u p b' (g (main_of u p b')) r' c v → FedTo w p b (and_then x g) r' c v
  unfolding and_then
  fed_next v r' c f n =
      let t : x.full ≡ false = sym m.full ∙ ap is_err f in
      rw (t, ← m.state)
      (record { lies = n.lies; outside = outside_then m.outside n.outside; full = n.full; state = n.state; units = n.units ∙ m.units })

-- ---- a run

pub no_run : (depth : ℕ) (run : Run) (m : Main) → lt 0f run.bytes ≡ false → add_run depth run m ≡ fed m
unfolding add_run
no_run depth run m e = simp e

some_run_lem : (depth : ℕ) (run : Run) (m : Main) → lt 0f run.bytes ≡ true → add_run depth run m ≡ add_bytes depth run m
unfolding add_run
some_run_lem depth run m e = simp e

module _ (w v : List Float) (p : MainModel) (b : MainBranch) (run : Run) (some : lt 0f run.bytes ≡ true) (pl : Place) (at : pl ≡ runs_place p) (l : BranchLies w p b) (r : Result ⊤ QueueFull) (i : CumulativeIn)
    (m : RunPushedTo w pl b.inflow run r i v) where
  here : RunPushedTo w (runs_place p) b.inflow run r i v
  here = rw at at m

  added : (c : Bool) → is_err r ≡ c → add_run p.depth run (main_of w p b) ≡ cond c (refused (main_of w p b)) (add_bytes p.depth run (main_of w p b))
  unfolding add_bytes main_of
  added true f = some_run_lem p.depth run (main_of w p b) some ∙ rw (sym here.full ∙ f)
  added false f = some_run_lem p.depth run (main_of w p b) some

  pub add_full : (e : QueueFull) (r' : Result ⊤ QueueFull) → r ≡ Err e → IsErr r' →
      FedTo w p b (add_run p.depth run (main_of w p b)) r' (record { inflow = i; units = b.units; removed = b.removed; required = b.required; peak = b.peak }) v
  add_full e r' f g =
      let t : is_err r ≡ true = ap is_err f in
      let k = here.refused t in
      rw (added true t, k.0, k.1) (record { lies = l; outside = outside_refl _ _ w; full = g; state = refl; units = refl })

  pub add_pushed : (u : Units) → r ≡ Ok tt → u ≡ grown_units b.units run.bytes →
      FedTo w p b (add_run p.depth run (main_of w p b)) (Ok tt) (record { inflow = i; units = u; removed = b.removed; required = b.required; peak = b.peak }) v
  unfolding add_bytes main_of
  add_pushed u f g =
      let t : is_err r ≡ false = ap is_err f in
      let room : run_refused p.depth (inflow_of w (runs_place p) b.inflow) run ≡ false = sym here.full ∙ t in
      let pending = units_kept v (units_place p) b.units.pending l.pending here.outside (inr (omega arith)) in
      rw (some_run_lem p.depth run (main_of w p b) some, room, g)
      (record {
        lies = record { runs = here.lies; pending = lies_kept here.outside l.pending };
        outside = outside_wider (omega arith) (omega arith) here.outside;
        full = refl;
        state = rw (here.taken t, pending);
        units = refl;
      })
