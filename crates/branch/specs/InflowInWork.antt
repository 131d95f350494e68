-- A `CumulativeIn` whose runs stand in a ring of the work, as the list of its runs; what its functions ensure.
use Rattle.std.specs.Prelude.{◌+◌, ◌*◌, ◌≡◌, true, false, ⊤, Result, is_err, List, [], ◌∷◌, get_or, Float}
use Rattle.std.specs.Float.{nan}
use Rattle.branch.specs.declared.Run.{Run}
use Rattle.branch.specs.declared.QueueFull.{QueueFull}
use Rattle.branch.specs.declared.queue.Place.{Place}
use Rattle.branch.specs.declared.queue.Ring.{Ring}
use Rattle.branch.specs.declared.inflow.CumulativeIn.{CumulativeIn}
use Rattle.branch.specs.declared.inflow.Arrived.{Arrived}
use Rattle.branch.specs.Queue.{Lies, SameOutside, floats_at, entries}
use Rattle.branch.specs.CumulativeIn.{Inflow, settle, arrived_by, push_run, run_refused}

-- an entry's floats are t0, t1 and the bytes
abbrev pub run_of : List Float → Run
run_of e = record { t0 = get_or e 0 nan; t1 = get_or e 1 nan; bytes = get_or e 2 nan }

abbrev pub floats_of_run : Run → List Float
floats_of_run r = r.t0 ∷ (r.t1 ∷ (r.bytes ∷ []))

abbrev pub runs_of : List Float → Place → Ring → List Run
runs_of w p q = entries 3 (λ u o. run_of (floats_at 3 u o)) w p q

abbrev pub inflow_of : List Float → Place → CumulativeIn → Inflow
inflow_of w p c = record { runs = runs_of w p c.runs; settled = c.settled }

pub record SettledTo (w : List Float) (p : Place) (c : CumulativeIn) (t : Float) (r : CumulativeIn) : Type 0 where
  pub lies : Lies 3 w p r.runs
  pub state : inflow_of w p r ≡ settle (inflow_of w p c) t

pub record ArrivedTo (w : List Float) (p : Place) (c : CumulativeIn) (t : Float) (r : Arrived) : Type 0 where
  pub after : SettledTo w p c t r.inflow
  pub total : r.total ≡ arrived_by (inflow_of w p c) t

-- the push of a run: c' is the inflow, and v the work after it
pub record RunPushedTo (w : List Float) (p : Place) (c : CumulativeIn) (run : Run) (r : Result ⊤ QueueFull) (c' : CumulativeIn) (v : List Float) : Type 0 where
  pub lies : Lies 3 v p c'.runs
  pub outside : SameOutside p.base (p.base + 3 * p.depth) w v
  pub full : is_err r ≡ run_refused p.depth (inflow_of w p c) run
  pub refused : is_err r ≡ true → (c' ≡ c) × (v ≡ w)
  pub taken : is_err r ≡ false → inflow_of v p c' ≡ push_run (inflow_of w p c) run
