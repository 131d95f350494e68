-- A `MainBranch` whose queues stand in rings of the work, as lists and floats; what its functions ensure.
use Rattle.std.specs.Prelude.{ℕ, ◌+◌, ◌*◌, ◌≡◌, Bool, true, false, ◌&&◌, ⊤, Result, Ok, is_err, List, length, ltb, leb, Float}
use Rattle.ieee.specs.Binary64.{0f}
use Rattle.events.specs.declared.Slots.{Slots}
use Rattle.events.specs.Slots.{noted_all}
use Rattle.branch.specs.declared.AccessUnit.{AccessUnit}
use Rattle.branch.specs.declared.Delivered.{Delivered}
use Rattle.branch.specs.declared.queue.Place.{Place}
use Rattle.branch.specs.declared.queue.Ring.{Ring}
use Rattle.branch.specs.declared.main_branch.MainModel.{MainModel}
use Rattle.branch.specs.declared.main_branch.MainBranch.{MainBranch}
use Rattle.branch.specs.declared.QueueFull.{QueueFull}
use Rattle.branch.specs.Queue.{Lies, fits, SameOutside, entries, pop_def}
use Rattle.branch.specs.InflowInWork.{inflow_of}
pub use Rattle.branch.specs.UnitsInWork.{unit_of, floats_of_unit, no_entries}
use Rattle.branch.specs.UnitsInWork.{unit_at, no_units, removed_units}
use Rattle.branch.specs.MainBranch.{Main, Drained, Fed, close_au, remove_unit, remove_events, Step, end_step, main_step}

-- the ring of runs begins at base, and behind it stands that of the pending units, both of depth entries
abbrev pub runs_place : MainModel → Place
runs_place p = record { base = p.base; depth = p.depth }

abbrev pub units_place : MainModel → Place
units_place p = record { base = p.base + 3 * p.depth; depth = p.depth }

abbrev pub units_of : List Float → MainModel → Ring → List AccessUnit
units_of w p q = entries 3 unit_at w (units_place p) q

unfoldable pub main_of : List Float → MainModel → MainBranch → Main
main_of w p b =
    record {
      inflow = inflow_of w (runs_place p) b.inflow;
      pending = units_of w p b.units.pending;
      open_au = b.units.open_au;
      removed = b.removed;
      required = b.required;
      peak = b.peak;
      units = b.units.access_units;
      max_delay = b.units.max_delay_seconds;
    }

-- a new branch
unfoldable pub new_branch : MainBranch
new_branch = record { inflow = record { runs = no_entries; settled = 0f }; units = no_units; removed = 0f; required = 0f; peak = 0f }

-- the rings lie in the work
pub record BranchLies (w : List Float) (p : MainModel) (b : MainBranch) : Type 0 where
  pub runs : Lies 3 w (runs_place p) b.inflow.runs
  pub pending : Lies 3 w (units_place p) b.units.pending

-- the test of a step: the rings lie in a work of len floats, the count of units has room, and the chain has slots
unfoldable pub ready : ℕ → MainModel → MainBranch → ℕ → Bool
ready len p b k =
    (((leb (p.base + 6 * p.depth) len && fits b.inflow.runs p.depth) && fits b.units.pending p.depth) && ltb b.units.access_units 9223372036854775808)
    && ltb k 64

-- the removal of the first pending unit, u
pub record RemovedTo (w : List Float) (p : MainModel) (b : MainBranch) (u : AccessUnit) (k : ℕ) (s : Slots) (r : MainBranch) (s' : Slots) : Type 0 where
  pub runs : Lies 3 w (runs_place p) r.inflow.runs
  pub units : r.units ≡ removed_units p.depth b.units u
  pub state : main_of w p r ≡ remove_unit (main_of w p b) u (units_of w p (pop_def p.depth b.units.pending))
  pub slots : s' ≡ noted_all k (remove_events p.buffer_size (main_of w p b) u) s

-- a branch that comes to x, with the events of x in its slots
pub record DrainedTo (w : List Float) (p : MainModel) (k : ℕ) (s : Slots) (x : Drained) (r : MainBranch) (s' : Slots) : Type 0 where
  pub lies : BranchLies w p r
  pub state : main_of w p r ≡ x.branch
  pub slots : s' ≡ noted_all k x.events s

-- a branch that is fed, and comes to x where nothing or something was refused; v is the work after it
pub record FedTo (w : List Float) (p : MainModel) (b : MainBranch) (x : Fed) (r : Result ⊤ QueueFull) (b' : MainBranch) (v : List Float) : Type 0 where
  pub lies : BranchLies v p b'
  pub outside : SameOutside p.base (p.base + 6 * p.depth) w v
  pub full : is_err r ≡ x.full
  pub state : main_of v p b' ≡ x.branch
  pub units : b'.units.access_units ≡ b.units.access_units

-- a step to x: the rings still lie in the work, and only the chain's part of it is written
pub record SteppedTo (w : List Float) (p : MainModel) (k : ℕ) (s : Slots) (x : Step) (r : Result ⊤ QueueFull) (b' : MainBranch) (v : List Float) (s' : Slots) : Type 0 where
  pub lies : BranchLies v p b'
  pub outside : SameOutside p.base (p.base + 6 * p.depth) w v
  pub full : is_err r ≡ x.full
  pub state : main_of v p b' ≡ x.branch
  pub slots : s' ≡ noted_all k x.events s

pub record Unchanged (w : List Float) (b : MainBranch) (s : Slots) (r : Result ⊤ QueueFull) (b' : MainBranch) (v : List Float) (s' : Slots) : Type 0 where
  pub result : r ≡ Ok tt
  pub branch : b' ≡ b
  pub work : v ≡ w
  pub slots : s' ≡ s

-- what a step ensures
pub record StepOf (w : List Float) (p : MainModel) (b : MainBranch) (d : Delivered) (t : Float) (k : ℕ) (s : Slots) (r : Result ⊤ QueueFull) (b' : MainBranch) (v : List Float) (s' : Slots) : Type 0 where
  pub steps : ready (length w) p b k ≡ true → SteppedTo w p k s (main_step p.buffer_size p.depth d false t (main_of w p b)) r b' v s'
  pub otherwise : ready (length w) p b k ≡ false → Unchanged w b s r b' v s'

-- what the end of the stream ensures
pub record FinishOf (w : List Float) (p : MainModel) (b : MainBranch) (k : ℕ) (s : Slots) (r : Result ⊤ QueueFull) (b' : MainBranch) (v : List Float) (s' : Slots) : Type 0 where
  pub ends : ready (length w) p b k ≡ true → SteppedTo w p k s (end_step p.buffer_size (close_au p.depth (main_of w p b))) r b' v s'
  pub otherwise : ready (length w) p b k ≡ false → Unchanged w b s r b' v s'

-- what a close ensures: it needs no slots, so the test is that of slot 0
pub record CloseOf (w : List Float) (p : MainModel) (b : MainBranch) (r : Result ⊤ QueueFull) (b' : MainBranch) (v : List Float) : Type 0 where
  pub closes : ready (length w) p b 0 ≡ true → FedTo w p b (close_au p.depth (main_of w p b)) r b' v
  pub otherwise : ready (length w) p b 0 ≡ false → (r ≡ Ok tt) × ((b' ≡ b) × (v ≡ w))
