-- The step of a main chain, put together from what its parts ensure.
use Prim.Native.Nat.{ℕ, ◌+◌, ◌*◌, ◌≤◌, ◌<◌}
use mathlib.Core.Path.{◌≡◌, refl, sym, ap, ◌∙◌}
use mathlib.Core.Bool.{true, false, true≢false}
use mathlib.Core.List.{List, []}
use native.Mathlib.Omega.{arith}
use lib.ListN.{length}
use lib.Ieee.{Float}
use borrow.Author.Tests.{ltb-true, leb-true, lt-ltb, le-leb}
use Rattle.std.proofs.lemmas.Bool.{and_parts}
use Rattle.ieee.specs.Binary64.{+∞}
use Rattle.events.specs.declared.Slots.{Slots}
use Rattle.events.specs.Slots.{noted_all}
use Rattle.events.proofs.Noted.{noted_all_append_lem}
use Rattle.branch.specs.declared.Delivered.{Delivered}
use Rattle.branch.specs.declared.main_branch.MainModel.{MainModel}
use Rattle.branch.specs.declared.main_branch.MainBranch.{MainBranch}
use Rattle.branch.specs.declared.QueueFull.{QueueFull}
use Rattle.std.specs.Prelude.{⊤, Result, Ok, Err, is_err, IsErr}
use Rattle.branch.specs.declared.queue.Place.{Place}
use Rattle.branch.specs.Queue.{Lies, floats_at}
use Rattle.branch.specs.InflowInWork.{run_of}
use Rattle.branch.specs.MainBranch.{Main, Drained, drain, look_at_end, finish, waiting, queued_to, close_au, deliver, packet_step, end_step, main_step, new_main}
use Rattle.branch.specs.declared.units.Units.{Units}
use Rattle.branch.specs.Units.{close_units}
use Rattle.branch.specs.UnitsInWork.{unit_at, waiting_of, UnitsTo}
use Rattle.branch.specs.MainInWork.{new_branch, no_entries, runs_place, units_place, main_of, BranchLies, ready, DrainedTo, FedTo, SteppedTo, Unchanged, StepOf, FinishOf, CloseOf}
use Rattle.branch.proofs.UnitCounts.{close_twice}
use Rattle.branch.proofs.Rings.{ring_fits, lying_fits, no_entries_lem}
use Rattle.branch.proofs.Feeding.{units_closed}

-- ---- the test

pub record Ready (w : List Float) (p : MainModel) (b : MainBranch) (k : ℕ) : Type 0 where
  pub lies : BranchLies w p b
  pub units : b.units.access_units < 9223372036854775808
  pub slots : k < 64

pub ready_lies : (w : List Float) (p : MainModel) (b : MainBranch) (k : ℕ) → ready (length w) p b k ≡ true → Ready w p b k
unfolding ready
ready_lies w p b k e =
    let e1 = and_parts _ _ e in
    let e2 = and_parts _ _ e1.0 in
    let e3 = and_parts _ _ e2.0 in
    let e4 = and_parts _ _ e3.0 in
    let room : p.base + 6 * p.depth ≤ length w = leb-true _ _ e4.0 in
    record {
      lies = record { runs = ring_fits 3 w (runs_place p) b.inflow.runs (omega arith) e4.1; pending = ring_fits 3 w (units_place p) b.units.pending (omega arith) e3.1 };
      units = ltb-true _ _ e2.1;
      slots = ltb-true _ _ e1.1;
    }

-- what the test gives to each call behind it
module _ (w : List Float) (p : MainModel) (b : MainBranch) (k : ℕ) (e : ready (length w) p b k ≡ true) where
  pub ready_branch : BranchLies w p b
  ready_branch = (ready_lies w p b k e).lies

  pub ready_pending : (pl : Place) → pl ≡ units_place p → Lies 3 w pl b.units.pending
  ready_pending pl a = rw a (ready_lies w p b k e).lies.pending

  pub ready_slots : k < 64
  ready_slots = (ready_lies w p b k e).slots

  pub ready_room : length w ≤ 1152921504606846976 → p.base + 6 * p.depth ≤ 9223372036854775807
  ready_room h = let r = (ready_lies w p b k e).lies.pending.room in omega arith

  pub ready_bound : length w ≤ 1152921504606846976 → b.units.access_units + b.units.pending.count ≤ 18446744073709551615
  ready_bound h =
      let r = ready_lies w p b k e in
      let o = r.units in
      omega (arith, r.lies.pending.some, r.lies.pending.room)

-- the other way: what a caller shows before a step
pub lies_ready : (w : List Float) (p : MainModel) (b : MainBranch) (k : ℕ) → Ready w p b k → ready (length w) p b k ≡ true
unfolding ready
lies_ready w p b k r =
    let l = r.lies in
    let room : p.base + 6 * p.depth ≤ length w = omega (arith, l.pending.room) in
    simp (
      le-leb (p.base + 6 * p.depth) (length w) room,
      lying_fits l.runs,
      lying_fits l.pending,
      lt-ltb b.units.access_units 9223372036854775808 r.units,
      lt-ltb k 64 r.slots,
    )

-- ---- the step

module _ (w : List Float) (p : MainModel) (b : MainBranch) (k : ℕ) (s : Slots) where
  pub unchanged : Unchanged w b s (Ok tt) b w s
  unchanged = record { result = refl; branch = refl; work = refl; slots = refl }

  module _ (d : Delivered) (t : Float) where
    pub step_not_ready : ready (length w) p b k ≡ false → StepOf w p b d t k s (Ok tt) b w s
    step_not_ready e = record { steps = λ f. absurd (true≢false (sym f ∙ e)); otherwise = λ f. unchanged }

    -- what is drained, and what is delivered to it
    pub step_made : (m c : MainBranch) (x : Slots) (r : Result ⊤ QueueFull) (v : List Float) → ready (length w) p b k ≡ true → DrainedTo w p k s (drain p.buffer_size t (main_of w p b)) m x →
        FedTo w p m (deliver p.depth d (main_of w p m)) r c v → StepOf w p b d t k s r c v x
    unfolding main_step packet_step
    step_made m c x r v e dr l =
        record {
          steps = λ f. record {
            lies = l.lies;
            outside = l.outside;
            full = l.full ∙ ap (λ (z : Main). (deliver p.depth d z).full) dr.state;
            state = l.state ∙ ap (λ (z : Main). (deliver p.depth d z).branch) dr.state;
            slots = dr.slots;
          };
          otherwise = λ f. absurd (true≢false (sym e ∙ f));
        }

  pub finish_not_ready : ready (length w) p b k ≡ false → FinishOf w p b k s (Ok tt) b w s
  finish_not_ready e = record { ends = λ f. absurd (true≢false (sym f ∙ e)); otherwise = λ f. unchanged }

-- what the units are closed to, where the test is passed
module _ (w : List Float) (p : MainModel) (b : MainBranch) (k : ℕ) (e : ready (length w) p b k ≡ true) (pl : Place) (at : pl ≡ units_place p) (u : List Float) (r : Result ⊤ QueueFull) (q : Units) (cl : UnitsTo w pl b.units (close_units pl.depth (waiting_of w pl b.units)) r q u) where
  abbrev closed : MainBranch
  closed = record { inflow = b.inflow; units = q; removed = b.removed; required = b.required; peak = b.peak }

  closed_to : FedTo w p b (close_au p.depth (main_of w p b)) r closed u
  closed_to = units_closed w u p b pl at (ready_branch w p b k e) r q cl

  finish_ready : (s : Slots) (r' : Result ⊤ QueueFull) (z : MainBranch) (y : Slots) → SteppedTo w p k s (end_step p.buffer_size (close_au p.depth (main_of w p b))) r' z u y → FinishOf w p b k s r' z u y
  finish_ready s r' z y m = record { ends = λ f. m; otherwise = λ f. absurd (true≢false (sym e ∙ f)) }

  -- the open unit finds no place
  pub finish_refused : (s : Slots) (x : QueueFull) (r' : Result ⊤ QueueFull) → r ≡ Err x → IsErr r' → FinishOf w p b k s r' closed u s
  unfolding end_step noted_all
  finish_refused s x r' f h =
      let m = closed_to in
      let full : (close_au p.depth (main_of w p b)).full ≡ true = sym m.full ∙ ap is_err f in
      finish_ready s r' closed s (rw full (record { lies = m.lies; outside = m.outside; full = h; state = m.state; slots = refl }))

  pub closed_lies : BranchLies u p closed
  closed_lies = closed_to.lies

  -- the count of units has room for a removal of every pending one
  pub closed_bound : length w ≤ 1152921504606846976 → q.access_units + q.pending.count ≤ 18446744073709551615
  closed_bound h =
      let a = ready_lies w p b k e in
      let n = cl.count in
      let o = a.units in
      let i : q.pending.count ≤ p.depth = rw at at cl.lies.some in
      omega (arith, a.lies.pending.room)

  -- every removal, and the look at the end
  pub finish_made : (m z : MainBranch) (s x y : Slots) → r ≡ Ok tt → DrainedTo u p k s (drain p.buffer_size +∞ (main_of u p closed)) m x →
      DrainedTo u p k x (look_at_end p.buffer_size (main_of u p m)) z y → FinishOf w p b k s (Ok tt) z u y
  unfolding end_step finish
  finish_made m z s x y f dr l =
      let F = close_au p.depth (main_of w p b) in
      let c = closed_to in
      let size = p.buffer_size in
      let full : F.full ≡ false = sym c.full ∙ ap is_err f in
      let D : drain size +∞ (main_of u p closed) ≡ drain size +∞ F.branch = ap (drain size +∞) c.state in
      let here : main_of u p m ≡ (drain size +∞ F.branch).branch = dr.state ∙ ap (λ (z : Drained). z.branch) D in
      finish_ready s (Ok tt) z y
      (rw full
      (record {
        lies = l.lies;
        outside = c.outside;
        full = refl;
        state = l.state ∙ ap (λ (z : Main). (look_at_end size z).branch) here;
        slots =
            l.slots
            ∙ (ap (λ (z : Main). noted_all k (look_at_end size z).events x) here
            ∙ (ap (noted_all k (look_at_end size (drain size +∞ F.branch).branch).events) (dr.slots ∙ ap (λ (z : Drained). noted_all k z.events s) D)
            ∙ sym (noted_all_append_lem k (drain size +∞ F.branch).events (look_at_end size (drain size +∞ F.branch).branch).events s)));
      }))

-- ---- a close

module _ (w : List Float) (p : MainModel) (b : MainBranch) where
  pub close_not_ready : ready (length w) p b 0 ≡ false → CloseOf w p b (Ok tt) b w
  close_not_ready e = record { closes = λ f. absurd (true≢false (sym f ∙ e)); otherwise = λ f. (refl, (refl, refl)) }

  pub close_made : ready (length w) p b 0 ≡ true → (pl : Place) → pl ≡ units_place p → (v : List Float) (r : Result ⊤ QueueFull) (q : Units) → UnitsTo w pl b.units (close_units pl.depth (waiting_of w pl b.units)) r q v →
      CloseOf w p b r (record { inflow = b.inflow; units = q; removed = b.removed; required = b.required; peak = b.peak }) v
  close_made e pl at v r q m = record { closes = λ f. units_closed w v p b pl at (ready_branch w p b 0 e) r q m; otherwise = λ f. absurd (true≢false (sym e ∙ f)) }

-- ---- a caller that closes first, and then steps to the end

module _ (depth : ℕ) (b : Main) where
  close_again : (close_au depth b).full ≡ false → close_au depth (close_au depth b).branch ≡ close_au depth b
  unfolding close_au
  close_again f = ap (queued_to b) (close_twice depth (waiting b) f)

module _ (size : Float) (depth : ℕ) (d : Delivered) (t : Float) (b : Main) where
  pub closed_full : (close_au depth b).full ≡ true → main_step size depth d true t b ≡ record { full = true; branch = (close_au depth b).branch; events = [] }
  unfolding main_step end_step
  closed_full f = simp f

  pub closed_again : (close_au depth b).full ≡ false → main_step size depth d true t (close_au depth b).branch ≡ main_step size depth d true t b
  unfolding main_step
  closed_again f = ap (end_step size) (close_again depth b f)

-- ---- a new branch, and the figures

pub new_is : (w : List Float) (p : MainModel) → main_of w p new_branch ≡ new_main
unfolding main_of new_branch new_main
new_is w p = rw (no_entries_lem 3 (λ u o. run_of (floats_at 3 u o)) w (runs_place p) no_entries refl, no_entries_lem 3 unit_at w (units_place p) no_entries refl)

pub new_lies : (w : List Float) (p : MainModel) → 0 < p.depth → p.base + 6 * p.depth ≤ length w → BranchLies w p new_branch
unfolding new_branch
new_lies w p d h = record { runs = record { inside = d; some = omega arith; room = omega arith }; pending = record { inside = d; some = omega arith; room = omega arith } }

-- the chain's figures are fields of the branch
pub figures_of_lem : (w : List Float) (p : MainModel) (b : MainBranch) → ((main_of w p b).peak ≡ b.peak) × (((main_of w p b).units ≡ b.units.access_units) × ((main_of w p b).max_delay ≡ b.units.max_delay_seconds))
unfolding main_of
figures_of_lem w p b = (refl, (refl, refl))
