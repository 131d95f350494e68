-- The removal of one unit, and the turns of `drain`, in terms of the lists in the two rings.
use Prim.Native.Nat.{ℕ, ◌+◌, ◌≤◌, ◌<◌}
use mathlib.Core.Path.{◌≡◌, refl, sym, ap, ◌∙◌}
use mathlib.Core.Bool.{true, false}
use mathlib.Core.List.{List, [], ◌∷◌}
use native.Mathlib.Omega.{arith}
use lib.Ieee.{Float, lt}
use Rattle.ieee.specs.Binary64.{◌⊕◌, ◌⊖◌, 1f}
use Rattle.ieee.specs.MaxMin.{max_of, min_of}
use Rattle.events.specs.declared.Event.TheVariants.{Overflow}
use Rattle.events.specs.Event.{when}
use Rattle.events.specs.declared.Slots.{Slots}
use Rattle.events.specs.Slots.{noted_all}
use Rattle.events.proofs.Noted.{noted_all_append_lem}
use Rattle.branch.specs.declared.AccessUnit.{AccessUnit}
use Rattle.branch.specs.declared.inflow.Arrived.{Arrived}
use Rattle.branch.specs.declared.queue.Place.{Place}
use Rattle.branch.specs.declared.main_branch.MainModel.{MainModel}
use Rattle.branch.specs.declared.main_branch.MainBranch.{MainBranch}
use Rattle.branch.specs.Queue.{pop_def}
use Rattle.branch.specs.declared.units.Units.{Units}
use Rattle.std.specs.Prelude.{Option, Some, None}
use Rattle.branch.specs.InflowInWork.{ArrivedTo}
use Rattle.branch.specs.Units.{unit_events}
use Rattle.branch.specs.UnitsInWork.{FirstOf, removed_units}
use Rattle.branch.specs.MainBranch.{Main, Drained, removal_events, remove_events, remove_unit, after, drain_from, drain}
use Rattle.branch.specs.MainInWork.{runs_place, units_place, units_of, main_of, BranchLies, RemovedTo, DrainedTo}
use Rattle.branch.proofs.Rings.{lies_popped, count_popped}

-- the overflow, then the events of the unit
removal_noted : (size arrived fullness required : Float) (u : AccessUnit) (k : ℕ) (s x z : Slots) → x ≡ noted_all k (when (lt (size ⊕ 1f) fullness) (Overflow fullness)) s →
    z ≡ noted_all k (unit_events arrived required u) x → z ≡ noted_all k (removal_events size arrived fullness required u) s
unfolding removal_events
removal_noted size arrived fullness required u k s x z a b =
    b ∙ (ap (noted_all k (unit_events arrived required u)) a ∙ sym (noted_all_append_lem k (when (lt (size ⊕ 1f) fullness) (Overflow fullness)) (unit_events arrived required u) s))

-- what `remove` gives
module _ (w : List Float) (p : MainModel) (b : MainBranch) (u : AccessUnit) (k : ℕ) (s x s' : Slots) (g : Arrived) (got : ArrivedTo w (runs_place p) b.inflow u.decode_time g) where
  pub removed_to : (lo hi : Float) (q : Units) → lo ≡ min_of (b.required ⊕ u.bytes) g.total → hi ≡ max_of b.peak (g.total ⊖ b.removed) → q ≡ removed_units p.depth b.units u →
      x ≡ noted_all k (when (lt (p.buffer_size ⊕ 1f) (g.total ⊖ b.removed)) (Overflow (g.total ⊖ b.removed))) s → s' ≡ noted_all k (unit_events g.total (b.required ⊕ u.bytes) u) x →
      RemovedTo w p b u k s (record { inflow = g.inflow; units = q; removed = lo; required = b.required ⊕ u.bytes; peak = hi }) s'
  unfolding main_of remove_unit remove_events
  removed_to lo hi q l h e a n =
      let m : s' ≡ noted_all k (removal_events p.buffer_size g.total (g.total ⊖ b.removed) (b.required ⊕ u.bytes) u) s =
      removal_noted p.buffer_size g.total (g.total ⊖ b.removed) (b.required ⊕ u.bytes) u k s x s' a n in
      record { runs = got.after.lies; units = e; state = rw (l, h, e, got.total, got.after.state); slots = rw got.total at m }

-- ---- drain on lists

module _ (size f : Float) (m : Main) where
  pub drain_none : m.pending ≡ [] → drain size f m ≡ record { branch = m; events = [] }
  unfolding drain drain_from
  drain_none e = rw e

  module _ (u : AccessUnit) (us : List AccessUnit) (e : m.pending ≡ u ∷ us) where
    pub drain_stop : lt f u.decode_time ≡ true → drain size f m ≡ record { branch = m; events = [] }
    unfolding drain drain_from
    drain_stop t = rw e (simp t)

    pub drain_turn : lt f u.decode_time ≡ false → drain size f m ≡ after (remove_events size m u) (drain size f (remove_unit m u us))
    unfolding drain drain_from remove_unit
    drain_turn t = rw e (simp t)

-- ---- drain in the work

-- what is left of the drain comes to the same
pub record Draining (w : List Float) (p : MainModel) (k : ℕ) (f : Float) (o : MainBranch) (s : Slots) (b : MainBranch) (x : Slots) : Type 0 where
  pub lies : BranchLies w p b
  pub counts : b.units.access_units + b.units.pending.count ≤ 18446744073709551615
  pub branch : (drain p.buffer_size f (main_of w p b)).branch ≡ (drain p.buffer_size f (main_of w p o)).branch
  pub slots : noted_all k (drain p.buffer_size f (main_of w p b)).events x ≡ noted_all k (drain p.buffer_size f (main_of w p o)).events s

pending_of : (w : List Float) (p : MainModel) (b : MainBranch) → (main_of w p b).pending ≡ units_of w p b.units.pending
unfolding main_of
pending_of w p b = refl

module _ (w : List Float) (p : MainModel) (k : ℕ) (f : Float) (o : MainBranch) (s : Slots) (b : MainBranch) (x : Slots) (inv : Draining w p k f o s b x) where
  -- where nothing is left to remove
  ended : drain p.buffer_size f (main_of w p b) ≡ record { branch = main_of w p b; events = [] } → DrainedTo w p k s (drain p.buffer_size f (main_of w p o)) b x
  unfolding noted_all
  ended d =
      record {
        lies = inv.lies;
        state = sym (ap (λ (y : Drained). y.branch) d) ∙ inv.branch;
        slots = sym (ap (λ (y : Drained). noted_all k y.events x) d) ∙ inv.slots;
      }

  -- by what `first` gave
  module _ (pl : Place) (at : pl ≡ units_place p) (r : Option AccessUnit) (m : FirstOf w pl b.units.pending r) where
    here : FirstOf w (units_place p) b.units.pending r
    here = rw at at m

    pub drain_ends : r ≡ None → DrainedTo w p k s (drain p.buffer_size f (main_of w p o)) b x
    drain_ends e = ended (drain_none p.buffer_size f (main_of w p b) (pending_of w p b ∙ here.none e))

    module _ (u : AccessUnit) (e : r ≡ Some u) where
      first : (main_of w p b).pending ≡ u ∷ units_of w p (pop_def p.depth b.units.pending)
      first = pending_of w p b ∙ (here.some u e).1

      pub drain_stops : lt f u.decode_time ≡ true → DrainedTo w p k s (drain p.buffer_size f (main_of w p o)) b x
      drain_stops t = ended (drain_stop p.buffer_size f (main_of w p b) u (units_of w p (pop_def p.depth b.units.pending)) first t)

      pub some_pending : 0 < b.units.pending.count
      some_pending = (here.some u e).0

      pub drain_turns : (c : MainBranch) (y : Slots) → lt f u.decode_time ≡ false → RemovedTo w p b u k x c y → Draining w p k f o s c y
      drain_turns c y t n =
          let size = p.buffer_size in
          let q = pop_def p.depth b.units.pending in
          let turn = drain_turn size f (main_of w p b) u (units_of w p q) first t in
          let es = remove_events size (main_of w p b) u in
          let l = count_popped p.depth b.units.pending in
          let h = some_pending in
          let z = inv.counts in
          record {
            lies = record { runs = n.runs; pending = rw n.units (lies_popped w (units_place p) b.units.pending inv.lies.pending h) };
            counts = rw n.units (omega arith);
            branch = ap (λ (a : Main). (drain size f a).branch) n.state ∙ (sym (ap (λ (d : Drained). d.branch) turn) ∙ inv.branch);
            slots =
                ap (λ (a : Main). noted_all k (drain size f a).events y) n.state
                ∙ (ap (noted_all k (drain size f (remove_unit (main_of w p b) u (units_of w p q))).events) n.slots
                ∙ (sym (noted_all_append_lem k es (drain size f (remove_unit (main_of w p b) u (units_of w p q))).events x)
                ∙ (sym (ap (λ (d : Drained). noted_all k d.events x) turn) ∙ inv.slots)));
          }

      pub drain_less : (c : MainBranch) (y : Slots) → RemovedTo w p b u k x c y → c.units.pending.count < b.units.pending.count
      drain_less c y n = let h = some_pending in rw (n.units, count_popped p.depth b.units.pending) (omega arith)
