-- The main branch with its open unit within bounds: a unit is closed and another opened, runs come, and so one packet's step and the end.
-- Assumes nothing.
use Prim.Native.Nat.{ℕ, suc, ◌+◌, ◌≤◌}
use native.Mathlib.Nat.{le_trans, le_refl, add-le-add, le-add_right}
use native.Mathlib.Omega.{arith}
use mathlib.Core.Path.{◌≡◌, refl, subst, sym}
use mathlib.Core.Bool.{Bool, true, false, cond, true≢false}
use mathlib.Core.List.{List, [], ◌∷◌, ◌++◌}
use lib.Dec.{lit≤}
use lib.Ieee.{Float, lt, of_bits}
use Rattle.std.specs.Prelude.{Option}
use Rattle.branch.specs.declared.AccessUnit.{AccessUnit}
use Rattle.branch.specs.declared.Delivered.{Delivered}
use Rattle.branch.specs.declared.Run.{Run}
use Rattle.branch.specs.CumulativeIn.{push_run, run_refused}
use Rattle.branch.specs.Units.{Waiting, with_open}
use Rattle.branch.specs.MainBranch.{Main, Fed, fed, refused, and_then, waiting, with_waiting, close_au, open_unit, grown, add_bytes, add_run, stamp_of, deliver, drain, drain_from, after, remove_events, remove_unit, finish, packet_step, end_step, main_step, Step}
use Rattle.bounds.specs.Events.{EventsIn, FewEvents, no_events}
use Rattle.bounds.specs.Main.{MainBounded, SizeIn}
use Rattle.bounds.specs.Runs.{RunIs, byte_limit}
use Rattle.bounds.proofs.Main.{push_main, pend_main, drain_main, finish_main}
use Rattle.bounds.specs.Figures.{MainFigures}
use Rattle.bounds.proofs.Figures.{main_figures}
use Rattle.bounds.proofs.MainCount.{drain_few, finish_main_few}
use Rattle.bounds.proofs.Windows.{run_some}
use Rattle.model_bounds.specs.Chain.{OpenIn, MainHolds}
use Rattle.model_bounds.proofs.Open.{RunIn, no_run, a_run, StampIn, DeliveredIn, open_more, open_grows, closed_few, few_more, no_events_few}
use Rattle.model_bounds.proofs.Steps.{TakesUnits, UnitsIn, units_closed, units_opened, Kept, kept_more, delivered}

-- the open unit is no part of the bounds
with_open_lem : {n q p : ℕ} (b : Main) (o : Option AccessUnit) → MainBounded n q p b → MainBounded n q p (with_waiting b (with_open (waiting b) b.pending o))
with_open_lem b o m =
    record {
      few = m.few;
      units_few = m.units_few;
      inflow = m.inflow;
      removed = m.removed;
      whole = m.whole;
      required = m.required;
      pending = m.pending;
      counted = m.counted;
      peak = m.peak;
      delay = m.delay;
    }

-- a branch within bounds that has removed u units
abbrev pub MainKept : ℕ → ℕ → ℕ → Main → Type 0
MainKept = Kept (λ (b : Main). b.units) MainHolds

pub main_more : (N k N' k' : ℕ) (b : Main) → N ≤ N' → k ≤ k' → MainHolds N k b → MainHolds N' k' b
main_more N k N' k' b h g m =
    record {
      bytes = m.bytes;
      closed_bytes = m.closed_bytes;
      closed_units = m.closed_units;
      few = le_trans m.few h;
      bounded = m.bounded;
      open_unit = open_more m.bytes k' (le_refl m.bytes) g m.open_unit;
    }

-- ---- the open unit is closed, and another opened
takes : {n : ℕ} (b : Main) → TakesUnits n (λ q p x. MainBounded n q p (with_waiting b x))
takes b =
    record {
      any_open = λ x o m. with_open_lem (with_waiting b x) o m;
      pended = λ x w j o i few m. with_open_lem (with_waiting b (with_open x (x.pending ++ (w ∷ [])) x.open_au)) o (pend_main (with_waiting b x) w m i (le_trans few m.few));
    }

module _ {u N k : ℕ} (b : Main) (m : MainKept u N k b) where
  -- its units
  units_in : UnitsIn m.holds.bytes (λ q p x. MainBounded m.holds.bytes q p (with_waiting b x)) u k (waiting b)
  units_in =
      record {
        closed_bytes = m.holds.closed_bytes;
        closed_units = m.holds.closed_units;
        bounded = m.holds.bounded;
        open_unit = m.holds.open_unit;
        same = m.same;
      }

  -- the branch with other units
  with_units : {h : ℕ} {x : Waiting} → UnitsIn m.holds.bytes (λ q p x. MainBounded m.holds.bytes q p (with_waiting b x)) u h x
      → MainKept u N h (with_waiting b x)
  with_units w =
      record {
        holds = record {
          bytes = m.holds.bytes;
          closed_bytes = w.closed_bytes;
          closed_units = w.closed_units;
          few = m.holds.few;
          bounded = w.bounded;
          open_unit = w.open_unit;
        };
        same = w.same;
      }

pub main_closed : {u N k : ℕ} (depth : ℕ) (b : Main) → MainKept u N k b → MainKept u N k (close_au depth b).branch
unfolding close_au
main_closed depth b m = with_units b m (units_closed (takes b) depth (waiting b) (units_in b m))

main_opened : {u N k : ℕ} (depth : ℕ) (o : Option AccessUnit) (b : Main) → StampIn o → MainKept u N k b → MainKept u N (suc k) (open_unit depth o b).branch
unfolding open_unit
main_opened depth o b s m = with_units b m (units_opened (takes b) depth o (waiting b) s (units_in b m))

-- ---- a run comes
module _ {u N k j : ℕ} (depth : ℕ) (r : Run) (i : RunIs r j) (few : N + j ≤ byte_limit) (b : Main) (m : MainKept u N k b) where
  enough : m.holds.bytes + j ≤ byte_limit
  enough = both m.holds.bytes N j byte_limit m.holds.few few
    where
      both : (n N j l : ℕ) → n ≤ N → N + j ≤ l → n + j ≤ l
      both n N j l h g = omega arith

  abbrev pushed : Main
  pushed =
      record {
        inflow = push_run b.inflow r;
        pending = b.pending;
        open_au = grown r.bytes b.open_au;
        removed = b.removed;
        required = b.required;
        peak = b.peak;
        units = b.units;
        max_delay = b.max_delay;
      }

  run_kept : MainKept u (N + j) k (add_bytes depth r b).branch
  unfolding add_bytes
  run_kept = go (run_refused depth b.inflow r)
    where
      go : (t : Bool) → MainKept u (N + j) k (cond t (refused b) (fed pushed)).branch
      go true = kept_more main_more (N + j) k (le-add_right N j) (le_refl k) m
      go false =
          record {
            holds = record {
              bytes = m.holds.bytes + j;
              closed_bytes = m.holds.closed_bytes;
              closed_units = m.holds.closed_units;
              few = add-le-add m.holds.few (le_refl j);
              bounded = with_open_lem (record { inflow = push_run b.inflow r; open_au = b.open_au; removed = b.removed; required = b.required; pending = b.pending; peak = b.peak; max_delay = b.max_delay; units = b.units })
                  (grown r.bytes b.open_au) (push_main b r m.holds.bounded i enough);
              open_unit = open_grows r.bytes j j i.bytes (le_refl j) enough m.holds.open_unit;
            };
            same = m.same;
          }

main_run : {u N k j : ℕ} (depth : ℕ) (r : Run) (b : Main) → RunIn r j → N + j ≤ byte_limit → MainKept u N k b → MainKept u (N + j) k (add_run depth r b).branch
unfolding add_run of_bits lt
main_run {u} {N} {k} depth r b (no_run e) few m = rw e (kept_more main_more (N + 0) k (le-add_right N 0) (le_refl k) m)
main_run depth r b (a_run i) few m = simp (run_some i).1 (run_kept depth r i few b m)

-- ---- what a packet delivers
pub main_delivered : {u N k i j l : ℕ} (depth : ℕ) (d : Delivered) (b : Main) → DeliveredIn i j l d → N + i + j + l ≤ byte_limit → MainKept u N k b
    → MainKept u (N + i + j + l) (suc k) (deliver depth d b).branch
unfolding deliver and_then
main_delivered depth d b x few m =
    delivered main_more (λ (f : Fed). f.full) (λ (f : Fed). f.branch) _ _ _ (open_unit depth (stamp_of d) b) (add_run depth d.head) (add_run depth d.rest) (add_run depth d.body) few
    (main_opened depth (stamp_of d) b x.stamp m) (λ y less o. main_run depth d.head y x.head less o)
    (λ y less o. main_run depth d.rest y x.rest less o) (λ y less o. main_run depth d.body y x.body less o)

-- ---- the removals up to a time leave the open unit
drain_open : (size t : Float) (us : List AccessUnit) (b : Main) → (drain_from size t us b).branch.open_au ≡ b.open_au
unfolding drain_from remove_unit
drain_open size t [] b = refl
drain_open size t (w ∷ us) b = go (lt t w.decode_time) (drain_open size t us (remove_unit b w us))
  where
    go : (z : Bool) → (drain_from size t us (remove_unit b w us)).branch.open_au ≡ (remove_unit b w us).open_au
        → (cond z (record { branch = b; events = [] }) (after (remove_events size b w) (drain_from size t us (remove_unit b w us)))).branch.open_au ≡ b.open_au
    go true e = refl
    go false e = e

main_drained : {N k : ℕ} (size t : Float) (b : Main) → SizeIn size → MainHolds N k b → MainHolds N k (drain size t b).branch
unfolding drain
main_drained {N} {k} size t b g m =
    record {
      bytes = m.bytes;
      closed_bytes = m.closed_bytes;
      closed_units = m.closed_units;
      few = m.few;
      bounded = (drain_main size t b g m.bounded).branch;
      open_unit = subst (OpenIn m.bytes k m.closed_bytes m.closed_units) (sym (drain_open size t b.pending b)) m.open_unit;
    }

-- ---- a packet
pub record MainStepHolds (u N k : ℕ) (s : Step) : Type 0 where
  pub holds : MainHolds N k s.branch
  pub events : EventsIn s.events
  pub few : FewEvents 1 u s.events s.branch.units

pub main_packet : {N k i j l : ℕ} (size : Float) (depth : ℕ) (d : Delivered) (t : Float) (b : Main) → SizeIn size → DeliveredIn i j l d → N + i + j + l ≤ byte_limit → MainHolds N k b
    → MainStepHolds b.units (N + i + j + l) (suc k) (main_step size depth d false t b)
unfolding main_step packet_step
main_packet {N} {k} size depth d t b g x few m =
    let c = (drain size t b).branch in
    let z = main_delivered depth d c x few (record { holds = main_drained size t b g m; same = refl }) in
    record {
      holds = z.holds;
      events = (drain_main size t b g m.bounded).events;
      few = subst (FewEvents 1 b.units (drain size t b).events) (sym z.same) (few_more 1 (lit≤ tt) (drain_few size t b));
    }

-- ---- the end
pub record MainEndHolds (u k : ℕ) (s : Step) : Type 0 where
  pub figures : s.full ≡ false → MainFigures k s.branch
  pub events : EventsIn s.events
  pub few : FewEvents 1 u s.events s.branch.units

figures_more : {p k : ℕ} {b : Main} → p ≤ k → MainFigures p b → MainFigures k b
figures_more h f = record { peak = f.peak; max_delay = f.max_delay; units = le_trans f.units h }

end_by : {u N k : ℕ} (size : Float) (f : Fed) → SizeIn size → MainKept u N k f.branch → (z : Bool) → f.full ≡ z → MainEndHolds u k (end_step size f)
unfolding end_step
end_by {u} {N} {k} size f g m true z =
    simp z
    (record {
      figures = λ e. absurd (true≢false e);
      events = no_events;
      few = subst (FewEvents 1 u []) (sym m.same) (no_events_few 1 u);
    })
end_by {u} {N} {k} size f g m false z =
    let d = finish_main size f.branch g m.holds.bounded in
    simp z
    (record {
      figures = λ e. figures_more (closed_few m.holds.open_unit) (main_figures d.branch);
      events = d.events;
      few = subst (λ (v : ℕ). FewEvents 1 v (finish size f.branch).events (finish size f.branch).branch.units) m.same (finish_main_few size f.branch);
    })

pub main_end : {N k : ℕ} (size : Float) (depth : ℕ) (d : Delivered) (t : Float) (b : Main) → SizeIn size → MainHolds N k b
    → MainEndHolds b.units k (main_step size depth d true t b)
unfolding main_step
main_end size depth d t b g m =
    end_by size (close_au depth b) g (main_closed depth b (record { holds = m; same = refl })) (close_au depth b).full refl
