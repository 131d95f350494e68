-- `MainBranch`: the main buffer Bn, from which whole access units are removed at their decode times (H.222.0, 2.4.2.3), with the
-- unit whose bytes still arrive; and one step of its chain. The queues are lists here; depth is how many entries each may have.
use Rattle.std.specs.Prelude.{ℕ, ◌+◌, Bool, true, false, cond, List, [], ◌∷◌, ◌++◌, Float, Option, None}
use Rattle.std.specs.Float.Ieee.{lt}
use Rattle.ieee.specs.Binary64.{◌⊕◌, ◌⊖◌, +∞, 0f, 1f}
use Rattle.ieee.specs.MaxMin.{max_of, min_of}
use Rattle.events.specs.declared.Event.{Event}
use Rattle.events.specs.declared.Event.TheVariants.{Overflow}
use Rattle.events.specs.Event.{when}
use Rattle.branch.specs.declared.Run.{Run}
use Rattle.branch.specs.declared.AccessUnit.{AccessUnit}
use Rattle.branch.specs.declared.Delivered.{Delivered}
unfoldable pub use Rattle.branch.specs.Units.{open_of, stamp_of, grown}
use Rattle.branch.specs.Units.{Waiting, Queued, close_units, open_units, unit_events}
use Rattle.branch.specs.CumulativeIn.{Inflow, settle, arrived_by, final_total, push_run, run_refused}

pub record Main : Type 0 where
  pub inflow : Inflow
  pub pending : List AccessUnit
  pub open_au : Option AccessUnit
  pub removed : Float
  pub required : Float
  pub peak : Float
  -- the chain's figures
  pub units : ℕ
  pub max_delay : Float

unfoldable pub new_main : Main
new_main = record { inflow = record { runs = []; settled = 0f }; pending = []; open_au = None; removed = 0f; required = 0f; peak = 0f; units = 0; max_delay = 0f }

-- ---- drain

pub record Drained : Type 0 where
  pub branch : Main
  pub events : List Event

-- the removal of a unit: size is BSn, arrived what has arrived by the decode time, required what all units up to this one hold
unfoldable pub removal_events : Float → Float → Float → Float → AccessUnit → List Event
removal_events size arrived fullness required u =
    when (lt (size ⊕ 1f) fullness) (Overflow fullness) ++ unit_events arrived required u

unfoldable pub remove_events : Float → Main → AccessUnit → List Event
remove_events size b u =
    removal_events size (arrived_by b.inflow u.decode_time) (arrived_by b.inflow u.decode_time ⊖ b.removed) (b.required ⊕ u.bytes) u

-- rest is what is pending behind the unit
unfoldable pub remove_unit : Main → AccessUnit → List AccessUnit → Main
remove_unit b u rest =
    record {
      inflow = settle b.inflow u.decode_time;
      pending = rest;
      open_au = b.open_au;
      removed = min_of (b.required ⊕ u.bytes) (arrived_by b.inflow u.decode_time);
      required = b.required ⊕ u.bytes;
      peak = max_of b.peak (arrived_by b.inflow u.decode_time ⊖ b.removed);
      units = b.units + 1;
      max_delay = max_of b.max_delay (u.decode_time ⊖ u.first_input_time);
    }

abbrev pub after : List Event → Drained → Drained
after es d = record { branch = d.branch; events = es ++ d.events }

-- every pending removal with a decode time up to the frontier, in queue order
unfoldable pub drain_from : Float → Float → List AccessUnit → Main → Drained
drain_from size frontier [] b = record { branch = b; events = [] }
drain_from size frontier (u ∷ us) b =
    cond (lt frontier u.decode_time) (record { branch = b; events = [] })
    (after (remove_events size b u) (drain_from size frontier us (remove_unit b u us)))

unfoldable pub drain : Float → Float → Main → Drained
drain size frontier b = drain_from size frontier b.pending b

-- ---- finish

unfoldable pub final_fullness : Main → Float
final_fullness b = final_total b.inflow ⊖ b.removed

unfoldable pub at_peak : Main → Float → Main
at_peak b peak =
    record {
      inflow = b.inflow;
      pending = b.pending;
      open_au = b.open_au;
      removed = b.removed;
      required = b.required;
      peak = max_of b.peak peak;
      units = b.units;
      max_delay = b.max_delay;
    }

-- the fullness of all that arrives
unfoldable pub look_at_end : Float → Main → Drained
look_at_end size b = record { branch = at_peak b (final_fullness b); events = when (lt (size ⊕ 1f) (final_fullness b)) (Overflow (final_fullness b)) }

-- the end: every removal, then that fullness
unfoldable pub finish : Float → Main → Drained
finish size b = after (drain size +∞ b).events (look_at_end size (drain size +∞ b).branch)

-- ---- what a packet delivers

-- a push to a queue of depth entries is refused, and leaves the branch as it is
pub record Fed : Type 0 where
  pub full : Bool
  pub branch : Main

abbrev pub refused : Main → Fed
refused b = record { full = true; branch = b }

abbrev pub fed : Main → Fed
fed b = record { full = false; branch = b }

-- a refusal ends the step
unfoldable pub and_then : Fed → (Main → Fed) → Fed
and_then f g = cond f.full f (g f.branch)

-- the units of a branch
abbrev pub waiting : Main → Waiting
waiting b = record { pending = b.pending; open_au = b.open_au; units = b.units; max_delay = b.max_delay }

abbrev pub with_waiting : Main → Waiting → Main
with_waiting b x =
    record {
      inflow = b.inflow;
      pending = x.pending;
      open_au = x.open_au;
      removed = b.removed;
      required = b.required;
      peak = b.peak;
      units = x.units;
      max_delay = x.max_delay;
    }

abbrev pub queued_to : Main → Queued → Fed
queued_to b q = record { full = q.full; branch = with_waiting b q.units }

-- the open unit becomes a pending one
unfoldable pub close_au : ℕ → Main → Fed
close_au depth b = queued_to b (close_units depth (waiting b))

-- a stamp closes the open unit, and opens the next
unfoldable pub open_unit : ℕ → Option AccessUnit → Main → Fed
open_unit depth o b = queued_to b (open_units depth o (waiting b))

-- a run: its bytes are the open unit's too
unfoldable pub add_bytes : ℕ → Run → Main → Fed
add_bytes depth r b =
    cond (run_refused depth b.inflow r) (refused b)
    (fed
    (record {
      inflow = push_run b.inflow r;
      pending = b.pending;
      open_au = grown r.bytes b.open_au;
      removed = b.removed;
      required = b.required;
      peak = b.peak;
      units = b.units;
      max_delay = b.max_delay;
    }))

-- 0 bytes are no run
unfoldable pub add_run : ℕ → Run → Main → Fed
add_run depth r b = cond (lt 0f r.bytes) (add_bytes depth r b) (fed b)

-- the header bytes up to the stamp's end, those behind, and the content
unfoldable pub deliver : ℕ → Delivered → Main → Fed
deliver depth d b =
    and_then (open_unit depth (stamp_of d) b) (λ m. and_then (add_run depth d.head m) (λ n. and_then (add_run depth d.rest n) (add_run depth d.body)))

-- ---- one step of a chain: a packet that arrives at t, or the end

pub record Step : Type 0 where
  pub full : Bool
  pub branch : Main
  pub events : List Event

unfoldable pub packet_step : ℕ → Delivered → Drained → Step
packet_step depth d x = record { full = (deliver depth d x.branch).full; branch = (deliver depth d x.branch).branch; events = x.events }

unfoldable pub end_step : Float → Fed → Step
end_step size f =
    cond f.full (record { full = true; branch = f.branch; events = [] })
    (record { full = false; branch = (finish size f.branch).branch; events = (finish size f.branch).events })

unfoldable pub main_step : Float → ℕ → Delivered → Bool → Float → Main → Step
main_step size depth d end t b = cond end (end_step size (close_au depth b)) (packet_step depth d (drain size t b))
