-- The access units of a branch: those that are pending, and the one whose bytes still arrive; and what their removals tell. The queue is
-- a list here; depth is how many entries it may have.
use Rattle.std.specs.Prelude.{ℕ, Bool, true, false, cond, List, [], ◌∷◌, ◌++◌, length, eqb, Float}
use Rattle.std.specs.Float.Ieee.{lt, le, ne}
use Rattle.std.specs.Prelude.{Option, Some, None}
use Rattle.ieee.specs.Binary64.{◌⊕◌, ◌⊖◌, -∞, 0f, 1f, 1e-6f}
use Rattle.events.specs.declared.Event.{Event}
use Rattle.events.specs.declared.Event.TheVariants.{Underflow, Delay}
use Rattle.events.specs.Event.{when}
use Rattle.branch.specs.declared.AccessUnit.{AccessUnit}
use Rattle.branch.specs.declared.Delivered.{Delivered}

-- the unit that a stamp opens: a stamp of -∞ is none
unfoldable pub open_of : AccessUnit → Option AccessUnit
open_of u = cond (ne u.decode_time -∞) (Some u) None

unfoldable pub stamp_of : Delivered → Option AccessUnit
stamp_of d = open_of (record { decode_time = d.decode_time; bytes = 0f; first_input_time = d.first_input_time })

unfoldable pub grown : Float → Option AccessUnit → Option AccessUnit
grown bytes None = None
grown bytes (Some u) = Some (record { decode_time = u.decode_time; bytes = u.bytes ⊕ bytes; first_input_time = u.first_input_time })

-- the units of a branch, with the chain's figures of them
pub record Waiting : Type 0 where
  pub pending : List AccessUnit
  pub open_au : Option AccessUnit
  pub units : ℕ
  pub max_delay : Float

-- a push to a queue of depth entries is refused, and leaves the units as they are
pub record Queued : Type 0 where
  pub full : Bool
  pub units : Waiting

abbrev pub refused : Waiting → Queued
refused x = record { full = true; units = x }

abbrev pub placed : Waiting → Queued
placed x = record { full = false; units = x }

abbrev pub with_open : Waiting → List AccessUnit → Option AccessUnit → Waiting
with_open x pending open_au = record { pending = pending; open_au = open_au; units = x.units; max_delay = x.max_delay }

-- the open unit becomes a pending one
unfoldable pub close_by : ℕ → Waiting → Option AccessUnit → Queued
close_by depth x None = placed x
close_by depth x (Some u) = cond (eqb (length x.pending) depth) (refused x) (placed (with_open x (x.pending ++ (u ∷ [])) None))

unfoldable pub close_units : ℕ → Waiting → Queued
close_units depth x = close_by depth x x.open_au

-- a stamp closes the open unit, and opens the next
abbrev pub opened : AccessUnit → Queued → Queued
opened u q = cond q.full q (placed (with_open q.units q.units.pending (Some u)))

unfoldable pub open_units : ℕ → Option AccessUnit → Waiting → Queued
open_units depth None x = placed x
open_units depth (Some u) x = opened u (close_units depth x)

-- the first unit, where it is due
unfoldable pub due_now : List AccessUnit → Float → Option AccessUnit
due_now [] frontier = None
due_now (u ∷ us) frontier = cond (le u.decode_time frontier) (Some u) None

-- the removal of a unit: arrived is what has arrived by the decode time, required what all units up to this one hold
abbrev pub unit_events : Float → Float → AccessUnit → List Event
unit_events arrived required u =
    when (lt (arrived ⊕ 1f) required) (Underflow u.decode_time (required ⊖ arrived))
    ++ when (lt (1f ⊕ 1e-6f) (u.decode_time ⊖ u.first_input_time)) (Delay u.decode_time (u.decode_time ⊖ u.first_input_time))
