-- The units of a branch whose queue stands in a ring of the work, as a list; what the functions of `Units` ensure.
use Rattle.std.specs.Prelude.{ℕ, ◌+◌, ◌*◌, ◌<◌, ◌≡◌, ⊤, Option, Some, None, Result, List, [], ◌∷◌, get_or, is_err, Float}
use Rattle.std.specs.Float.{nan}
use Rattle.ieee.specs.Binary64.{◌⊖◌, 0f}
use Rattle.ieee.specs.MaxMin.{max_of}
use Rattle.branch.specs.declared.AccessUnit.{AccessUnit}
use Rattle.branch.specs.declared.QueueFull.{QueueFull}
use Rattle.branch.specs.declared.queue.Place.{Place}
use Rattle.branch.specs.declared.queue.Ring.{Ring}
use Rattle.branch.specs.declared.units.Units.{Units}
use Rattle.branch.specs.Queue.{Lies, SameOutside, floats_at, entries, pop_def}
use Rattle.branch.specs.Units.{grown, Waiting, Queued, due_now}

-- an entry's floats are the decode time, the bytes and the first input time
abbrev pub unit_of : List Float → AccessUnit
unit_of e = record { decode_time = get_or e 0 nan; bytes = get_or e 1 nan; first_input_time = get_or e 2 nan }

abbrev pub floats_of_unit : AccessUnit → List Float
floats_of_unit u = u.decode_time ∷ (u.bytes ∷ (u.first_input_time ∷ []))

unfoldable pub unit_at : List Float → ℕ → AccessUnit
unit_at w p = unit_of (floats_at 3 w p)

unfoldable pub waiting_of : List Float → Place → Units → Waiting
waiting_of w p u =
    record { pending = entries 3 unit_at w p u.pending; open_au = u.open_au; units = u.access_units; max_delay = u.max_delay_seconds }

-- before the first packet
abbrev pub no_entries : Ring
no_entries = record { head = 0; count = 0 }

abbrev pub no_units : Units
no_units = record { pending = no_entries; open_au = None; access_units = 0; max_delay_seconds = 0f }

-- units that come to x, where a push was or was not refused; v is the work after it
pub record UnitsTo (w : List Float) (p : Place) (u : Units) (x : Queued) (r : Result ⊤ QueueFull) (u' : Units) (v : List Float) : Type 0 where
  pub lies : Lies 3 v p u'.pending
  pub outside : SameOutside p.base (p.base + 3 * p.depth) w v
  pub full : is_err r ≡ x.full
  pub state : waiting_of v p u' ≡ x.units
  pub count : u'.access_units ≡ u.access_units

-- with more bytes of the open unit
abbrev pub grown_units : Units → Float → Units
grown_units u bytes =
    record {
      pending = u.pending;
      open_au = grown bytes u.open_au;
      access_units = u.access_units;
      max_delay_seconds = u.max_delay_seconds;
    }

-- the first pending unit
pub record FirstOf (w : List Float) (p : Place) (q : Ring) (r : Option AccessUnit) : Type 0 where
  pub none : r ≡ None → entries 3 unit_at w p q ≡ []
  pub some : (u : AccessUnit) → r ≡ Some u → (0 < q.count) × (entries 3 unit_at w p q ≡ u ∷ entries 3 unit_at w p (pop_def p.depth q))

-- the same, where it is due
pub record DueOf (w : List Float) (p : Place) (q : Ring) (frontier : Float) (r : Option AccessUnit) : Type 0 where
  pub test : r ≡ due_now (entries 3 unit_at w p q) frontier
  pub some : (u : AccessUnit) → r ≡ Some u → 0 < q.count

-- without the first pending unit, u
abbrev pub removed_units : ℕ → Units → AccessUnit → Units
removed_units depth q u =
    record {
      pending = pop_def depth q.pending;
      open_au = q.open_au;
      access_units = q.access_units + 1;
      max_delay_seconds = max_of q.max_delay_seconds (u.decode_time ⊖ u.first_input_time);
    }
