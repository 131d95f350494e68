-- Bounds of access units that wait for their decode times.
use Rattle.std.specs.Prelude.{List, [], ◌∷◌, ◌+◌, ◌≤◌, ℕ, T}
use Rattle.std.specs.Float.{binary64}
use Rattle.std.specs.Float.Ieee.{fits}
use Rattle.ieee.specs.Whole.{Is}
use Rattle.fifo.specs.Bounds.{ArrivalTime}
use Rattle.branch.specs.declared.AccessUnit.{AccessUnit}
use Rattle.bounds.specs.Events.{UpTo, latest_time}

-- a unit of k bytes
pub record UnitIs (u : AccessUnit) (k : ℕ) : Type 0 where
  pub bytes : Is u.bytes k
  pub decode : UpTo latest_time u.decode_time
  pub decode_fits : T (fits binary64 u.decode_time)
  pub first_input : ArrivalTime u.first_input_time

-- units of whole bytes, which with m bytes before them are N at most
pub data Units (N : ℕ) : List AccessUnit → ℕ → Type 0 where
  no_units : {m : ℕ} → m ≤ N → Units N [] m
  a_unit : {u : AccessUnit} {us : List AccessUnit} {m : ℕ} (k : ℕ) → UnitIs u k → Units N us (m + k) → Units N (u ∷ us) m
