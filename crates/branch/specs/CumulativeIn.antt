-- `CumulativeIn`: how many bytes have arrived by a time, of runs in the order in which they came.
use Rattle.std.specs.Prelude.{ℕ, Bool, cond, ◌&&◌, Option, Some, None, List, [], ◌∷◌, ◌++◌, length, eqb, Float}
use Rattle.std.specs.Float.Ieee.{lt, le}
use Rattle.ieee.specs.Binary64.{◌⊕◌, ◌⊖◌, ◌⊗◌, ◌⊘◌, -∞, 0f, 1f}
use Rattle.branch.specs.declared.Run.{Run}

-- the runs still tracked, and the bytes of those that are spent
pub record Inflow : Type 0 where
  pub runs : List Run
  pub settled : Float

-- ---- arrived_by
-- the runs that have ended by t, from the front, go from the queue to the sum
unfoldable pub rest_at : List Run → Float → List Run
rest_at [] t = []
rest_at (r ∷ rs) t = cond (le r.t1 t) (rest_at rs t) (r ∷ rs)

unfoldable pub settled_at : List Run → Float → Float → Float
settled_at [] s t = s
settled_at (r ∷ rs) s t = cond (le r.t1 t) (settled_at rs (s ⊕ r.bytes) t) s

unfoldable pub settle : Inflow → Float → Inflow
settle i t = record { runs = rest_at i.runs t; settled = settled_at i.runs i.settled t }

-- Rust's clamp(0.0, 1.0)
unfoldable pub clamp : Float → Float
clamp x = cond (lt x 0f) 0f (cond (lt 1f x) 1f x)

unfoldable pub fraction : Run → Float → Float
fraction r t = cond (le (r.t1 ⊖ r.t0) 0f) 1f (clamp ((t ⊖ r.t0) ⊘ (r.t1 ⊖ r.t0)))

-- the sum with each run's part, up to the first run that has not begun
unfoldable pub total_of : List Run → Float → Float → Float
total_of [] s t = s
total_of (r ∷ rs) s t = cond (le t r.t0) s (total_of rs (s ⊕ r.bytes ⊗ fraction r t) t)

-- the bytes arrived by t; the inflow behind the question is `settle i t`
unfoldable pub arrived_by : Inflow → Float → Float
arrived_by i t = total_of (settle i t).runs (settle i t).settled t

-- ---- final_total
unfoldable pub bytes_from : List Run → Float → Float
bytes_from [] s = s
bytes_from (r ∷ rs) s = bytes_from rs (s ⊕ r.bytes)

unfoldable pub final_total : Inflow → Float
final_total i = i.settled ⊕ bytes_from i.runs 0f

-- ---- time_of_cumulative
-- of what is settled the instant is forgotten: the earliest time still tracked
unfoldable pub front_time : List Run → Float
front_time [] = -∞
front_time (r ∷ rs) = r.t0

unfoldable pub time_from : List Run → Float → Float → Option Float
time_from [] acc target = None
time_from (r ∷ rs) acc target =
    cond (le target (acc ⊕ r.bytes))
    (Some (r.t0 ⊕ (r.t1 ⊖ r.t0) ⊗ ((target ⊖ acc) ⊘ r.bytes)))
    (time_from rs (acc ⊕ r.bytes) target)

unfoldable pub time_of_cumulative : Inflow → Float → Option Float
time_of_cumulative i target = cond (le target i.settled) (Some (front_time i.runs)) (time_from i.runs i.settled target)

-- ---- push
unfoldable pub push_run : Inflow → Run → Inflow
push_run i r = cond (lt 0f r.bytes) (record { runs = i.runs ++ (r ∷ []); settled = i.settled }) i

-- a run of some bytes meets a queue of depth runs
unfoldable pub run_refused : ℕ → Inflow → Run → Bool
run_refused depth i r = lt 0f r.bytes && eqb (length i.runs) depth
