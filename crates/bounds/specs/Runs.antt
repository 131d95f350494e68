-- Bounds of a `CumulativeIn`: runs of whole bytes over windows of times, and the bytes already settled.
use Rattle.std.specs.Prelude.{List, [], ◌∷◌, ◌+◌, ◌<◌, ◌^◌, ◌≤◌, ℕ, T, Float}
use Rattle.std.specs.Float.{binary64}
use Rattle.std.specs.Float.Ieee.{fits}
use Rattle.ieee.specs.Binary64.{◌⊖◌}
use Rattle.ieee.specs.Interval.{In, minus, plain}
use Rattle.ieee.specs.Whole.{Is}
use Rattle.fifo.specs.Bounds.{shortest_span}
use Rattle.branch.specs.declared.Run.{Run}

-- a recording has so many bytes at most: those of a stream's runs, and of its access units
abbrev pub byte_limit : ℕ
byte_limit = 2 ^ 24

-- every time of a branch lies within ±2^18 s
abbrev pub TimeIn : Float → Type 0
TimeIn t = In (minus (2 ^ 18)) t (plain (2 ^ 18))

-- those of runs within ±34,818 s, as the transport buffer gives them; a window lasts 52,226 s at most
abbrev pub window_limit : ℕ
window_limit = 34818

abbrev pub WindowTime : Float → Type 0
WindowTime t = In (minus window_limit) t (plain window_limit)

abbrev pub longest_window : ℕ
longest_window = 52226

-- a run of k bytes, k above 0, over a window
pub record RunIs (r : Run) (k : ℕ) : Type 0 where
  pub bytes : Is r.bytes k
  pub positive : 0 < k
  pub start : WindowTime r.t0
  pub start_fits : T (fits binary64 r.t0)
  pub end : WindowTime r.t1
  pub span : In shortest_span (r.t1 ⊖ r.t0) (plain longest_window)

-- runs of whole bytes, which with m bytes before them are N at most
pub data RunsWithin (N : ℕ) : List Run → ℕ → Type 0 where
  no_runs : {m : ℕ} → m ≤ N → RunsWithin N [] m
  a_run : {r : Run} {rs : List Run} {m : ℕ} (k : ℕ) → RunIs r k → RunsWithin N rs (m + k) → RunsWithin N (r ∷ rs) m

-- the settled bytes are a whole number, and with those of the runs N at most
pub record InflowIn (N : ℕ) (rs : List Run) (s : Float) : Type 0 where
  pub count : ℕ
  pub settled : Is s count
  pub fit : T (fits binary64 s)
  pub runs : RunsWithin N rs count
