-- Bounds of the system branch.
use Rattle.std.specs.Prelude.{◌⊎◌, ◌≡◌, ◌^◌, ◌≤◌, ℕ, T, Float}
use Rattle.std.specs.Float.{binary64}
use Rattle.std.specs.Float.Ieee.{fits}
use Rattle.ieee.specs.Binary64.{ -∞}
use Rattle.ieee.specs.Interval.{In, plain, zero_float}
use Rattle.branch.specs.declared.sys_branch.SysBranch.{SysBranch}
use Rattle.bounds.specs.Runs.{WindowTime, byte_limit}

-- the transport rate, in bytes a second: 1,000 at least, and 2^24 bytes in a tick of 27 MHz at most
abbrev pub TransportRate : Float → Type 0
TransportRate x = In (plain 1000) x (plain (2 ^ 49))

-- Rsys, in bytes a second
abbrev pub slowest_sys : ℕ
slowest_sys = 10000

abbrev pub SysRate : Float → Type 0
SysRate x = In (plain slowest_sys) x (plain (2 ^ 41))

-- n bytes have come
pub record SysBounded (n : ℕ) (s : SysBranch) : Type 0 where
  pub few : n ≤ byte_limit
  pub fullness : In zero_float s.fullness (plain n)
  pub fullness_fits : T (fits binary64 s.fullness)
  pub last : (s.last_time ≡ -∞) ⊎ WindowTime s.last_time
  pub peak : In zero_float s.peak (plain n)
