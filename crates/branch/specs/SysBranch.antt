-- `SysBranch`: the system data buffer Bsys, which drains at Rsys all the time (H.222.0, 2.4.2.3, equation 2-7).
use Rattle.std.specs.Prelude.{cond, List, Float}
use Rattle.std.specs.Float.Ieee.{lt, eq}
use Rattle.ieee.specs.Binary64.{◌⊕◌, ◌⊖◌, ◌⊗◌, ◌⊘◌, -∞, 0f, 1f, 8f, 500f, 1536f, 80000f}
use Rattle.ieee.specs.MaxMin.{max_of}
use Rattle.events.specs.declared.Event.{Event}
use Rattle.events.specs.declared.Event.TheVariants.{Overflow}
use Rattle.events.specs.Event.{when}
use Rattle.branch.specs.declared.Run.{Run}
use Rattle.branch.specs.declared.sys_branch.SysBranch.{SysBranch}

abbrev pub new_sys : SysBranch
new_sys = record { fullness = 0f; last_time = -∞; peak = 0f }

-- Rsys = max(80000, transport_rate × 8 / 500) bit/s, in bytes a second, from the transport rate in bytes a second
unfoldable pub rsys_of : Float → Float
rsys_of rate = max_of (rate ⊗ 8f ⊘ 500f) 80000f ⊘ 8f

-- the first run starts the clock
unfoldable pub since : SysBranch → Float → Float
since s t0 = cond (eq s.last_time -∞) t0 s.last_time

-- the idle gap drains
unfoldable pub idled : SysBranch → Float → Float → Float
idled s t0 rsys = max_of (s.fullness ⊖ rsys ⊗ max_of (t0 ⊖ since s t0) 0f) 0f

-- then the run fills, and drains over its window
unfoldable pub filled : SysBranch → Run → Float → Float
filled s r rsys = max_of (idled s r.t0 rsys ⊕ r.bytes ⊖ rsys ⊗ max_of (r.t1 ⊖ r.t0) 0f) 0f

unfoldable pub push_sys : SysBranch → Run → Float → SysBranch
push_sys s r rsys = record { fullness = filled s r rsys; last_time = r.t1; peak = max_of s.peak (filled s r rsys) }

unfoldable pub sys_events : SysBranch → Run → Float → List Event
sys_events s r rsys = when (lt (1536f ⊕ 1f) (filled s r rsys)) (Overflow (filled s r rsys))
