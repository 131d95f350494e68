-- The violation of a slot by its chain, and the first system PID.
use mathlib.Core.Path.{◌≡◌}
use Prim.Native.Nat.{ℕ, ◌-◌, ◌/◌, ◌%◌, ◌≤◌, ◌<◌}
use native.Mathlib.Omega.{arith}
use lib.ListN.{get_or}
use lib.Seq.{get_or-take}
use lib.Ieee.{Float}
use borrow.Author.Tests.{lt-ltb, le-ltb}
use Rattle.profile.specs.declared.config.TStdConfig.{TStdConfig}
use Rattle.profile.specs.Config.{unused_stream}
use Rattle.events.specs.Event.{event_of}
use Rattle.summary.specs.Violation.{stream_violation, system_violation, system_pid, violation_of, slot_violation}

module _ (c : TStdConfig) where
  pub no_system_pid : c.system_count ≡ 0 → system_pid c ≡ 0
  no_system_pid e = rw e

  pub first_system_pid : (c.system_count ≡ 0 → ⊥) → system_pid c ≡ get_or c.system_pids 0 0
  first_system_pid h = get_or-take c.system_count c.system_pids 0 0 (omega arith)

  module _ (k : ℕ) (x t : Float) where
    pub of_stream : (k - 1) / 6 < 8 → slot_violation c k x t ≡ stream_violation (get_or c.streams ((k - 1) / 6) unused_stream) (event_of ((k - 1) % 6) x t)
    unfolding slot_violation violation_of
    of_stream h = rw (lt-ltb ((k - 1) / 6) 8 h)

    pub of_system : 8 ≤ (k - 1) / 6 → slot_violation c k x t ≡ system_violation (system_pid c) (event_of ((k - 1) % 6) x t)
    unfolding slot_violation violation_of
    of_system h = rw (le-ltb ((k - 1) / 6) 8 h)
