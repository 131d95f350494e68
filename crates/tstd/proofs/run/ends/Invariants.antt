-- `ends` meets its contract. The invariant: whatever the recording, the ends of i streams have been taken (`Through`). Assumes nothing.
use Rattle.std.proofs.Common.{ℕ, List}
use lib.Ieee.{Float}
use Rattle.packet.specs.declared.TsPacketLayout.{TsPacketLayout}
use Rattle.arrival.specs.declared.Intervals.{Intervals}
use Rattle.tstd.specs.Run.{Ready, pass_of, Through}
use Rattle.tstd.proofs.Ending.{with_chains}
use Rattle.tstd.proofs.run.ends.Given as goal

abbrev pub invariant-loop-i : goal.invariant-loop-i
invariant-loop-i l =
    (recording : List ℕ) (y : TsPacketLayout) (work : List Float) (clock : Intervals) (ready : Ready (pass_of l.config recording y l.count work clock))
    → Through (pass_of l.config recording y l.count work clock) ready 0 l.ran l.initial.work
    → Through (pass_of l.config recording y l.count work clock) ready l.i (with_chains l.ran l.chains l.slots) l.work
