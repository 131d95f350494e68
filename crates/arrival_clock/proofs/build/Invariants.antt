-- `arrival_clock::build` meets its contract. The loop's invariant: the packets that are left lead to where all lead from the start. Assumes nothing.
use Prim.Native.Nat.{◌-◌}
use Rattle.arrival_clock.specs.Clock.{parses_from, pass_over}
use Rattle.arrival_clock.proofs.Turns.{Leads}
use Rattle.arrival_clock.proofs.build.Given as goal

abbrev pub invariant-loop-k : goal.invariant-loop-k
invariant-loop-k l = Leads l.pcr_pid l.initial.intervals l.layout l.bytes l.count (pass_over l.pcr_pid l.initial.intervals.depth l.initial.intervals.times.now l.initial.intervals.places.now (parses_from l.layout l.bytes 0 l.count)) l.k l.pass l.intervals

abbrev pub decreases-loop-k : goal.decreases-loop-k
decreases-loop-k l = l.count - l.k
