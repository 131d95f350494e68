-- `assign` meets its contract. The invariant: what the PIDs so far leave in the table. Assumes nothing.
use Rattle.std.proofs.Common.{length}
use Rattle.tstd.specs.Owners.{AssignedBy}
use Rattle.tstd.proofs.owners.assign.Given as goal

abbrev pub invariant-loop-pid : goal.invariant-loop-pid
invariant-loop-pid l = AssignedBy l.initial.owners l.pids l.indices (length l.yielded) l.owners
