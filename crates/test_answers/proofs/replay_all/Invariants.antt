-- `replay_all` keeps within the list. Assumes nothing.
use Rattle.std.proofs.Common.{◌≤◌, length}
use Rattle.test_answers.proofs.replay_all.Given as goal

abbrev pub invariant-loop-cases : goal.invariant-loop-cases
invariant-loop-cases l = l.bytes ≤ length l.list
