-- `branch::leak::Leak::seen` meets its contract. Assumes nothing.
use lib.Ieee.{of_bits}
use Rattle.branch.specs.VideoBranch.{since_seen, longest_seen}
use Rattle.branch.specs.VideoInWork.{seen_state}
use Rattle.branch.proofs.leak.Leak.seen.Goals as goal

pub returns-then-fullness : goal.returns-then-fullness
unfolding seen_state since_seen longest_seen of_bits
returns-then-fullness c = rw (c.busy_from.ensures, c.max-mb_peak.ensures) (simp c.if-fullness.true)

pub returns : goal.returns
unfolding seen_state since_seen longest_seen of_bits
returns c = rw (c.longest_until.ensures, c.max-mb_peak.ensures) (simp c.if-fullness.false)
