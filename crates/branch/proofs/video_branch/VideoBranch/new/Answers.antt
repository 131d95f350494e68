-- `branch::video_branch::VideoBranch::new` meets its contract. Assumes nothing.
use lib.Ieee.{of_bits}
use Rattle.branch.specs.VideoInWork.{new_branch}
use Rattle.branch.proofs.video_branch.VideoBranch.new.Goals as goal

pub returns : goal.returns
unfolding new_branch of_bits
returns c = rw c.new.ensures
