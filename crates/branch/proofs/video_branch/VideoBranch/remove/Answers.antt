-- `branch::video_branch::VideoBranch::remove` meets its contract. Assumes nothing.
use Rattle.branch.proofs.VideoAdvance.{removed_by}
use Rattle.branch.proofs.video_branch.VideoBranch.remove.Goals as goal

pub returns : goal.returns
returns c = removed_by _ _ _ _ _ _ _ _ c.min-self.ensures c.remove.ensures c.note_removal.ensures
