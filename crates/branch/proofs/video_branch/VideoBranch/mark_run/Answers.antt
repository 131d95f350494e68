-- `branch::video_branch::VideoBranch::mark_run` meets its contract. Assumes nothing.
use Rattle.branch.proofs.VideoFeeding.{mark_ok, run_marked}
use Rattle.branch.proofs.video_branch.VideoBranch.mark_run.Goals as goal

pub unwrap-requires : goal.unwrap-requires
unwrap-requires c = mark_ok _ _ _ _ _ c.requires.video_lies c.requires.apart.0 _ _ (rw c.from.ensures at c.push.ensures) c.requires.apart.1

pub returns : goal.returns
returns c = run_marked _ _ _ _ _ c.requires.video_lies c.requires.apart.0 _ _ (rw c.from.ensures at c.push.ensures) c.requires.apart.1
