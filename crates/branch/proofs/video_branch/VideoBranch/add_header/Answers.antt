-- `branch::video_branch::VideoBranch::add_header` meets its contract. Assumes nothing.
use Rattle.branch.proofs.VideoFeeding.{mark_refused}
use Rattle.branch.proofs.video_branch.VideoBranch.add_header.Goals as goal

pub returns-then-self-m : goal.returns-then-self-m
returns-then-self-m c = mark_refused _ c.args.work.now _ _ _ c.requires.apart c.if-run.false _ c.requires.video_lies c.if-self-m.true
