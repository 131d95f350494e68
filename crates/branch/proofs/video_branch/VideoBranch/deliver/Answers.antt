-- `branch::video_branch::VideoBranch::deliver` meets its contract. Assumes nothing.
use mathlib.Core.Path.{ap}
use Rattle.std.specs.Prelude.{is_err}
use Rattle.branch.specs.VideoStep.{deliver}
use Rattle.branch.proofs.VideoFeeding.{fed_stops, fed_then, units_opened}
use Rattle.branch.proofs.video_branch.VideoBranch.deliver.Goals as goal

pub returns-in_err-open : goal.returns-in_err-open
unfolding deliver
returns-in_err-open c =
    fed_stops _ _ _ _ _ _ _ _ (units_opened _ _ _ _ c.requires.video_lies c.requires.apart _ _ _ c.open.ensures) _ (ap is_err c.in_err-open.was) c.from_residual.ensures.0

pub returns-in_err-add_header : goal.returns-in_err-add_header
unfolding deliver
returns-in_err-add_header c =
    fed_then _ _ _ _ _ _ _ _ (units_opened _ _ _ _ c.requires.video_lies c.requires.apart _ _ _ c.open.ensures) _ _ _ (ap is_err c.in_ok-open.was)
    (fed_stops _ _ _ _ _ _ _ _ c.add_header.ensures _ (ap is_err c.in_err-add_header.was) c.from_residual-in_err-add_header.ensures.0)

pub returns-in_err-add_header-2 : goal.returns-in_err-add_header-2
unfolding deliver
returns-in_err-add_header-2 c =
    fed_then _ _ _ _ _ _ _ _ (units_opened _ _ _ _ c.requires.video_lies c.requires.apart _ _ _ c.open.ensures) _ _ _ (ap is_err c.in_ok-open.was)
    (fed_then _ _ _ _ _ _ _ _ c.add_header.ensures _ _ _ (ap is_err c.in_ok-add_header.was)
    (fed_stops _ _ _ _ _ _ _ _ c.add_header-2.ensures _ (ap is_err c.in_err-add_header-2.was) c.from_residual-in_err-add_header-2.ensures.0))

pub returns : goal.returns
unfolding deliver
returns c =
    fed_then _ _ _ _ _ _ _ _ (units_opened _ _ _ _ c.requires.video_lies c.requires.apart _ _ _ c.open.ensures) _ _ _ (ap is_err c.in_ok-open.was)
    (fed_then _ _ _ _ _ _ _ _ c.add_header.ensures _ _ _ (ap is_err c.in_ok-add_header.was)
    (fed_then _ _ _ _ _ _ _ _ c.add_header-2.ensures _ _ _ (ap is_err c.in_ok-add_header-2.was) c.add_content.ensures))
