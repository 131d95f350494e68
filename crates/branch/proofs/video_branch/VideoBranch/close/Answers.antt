-- `branch::video_branch::VideoBranch::close` meets its contract. Assumes nothing.
use mathlib.Core.Path.{sym, ◌∙◌}
use mathlib.Core.Bool.{true≢false}
use Rattle.branch.proofs.VideoFeeding.{units_closed}
use Rattle.branch.proofs.VideoSteps.{ready_is, layout_apart}
use Rattle.branch.proofs.video_branch.VideoBranch.close.Goals as goal

pub returns : goal.returns
returns c =
    let r = ready_is c.args.work.now _ _ _ (sym c.ready.ensures ∙ c.if-not-ready.false) in
    record {
      closes = λ h. units_closed _ _ _ _ r.lies (layout_apart _) _ _ (rw c.layout.ensures at c.close.ensures);
      otherwise = λ h. absurd (true≢false (sym (sym c.ready.ensures ∙ c.if-not-ready.false) ∙ h));
    }
