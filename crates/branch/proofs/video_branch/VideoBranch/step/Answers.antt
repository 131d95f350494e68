-- `branch::video_branch::VideoBranch::step` meets its contract. Assumes nothing.
use mathlib.Core.Path.{sym, ◌∙◌}
use mathlib.Core.Bool.{true≢false}
use Rattle.branch.proofs.VideoSteps.{packet_delivered}
use Rattle.branch.proofs.video_branch.VideoBranch.step.Goals as goal

pub returns : goal.returns
returns c =
    record {
      steps = λ h. packet_delivered _ _ _ _ _ _ _ _ _ _ _ _ (rw c.layout-m.ensures at c.advance.ensures) (rw c.layout-m.ensures at c.deliver.ensures);
      otherwise = λ h. absurd (true≢false (sym (sym c.ready.ensures ∙ c.if-not-ready.false) ∙ h));
    }
