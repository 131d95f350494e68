-- `branch::video_branch::VideoBranch::finish` meets its contract. Assumes nothing.
use mathlib.Core.Path.{sym, ap, ◌∙◌}
use mathlib.Core.Bool.{true≢false}
use Rattle.std.specs.Prelude.{is_err}
use Rattle.branch.proofs.VideoFeeding.{units_closed}
use Rattle.branch.proofs.VideoSteps.{ready_is, layout_apart, end_refused, end_reached}
use Rattle.branch.proofs.video_branch.VideoBranch.finish.Goals as goal

pub returns-in_err-close : goal.returns-in_err-close
returns-in_err-close c =
    let q = sym c.ready.ensures ∙ c.if-not-ready.false in
    let r = ready_is c.args.work.now _ _ _ q in
    let closed = units_closed _ _ _ _ r.lies (layout_apart _) _ _ (rw c.layout-m.ensures at c.close.ensures) in
    record {
      ends = λ h. end_refused _ _ _ _ _ _ _ _ _ closed (ap is_err c.in_err-close.was) c.from_residual.ensures.0;
      otherwise = λ h. absurd (true≢false (sym q ∙ h));
    }

pub returns : goal.returns
returns c =
    let q = sym c.ready.ensures ∙ c.if-not-ready.false in
    let r = ready_is c.args.work.now _ _ _ q in
    let closed = units_closed _ _ _ _ r.lies (layout_apart _) _ _ (rw c.layout-m.ensures at c.close.ensures) in
    record {
      ends = λ h. end_reached _ _ _ _ _ _ _ _ closed (ap is_err c.in_ok-close.was) _ _ _ _ (rw c.max.ensures) (rw c.layout-m.ensures at c.advance.ensures) c.note_when.ensures;
      otherwise = λ h. absurd (true≢false (sym q ∙ h));
    }
