-- `answer` meets its contract: each return is a case of `call_outcome`. Assumes nothing.
use mathlib.Core.Path.{sym, ◌∙◌}
use Rattle.exports.proofs.Steps.{profile_read, profile_refused, refuses, answers}
use Rattle.exports.proofs.answer.Goals as goal

pub returns-in-Ok : goal.returns-in-Ok
returns-in-Ok c =
    let read = profile_read _ _ _ _ _ _ (sym c.profile_for.ensures ∙ c.in-Ok.is) in
    answers _ _ _ _ _ _ read.1 _ _ _ (rw (read.0, c.new-before.ensures) at c.replay.ensures)

pub returns-in-Err : goal.returns-in-Err
returns-in-Err c =
    let told = profile_refused _ _ _ _ _ _ (sym c.profile_for.ensures ∙ c.in-Err.is) in
    refuses _ _ _ _ _ _ _ told.1 told.0 _ (rw c.new-before.ensures at c.refused.ensures)
