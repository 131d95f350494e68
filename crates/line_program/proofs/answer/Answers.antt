-- `answer` meets its contract: within the line program's limit the replay's own is met. Assumes nothing.
use mathlib.Core.Path.{ap, ◌∙◌}
use Rattle.report.specs.Report.{empty_report}
use Rattle.tstd.specs.Core.{answer_for}
use Rattle.line_program.proofs.Line.{line_replays}
use Rattle.line_program.proofs.answer.Goals as goal

pub returns : goal.returns
returns c =
    (rw (c.config.ensures, c.new-before.ensures) at c.replay.ensures.outcome) ∙ ap (answer_for empty_report) (line_replays _ c.if-recording-gt-LONGEST_RECORDING.false)
