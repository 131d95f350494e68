-- `write_answer` meets its contract, by the outcome.
use Rattle.std.proofs.Common.{◌∙◌, ap}
use Rattle.words.specs.Answer.{answer_word, row_told, report_told}
use Rattle.words.proofs.answer_words.write_answer.Goals as goal
use Rattle.words.proofs.answer_words.write_answer.Goals.{in-Ok, in_default}

pub returns : goal.returns
unfolding row_told report_told
returns c =
    let word = c.answer_word.ensures ∙ ap answer_word c.told.ensures in
    elim c.match-answer.branch [
      | in-Ok w ↦ record { word = word; row = rw w.in-Ok.is (w.row-is ∙ w.write_row.ensures); report = rw w.in-Ok.is (w.report-is ∙ w.write_report.ensures) }
      | in_default w ↦ record { word = word; row = rw w.in_default.is w.row-is; report = rw w.in_default.is w.report-is }
    ]
