-- `leaf_record` meets its contract: each return is a case of `record_of`. Assumes nothing.
use Rattle.leaves.proofs.RecordCases.{records_refused}
use Rattle.leaves.proofs.report_leaf.leaf_record.Goals as goal

pub returns-in-Err : goal.returns-in-Err
returns-in-Err c =
    records_refused _ _ c.if-report-ne-REPORT_WORDS.false c.if-line-ne-LINE_WORDS.false c.record-recorded.result (rw (c.report_at.ensures, c.violation_at.ensures) at c.record-recorded.ensures.0) _ c.in-Err.is _ c.number-in-Err.ensures
