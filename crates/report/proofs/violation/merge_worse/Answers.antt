-- `merge_worse` meets its contract. The case of seconds is told here, so that another figure than the worse of the two is refused by what it is.
use Rattle.std.proofs.Common.{◌≡◌, sym, ap, ◌∙◌}
use Rattle.report.specs.declared.violation.Figure.TheVariants.{Seconds}
use Rattle.report.specs.Violation.{fields_of, worse, with_figure}
use Rattle.report.proofs.Merge.{merge_like}
use Rattle.report.proofs.violation.merge_worse.Goals as goal

pub returns-in-Seconds : goal.returns-in-Seconds
returns-in-Seconds c =
    let a = c.args.a in
    let b = c.args.b in
    let like : (fields_of a).kind ≡ (fields_of b).kind = cc in
    let merged : Seconds c.in-Seconds.seconds ≡ worse (fields_of a).figure (fields_of b).figure = cc in
    c.with_seconds.ensures ∙ ap (with_figure a) merged ∙ sym (merge_like a b like)
