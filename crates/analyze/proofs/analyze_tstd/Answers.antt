-- `analyze::analyze_tstd` meets its contract: the core's report is stored, and its figures are written to the row.
use mathlib.Core.Path.{refl}
use Rattle.std.proofs.lemmas.Result.{err_from_is_err_and}
use Rattle.analyze.proofs.Lent.{count_fits, analyzed, refused}
use Rattle.analyze.proofs.analyze_tstd.Goals as goal

pub fill_row-requires : goal.fill_row-requires
fill_row-requires c = count_fits _ _ _ _ _ _ _ _ _ c.in_ok-figures.figures c.replay-out.ensures c.in_ok-figures.was

pub returns-in_err-figures : goal.returns-in_err-figures
returns-in_err-figures c =
    let p = err_from_is_err_and c.from_residual.result c.from_residual.ensures.1 in
    rw (p.1, p.2) (refused _ _ _ _ _ _ _ _ _ _ c.replay-out.ensures _ c.in_err-figures.was refl)

pub returns : goal.returns
returns c = analyzed _ _ _ _ _ _ _ _ _ _ c.replay-out.ensures c.in_ok-figures.figures c.in_ok-figures.was c.fill_row.ensures
