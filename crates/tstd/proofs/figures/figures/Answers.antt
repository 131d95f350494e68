-- `figures` meets its contract. The invariant: the rows of the first i streams are held. Assumes nothing.
use Rattle.std.proofs.Common.{◌≡◌, length, get_or, arith}
use Rattle.profile.specs.Config.{unused_stream}
use lib.ListN.{length-map}
use Rattle.tstd.proofs.Rows.{row_read, filled_none, filled_next, filled_all, rows_count, figures_streams, figures_system}
use Rattle.tstd.proofs.figures.figures.Goals as goal

pub loop-i-init : goal.loop-i-init
loop-i-init c = filled_none _ _ _ c.requires _ (grind (arith, length-map)) c.new-rows.ensures

pub loop-i-preserved : goal.loop-i-preserved
loop-i-preserved c =
    let a = c.args in
    let n = c.requires in
    let i = c.loop-i.i in
    let l : length a.chains ≡ 8 = grind (arith, length-map) in
    filled_next _ _ _ n _ _ _ c.loop-i-test.true (row_read a.chains (get_or a.config.streams i unused_stream) i _ _ (omega arith) c.stream_row.ensures) c.loop-i.invariant

pub returns-then-config-eq0 : goal.returns-then-config-eq0
returns-then-config-eq0 c =
    let n = c.requires in
    let l = c.loop-i in
    figures_streams _ _ _ _ _ (rows_count _ _ _ n l.invariant.size) n (filled_all _ _ _ n _ _ c.loop-i-test.false l.invariant) c.if-config-eq0.true

pub returns : goal.returns
returns c =
    let n = c.requires in
    let l = c.loop-i in
    figures_system _ _ _ _ _ (rows_count _ _ _ n l.invariant.size) n (filled_all _ _ _ n _ _ c.loop-i-test.false l.invariant) _ c.if-config-eq0.false c.system_row.ensures
