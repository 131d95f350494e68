-- `stream_row` meets its contract: the figures of a main branch. Assumes nothing.
use Rattle.std.proofs.Common.{refl}
use Rattle.tstd.specs.Figures.{row_by}
use Rattle.tstd.proofs.figures.stream_row.Goals as goal

pub returns-in-Main : goal.returns-in-Main
unfolding row_by
returns-in-Main c = rw (c.in-Main.is, c.to_u64.ensures, c.to_u64-in-Main.ensures) refl
