-- `rows::video_row::set_video` meets its contract. Assumes nothing.
use Rattle.rows.specs.Rows.{stored_video_floats, stored_video_counts}
use Rattle.branch.specs.Stores.{store_from}
use mathlib.Core.Path.{refl}
use borrow.Author.Tests.{lt-ltb}
use Rattle.rows.proofs.video_row.set_video.Goals as goal

pub returns : goal.returns
unfolding stored_video_floats stored_video_counts store_from
returns c = rw (lt-ltb _ 8 c.if-i-ge-CHAINS.false, c.set_ring.ensures, c.held-unit.ensures, c.set_leak.ensures.0, c.set_leak.ensures.1) (refl, refl)
