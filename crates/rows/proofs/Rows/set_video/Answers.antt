-- `rows::Rows::set_video` meets its contract. Assumes nothing.
use mathlib.Core.Path.{refl}
use Rattle.rows.proofs.Rows.set_video.Goals as goal

pub returns : goal.returns
returns c = rw (c.set_video.ensures.0, c.set_video.ensures.1) refl
