-- `rows::Rows::video` meets its contract. Assumes nothing.
use Rattle.rows.proofs.Rows.video.Goals as goal

pub returns : goal.returns
returns c = c.video_of.ensures
