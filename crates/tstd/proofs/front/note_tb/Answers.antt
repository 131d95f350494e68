-- `note_tb` meets its contract. Assumes nothing.
use Rattle.tstd.proofs.Buffers.{tb_noted}
use Rattle.tstd.proofs.front.note_tb.Goals as goal

pub returns : goal.returns
returns c = tb_noted _ _ _ _ _ c.note_when.ensures c.note_when-2.ensures
