-- `end` meets its contract. Assumes nothing.
use Rattle.std.proofs.Common.{refl}
use Rattle.tstd.proofs.chain.Chain.end.Goals as goal

pub returns : goal.returns
returns c = record { scanner = refl; tb = refl; branch = rw c.note_tb.ensures at c.finish.ensures }
