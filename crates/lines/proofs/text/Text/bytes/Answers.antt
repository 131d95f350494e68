-- `bytes` meets its contract. Assumes nothing.
use native.Mathlib.Omega.{arith}
use Rattle.lines.proofs.Written.{next_byte}
use Rattle.lines.proofs.text.Text.bytes.Goals as goal

pub loop-byte-preserved : goal.loop-byte-preserved
loop-byte-preserved c = next_byte c.args.bytes.now _ c.loop-byte.invariant (omega arith) c.byte.ensures
