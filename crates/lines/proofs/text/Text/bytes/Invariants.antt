-- `bytes` meets its contract. The invariant: the bytes so far are written. Assumes nothing.
use lib.ListN.{take}
use Rattle.lines.specs.Written.{Appends}
use Rattle.lines.proofs.text.Text.bytes.Given as goal

abbrev pub invariant-loop-byte : goal.invariant-loop-byte
invariant-loop-byte l = Appends l.byte-index (take l.byte-index l.bytes) l.initial.self l.self
