-- `chain_lines` meets its contract. The invariant: the lines so far are written. Assumes nothing.
use Prim.Native.Nat.{◌*◌}
use lib.ListN.{take}
use Rattle.lines.specs.Text.{each, chain_line}
use Rattle.lines.specs.Written.{Appends}
use Rattle.lines.proofs.text.Text.chain_lines.Given as goal

abbrev pub invariant-loop-chain : goal.invariant-loop-chain
invariant-loop-chain l = Appends (l.chain-index * 132) (each chain_line (take l.chain-index l.chain-items)) l.initial.self l.self
