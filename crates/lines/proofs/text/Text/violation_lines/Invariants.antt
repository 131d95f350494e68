-- `violation_lines` meets its contract. The invariant: the lines so far are written. Assumes nothing.
use Prim.Native.Nat.{◌*◌}
use lib.ListN.{take}
use Rattle.lines.specs.Text.{each, violation_line}
use Rattle.lines.specs.Written.{Appends}
use Rattle.lines.proofs.text.Text.violation_lines.Given as goal

abbrev pub invariant-loop-line : goal.invariant-loop-line
invariant-loop-line l = Appends (l.line-index * 115) (each violation_line (take l.line-index l.line-items)) l.initial.self l.self
