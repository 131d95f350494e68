-- `write_refused` meets its contract: the memory comes back as the line left it.
use mathlib.Core.Path.{refl, sym}
use borrow.Author.Rules.{rules}
use Rattle.lines.proofs.Written.{left}
use Rattle.lines.proofs.write_refused.Goals as goal

pub returns : goal.returns
returns c = left refl c.refused_line.ensures (search (rules, sym c.refused_line.ensures.same_reference))
