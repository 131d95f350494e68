-- `write_row` meets its contract. The invariant: the first i records are written (`Written`). Assumes nothing.
use Rattle.words.specs.Row.{chain_words}
use Rattle.words.proofs.Stores.{Written}
use Rattle.words.proofs.row_words.write_row.Given as goal

abbrev pub invariant-loop-i : goal.invariant-loop-i
invariant-loop-i l = Written chain_words 6 0 l.chains l.initial.row l.row l.i
