-- `write_row` meets its contract. The invariant: the first i records are written (`Written`). Assumes nothing.
use native.Mathlib.Omega.{arith}
use mathlib.Core.Path.{◌∙◌}
use lib.ListN.{length-map}
use Rattle.words.specs.Row.{chain_words}
use Rattle.words.proofs.Stores.{written_none}
use Rattle.words.proofs.Row.{chain_size, row_next}
use Rattle.words.proofs.row_words.write_row.Goals as goal

pub loop-i-init : goal.loop-i-init
loop-i-init c = written_none chain_words 6 0 chain_size _ _

pub loop-i-preserved : goal.loop-i-preserved
loop-i-preserved c =
    row_next _ _ _ _ (grind (arith, length-map)) (rw c.min.ensures at c.min-end.ensures) _ _ c.loop-i.i _ _ _ (omega arith) (omega arith) (omega arith) (c.copy_from_slice.ensures.after ∙ c.chain_words.ensures) c.loop-i.invariant
