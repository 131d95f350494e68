-- `leaf_fifo_push` meets its contract. Assumes nothing.
use Rattle.leaves.specs.Leaves.{window_figures, fifo_at}
use Rattle.leaves.proofs.Pushes.{pushes_none, pushes}
use Rattle.leaves.proofs.fifo_leaf.leaf_fifo_push.Goals as goal

pub returns-in_default : goal.returns-in_default
returns-in_default c = pushes_none _ _ _ _ _ c.in_default.len_below

pub returns : goal.returns
unfolding window_figures fifo_at
returns c =
    let a = c.args in
    pushes a.state.now a.from a.to a.bytes a.out.now c.in-len5-up.len_at_least c.push-pushed.result c.push-pushed.ensures _ _ (rw c.fifo_figures.ensures at c.put.ensures) c.put-2.ensures
