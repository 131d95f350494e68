-- `branch::main_branch::MainBranch::remove` meets its contract. Assumes nothing.
use Rattle.branch.proofs.Removals.{removed_to}
use Rattle.branch.proofs.main_branch.MainBranch.remove.Goals as goal

pub returns : goal.returns
returns c =
    let a = c.args in
    removed_to _ a.p a.self.now a.u a.k _ _ _ _ (rw c.runs_place.ensures at c.arrived_by-got.ensures) _ _ _ c.min-self.ensures c.max-self.ensures (rw c.units_place.ensures at c.remove.ensures) c.note_when.ensures c.note_removal.ensures
