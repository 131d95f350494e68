-- `branch::main_branch::MainBranch::look_at_end` meets its contract. Assumes nothing.
use Rattle.branch.proofs.Feeding.{looked}
use Rattle.branch.proofs.main_branch.MainBranch.look_at_end.Goals as goal

pub returns : goal.returns
returns c =
    looked _ _ _ _ _ _ _ _ c.requires.branch_lies (rw c.runs_place.ensures at c.final_total.ensures) c.note_when.ensures c.max-self.ensures
