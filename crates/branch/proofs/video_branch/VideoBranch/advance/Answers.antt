-- `branch::video_branch::VideoBranch::advance` meets its contract. Assumes nothing.
use mathlib.Core.Path.{◌≡◌}
use Rattle.branch.specs.UnitsInWork.{DueOf}
use Rattle.branch.specs.VideoInWork.{until}
use Rattle.branch.proofs.VideoAdvance.{advance_less, advance_more, advance_ends}
use Rattle.branch.proofs.video_branch.VideoBranch.advance.Goals as goal
use Rattle.branch.proofs.video_branch.VideoBranch.advance.Goals.{Joined-due, in-Some, in-None}

-- the first unit that is due, and how far the leak goes on before that
module _ (c : Joined-due) where
  due : DueOf c.args.work.now c.args.m.units c.loop-u.self.units.pending c.args.frontier c.match-due.due
  due = elim c.match-due.branch [ in-Some w ↦ rw w.due-is (rw w.in-Some.is at c.due-due.ensures) | in-None w ↦ rw w.due-is c.due-due.ensures ]

  time : c.match-due.to ≡ until c.match-due.due c.args.frontier
  time = elim c.match-due.branch [ in-Some w ↦ rw (w.due-is, w.to-is) | in-None w ↦ rw (w.due-is, w.in-None.is, w.to-is) ]

pub loop-u-smaller : goal.loop-u-smaller
loop-u-smaller c =
    let j = (goal.at.loop-u-smaller c).Joined-due in
    advance_less _ _ _ _ _ _ _ _ _ _ c.loop-u.invariant.lies (due j) (time j) c.leak_until-self.ensures _ c.in-Some-due.is _ _ c.remove.ensures

pub loop-u-preserved : goal.loop-u-preserved
loop-u-preserved c =
    let j = (goal.at.loop-u-preserved c).Joined-due in
    advance_more _ _ _ _ _ _ _ _ _ _ c.loop-u.invariant.lies (due j) (time j) c.leak_until-self.ensures _ c.in-Some-due.is _ _ c.remove.ensures c.loop-u.invariant

pub returns-in_default : goal.returns-in_default
returns-in_default c =
    let j = (goal.at.returns-in_default c).Joined-due in
    advance_ends _ _ _ _ _ _ _ _ _ _ c.loop-u.invariant.lies (due j) (time j) c.leak_until-self.ensures c.in_default.is c.loop-u.invariant
