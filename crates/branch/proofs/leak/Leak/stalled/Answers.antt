-- `branch::leak::Leak::stalled` meets its contract. Assumes nothing.
use mathlib.Core.Path.{refl}
use Rattle.branch.proofs.Rings.{some_is}
use Rattle.branch.proofs.VideoTurns.{full_by, stalled_by, settled_at_lem}
use Rattle.branch.specs.VideoInWork.{leak_of, flow_of}
use Rattle.branch.proofs.leak.Leak.stalled.Goals as goal

pub returns : goal.returns
unfolding leak_of flow_of
returns c =
    let a = c.args in
    let g = c.arrived_by-got.ensures in
    let S = leak_of a.work.now a.m a.self in
    record {
      more = refl;
      leak = record {
        lies = record { runs = g.after.lies; marks = c.requires.marks };
        state = stalled_by S a.t _ _ _ _ g.after.state (full_by S a.t _ g.total) c.busy_from.ensures c.max.ensures;
      };
      seen = λ x f. rw (← some_is f) (settled_at_lem _ _ _ _ g.after.state g.total);
    }
