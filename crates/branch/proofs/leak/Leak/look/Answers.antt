-- `branch::leak::Leak::look` meets its contract. Assumes nothing.
use mathlib.Core.Path.{refl}
use Rattle.branch.proofs.VideoTurns.{full_by, look_by}
use Rattle.branch.specs.VideoInWork.{leak_of, flow_of, seen_state}
use Rattle.branch.proofs.leak.Leak.look.Goals as goal

pub returns : goal.returns
unfolding leak_of flow_of seen_state
returns c =
    let a = c.args in
    let g = c.arrived_by-got.ensures in
    let S = leak_of a.work.now a.m a.self in
    let e = full_by S S.proc_time _ g.total in
    record {
      leak = rw c.seen.ensures
          (record {
            lies = record { runs = g.after.lies; marks = c.requires.marks };
            state = look_by S _ _ _ _ _ g.after.state e refl refl refl;
          });
      available = e;
    }
