-- `assign` meets its contract. The invariant: what the PIDs so far leave in the table. Assumes nothing.
use Rattle.std.proofs.Common.{◌≡◌, length, get_or, arith}
use Rattle.std.proofs.lemmas.List.{length_push}
use Rattle.std.proofs.lemmas.Slice.Zip.{zip_turn}
use Rattle.tstd.proofs.Owning.{assigned_next, assigned_same}
use Rattle.tstd.proofs.owners.assign.Goals as goal

pub loop-pid-preserved-then-is_nobodys : goal.loop-pid-preserved-then-is_nobodys
loop-pid-preserved-then-is_nobodys c =
    let t = zip_turn c.args.pids.now c.args.indices.now c.loop-pid.yielded c.into_iter-pid-iterator.result c.loop-pid.pid-iterator c.next.new.self _ (cc) (cc) c.loop-pid.yielded_by _ c.in-Some.is c.next.ensures.steps in
    let here : get_or c.args.pids.now (length c.loop-pid.yielded) 0 ≡ c.from-entry.result = (let p = t.2 0 in cc) in
    let free = c.is_nobodys.ensures.is c.if-is_nobodys.true in
    let next = assigned_next _ _ _ _ _ c.loop-pid.invariant _ here free.1 (λ i h. c.requires.somebodys i (omega arith)) in
    rw (length_push c.loop-pid.yielded (c.in-Some.pid, c.in-Some.index), t.3 0) next

pub loop-pid-preserved : goal.loop-pid-preserved
loop-pid-preserved c =
    let t = zip_turn c.args.pids.now c.args.indices.now c.loop-pid.yielded c.into_iter-pid-iterator.result c.loop-pid.pid-iterator c.next.new.self _ (cc) (cc) c.loop-pid.yielded_by _ c.in-Some.is c.next.ensures.steps in
    let here : get_or c.args.pids.now (length c.loop-pid.yielded) 0 ≡ c.from-entry.result = (let p = t.2 0 in cc) in
    let next = assigned_same _ _ _ _ _ c.loop-pid.invariant _ here (c.is_nobodys.ensures.is_not c.if-is_nobodys.false) in
    rw (length_push c.loop-pid.yielded (c.in-Some.pid, c.in-Some.index)) next
