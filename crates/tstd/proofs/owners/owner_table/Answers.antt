-- `owner_table` meets its contract: behind the assignments of streams and system PIDs each entry is the owner's. Assumes nothing.
use Rattle.tstd.proofs.Owning.{in_use, in_use_few, owners_of}
use Rattle.std.proofs.Common.{◌≡◌, length, replicate, rules}
use Rattle.tstd.proofs.owners.owner_table.Goals as goal

pub returns : goal.returns
returns c =
    let size : length c.args.owners.now ≡ 8192 = search rules in
    let filled : c.fill.new.self ≡ replicate 8192 9 = rw size at (c.fill.ensures.after (λ y e. cc)) in
    owners_of c.args.pids _ _ _ _ (in_use _ _ _ _ c.min-streams.ensures (search rules)) (in_use _ _ _ _ c.min-system.ensures (search rules))
    (in_use_few _ _ _ _ c.min-streams.ensures (search rules)) (in_use_few _ _ _ _ c.min-system.ensures (search rules))
    (rw filled at c.assign.ensures)
    c.assign-2.ensures
