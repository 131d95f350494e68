-- `skip` meets its contract: one stretch behind the other. Assumes nothing.
use Rattle.tstd.proofs.Skipping.{skips_then}
use Rattle.tstd.proofs.skip.Packets.skip.Goals as goal

pub skip_free-requires : goal.skip_free-requires
skip_free-requires c =
    let p = c.requires in
    let s = c.skip_unparsed.ensures c.args.owners.now in
    record { short = p.short; size_few = p.size_few; at_few = s.at_few; k_few = s.k_few; count_few = p.count_few }

pub returns : goal.returns
returns c = skips_then (c.skip_unparsed.ensures c.args.owners.now) c.skip_free.ensures
