-- `skip_unparsed` meets its contract: each of the packets that it passes does not parse and ends within the interval. Assumes nothing.
use Rattle.std.proofs.Common.{arith}
use Rattle.tstd.proofs.Skipping.{skips_many}
use Rattle.tstd.proofs.skip.Packets.skip_unparsed.Goals as goal

pub returns : goal.returns
returns c owners =
    let p = c.requires in
    let few = c.unparsed_from-i.ensures.0 in
    let lesser = c.min-n.ensures in
    rw (c.begin_of.ensures, c.time_of.ensures)
    (skips_many _ _ _ _ _ _ _ p.short p.count_few p.at_few p.k_few _ c.if-i-eq0.false (omega (arith, few, lesser, c.saturating_sub-left.ensures))
    (λ j h. c.packets_within.ensures j (omega (arith, h, few, lesser))) c.unparsed_from-i.ensures.1)
