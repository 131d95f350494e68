-- `unparsed_from` meets its contract. The invariant: the i packets so far do not parse. Assumes nothing.
use Rattle.std.proofs.Common.{subst}
use Rattle.tstd.specs.Skips.{IsUnparsed}
use Rattle.tstd.proofs.Skipping.{unparsed_next}
use Rattle.tstd.proofs.skip.Packets.unparsed_from.Goals as goal

pub loop-i-preserved : goal.loop-i-preserved
loop-i-preserved c =
    unparsed_next c.args.self.bytes.now _ _ _ c.loop-i.invariant (subst IsUnparsed c.window_at.ensures (c.is_unparsed.ensures c.if-not-is_unparsed.false))
