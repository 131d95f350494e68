-- `skip_free` meets its contract. The invariant: the packets so far are nobody's, behind one another. The measure: the packets left.
-- Assumes nothing.
use Rattle.tstd.proofs.Skipping.{skips_free}
use Rattle.tstd.proofs.skip.Packets.skip_free.Goals as goal

pub loop-packet-preserved : goal.loop-packet-preserved
loop-packet-preserved c =
    let x = c.leaves_interval.ensures c.if-leaves_interval.false in
    rw (c.parsed-times.ensures, c.next_within.ensures)
    (skips_free _ _ _ _ _ _ _ c.requires.short c.requires.count_few c.loop-packet.invariant c.loop-packet-test.true (record { position = x.0; before = x.1 }) (rw (← c.window_at.ensures) (c.is_free.ensures c.if-not-is_free.false)))
