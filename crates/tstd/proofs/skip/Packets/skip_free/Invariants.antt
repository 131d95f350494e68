-- `skip_free` meets its contract. The invariant: the packets so far are nobody's, behind one another. The measure: the packets left.
-- Assumes nothing.
use Rattle.tstd.specs.Skips.{Skips}
use Rattle.std.proofs.Common.{◌-◌}
use Rattle.tstd.proofs.skip.Packets.skip_free.Given as goal

abbrev pub invariant-loop-packet : goal.invariant-loop-packet
invariant-loop-packet l = Skips l.self.bytes.now l.self.size l.self.count l.owners l.fn.p.times l.fn.p.at l.fn.p.k l.times l.place l.packet

abbrev pub decreases-loop-packet : goal.decreases-loop-packet
decreases-loop-packet l = l.self.count - l.packet
