-- `packet::TsPacketLayout::on_grid` meets its contract. The invariant: the packets before k have the sync byte. Assumes nothing.
use Rattle.packet.specs.Layout.{in_sync}
use mathlib.Core.Path.{◌≡◌}
use mathlib.Core.Bool.{true}
use Rattle.packet.proofs.TsPacketLayout.on_grid.Given as goal

abbrev pub invariant-loop-k : goal.invariant-loop-k
invariant-loop-k l = in_sync l.buf l.self.packet_size l.self.sync_offset l.k ≡ true
