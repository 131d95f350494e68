-- `packet::TsPacketLayout::on_grid` meets its contract. The packets before the loop's have the sync byte. Assumes nothing.
use Rattle.packet.proofs.Grid.{grid_is}
use lib.ListN.{length}
use mathlib.Core.Path.{◌≡◌}
use native.Mathlib.Omega.{arith}
use Prim.Native.Nat.{◌/◌, min}
use Rattle.packet.proofs.TsPacketLayout.on_grid.Goals as goal

pub returns : goal.returns
returns c =
    let e : c.loop-k.k ≡ min (length c.args.buf.now / c.args.self.packet_size) 8 = omega (arith, c.min-k-end.ensures) in
    grid_is _ _ _ (omega arith) (rw e at c.loop-k.invariant)
