-- `packet::extension_at` meets its contract. The extension by places, or the empty one of length 0. Assumes nothing.
use Rattle.packet.proofs.Slices.{of_slice}
use Rattle.packet.proofs.ByPlaces.{extension_by, then_is}
use lib.ListN.{get_or}
use Prim.Native.Nat.{◌+◌, ◌*◌, ◌<◌}
use mathlib.Core.Path.{◌≡◌}
use native.Mathlib.Omega.{arith}
use Rattle.std.specs.Prelude.{IfSome}
use borrow.Author.Rules.{rules}
use Rattle.syntax.specs.Bits.{bits}
use Rattle.packet.specs.Places.{ltw_at, splice_at}
use Rattle.packet.proofs.extension_at.Goals as goal

pub returns : goal.returns
returns c =
    let s = c.args.raw.now in
    let at = c.args.at in
    let h = of_slice s c.type_inv.raw in
    let some : 0 < get_or s at 0 = omega (arith, c.byte_or_zero-length.ensures) in
    let t : IfSome c.then.result (λ x. x ≡ ltw_at s (at + 2)) = search rules in
    let u : IfSome c.then-2.result (λ x. x ≡ bits s (8 * c.past-rate.result + 2) 22) = search rules in
    let v : IfSome c.then-3.result (λ x. x ≡ splice_at s c.past-splice.result) = search rules in
    rw (
      extension_by s h at c.requires some c.byte_or_zero-f.result c.byte_or_zero-f.ensures c.past-rate.result c.past-splice.result c.past-rate.ensures.0
          c.past-splice.ensures.0,
      ← then_is _ _ _ c.then.ensures.variant t,
      ← then_is _ _ _ c.then-2.ensures.variant u,
      ← then_is _ _ _ c.then-3.ensures.variant v,
      ← c.byte_or_zero-length.ensures,
    )
