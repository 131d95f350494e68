-- `packet::countdown_at` meets its contract. A byte is eight bits, read as signed. Assumes nothing.
use mir.Val.{SFits}
use mir.Syntax.{w8}
use mir.Facts.{to_z-of_z}
use Rattle.packet.specs.AdaptationField.{tcimsbf8}
use Rattle.packet.proofs.Complement.{signed_byte}
use Prim.Native.Nat.{◌<◌}
use mathlib.Core.Path.{sym, ap, ◌∙◌}
use Rattle.syntax.proofs.Bits.{byte}
use native.Mathlib.Omega.{arith}
use Rattle.packet.proofs.countdown_at.Goals as goal

pub returns : goal.returns
returns c =
    let s = c.args.raw.now in
    let at = c.args.at in
    let f : SFits w8 c.cast_signed.result = record { sfits = c.cast_signed.type_inv } in
    let b : c.byte_or_zero.result < 256 = omega (arith, c.byte_or_zero.type_inv) in
    to_z-of_z f ∙ c.cast_signed.ensures ∙ signed_byte _ b ∙ ap tcimsbf8 (c.byte_or_zero.ensures ∙ sym (byte s at (omega (arith, c.type_inv.raw at))))
