-- `packet::Field::places` meets its contract. Each place follows from the one before it. Assumes nothing.
use Rattle.packet.proofs.ByPlaces.{placed}
use mathlib.Core.Path.{◌∙◌}
use native.Mathlib.Omega.{arith}
use Rattle.packet.proofs.Field.places.Goals as goal

pub returns : goal.returns
returns c =
    let s = c.args.self.raw.now in
    let h = c.requires.bytes in
    placed s h c.args.self.flags c.requires _ c.past-opcr.ensures.0 c.past-splice_countdown.ensures.0 c.past-private_length.ensures.0 (c.past-extension.ensures.0 ∙ rw (c.from-n.ensures, c.byte_or_zero.ensures)) c.past-opcr.ensures.1 (omega (arith, c.past-opcr.ensures.1, c.past-splice_countdown.ensures.1)) (omega (arith, c.past-opcr.ensures.1, c.past-splice_countdown.ensures.1, c.past-private_length.ensures.1)) (omega (arith, c.past-opcr.ensures.1, c.past-splice_countdown.ensures.1, c.past-private_length.ensures.1, c.past-extension.ensures.1))
