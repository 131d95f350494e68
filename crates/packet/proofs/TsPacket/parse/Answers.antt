-- `packet::TsPacket::parse` meets its contract. Each answer is one of the ways of `Cases`. Assumes nothing.
use Rattle.packet.proofs.Slices.{of_slice}
use Rattle.packet.proofs.Header.{parse_field}
use Rattle.packet.specs.Packet.{with_field}
use Rattle.std.specs.Prelude.{Ok}
use Rattle.std.proofs.lemmas.Result.{err_from_is_err_and}
use mathlib.Core.Path.{sym, ap, ◌∙◌}
use Rattle.packet.proofs.TsPacket.parse.Goals as goal

pub returns-in_err-f : goal.returns-in_err-f
unfolding with_field
returns-in_err-f c =
    let w = c.args.bytes.now in
    let h = of_slice w c.type_inv.bytes in
    let p = parse_field w h c.if-bytes-lt188.false c.if-sync-ne71.false c.if-bytes-eq1.true c.from-total.result c.from-total.ensures c.if-end-gt188.false _ c.parse_adaptation_field.ensures in
    let e = err_from_is_err_and c.from_residual.result c.from_residual.ensures.1 in
    rw (e.1, e.2) (sym (rw c.in_err-f.was at p))

pub returns-then-bytes-eq1 : goal.returns-then-bytes-eq1
unfolding with_field
returns-then-bytes-eq1 c =
    let w = c.args.bytes.now in
    let h = of_slice w c.type_inv.bytes in
    let p = parse_field w h c.if-bytes-lt188.false c.if-sync-ne71.false c.if-bytes-eq1.true c.from-total.result c.from-total.ensures c.if-end-gt188.false _ c.parse_adaptation_field.ensures in
    ap Ok c.with_header.ensures ∙ sym (rw c.in_ok-f.was at p)
