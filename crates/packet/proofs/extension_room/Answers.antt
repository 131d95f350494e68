-- `packet::extension_room` meets its contract. The tests are those of `extension_room` by places; a length of 0 asks nothing more. Assumes nothing.
use Rattle.packet.proofs.Slices.{of_slice}
use Rattle.packet.proofs.ByPlaces.{extension_room_by, extension_fields_room_by, empty_room, handed_on}
use Prim.Native.Nat.{◌+◌}
use mathlib.Core.Path.{refl, sym, ◌∙◌}
use native.Mathlib.Omega.{arith}
use Rattle.packet.proofs.extension_room.Goals as goal

pub returns-in_err-ends_within : goal.returns-in_err-ends_within
returns-in_err-ends_within c =
    let s = c.args.raw.now in
    let h = of_slice s c.type_inv.raw in
    rw (extension_room_by s h c.args.at c.requires, ← c.ends_within.ensures, c.in_err-ends_within.was) (handed_on c.from_residual.result c.from_residual.ensures.1)

pub returns-in_err-ends_within-2 : goal.returns-in_err-ends_within-2
returns-in_err-ends_within-2 c =
    let s = c.args.raw.now in
    let h = of_slice s c.type_inv.raw in
    rw (extension_room_by s h c.args.at c.requires, ← c.ends_within.ensures, c.in_ok-ends_within.was, ← c.byte_or_zero.ensures, ← c.from-n.ensures, ← c.ends_within-2.ensures, c.in_err-ends_within-2.was) (handed_on c.from_residual-in_err-ends_within-2.result c.from_residual-in_err-ends_within-2.ensures.1)

pub returns-then-n-eq0 : goal.returns-then-n-eq0
returns-then-n-eq0 c =
    let s = c.args.raw.now in
    let h = of_slice s c.type_inv.raw in
    rw (extension_room_by s h c.args.at c.requires, ← c.ends_within.ensures, c.in_ok-ends_within.was, ← c.byte_or_zero.ensures, ← c.from-n.ensures, ← c.ends_within-2.ensures, c.in_ok-ends_within-2.was) (sym (empty_room s h c.args.at c.requires (sym c.byte_or_zero.ensures ∙ sym c.from-n.ensures ∙ c.if-n-eq0.true)))

pub returns-in_err-ends_within-3 : goal.returns-in_err-ends_within-3
returns-in_err-ends_within-3 c =
    let s = c.args.raw.now in
    let h = of_slice s c.type_inv.raw in
    rw (extension_room_by s h c.args.at c.requires, ← c.ends_within.ensures, c.in_ok-ends_within.was, ← c.byte_or_zero.ensures, ← c.from-n.ensures, ← c.ends_within-2.ensures, c.in_ok-ends_within-2.was, extension_fields_room_by s h c.args.at c.requires (omega (arith, c.if-n-eq0.false)) c.byte_or_zero-f.result c.byte_or_zero-f.ensures _ _ refl refl (c.args.at + 1 + c.from-n.result) (omega arith), ← c.ends_within-3.ensures, c.in_err-ends_within-3.was) (handed_on c.from_residual-in_err-ends_within-3.result c.from_residual-in_err-ends_within-3.ensures.1)

pub returns-in_err-ends_within-4 : goal.returns-in_err-ends_within-4
returns-in_err-ends_within-4 c =
    let s = c.args.raw.now in
    let h = of_slice s c.type_inv.raw in
    rw (extension_room_by s h c.args.at c.requires, ← c.ends_within.ensures, c.in_ok-ends_within.was, ← c.byte_or_zero.ensures, ← c.from-n.ensures, ← c.ends_within-2.ensures, c.in_ok-ends_within-2.was, extension_fields_room_by s h c.args.at c.requires (omega (arith, c.if-n-eq0.false)) c.byte_or_zero-f.result c.byte_or_zero-f.ensures c.past-rate.result _ c.past-rate.ensures.0 refl (c.args.at + 1 + c.from-n.result) (omega arith), ← c.ends_within-3.ensures, c.in_ok-ends_within-3.was, ← c.ends_within-4.ensures, c.in_err-ends_within-4.was) (handed_on c.from_residual-in_err-ends_within-4.result c.from_residual-in_err-ends_within-4.ensures.1)

pub returns : goal.returns
returns c =
    let s = c.args.raw.now in
    let h = of_slice s c.type_inv.raw in
    rw (extension_room_by s h c.args.at c.requires, ← c.ends_within.ensures, c.in_ok-ends_within.was, ← c.byte_or_zero.ensures, ← c.from-n.ensures, ← c.ends_within-2.ensures, c.in_ok-ends_within-2.was, extension_fields_room_by s h c.args.at c.requires (omega (arith, c.if-n-eq0.false)) c.byte_or_zero-f.result c.byte_or_zero-f.ensures c.past-rate.result c.past-splice.result c.past-rate.ensures.0 c.past-splice.ensures.0 (c.args.at + 1 + c.from-n.result) (omega arith), ← c.ends_within-3.ensures, c.in_ok-ends_within-3.was, ← c.ends_within-4.ensures, c.in_ok-ends_within-4.was) c.ends_within-5.ensures
