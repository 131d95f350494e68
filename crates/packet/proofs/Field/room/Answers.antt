-- `packet::Field::room` meets its contract. The tests are those of `room_of` by places; without its flag the extension asks nothing. Assumes nothing.
use Rattle.packet.proofs.ByPlaces.{room_by, extension_on, no_extension_room, handed_on}
use borrow.Author.Tests.{eq-eqb, ne_eqb}
use mathlib.Core.Path.{sym, ◌∙◌}
use Rattle.packet.proofs.Field.room.Goals as goal

pub returns-in_err-ends_within : goal.returns-in_err-ends_within
returns-in_err-ends_within c =
    let h = c.requires.flagged.bytes in
    rw (room_by c.args.self.raw.now h c.args.self.flags c.requires.flagged c.args.p c.requires.placed, ← c.ends_within.ensures, c.in_err-ends_within.was) (handed_on c.from_residual.result c.from_residual.ensures.1)

pub returns-in_err-ends_within-2 : goal.returns-in_err-ends_within-2
returns-in_err-ends_within-2 c =
    let h = c.requires.flagged.bytes in
    rw (room_by c.args.self.raw.now h c.args.self.flags c.requires.flagged c.args.p c.requires.placed, ← c.ends_within.ensures, c.in_ok-ends_within.was, ← c.ends_within-2.ensures, c.in_err-ends_within-2.was) (handed_on c.from_residual-in_err-ends_within-2.result c.from_residual-in_err-ends_within-2.ensures.1)

pub returns-in_err-ends_within-3 : goal.returns-in_err-ends_within-3
returns-in_err-ends_within-3 c =
    let h = c.requires.flagged.bytes in
    rw (room_by c.args.self.raw.now h c.args.self.flags c.requires.flagged c.args.p c.requires.placed, ← c.ends_within.ensures, c.in_ok-ends_within.was, ← c.ends_within-2.ensures, c.in_ok-ends_within-2.was, ← c.ends_within-3.ensures, c.in_err-ends_within-3.was) (handed_on c.from_residual-in_err-ends_within-3.result c.from_residual-in_err-ends_within-3.ensures.1)

pub returns-in_err-ends_within-4 : goal.returns-in_err-ends_within-4
returns-in_err-ends_within-4 c =
    let h = c.requires.flagged.bytes in
    rw (room_by c.args.self.raw.now h c.args.self.flags c.requires.flagged c.args.p c.requires.placed, ← c.ends_within.ensures, c.in_ok-ends_within.was, ← c.ends_within-2.ensures, c.in_ok-ends_within-2.was, ← c.ends_within-3.ensures, c.in_ok-ends_within-3.was, ← c.ends_within-4.ensures, c.in_err-ends_within-4.was) (handed_on c.from_residual-in_err-ends_within-4.result c.from_residual-in_err-ends_within-4.ensures.1)

pub returns-in_err-ends_within-5 : goal.returns-in_err-ends_within-5
returns-in_err-ends_within-5 c =
    let h = c.requires.flagged.bytes in
    rw (room_by c.args.self.raw.now h c.args.self.flags c.requires.flagged c.args.p c.requires.placed, ← c.ends_within.ensures, c.in_ok-ends_within.was, ← c.ends_within-2.ensures, c.in_ok-ends_within-2.was, ← c.ends_within-3.ensures, c.in_ok-ends_within-3.was, ← c.ends_within-4.ensures, c.in_ok-ends_within-4.was, ← c.byte_or_zero.ensures, ← c.from-n.ensures, ← c.ends_within-5.ensures, c.in_err-ends_within-5.was) (handed_on c.from_residual-in_err-ends_within-5.result c.from_residual-in_err-ends_within-5.ensures.1)

pub extension_room-requires : goal.extension_room-requires
extension_room-requires c =
    let h = c.requires.flagged.bytes in
    let on = extension_on c.args.self.raw.now h c.args.self.flags c.requires.flagged ∙ eq-eqb _ _ c.if-f-eq1.true in
    record { some = c.requires.flagged.some; set = on; place = c.requires.placed.extension on; near = c.requires.placed.extension_near }

pub returns-then-f-eq1 : goal.returns-then-f-eq1
returns-then-f-eq1 c =
    let h = c.requires.flagged.bytes in
    rw (room_by c.args.self.raw.now h c.args.self.flags c.requires.flagged c.args.p c.requires.placed, ← c.ends_within.ensures, c.in_ok-ends_within.was, ← c.ends_within-2.ensures, c.in_ok-ends_within-2.was, ← c.ends_within-3.ensures, c.in_ok-ends_within-3.was, ← c.ends_within-4.ensures, c.in_ok-ends_within-4.was, ← c.byte_or_zero.ensures, ← c.from-n.ensures, ← c.ends_within-5.ensures, c.in_ok-ends_within-5.was) c.extension_room.ensures

pub returns : goal.returns
returns c =
    let h = c.requires.flagged.bytes in
    rw (room_by c.args.self.raw.now h c.args.self.flags c.requires.flagged c.args.p c.requires.placed, ← c.ends_within.ensures, c.in_ok-ends_within.was, ← c.ends_within-2.ensures, c.in_ok-ends_within-2.was, ← c.ends_within-3.ensures, c.in_ok-ends_within-3.was, ← c.ends_within-4.ensures, c.in_ok-ends_within-4.was, ← c.byte_or_zero.ensures, ← c.from-n.ensures, ← c.ends_within-5.ensures, c.in_ok-ends_within-5.was) (sym (no_extension_room c.args.self.raw.now h (extension_on c.args.self.raw.now h c.args.self.flags c.requires.flagged ∙ ne_eqb _ _ c.if-f-eq1.false)))
