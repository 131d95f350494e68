-- `packet::Field::values` meets its contract. The record is `adaptation_field_of` by places, field by field. Assumes nothing.
use Prim.Native.Nat.{◌*◌}
use Rattle.std.specs.Prelude.{IfSome, Some, None}
use Rattle.syntax.specs.Bits.{bits}
use Rattle.packet.specs.AdaptationField.{is_set, extension_of, tcimsbf8}
use Rattle.packet.specs.Places.{clock_at, private_data_at}
use Rattle.packet.proofs.ByPlaces.{field_by, extension_on, then_is}
use borrow.Author.Rules.{rules}
use borrow.Author.Tests.{eq-eqb, ne_eqb}
use mathlib.Core.Path.{◌≡◌, ap, ◌∙◌}
use mathlib.Core.Bool.{cond}
use Rattle.packet.proofs.Field.values.Goals as goal
use Rattle.packet.proofs.Field.values.Goals.{then-f-eq1, else-f-eq1}

pub extension_at-requires : goal.extension_at-requires
extension_at-requires c =
    let on = extension_on c.args.self.raw.now c.requires.flagged.bytes c.args.self.flags c.requires.flagged ∙ eq-eqb _ _ c.if-f-eq1.true in
    record { some = c.requires.flagged.some; set = on; place = c.requires.placed.extension on; near = c.requires.placed.extension_near }

pub returns : goal.returns
returns c =
    let s = c.args.self.raw.now in
    let h = c.requires.flagged.bytes in
    let pcr : IfSome c.then.result (λ x. x ≡ clock_at s 2) = search rules in
    let opcr : IfSome c.then-2.result (λ x. x ≡ clock_at s c.args.p.opcr) = search rules in
    let countdown : IfSome c.then-3.result (λ x. x ≡ tcimsbf8 (bits s (8 * c.args.p.splice_countdown) 8)) = search rules in
    let private : IfSome c.then-4.result (λ x. x ≡ private_data_at s c.args.p.private_length) = search rules in
    let extension : c.if-f-eq1.adaptation_field_extension ≡ cond (is_set s "adaptation_field_extension_flag") (Some (extension_of s)) None =
    elim c.if-f-eq1.branch [
      | then-f-eq1 w ↦
          rw (w.adaptation_field_extension-is, extension_on s h c.args.self.flags c.requires.flagged ∙ eq-eqb _ _ w.if-f-eq1.true)
          (ap Some w.extension_at.ensures)
      | else-f-eq1 w ↦ rw (w.adaptation_field_extension-is, extension_on s h c.args.self.flags c.requires.flagged ∙ ne_eqb _ _ w.if-f-eq1.false)
    ] in
    rw (
      field_by s h c.args.self.flags c.requires.flagged c.args.p c.requires.placed,
      ← c.byte_or_zero.ensures,
      ← then_is _ _ _ c.then.ensures.variant pcr,
      ← then_is _ _ _ c.then-2.ensures.variant opcr,
      ← then_is _ _ _ c.then-3.ensures.variant countdown,
      ← then_is _ _ _ c.then-4.ensures.variant private,
      ← extension,
    )
