-- `header::read` meets its contract: each way out is a law of the header by its bytes. Assumes nothing.
use Rattle.packet.proofs.Slices.{of_slice}
use Rattle.header.proofs.Headers.{parsed, bare_header, field_header}
use Rattle.header.specs.Header.{header_of}
use Rattle.packet.specs.Packet.{parse_of}
use Rattle.std.specs.Prelude.{is_ok, not}
use mathlib.Core.Path.{◌≡◌, sym, ap, ◌∙◌}
use mathlib.Core.Bool.{true, false}
use native.Mathlib.Omega.{arith}
use Prim.Native.Nat.{ℕ, ◌+◌}
use Rattle.header.proofs.read.Goals as goal
use Rattle.header.proofs.read.Goals.{then-has_field+else-from-gt188+else-is_err, else-has_field}

pub returns-then-is_err : goal.returns-then-is_err
returns-then-is_err c =
    let w = c.args.bytes.now in
    sym (field_header w (of_slice w c.type_inv.bytes) c.if-bytes-lt188.false c.if-has_field.true c.if-bytes-ne71.false _ (ap (λ (n : ℕ). 5 + n) c.from-from.ensures) (omega arith) false (sym (ap not c.if-is_err.true) ∙ sym c.is_err.ensures.negation ∙ ap is_ok c.adaptation_field_room.ensures))

pub returns : goal.returns
returns c =
    let w = c.args.bytes.now in
    let h = of_slice w c.type_inv.bytes in
    let long = c.if-bytes-lt188.false in
    let s = c.if-bytes-ne71.false in
    -- both ways into the last statement
    let by : header_of (parse_of w) ≡ parsed w c.if-has_field.from =
    elim c.if-has_field.branch [
      | then-has_field+else-from-gt188+else-is_err k ↦
          rw k.from-is
          (field_header w h long k.if-has_field.true s _ (ap (λ (n : ℕ). 5 + n) k.from-from.ensures) (omega arith) true
          (sym (ap not k.if-is_err.false) ∙ sym k.is_err.ensures.negation ∙ ap is_ok k.adaptation_field_room.ensures))
      | else-has_field k ↦ rw k.from-is (bare_header w h long s k.if-has_field.false)
    ] in
    rw (c.pid_of.ensures, c.payload_start_of.ensures) (sym by)
