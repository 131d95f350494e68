-- `micros` meets its contract. Assumes nothing.
use Prim.Native.Nat.{ℕ, min}
use mathlib.Core.Path.{sym, ap, ◌∙◌}
use mathlib.Core.List.{◌++◌}
use Rattle.ieee.specs.Binary64.{◌⊗◌, 1000000f}
use Rattle.lines.specs.Decimal.{ascii, decimal, microseconds}
use Rattle.lines.proofs.Written.{no_longer, same_text, behind}
use Rattle.lines.proofs.Decimal.{digits_most, below}
use native.Mathlib.Omega.{arith}
use Rattle.lines.proofs.text.Text.micros.Goals as goal

pub returns : goal.returns
unfolding microseconds
returns c =
    let x = c.args.seconds ⊗ 1000000f in
    let magnitude = c.min-below.ensures ∙ ap (λ (k : ℕ). min k 9223372036854775808) c.to_u64.ensures in
    let all = behind c.byte.ensures c.number-2.ensures in
    same_text
    (no_longer all 20 (omega (arith, digits_most 18 c.min-below.result (omega (arith, c.min-below.ensures)))))
    (ap (λ (k : ℕ). ascii "-" ++ decimal k) magnitude ∙ sym (below x (λ e. c.if-below-eq0.false (magnitude ∙ e))))
