-- A number is told by its last digit, behind the digits of its tenth.
use mathlib.Core.Path.{sym}
use native.Mathlib.Omega.{arith}
use Rattle.lines.proofs.Written.{no_longer, same_text, behind}
use Rattle.lines.proofs.Decimal.{last_digit, digits_most}
use Rattle.lines.proofs.text.Text.+number.Goals as goal

pub returns : goal.returns
returns t c =
    no_longer (same_text (behind c.number.ensures c.byte-2.ensures) (sym (last_digit _ c.if-n-lt10.false))) 20 (digits_most 19 c.args.n (omega (arith, c.ranges.n)))
