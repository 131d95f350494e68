-- `ieee::as_float` meets its contract: a count below 2^31 is read back as itself from the signed integer. Assumes nothing.
use Rattle.std.proofs.Common.{ℕ, ◌^◌, ◌<◌, T, ℤ, pos, sym, ap, subst, arith, le→leb, w64}
use lib.Ieee.{binary64, in_float, of_int}
use mir.Facts.{to_z_pos}
use Rattle.ieee.proofs.as_float.Goals as goal

-- every count below 2^31 is a binary64
in_float_lem : (n : ℕ) → n < 2 ^ 31 → T (in_float binary64 (pos n))
unfolding in_float
in_float_lem n h = le→leb n (2 ^ 53) (omega arith)

pub int_to_float-result : goal.int_to_float-result
int_to_float-result c =
    let h : c.args.n < 2 ^ 31 = omega arith in
    subst (λ (z : ℤ). T (in_float binary64 z)) (sym (to_z_pos w64 {n = c.args.n} (omega arith))) (in_float_lem c.args.n h)

pub returns-then-n-lt2147483648 : goal.returns-then-n-lt2147483648
returns-then-n-lt2147483648 c = ap (of_int binary64) (to_z_pos w64 (omega arith))
