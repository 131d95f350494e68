-- `ieee::to_u64` meets its contract. Assumes nothing.
use Rattle.std.proofs.Common.{Bool, not, T, sym, subst}
use lib.Ieee.{Float, binary64, of_bits, fits, le, lt}
use Rattle.std.proofs.num.Truncating.{one, two_to, at_least_one, under_one, is_no_nan, down_by, up_by, below_one}
use Rattle.ieee.proofs.ToU64.{saturates, not_saturated, shifted_right, shifted_left}
use Rattle.ieee.proofs.to_u64.Goals as goal

-- past both tests: the format holds x, which is at least 1 and below 2 ^ 64
module _ (c : goal.Then-x-2) where
  abbrev x : Float
  x = c.args.x

  held : T (fits binary64 x)
  held = subst T (sym c.well_formed.0.1) tt

  over : T (le one x)
  over = at_least_one x c.if-x-2.true

  under : T (lt x (two_to 64))
  unfolding of_bits
  under = not_saturated 64 x over (subst (λ (b : Bool). T (not b)) (sym c.if-x.false) tt)

pub returns-then-x : goal.returns-then-x
unfolding of_bits
returns-then-x c = sym (saturates 64 c.args.x (subst T (sym c.if-x.true) tt))

pub float_to_bits-bits : goal.float_to_bits-bits
float_to_bits-bits c = is_no_nan (x c) (held c) (over c) (under c)

pub overflow_shr-result : goal.overflow_shr-result
overflow_shr-result c = down_by (x c.before) (held c.before) (over c.before) (under c.before)

pub returns-then-exponent-le-BIAS : goal.returns-then-exponent-le-BIAS
returns-then-exponent-le-BIAS c =
    shifted_right (x c.before) (held c.before) (over c.before) (under c.before) c.if-exponent-le-BIAS.true

pub overflow_shl-result : goal.overflow_shl-result
overflow_shl-result c = up_by (x c.before) (held c.before) (over c.before) (under c.before)

pub returns-then-x-2 : goal.returns-then-x-2
returns-then-x-2 c =
    shifted_left (x c.before) (held c.before) (over c.before) (under c.before) c.if-exponent-le-BIAS.false

pub returns : goal.returns
returns c = below_one 64 c.args.x (under_one c.args.x c.if-x-2.false)
