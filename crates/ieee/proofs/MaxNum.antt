-- Laws of max_num, Rust's `f64::max`: a not-a-number yields to the other operand, and of a number it is max_of. Assumes nothing.
use Rattle.std.proofs.Common.{◌≡◌, Bool, true, false, cond, T, sym, refl}
use lib.Ieee.{Float, nan, inf, fin, lt, le, eq, ne}
use lib.Ieee.Compare.{differs_from_itself}
use Rattle.ieee.specs.MaxMin.{max_of, max_num}
use Rattle.ieee.proofs.Order.{to_t, ne_self}

pub lt_nan : (x : Float) → lt x nan ≡ false
unfolding lt
lt_nan nan = refl
lt_nan (inf s) = refl
lt_nan (fin s m e) = refl

pub max_nan_l : (y : Float) → max_num nan y ≡ y
unfolding max_num lt ne eq
max_nan_l y = refl

pub max_nan_r : (x : Float) → max_num x nan ≡ x
unfolding max_num
max_nan_r x = rw (lt_nan x) (by_test (ne x x) refl)
  where
    by_test : (b : Bool) → ne x x ≡ b → cond b nan x ≡ x
    by_test true e = sym (differs_from_itself x (to_t e))
    by_test false e = refl

-- `le x x` says that x is no not-a-number
pub max_is : (x y : Float) → T (le x x) → max_num x y ≡ max_of x y
unfolding max_num max_of
max_is x y h = simp (ne_self x h)
