-- What a turn takes: a take of 1 at least raises what has left by over half a byte, and to no more than what has arrived, but for rounding. Assumes nothing.
use mathlib.Core.Logic.{◌⊎◌, inl, inr}
use mathlib.Core.Path.{◌∙◌, ◌≡◌}
use Prim.Native.Nat.{◌*◌, ◌+◌, ◌^◌, ◌≤◌, ℕ}
use native.Mathlib.Omega.{arith}
use lib.Dec.{T, lit≤}
use lib.Ieee.{Float, add, binary64, eq, fits, le, lt, neg, sub}
use lib.Ieee.Fits.{add-fits, cond-fits, sub-fits}
use Rattle.ieee.specs.Binary64.{1f, ◌⊕◌, ◌⊖◌}
use Rattle.ieee.specs.Interval.{In, minus, plain}
use Rattle.ieee.specs.MaxMin.{min_of}
use Rattle.ieee.specs.Progress.{Over, take_advance}
use Rattle.ieee.specs.Units.{neg_units, pos_units, ulp}
use Rattle.ieee.proofs.Interval.{add_in, in_finite, sub_in, widen_high, widen_low}
use Rattle.ieee.proofs.Progress.{take_step}
use Rattle.ieee.proofs.Units.{add_units, high→units, le→units, sub_units, units→high}

-- bytes that have left, as far as calls can bring them
abbrev pub TransferredIn : Float → Type 0
TransferredIn x = In (minus 0) x (plain (2 ^ 45))

pub transfer_step : (x d : Float) → TransferredIn x → In (plain 1) d (plain (2 ^ 35)) → Over x take_advance (x ⊕ d)
unfolding le lt eq
transfer_step x d i k = take_step x d (widen_low (minus (2 ^ 45)) i tt) (widen_high (plain (2 ^ 45)) k tt)

-- the sums in units, with the large numbers as variables
chain : (ga oa gt ot gy oy gd od gz oz A L E E' : ℕ) → ga ≤ A + oa → gd + oa + gt ≤ ga + ot + od + E → gy + od ≤ gd + oy → gz + ot + oy ≤ gt + gy + oz + E' → E + E' ≤ L → gz ≤ A + L + oz
chain ga oa gt ot gy oy gd od gz oz A L E E' a b c d e = omega arith

-- what is taken is at most what is left of a: so t + take stays at a's bound, but for rounding
pub sum_below : (a t take : Float) → In (minus 0) a (plain (2 ^ 24)) → TransferredIn t → In (minus 0) take (plain (2 ^ 33)) → T (fits binary64 a) → T (fits binary64 t)
    → T (fits binary64 take)
    → T (le take (a ⊖ t)) → In (minus 0) (t ⊕ take) (plain (2 ^ 24 + 1))
unfolding add sub neg le lt eq
sum_below a t take i j k fa ft fy h =
    let d = a ⊖ t in
    let z = t ⊕ take in
    let d_in = sub_in binary64 (minus (2 ^ 46)) (plain (2 ^ 25)) i j tt in
    let z_in = add_in binary64 (minus 0) (plain (2 ^ 46)) j k tt in
    let s = sub_units binary64 46 (2 ^ 24) (2 ^ 45) (widen_low (minus (2 ^ 24)) i tt) (widen_low (minus (2 ^ 45)) j tt) fa ft tt in
    let r = add_units binary64 46 (2 ^ 45) (2 ^ 33) (widen_low (minus (2 ^ 45)) j tt) (widen_low (minus (2 ^ 33)) k tt) ft fy tt in
    let l = le→units binary64 take d (in_finite k) (in_finite d_in) fy (sub-fits binary64 a t) h in
    let u = high→units binary64 (2 ^ 24) a (in_finite i) fa i.high in
    record {
      low_finite = tt;
      high_finite = tt;
      low = z_in.low;
      high = units→high binary64 (2 ^ 24 + 1) z (in_finite z_in) (add-fits binary64 t take)
          (chain (pos_units binary64 a) (neg_units binary64 a) (pos_units binary64 t) (neg_units binary64 t) (pos_units binary64 take) (neg_units binary64 take) (pos_units binary64 d) (neg_units binary64 d) (pos_units binary64 z) (neg_units binary64 z)
          (2 ^ 24 * 2 ^ 1074) (2 ^ 1074) (ulp binary64 46) (ulp binary64 46) u s.high_end l r.high_end (lit≤ tt));
    }

pub min_fits : (x y : Float) → T (fits binary64 x) → T (fits binary64 y) → T (fits binary64 (min_of x y))
unfolding min_of
min_fits x y f g = cond-fits binary64 (lt y x) y x g f

-- ---- the least of three, of which the last two are over 1

pub min_three : (x y z : Float) → T (le 1f y) → T (le 1f z) → (min_of (min_of x y) z ≡ min_of x y) ⊎ (min_of (min_of x y) z ≡ z) → (min_of x y ≡ x) ⊎ (min_of x y ≡ y)
    → (min_of (min_of x y) z ≡ x) ⊎ T (le 1f (min_of (min_of x y) z))
min_three x y z h k (inl e) (inl f) = inl (e ∙ f)
min_three x y z h k (inl e) (inr f) = inr (rw (e, f) h)
min_three x y z h k (inr e) q = inr (rw e k)
