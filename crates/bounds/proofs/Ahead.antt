-- Where what has left is ahead of what has arrived by D at most, it is so after a turn that takes all that arrives up to t, but for four roundings.
-- Assumes nothing.
use mathlib.Core.Logic.{◌⊎◌, inl, inr}
use mathlib.Core.Path.{◌≡◌}
use Prim.Native.Nat.{◌*◌, ◌+◌, ◌^◌, ◌≤◌, ℕ}
use native.Mathlib.Omega.{arith}
use lib.Dec.{T, lit≤}
use lib.Ieee.{Float, add, binary64, eq, fits, le, lt, neg, sub}
use lib.Ieee.Fits.{add-fits, sub-fits}
use Rattle.ieee.specs.Binary64.{◌⊕◌, ◌⊖◌}
use Rattle.ieee.specs.Interval.{In, minus, plain, zero_float}
use Rattle.ieee.specs.Units.{neg_units, pos_units, ulp}
use Rattle.ieee.proofs.Interval.{add_in, in_finite, sub_in, widen_low}
use Rattle.ieee.proofs.Units.{add_units, high→units, le→units, sub_units, units→high}
use Rattle.bounds.specs.Video.{transfer_limit}
use Rattle.bounds.proofs.Rate.{neg_units_zero}

-- x arrived by t, a by now, s has left; d = x - s, v = a - s, r = d - v, b taken, z = s + b
ahead_chain : (gx gs ga gd od gv ov gr or gb ob gz os oa ox oz E D W : ℕ) → ox ≡ 0 → os ≡ 0 → oa ≡ 0 → ob ≡ 0 → oz ≡ 0
    → gd + ox + gs ≤ gx + os + od + E → ga + os + ov ≤ gv + oa + gs + E → gr + od + gv ≤ gd + ov + or + E → (gb ≡ 0) ⊎ (gb + or ≤ gr + ob) → gz + os + ob ≤ gs + gb + oz + E
    → gs ≤ ga + D → ga ≤ gx → D + (E + E + (E + E)) ≤ W → gz ≤ gx + W
ahead_chain gx gs ga gd od gv ov gr or gb ob gz os oa ox oz E D W e1 e2 e3 e4 e5 a b c (inl d) f g k l = omega arith
ahead_chain gx gs ga gd od gv ov gr or gb ob gz os oa ox oz E D W e1 e2 e3 e4 e5 a b c (inr d) f g k l = omega arith

module _ (X A S b : Float) (D W : ℕ) (ix : In zero_float X (plain (2 ^ 24))) (ia : In zero_float A (plain (2 ^ 24))) (is : In zero_float S (plain transfer_limit))
    (ib : In zero_float b (plain (2 ^ 26)))
    (fx : T (fits binary64 X)) (fa : T (fits binary64 A)) (fs : T (fits binary64 S)) (fb : T (fits binary64 b))
    (grows : T (le A X)) (ahead : pos_units binary64 S ≤ pos_units binary64 A + D) (wide : D + (ulp binary64 28 + ulp binary64 28 + (ulp binary64 28 + ulp binary64 28)) ≤ W)
    (takes : (pos_units binary64 b ≡ 0) ⊎ T (le b ((X ⊖ S) ⊖ (A ⊖ S)))) where
  d_in : In (minus (2 ^ 26)) (X ⊖ S) (plain (2 ^ 26))
  unfolding sub add neg le lt eq
  d_in = sub_in binary64 (minus (2 ^ 26)) (plain (2 ^ 26)) ix is tt

  v_in : In (minus (2 ^ 26)) (A ⊖ S) (plain (2 ^ 26))
  unfolding sub add neg le lt eq
  v_in = sub_in binary64 (minus (2 ^ 26)) (plain (2 ^ 26)) ia is tt

  r_in : In (minus (2 ^ 27)) ((X ⊖ S) ⊖ (A ⊖ S)) (plain (2 ^ 27))
  unfolding sub add neg le lt eq
  r_in = sub_in binary64 (minus (2 ^ 27)) (plain (2 ^ 27)) d_in v_in tt

  z_in : In zero_float (S ⊕ b) (plain (2 ^ 27))
  unfolding add le lt eq
  z_in = add_in binary64 zero_float (plain (2 ^ 27)) is ib tt

  flat : (x y ox oy : ℕ) → ox ≡ 0 → oy ≡ 0 → x + oy ≤ y + ox → x ≤ y
  flat x y ox oy a b h = omega arith

  how : (pos_units binary64 b ≡ 0) ⊎ T (le b ((X ⊖ S) ⊖ (A ⊖ S)))
      → (pos_units binary64 b ≡ 0) ⊎ (pos_units binary64 b + neg_units binary64 ((X ⊖ S) ⊖ (A ⊖ S)) ≤ pos_units binary64 ((X ⊖ S) ⊖ (A ⊖ S)) + neg_units binary64 b)
  how (inl e) = inl e
  how (inr h) = inr (le→units binary64 b ((X ⊖ S) ⊖ (A ⊖ S)) (in_finite ib) (in_finite r_in) fb (sub-fits binary64 (X ⊖ S) (A ⊖ S)) h)

  pub ahead_next : pos_units binary64 (S ⊕ b) ≤ pos_units binary64 X + W
  unfolding le lt eq
  ahead_next =
      let d = X ⊖ S in
      let v = A ⊖ S in
      let r = d ⊖ v in
      let z = S ⊕ b in
      let s1 = sub_units binary64 28 (2 ^ 24) transfer_limit (widen_low (minus (2 ^ 24)) ix tt) (widen_low (minus transfer_limit) is tt) fx fs tt in
      let s2 = sub_units binary64 28 (2 ^ 24) transfer_limit (widen_low (minus (2 ^ 24)) ia tt) (widen_low (minus transfer_limit) is tt) fa fs tt in
      let s3 = sub_units binary64 28 (2 ^ 26) (2 ^ 26) d_in v_in (sub-fits binary64 X S) (sub-fits binary64 A S) tt in
      let s4 = add_units binary64 28 transfer_limit (2 ^ 26) (widen_low (minus transfer_limit) is tt) (widen_low (minus (2 ^ 26)) ib tt) fs fb tt in
      ahead_chain (pos_units binary64 X) (pos_units binary64 S) (pos_units binary64 A) (pos_units binary64 d) (neg_units binary64 d) (pos_units binary64 v) (neg_units binary64 v)
      (pos_units binary64 r) (neg_units binary64 r) (pos_units binary64 b) (neg_units binary64 b) (pos_units binary64 z) (neg_units binary64 S) (neg_units binary64 A) (neg_units binary64 X)
      (neg_units binary64 z) (ulp binary64 28) D W
      (neg_units_zero X (in_finite ix) ix.low) (neg_units_zero S (in_finite is) is.low) (neg_units_zero A (in_finite ia) ia.low) (neg_units_zero b (in_finite ib) ib.low)
      (neg_units_zero z (in_finite z_in) z_in.low)
      s1.high_end s2.low_end s3.high_end (how takes) s4.high_end ahead
      (flat (pos_units binary64 A) (pos_units binary64 X) (neg_units binary64 A) (neg_units binary64 X) (neg_units_zero A (in_finite ia) ia.low) (neg_units_zero X (in_finite ix) ix.low) (le→units binary64 A X (in_finite ia) (in_finite ix) fa fx grows)) wide

  -- so it stays within transfer_limit, where W is 2 ^ 24 bytes and 1 at most
  pub ahead_top_lem : W ≤ (2 ^ 24 + 1) * 2 ^ 1074 → T (le (S ⊕ b) (plain transfer_limit))
  ahead_top_lem w =
      units→high binary64 transfer_limit (S ⊕ b) (in_finite z_in) (add-fits binary64 S b)
      (top (pos_units binary64 (S ⊕ b)) (pos_units binary64 X) (neg_units binary64 X) W (2 ^ 24 * 2 ^ 1074) ((2 ^ 24 + 1) * 2 ^ 1074) (transfer_limit * 2 ^ 1074) (neg_units binary64 (S ⊕ b)) ahead_next (high→units binary64 (2 ^ 24) X (in_finite ix) fx ix.high) (neg_units_zero X (in_finite ix) ix.low) w (lit≤ tt))
    where
      top : (gz gx ox W M M' N oz : ℕ) → gz ≤ gx + W → gx ≤ M + ox → ox ≡ 0 → W ≤ M' → M + M' ≤ N → gz ≤ N + oz
      top gz gx ox W M M' N oz a b c d e = omega arith

-- ---- a turn in which bytes wait takes at most a - s: then what has left is at most what has arrived, but for two roundings, whatever it was before
backlog_chain : (ga oa gs os gd od gb ob gz oz E : ℕ) → oa ≡ 0 → os ≡ 0 → oz ≡ 0 → gd + oa + gs ≤ ga + os + od + E → gb + od ≤ gd + ob → gz + os + ob ≤ gs + gb + oz + E → gz ≤ ga + (E + E)
backlog_chain ga oa gs os gd od gb ob gz oz E a b c d e f = omega arith

pub backlog_ahead : (A S b : Float) → In zero_float A (plain (2 ^ 24)) → In zero_float S (plain transfer_limit) → In zero_float b (plain (2 ^ 26)) → T (fits binary64 A) → T (fits binary64 S)
    → T (fits binary64 b) → T (le b (A ⊖ S))
    → pos_units binary64 (S ⊕ b) ≤ pos_units binary64 A + (ulp binary64 28 + ulp binary64 28)
unfolding sub add neg le lt eq
backlog_ahead A S b ia is ib fa fs fb h =
    let d = A ⊖ S in
    let z = S ⊕ b in
    let di = sub_in binary64 (minus (2 ^ 26)) (plain (2 ^ 26)) ia is tt in
    let zi = add_in binary64 zero_float (plain (2 ^ 27)) is ib tt in
    let s1 = sub_units binary64 28 (2 ^ 24) transfer_limit (widen_low (minus (2 ^ 24)) ia tt) (widen_low (minus transfer_limit) is tt) fa fs tt in
    let s2 = add_units binary64 28 transfer_limit (2 ^ 26) (widen_low (minus transfer_limit) is tt) (widen_low (minus (2 ^ 26)) ib tt) fs fb tt in
    backlog_chain (pos_units binary64 A) (neg_units binary64 A) (pos_units binary64 S) (neg_units binary64 S) (pos_units binary64 d) (neg_units binary64 d) (pos_units binary64 b)
    (neg_units binary64 b) (pos_units binary64 z) (neg_units binary64 z) (ulp binary64 28)
    (neg_units_zero A (in_finite ia) ia.low) (neg_units_zero S (in_finite is) is.low) (neg_units_zero z (in_finite zi) zi.low) s1.high_end
    (le→units binary64 b d (in_finite ib) (in_finite di) fb (sub-fits binary64 A S) h) s2.high_end
