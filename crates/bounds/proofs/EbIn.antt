-- EB after a transfer of b bytes, of which h are dropped: at most its size and what was removed, but for rounding; no less than before, but for a byte. Assumes nothing.
use mathlib.Core.Path.{◌∙◌, ◌≡◌, ap}
use Prim.Native.Nat.{◌*◌, ◌+◌, ◌^◌, ◌≤◌, ℕ}
use native.Mathlib.Nat.{add-mul, one-mul}
use native.Mathlib.Omega.{arith}
use lib.Dec.{T, lit≤}
use lib.Ieee.{Float, add, binary64, eq, fits, le, lt, neg, sub}
use lib.Ieee.Fits.{add-fits, sub-fits}
use Rattle.ieee.specs.Binary64.{◌⊕◌, ◌⊖◌}
use Rattle.ieee.specs.Interval.{In, minus, plain, zero_float}
use Rattle.ieee.specs.Units.{neg_units, pos_units, ulp}
use Rattle.ieee.proofs.Interval.{add_in, in_finite, sub_in, widen_low}
use Rattle.ieee.proofs.Units.{add_units, high→units, le→units, sub_units, units→high}
use Rattle.bounds.specs.Video.{EbCount}
use Rattle.bounds.proofs.Rate.{neg_units_zero}

up_chain : (ge oe gr or gs os gu ou gm om gb ob gh oh gv ov gz oz S R L E : ℕ)
    → ge + or + ou ≤ gu + oe + gr + E → gm + os + gu ≤ gs + ou + om + E → gb + om ≤ gm + ob → gv + ob + gh ≤ gb + oh + ov + E → gz + oe + ov ≤ ge + gv + oz + E
    → oh ≡ 0 → gs ≤ S + os → gr ≤ R + or → E + E + (E + E) ≤ L → gz ≤ S + R + L + oz
up_chain ge oe gr or gs os gu ou gm om gb ob gh oh gv ov gz oz S R L E a b c d e f g h i = omega arith

down_chain : (ge oe gb ob gh oh gv ov gz oz X E A D B : ℕ)
    → gb + oh + ov ≤ gv + ob + gh + E → ge + gv + oz ≤ gz + oe + ov + E → ob ≡ 0 → gh ≤ gb + X → oe ≤ A + ge → X + E + E ≤ D → B ≡ A + D → oz ≤ B + gz
down_chain ge oe gb ob gh oh gv ov gz oz X E A D B a b c d e f g = omega arith

module _ (eb rem size b h : Float) (X a : ℕ) (ie : EbCount eb) (ir : EbCount rem) (iz : In (plain 1) size (plain (2 ^ 30))) (ib : In zero_float b (plain (2 ^ 34)))
    (ih : In zero_float h (plain (2 ^ 35)))
    (fe : T (fits binary64 eb)) (fr : T (fits binary64 rem)) (fz : T (fits binary64 size)) (fb : T (fits binary64 b)) (fh : T (fits binary64 h)) where
  abbrev E : ℕ
  E = ulp binary64 37

  v_in : In (minus (2 ^ 36)) (b ⊖ h) (plain (2 ^ 36))
  unfolding sub add neg le lt eq
  v_in = sub_in binary64 (minus (2 ^ 36)) (plain (2 ^ 36)) ib ih tt

  pub eb_next_in : In (minus (2 ^ 37)) (eb ⊕ (b ⊖ h)) (plain (2 ^ 37))
  unfolding add le lt eq
  eb_next_in = add_in binary64 (minus (2 ^ 37)) (plain (2 ^ 37)) ie v_in tt

  u_in : In (minus (2 ^ 33)) (eb ⊖ rem) (plain (2 ^ 33))
  unfolding sub add neg le lt eq
  u_in = sub_in binary64 (minus (2 ^ 33)) (plain (2 ^ 33)) ie ir tt

  m_in : In (minus (2 ^ 34)) (size ⊖ (eb ⊖ rem)) (plain (2 ^ 34))
  unfolding sub add neg le lt eq
  m_in = sub_in binary64 (minus (2 ^ 34)) (plain (2 ^ 34)) iz u_in tt

  -- b is at most the room, and what was removed at most 2 ^ 25
  pub eb_high : T (le b (size ⊖ (eb ⊖ rem))) → T (le rem (plain (2 ^ 25))) → T (le (eb ⊕ (b ⊖ h)) (plain (2 ^ 30 + 2 ^ 25 + 1)))
  unfolding le lt eq
  eb_high k l =
      let u = eb ⊖ rem in
      let m = size ⊖ u in
      let v = b ⊖ h in
      let z = eb ⊕ v in
      let s1 = sub_units binary64 37 (2 ^ 32) (2 ^ 32) ie ir fe fr tt in
      let s2 = sub_units binary64 37 (2 ^ 30) (2 ^ 33) (widen_low (minus (2 ^ 30)) iz tt) u_in fz (sub-fits binary64 eb rem) tt in
      let s3 = sub_units binary64 37 (2 ^ 34) (2 ^ 35) (widen_low (minus (2 ^ 34)) ib tt) (widen_low (minus (2 ^ 35)) ih tt) fb fh tt in
      let s4 = add_units binary64 37 (2 ^ 32) (2 ^ 36) ie v_in fe (sub-fits binary64 b h) tt in
      units→high binary64 (2 ^ 30 + 2 ^ 25 + 1) z (in_finite eb_next_in) (add-fits binary64 eb v)
      (up_chain (pos_units binary64 eb) (neg_units binary64 eb) (pos_units binary64 rem) (neg_units binary64 rem) (pos_units binary64 size) (neg_units binary64 size) (pos_units binary64 u) (neg_units binary64 u) (pos_units binary64 m) (neg_units binary64 m)
      (pos_units binary64 b) (neg_units binary64 b) (pos_units binary64 h) (neg_units binary64 h) (pos_units binary64 v) (neg_units binary64 v) (pos_units binary64 z) (neg_units binary64 z)
      (2 ^ 30 * 2 ^ 1074) (2 ^ 25 * 2 ^ 1074) (2 ^ 1074) (ulp binary64 37)
      s1.low_end s2.high_end (le→units binary64 b m (in_finite ib) (in_finite m_in) fb (sub-fits binary64 size u) k) s3.high_end s4.high_end
      (neg_units_zero h (in_finite ih) ih.low) (high→units binary64 (2 ^ 30) size (in_finite iz) fz iz.high) (high→units binary64 (2 ^ 25) rem (in_finite ir) fr l) (lit≤ tt))

  -- h is at most b and X units
  pub eb_low : pos_units binary64 h ≤ pos_units binary64 b + X → X ≤ 2 ^ 1073 + 2 ^ 1057 → neg_units binary64 eb ≤ a * 2 ^ 1074 + pos_units binary64 eb
      → neg_units binary64 (eb ⊕ (b ⊖ h)) ≤ (a + 1) * 2 ^ 1074 + pos_units binary64 (eb ⊕ (b ⊖ h))
  unfolding le lt eq
  eb_low k x l =
      let v = b ⊖ h in
      let z = eb ⊕ v in
      let s3 = sub_units binary64 37 (2 ^ 34) (2 ^ 35) (widen_low (minus (2 ^ 34)) ib tt) (widen_low (minus (2 ^ 35)) ih tt) fb fh tt in
      let s4 = add_units binary64 37 (2 ^ 32) (2 ^ 36) ie v_in fe (sub-fits binary64 b h) tt in
      down_chain (pos_units binary64 eb) (neg_units binary64 eb) (pos_units binary64 b) (neg_units binary64 b) (pos_units binary64 h) (neg_units binary64 h) (pos_units binary64 v)
      (neg_units binary64 v) (pos_units binary64 z) (neg_units binary64 z) X (ulp binary64 37) (a * 2 ^ 1074) (2 ^ 1074) ((a + 1) * 2 ^ 1074)
      s3.low_end s4.low_end (neg_units_zero b (in_finite ib) ib.low) k l (fine X (2 ^ 1073 + 2 ^ 1057) (ulp binary64 37) (2 ^ 1074) x (lit≤ tt))
      (add-mul a 1 (2 ^ 1074) ∙ ap (λ (y : ℕ). a * 2 ^ 1074 + y) (one-mul (2 ^ 1074)))
    where
      fine : (X Y E D : ℕ) → X ≤ Y → Y + E + E ≤ D → X + E + E ≤ D
      fine X Y E D h g = omega arith
