-- The marked bytes of a transfer are at most the transfer's, but for rounding: each mark adds at most two roundings. Assumes nothing.
use mathlib.Core.Bool.{Bool, ◌&&◌, cond, false, true}
use mathlib.Core.List.{List, [], ◌∷◌}
use mathlib.Core.Logic.{◌⊎◌, inl, inr}
use mathlib.Core.Path.{◌∙◌, ◌≡◌, ap, refl, subst, sym}
use Prim.Native.Nat.{◌*◌, ◌+◌, ◌-◌, ◌<◌, ◌^◌, ◌≤◌, suc, zero-le, ℕ}
use native.Mathlib.Nat.{add-mul, le_trans, mul_assoc, mul-le-mul_right, one-mul}
use native.Mathlib.Omega.{arith}
use lib.Dec.{T, lit<, ltb}
use lib.Ieee.{Float, binary64, emax, eq, fin, fits, le, lt, of_bits, of_int}
use lib.Ieee.Fits.{add-fits, sub-fits}
use lib.Ieee.Positive.{den}
use lib.Ieee.Scale.{finite}
use lib.IntN.{pos}
use lib.ListN.{length}
use Rattle.ieee.specs.Binary64.{0f, ◌⊕◌, ◌⊖◌}
use Rattle.ieee.specs.Interval.{In, minus, plain, zero_float}
use Rattle.ieee.specs.MaxMin.{max_of, min_of}
use Rattle.ieee.specs.Units.{neg_units, pos_units, scale, ulp}
use Rattle.ieee.specs.Whole.{Is}
use Rattle.ieee.proofs.Growth.{add_at, sub_at, widen_at}
use Rattle.ieee.proofs.Interval.{in_finite, widen_low}
use Rattle.ieee.proofs.MaxMin.{max_in, max_l, max_r, min_in, min_l, min_r}
use Rattle.ieee.proofs.Order.{le_trans as fl-trans, nlt→le, to_not}
use Rattle.ieee.proofs.Sign.{add_nonneg, sub_le}
use Rattle.ieee.proofs.Units.{add_units, den_scale, high→units, le→units, sub_units, units→high}
use Rattle.ieee.proofs.Whole.{is_in, is_pos_part, of_int_is, sub_is}
use Rattle.ieee.proofs.MaxMin.{max_fits}
use Rattle.branch.specs.VideoBranch.{header_bytes, overlap}
use Rattle.branch.specs.declared.HeaderMark.{HeaderMark}
use Rattle.bounds.specs.Marks.{MarkIs, Marked, a_mark}
use Rattle.bounds.proofs.Rate.{neg_units_zero}
use Rattle.bounds.proofs.Take.{min_fits}

whole_units : (x : Float) (n : ℕ) → Is x n → T (fits binary64 x) → pos_units binary64 x ≡ n * 2 ^ 1074
unfolding pos_units
whole_units x n p t = ap (λ (z : ℕ). z * scale binary64 x) (is_pos_part x n p) ∙ (mul_assoc n (den x) (scale binary64 x) ∙ ap (λ (z : ℕ). n * z) (den_scale binary64 x t))

-- the start of a mark
run_start : (m : HeaderMark) (a k : ℕ) → MarkIs m a k → a + k ≤ 2 ^ 53 → Is (m.threshold ⊖ m.bytes) a
run_start m a k q h =
    subst (λ (z : Float). Is z a) (sym (sub_is binary64 m.threshold m.bytes (a + k) k q.threshold q.bytes (omega arith) ∙ ap (λ (n : ℕ). of_int binary64 (pos n)) (back a k)))
    (of_int_is binary64 a (omega arith))
  where
    back : (a k : ℕ) → a + k - k ≡ a
    back a k = omega arith

zero_fit : T (fits binary64 (fin false 0 (pos 0)))
unfolding fits
zero_fit = tt

none_in : (E : ℕ) → pos_units binary64 (fin false 0 (pos 0)) ≤ E
unfolding pos_units
none_in E = zero-le

-- in units
sum_step : (gh go gz oh oo oz E : ℕ) → oh ≡ 0 → oo ≡ 0 → oz ≡ 0 → gz + oh + oo ≤ gh + go + oz + E → gz ≤ gh + go + E
sum_step gh go gz oh oo oz E a b c h = omega arith

gap_step : (gq gp gd oq op od E : ℕ) → oq ≡ 0 → op ≡ 0 → od ≡ 0 → gd + oq + gp ≤ gq + op + od + E → gd + gp ≤ gq + E
gap_step gq gp gd oq op od E a b c h = omega arith

-- floats from 0 to M, of which a sum or a difference is below 2 ^ j
module _ (M j : ℕ) (w : T (ltb (M + 1 + M) (2 ^ j) && ltb j (emax binary64))) (small : M + 1 + M < 2 ^ 53) where
  abbrev E : ℕ
  E = ulp binary64 j

  abbrev Upto : Float → Type 0
  Upto x = In zero_float x (plain M)

  -- ---- the overlap with a mark
  module _ (start end : Float) (is : Upto start) (ie : Upto end) (fs : T (fits binary64 start)) (fe : T (fits binary64 end)) (m : HeaderMark) (a k : ℕ) (q : MarkIs m a k)
      (top : a + k ≤ M) where
    rs_is : Is (m.threshold ⊖ m.bytes) a
    rs_is = run_start m a k q (omega arith)

    rs_in : Upto (m.threshold ⊖ m.bytes)
    rs_in = is_in _ a 0 M rs_is (omega arith) (omega arith)

    thr_in : Upto m.threshold
    thr_in = is_in _ (a + k) 0 M q.threshold (omega arith) top

    p_in : Upto (max_of start (m.threshold ⊖ m.bytes))
    p_in = max_in start is.high rs_in

    q_in : Upto (min_of end m.threshold)
    q_in = min_in _ ie.low thr_in

    abbrev d : Float
    d = (min_of end m.threshold) ⊖ (max_of start (m.threshold ⊖ m.bytes))

    wide_q : In (minus (M + 1)) (min_of end m.threshold) (plain (M + 1))
    unfolding le lt eq
    wide_q = widen_at (M + 1) (M + 1) (widen_low (minus 0) q_in tt) (omega arith) (omega arith)

    wide_p : In (minus M) (max_of start (m.threshold ⊖ m.bytes)) (plain M)
    unfolding le lt eq
    wide_p = widen_at M M (widen_low (minus 0) p_in tt) (omega arith) (omega arith)

    d_in : In (minus (M + 1 + M)) d (plain (M + 1 + M))
    d_in = sub_at binary64 (pos 0) tt wide_q wide_p small small

    q_fits : T (fits binary64 (min_of end m.threshold))
    q_fits = min_fits end m.threshold fe q.fit

    p_fits : T (fits binary64 (max_of start (m.threshold ⊖ m.bytes)))
    p_fits = max_fits binary64 start (m.threshold ⊖ m.bytes) fs (sub-fits binary64 m.threshold m.bytes)

    abbrev o : Float
    o = max_of d 0f

    -- what the overlap is, by the sign of the difference
    pub record OverlapIn (x : Float) : Type 0 where
      pub low : T (le zero_float x)
      pub high : T (le x (plain M))
      pub finite' : T (finite x)
      pub fit : T (fits binary64 x)
      pub size : (pos_units binary64 x ≤ E) ⊎ (pos_units binary64 x + pos_units binary64 (max_of start (m.threshold ⊖ m.bytes)) ≤ pos_units binary64 (min_of end m.threshold) + E)

    overlap_by : (b : Bool) → lt d 0f ≡ b → OverlapIn (cond b 0f d)
    unfolding of_bits le lt eq
    overlap_by true e =
        record { low = tt; high = fl-trans zero_float (min_of end m.threshold) (plain M) tt (in_finite q_in) tt q_in.low q_in.high; finite' = tt; fit = zero_fit; size = inl (none_in E) }
    overlap_by false e =
        let z = nlt→le d zero_float (in_finite d_in) tt (to_not e) in
        let s = sub_units binary64 j (M + 1) M wide_q wide_p q_fits p_fits w in
        record {
          low = z;
          high = fl-trans d (min_of end m.threshold) (plain M) (in_finite d_in) (in_finite q_in) tt (sub_le binary64 (min_of end m.threshold) (max_of start (m.threshold ⊖ m.bytes)) (in_finite q_in) (in_finite p_in) q_fits p_in.low) q_in.high;
          finite' = in_finite d_in;
          fit = sub-fits binary64 (min_of end m.threshold) (max_of start (m.threshold ⊖ m.bytes));
          size = inr (gap_step _ _ _ _ _ _ E (neg_units_zero _ (in_finite q_in) q_in.low) (neg_units_zero _ (in_finite p_in) p_in.low) (neg_units_zero d (in_finite d_in) z) s.high_end);
        }

    pub overlap_in : OverlapIn (overlap m start end)
    unfolding overlap max_of
    overlap_in = overlap_by (lt d 0f) refl

-- ---- along the marks
-- h is the sum so far, over i marks; what is passed, in units, lies at `mark`
pub record PartialSum (M E : ℕ) (start end : Float) (lo : ℕ) (h : Float) (i : ℕ) : Type 0 where
  pub mark : ℕ
  pub at : (mark ≤ pos_units binary64 start) ⊎ (mark ≤ lo * 2 ^ 1074)
  pub top : mark ≤ pos_units binary64 end
  pub sum : pos_units binary64 h + pos_units binary64 start ≤ mark + i * (E + E)
  pub h_in : In zero_float h (plain (M + 1))
  pub h_fits : T (fits binary64 h)

small_step : (gh go gz gs C X Y E : ℕ) → gz ≤ gh + go + E → go ≤ E → gh + gs ≤ C + X → Y ≡ X + (E + E) → gz + gs ≤ C + Y
small_step gh go gz gs C X Y E a b c d = omega arith

large_step : (gh go gz gs gp gq C X Y E : ℕ) → gz ≤ gh + go + E → go + gp ≤ gq + E → C ≤ gp → gh + gs ≤ C + X → Y ≡ X + (E + E) → gz + gs ≤ gq + Y
large_step gh go gz gs gp gq C X Y E a b c d e = omega arith

high_step : (gz gs C Y ge oe A Z L oz : ℕ) → gz + gs ≤ C + Y → C ≤ ge → Y ≤ Z → Z ≤ L → ge ≤ A + oe → oe ≡ 0 → gz ≤ A + L + oz
high_step gz gs C Y ge oe A Z L oz a b c d e f = omega arith

less_of : (x y : ℕ) (ox oy : ℕ) → ox ≡ 0 → oy ≡ 0 → x + oy ≤ y + ox → x ≤ y
less_of x y ox oy a b h = omega arith

one_more : (i E : ℕ) → (i + 1) * (E + E) ≡ i * (E + E) + (E + E)
one_more i E = add-mul i 1 (E + E) ∙ ap (λ (z : ℕ). i * (E + E) + z) (one-mul (E + E))

-- the sum with an overlap is within bounds, and where it lies
module _ (M j K : ℕ) (w : T (ltb (M + 1 + M) (2 ^ j) && ltb j (emax binary64))) (small : M + 1 + M < 2 ^ 53) (fine : K * (ulp binary64 j + ulp binary64 j) ≤ 2 ^ 1074)
    (start end : Float) (is : In zero_float start (plain M)) (ie : In zero_float end (plain M)) (fs : T (fits binary64 start)) (fe : T (fits binary64 end)) where
  abbrev F : ℕ
  F = ulp binary64 j

  -- the sum z of h and o, of which the units are bounded
  close_in : (h o : Float) (lo i C : ℕ) → In zero_float h (plain (M + 1)) → T (le zero_float o) → In zero_float o (plain M) → (C ≤ pos_units binary64 start) ⊎ (C ≤ lo * 2 ^ 1074)
      → C ≤ pos_units binary64 end → i ≤ K
      → pos_units binary64 (h ⊕ o) + pos_units binary64 start ≤ C + i * (F + F) → PartialSum M F start end lo (h ⊕ o) i
  unfolding le lt eq
  close_in h o lo i C hi ol oi at top few sum =
      let z = add_at binary64 (pos 0) tt (widen_low (minus 0) hi tt) (widen_low (minus 0) oi tt) (lit< tt) small in
      let n = add_nonneg binary64 h o (in_finite hi) (in_finite oi) hi.low ol in
      record {
        mark = C;
        at = at;
        top = top;
        sum = sum;
        h_in = record {
          low_finite = tt;
          high_finite = tt;
          low = n;
          high =
              units→high binary64 (M + 1) (h ⊕ o) (in_finite z) (add-fits binary64 h o)
              (subst (λ (y : ℕ). pos_units binary64 (h ⊕ o) ≤ y + neg_units binary64 (h ⊕ o)) (sym (add-mul M 1 (2 ^ 1074) ∙ ap (λ (y : ℕ). M * 2 ^ 1074 + y) (one-mul (2 ^ 1074))))
              (high_step _ _ C _ _ _ (M * 2 ^ 1074) (K * (F + F)) (2 ^ 1074) _ sum top (mul-le-mul_right (F + F) few) fine (high→units binary64 M end (in_finite ie) fe ie.high) (neg_units_zero end (in_finite ie) ie.low)));
        };
        h_fits = add-fits binary64 h o;
      }

  module _ (m : HeaderMark) (a k : ℕ) (q : MarkIs m a k) (top : a + k ≤ M) (lo i : ℕ) (h : Float) (low : lo ≤ a) (few : i + 1 ≤ K) (f : PartialSum M (ulp binary64 j) start end lo h i) where
    abbrev gp : ℕ
    gp = pos_units binary64 (max_of start (m.threshold ⊖ m.bytes))

    start_p : pos_units binary64 start ≤ gp
    start_p =
        let pi = p_in M j w small start end is ie fs fe m a k q top in
        let ri = rs_in M j w small start end is ie fs fe m a k q top in
        less_of _ _ _ _ (neg_units_zero start (in_finite is) is.low) (neg_units_zero _ (in_finite pi) pi.low)
        (le→units binary64 start _ (in_finite is) (in_finite pi) fs (p_fits M j w small start end is ie fs fe m a k q top) (max_l is ri))

    rs_p : a * 2 ^ 1074 ≤ gp
    rs_p =
        let pi = p_in M j w small start end is ie fs fe m a k q top in
        let ri = rs_in M j w small start end is ie fs fe m a k q top in
        let rf = sub-fits binary64 m.threshold m.bytes in
        subst (λ (y : ℕ). y ≤ gp) (whole_units _ a (rs_is M j w small start end is ie fs fe m a k q top) rf)
        (less_of _ _ _ _ (neg_units_zero _ (in_finite ri) ri.low) (neg_units_zero _ (in_finite pi) pi.low)
        (le→units binary64 _ _ (in_finite ri) (in_finite pi) rf (p_fits M j w small start end is ie fs fe m a k q top) (max_r is ri)))

    before_p : (f.mark ≤ pos_units binary64 start) ⊎ (f.mark ≤ lo * 2 ^ 1074) → f.mark ≤ gp
    before_p (inl x) = le_trans x start_p
    before_p (inr x) = le_trans x (le_trans (mul-le-mul_right (2 ^ 1074) low) rs_p)

    later : (f.mark ≤ pos_units binary64 start) ⊎ (f.mark ≤ lo * 2 ^ 1074) → (f.mark ≤ pos_units binary64 start) ⊎ (f.mark ≤ (a + k) * 2 ^ 1074)
    later (inl x) = inl x
    later (inr x) = inr (le_trans x (mul-le-mul_right (2 ^ 1074) (omega arith)))

    q_end : pos_units binary64 (min_of end m.threshold) ≤ pos_units binary64 end
    q_end =
        let qi = q_in M j w small start end is ie fs fe m a k q top in
        less_of _ _ _ _ (neg_units_zero _ (in_finite qi) qi.low) (neg_units_zero end (in_finite ie) ie.low)
        (le→units binary64 _ end (in_finite qi) (in_finite ie) (q_fits M j w small start end is ie fs fe m a k q top) fe (min_l ie (thr_in M j w small start end is ie fs fe m a k q top)))

    q_thr : pos_units binary64 (min_of end m.threshold) ≤ (a + k) * 2 ^ 1074
    q_thr =
        let qi = q_in M j w small start end is ie fs fe m a k q top in
        let ti = thr_in M j w small start end is ie fs fe m a k q top in
        subst (λ (y : ℕ). pos_units binary64 (min_of end m.threshold) ≤ y) (whole_units _ (a + k) q.threshold q.fit)
        (less_of _ _ _ _ (neg_units_zero _ (in_finite qi) qi.low) (neg_units_zero _ (in_finite ti) ti.low)
        (le→units binary64 _ _ (in_finite qi) (in_finite ti) (q_fits M j w small start end is ie fs fe m a k q top) q.fit (min_r ie ti)))

    the_overlap : OverlapIn M j w small start end is ie fs fe m a k q top (overlap m start end)
    the_overlap = overlap_in M j w small start end is ie fs fe m a k q top

    overlap_bounds : In zero_float (overlap m start end) (plain M)
    overlap_bounds = record { low_finite = tt; high_finite = tt; low = the_overlap.low; high = the_overlap.high }

    sum_in : pos_units binary64 (h ⊕ (overlap m start end)) ≤ pos_units binary64 h + pos_units binary64 (overlap m start end) + ulp binary64 j
    unfolding le lt eq
    sum_in =
        let hi = f.h_in in
        let u = add_units binary64 j (M + 1) M (widen_at (M + 1) (M + 1) (widen_low (minus 0) hi tt) (omega arith) (omega arith)) (widen_at M M (widen_low (minus 0) overlap_bounds tt) (omega arith) (omega arith)) f.h_fits the_overlap.fit w in
        let z = add_at binary64 (pos 0) tt (widen_low (minus 0) hi tt) (widen_low (minus 0) overlap_bounds tt) (lit< tt) small in
        sum_step _ _ _ _ _ _ _ (neg_units_zero h (in_finite hi) hi.low) (neg_units_zero _ (in_finite overlap_bounds) overlap_bounds.low)
        (neg_units_zero _ (in_finite z) (add_nonneg binary64 h _ (in_finite hi) (in_finite overlap_bounds) hi.low overlap_bounds.low)) u.high_end

    step_by : (pos_units binary64 (overlap m start end) ≤ ulp binary64 j) ⊎ (pos_units binary64 (overlap m start end) + pos_units binary64 (max_of start (m.threshold ⊖ m.bytes)) ≤ pos_units binary64 (min_of end m.threshold) + ulp binary64 j)
        → PartialSum M (ulp binary64 j) start end (a + k) (h ⊕ (overlap m start end)) (i + 1)
    step_by (inl x) =
        close_in h (overlap m start end) (a + k) (i + 1) f.mark f.h_in the_overlap.low overlap_bounds (later f.at) f.top few
        (small_step _ _ _ _ _ _ _ (ulp binary64 j) sum_in x f.sum (one_more i (ulp binary64 j)))
    step_by (inr x) =
        close_in h (overlap m start end) (a + k) (i + 1) (pos_units binary64 (min_of end m.threshold)) f.h_in the_overlap.low overlap_bounds (inr q_thr) q_end few
        (large_step _ _ _ _ _ _ f.mark _ _ (ulp binary64 j) sum_in x (before_p f.at) f.sum (one_more i (ulp binary64 j)))

    pub mark_step : PartialSum M (ulp binary64 j) start end (a + k) (h ⊕ (overlap m start end)) (i + 1)
    mark_step = step_by the_overlap.size

  pub record Summed (r : Float) : Type 0 where
    pub r_in : In zero_float r (plain (M + 1))
    pub r_fits : T (fits binary64 r)
    pub size : pos_units binary64 r + pos_units binary64 start ≤ pos_units binary64 end + K * (ulp binary64 j + ulp binary64 j)

  so_summed : (lo i : ℕ) (h : Float) → i ≤ K → PartialSum M (ulp binary64 j) start end lo h i → Summed h
  so_summed lo i h few f = record { r_in = f.h_in; r_fits = f.h_fits; size = le_trans f.sum (both f.top (mul-le-mul_right (ulp binary64 j + ulp binary64 j) few)) }
    where
      both : {a b c d : ℕ} → a ≤ b → c ≤ d → a + c ≤ b + d
      both {a} {b} {c} {d} x y = omega arith

  pick_summed : (x y z : Float) (b c : Bool) → Summed x → Summed y → Summed z → Summed (cond b x (cond c y z))
  pick_summed x y z true c p q r = p
  pick_summed x y z false true p q r = q
  pick_summed x y z false false p q r = r

  pub summed : (ms : List HeaderMark) (lo i : ℕ) (h : Float) → Marked M ms lo → i + length ms ≤ K → PartialSum M (ulp binary64 j) start end lo h i → Summed (header_bytes ms start end h)
  unfolding header_bytes
  summed [] lo i h p few f = so_summed lo i h (fewer i 0 K few) f
    where
      fewer : (i n K : ℕ) → i + n ≤ K → i ≤ K
      fewer i n K x = omega arith
  summed (m ∷ ms) lo i h (a_mark a k under top q l) few f =
      let few' = next i (length ms) K few in
      let g = mark_step m a k q top lo i h under few'.0 f in
      pick_summed h (header_bytes ms start end (h ⊕ (overlap m start end))) (h ⊕ (overlap m start end)) (le end (m.threshold ⊖ m.bytes)) (le m.threshold end)
      (so_summed lo i h few'.2 f) (summed ms (a + k) (i + 1) (h ⊕ (overlap m start end)) l few'.1 g) (so_summed (a + k) (i + 1) _ few'.0 g)
    where
      next : (i n K : ℕ) → i + suc n ≤ K → (i + 1 ≤ K) × (i + 1 + n ≤ K) × (i ≤ K)
      next i n K x = (omega arith, omega arith, omega arith)
