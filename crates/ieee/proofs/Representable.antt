-- A value of the format stays a bound under rounding: a fraction that is at most, or at least, such a value rounds to at most, or at least, that value.
-- Assumes nothing.
use Rattle.std.proofs.Common.{◌≡◌, ℕ, zero, suc, ◌+◌, ◌-◌, ◌*◌, ◌%◌, ◌^◌, ◌<◌, ◌≤◌, Bool, true, false, not, ◌&&◌, T, eqb, ltb, leb, ℤ, pos, negsuc, sym, ap, ◌∙◌, le_trans, le_of_eq, lt_of_lt_of_le, le_of_suc-le-suc, lt_of_le_of_lt, mul-le-mul_right, zero-lt-suc, mul_assoc, mul_comm, mul-lt-mul_of_pos_right, mul-pos, one-mul, lt_of_not-le, zero-mul, mul-one, not-le_of_lt, arith, eqb→eq, ltb→lt, leb→le, pow_pos, pow-add}
use lib.Pow.{pow-lt}
use lib.Ieee.{Float, nan, inf, fin, Format, prec, emax, low, up, down, round, le, fits}
use lib.Ieee.Fits.{and_l, and_r, up_pos, down_pos}
use lib.Ieee.Exact.{HasValue, round_exact}
use lib.Ieee.Scale.{finite}
use lib.Ieee.Positive.{den}
use Rattle.ieee.specs.Value.{part, pos_part, neg_part, Frac-le}
use Rattle.ieee.specs.Interval.{zero_float}
use Rattle.ieee.specs.Rounding.{Rounds}
use Rattle.ieee.proofs.Value.{val→le, value_finite, value_parts}
use Rattle.ieee.proofs.Order.{le_trans_inf_l, le_trans_inf_r}
use Rattle.ieee.proofs.Rounding.{rounds_mono, round_rounds}

-- ---- q * 2 ^ e is a value of the format
pub pow_le_cancel : (k l : ℕ) → 2 ^ k ≤ 2 ^ l → k ≤ l
pow_le_cancel k l h = le_of_suc-le-suc (lt_of_not-le (λ (g : suc l ≤ k). not-le_of_lt (pow-lt g) h))

exact_at : (f : Format) (s : Bool) (q : ℕ) (e : ℤ) → q < 2 ^ prec f → down e ≤ 2 ^ low f → q * up e < 2 ^ suc (emax f) * down e → HasValue (round f s (q * up e) (down e)) s (q * up e) (down e)
exact_at f s q (pos k) h a b =
    round_exact f s (q * 2 ^ k) 1 q (k + low f) (zero-lt-suc 0) h
    (lt_of_le_of_lt (le_of_eq (ap (λ (z : ℕ). q * z) (pow-add 2 k (low f)) ∙ sym (mul_assoc q (2 ^ k) (2 ^ low f))))
    (lt_of_lt_of_le (mul-lt-mul_of_pos_right b (pow_pos (low f))) (le_of_eq (ap (λ (z : ℕ). z * 2 ^ low f) (mul-one (2 ^ suc (emax f))) ∙ mul_comm (2 ^ suc (emax f)) (2 ^ low f) ∙ sym (pow-add 2 (low f) (suc (emax f)))))))
    (mul_assoc q (2 ^ k) (2 ^ low f) ∙ ap (λ (z : ℕ). q * z) (sym (pow-add 2 k (low f))) ∙ sym (mul-one (q * 2 ^ (k + low f))))
exact_at f s q (negsuc k) h a b =
    let r : low f - suc k + suc k ≡ low f = sub_add (low f) (suc k) (pow_le_cancel (suc k) (low f) a) in
    let P = 2 ^ (low f - suc k) in
    let w : P * 2 ^ suc k ≡ 2 ^ low f = sym (pow-add 2 (low f - suc k) (suc k)) ∙ ap (λ (z : ℕ). 2 ^ z) r in
    round_exact f s (q * 1) (2 ^ suc k) q (low f - suc k) (pow_pos (suc k)) h
    (lt_of_le_of_lt (le_of_eq (ap (λ (z : ℕ). z * P) (sym (mul-one q))))
    (lt_of_lt_of_le (mul-lt-mul_of_pos_right b (pow_pos (low f - suc k)))
    (le_of_eq (mul_assoc (2 ^ suc (emax f)) (2 ^ suc k) P ∙ ap (λ (z : ℕ). 2 ^ suc (emax f) * z) (mul_comm (2 ^ suc k) P ∙ w) ∙ mul_comm (2 ^ suc (emax f)) (2 ^ low f) ∙ sym (pow-add 2 (low f) (suc (emax f)))))))
    (ap (λ (z : ℕ). z * 2 ^ low f) (mul-one q) ∙ ap (λ (z : ℕ). q * z) (sym w) ∙ sym (mul_assoc q P (2 ^ suc k)))
  where
    sub_add : (l k : ℕ) → k ≤ l → l - k + k ≡ l
    sub_add l k h = omega arith

-- what rounds to a value is that value, by `le` both ways
module _ (y : Float) (s : Bool) (q : ℕ) (e : ℤ) (v : HasValue y s (q * up e) (down e)) where
  value_high : T (le y (fin s q e))
  value_high = let k = value_parts y s (q * up e) (down e) v in val→le y (fin s q e) (value_finite y s (q * up e) (down e) v) tt (omega (arith, k.0, k.1))

  value_low : T (le (fin s q e) y)
  value_low = let k = value_parts y s (q * up e) (down e) v in val→le (fin s q e) y tt (value_finite y s (q * up e) (down e) v) (omega (arith, k.0, k.1))

-- z is (p - n) / c rounded, to be compared with q * 2 ^ e with the sign s
module _ (f : Format) (s : Bool) (q : ℕ) (e : ℤ) (small : q < 2 ^ prec f) (fine : down e ≤ 2 ^ low f) (top : q * up e < 2 ^ suc (emax f) * down e) (z : Float) (p n c : ℕ) (C : 0 < c) (w : Rounds f z p n c) where
  bound : Float
  bound = round f s (q * up e) (down e)

  exact : HasValue bound s (q * up e) (down e)
  unfolding bound
  exact = exact_at f s q e small fine top

  at_most : Frac-le p n c (part s (q * up e)) (part (not s) (q * up e)) (down e) → T (le z (fin s q e))
  unfolding bound
  at_most h =
      le_trans_inf_l z bound (fin s q e) (value_finite bound s (q * up e) (down e) exact) tt
      (rounds_mono f z bound p n c _ _ (down e) C (down_pos e) w (round_rounds f s (q * up e) (down e)) h)
      (value_high bound s q e exact)

  at_least : Frac-le (part s (q * up e)) (part (not s) (q * up e)) (down e) p n c → T (le (fin s q e) z)
  unfolding bound
  at_least h =
      le_trans_inf_r (fin s q e) bound z tt (value_finite bound s (q * up e) (down e) exact)
      (value_low bound s q e exact)
      (rounds_mono f bound z _ _ (down e) p n c (down_pos e) C (round_rounds f s (q * up e) (down e)) w h)

-- ---- each q below 2 ^ prec, at one exponent
-- the format holds q * 2 ^ e for each q below 2 ^ prec
abbrev pub exponent_fits : Format → ℤ → Bool
exponent_fits f e = leb (down e) (2 ^ low f) && leb (2 ^ prec f * up e) (2 ^ suc (emax f) * down e)

module _ (f : Format) (q : ℕ) (e : ℤ) (small : q < 2 ^ prec f) (r : T (exponent_fits f e)) where
  fine_of : down e ≤ 2 ^ low f
  fine_of = leb→le (down e) (2 ^ low f) (and_l (leb (down e) (2 ^ low f)) (leb (2 ^ prec f * up e) (2 ^ suc (emax f) * down e)) r)

  top_of : q * up e < 2 ^ suc (emax f) * down e
  top_of = lt_of_lt_of_le (mul-lt-mul_of_pos_right small (up_pos e)) (leb→le (2 ^ prec f * up e) (2 ^ suc (emax f) * down e) (and_r (leb (down e) (2 ^ low f)) (leb (2 ^ prec f * up e) (2 ^ suc (emax f) * down e)) r))

  pub rounds_high : (z : Float) (p n c : ℕ) → 0 < c → Rounds f z p n c → p * down e ≤ q * up e * c + n * down e → T (le z (fin false q e))
  rounds_high z p n c C w h = at_most f false q e small fine_of top_of z p n c C w (omega arith)

  pub rounds_low : (z : Float) (p n c : ℕ) → 0 < c → Rounds f z p n c → n * down e ≤ q * up e * c + p * down e → T (le (fin true q e) z)
  rounds_low z p n c C w h = at_least f true q e small fine_of top_of z p n c C w (omega arith)

-- ---- what fits
pub fits_parts : (f : Format) (s : Bool) (m : ℕ) (e : ℤ) → T (fits f (fin s m e)) → (m < 2 ^ prec f) × (down e ≤ 2 ^ low f) × (m * up e < 2 ^ suc (emax f) * down e)
unfolding fits
fits_parts f s zero e t =
    let u : up e * down e ≡ 1 = eqb→eq (up e * down e) 1 t in
    (pow_pos (prec f), le_trans (one_of (up e) (down e) (up_pos e) u) (pow_pos (low f)), lt_of_le_of_lt (le_of_eq (zero-mul (up e))) (mul-pos (pow_pos (suc (emax f))) (down_pos e)))
  where
    one_of : (a b : ℕ) → 0 < a → a * b ≡ 1 → b ≤ 1
    one_of a b A h = le_trans (le_of_eq (sym (one-mul b))) (le_trans (mul-le-mul_right b A) (le_of_eq h))
fits_parts f s (suc m) e t =
    let a : Bool = eqb (suc m % 2) 1 in
    let b : Bool = ltb (suc m) (2 ^ prec f) in
    let c : Bool = leb (down e) (2 ^ low f) in
    let d : Bool = ltb (suc m * up e) (2 ^ suc (emax f) * down e) in
    let abc = and_l (a && b && c) d t in
    (ltb→lt (suc m) (2 ^ prec f) (and_r a b (and_l (a && b) c abc)), leb→le (down e) (2 ^ low f) (and_r (a && b) c abc), ltb→lt (suc m * up e) (2 ^ suc (emax f) * down e) (and_r (a && b && c) d t))

pub zero_fits : (f : Format) → T (fits f zero_float)
unfolding fits
zero_fits f = tt

pub rounds_below : (f : Format) (z x : Float) (p n c : ℕ) → T (finite x) → T (fits f x) → 0 < c → Rounds f z p n c → Frac-le p n c (pos_part x) (neg_part x) (den x) → T (le z x)
rounds_below f z nan p n c q t C w h = absurd q
rounds_below f z (inf s) p n c q t C w h = absurd q
rounds_below f z (fin s m e) p n c q t C w h = let k = fits_parts f s m e t in at_most f s m e k.0 k.1 k.2 z p n c C w h

pub rounds_above : (f : Format) (z x : Float) (p n c : ℕ) → T (finite x) → T (fits f x) → 0 < c → Rounds f z p n c → Frac-le (pos_part x) (neg_part x) (den x) p n c → T (le x z)
rounds_above f z nan p n c q t C w h = absurd q
rounds_above f z (inf s) p n c q t C w h = absurd q
rounds_above f z (fin s m e) p n c q t C w h = let k = fits_parts f s m e t in at_least f s m e k.0 k.1 k.2 z p n c C w h
