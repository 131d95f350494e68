-- Rounding of a fraction with a sign, (p - n) / c, keeps the order: overflow and zeros of either sign included. Assumes nothing.
use Rattle.std.proofs.Common.{◌≡◌, ℕ, zero, suc, ◌+◌, ◌*◌, ◌^◌, ◌<◌, ◌≤◌, Bool, true, false, cond, not, T, ltb, sym, refl, ap, ◌∙◌, subst, inl, inr, true≢false, eq-zero-or-pos, mul-pos, zero-mul, arith, pow_pos}
use mathlib.Core.Bool.{false≢true}
use lib.Ieee.{Float, nan, inf, fin, Format, prec, emax, low, up, down, le, neg, round, units, odd}
use lib.Ieee.Fits.{round_is}
use lib.Ieee.Exact.{HasValue, round_exact}
use lib.Ieee.Order.{round_mono}
use lib.Ieee.Positive.{den}
use Rattle.ieee.specs.Value.{part, pos_part, neg_part, Frac-le}
use Rattle.ieee.specs.Rounding.{Rounds, nonneg, nonpos}
use Rattle.ieee.proofs.Value.{ring, val→le, parts→ord, value_finite, value_parts}
use Rattle.ieee.proofs.Order.{le_neg}

-- ---- the sign of what is rounded
-- neither a not-a-number nor of the other sign
abbrev Signed : Bool → Float → Type 0
Signed s nan = ⊥
Signed s (inf t) = t ≡ s
Signed s (fin t m e) = t ≡ s

odd_signed : (d : ℕ) (s : Bool) (q k l : ℕ) → Signed s (odd d s q k l)
unfolding odd
odd_signed d s zero k l = refl
odd_signed d s (suc q) k l = refl

units_signed : (f : Format) (s : Bool) (q k : ℕ) → Signed s (units f s q k)
unfolding units
units_signed f s q k = go (ltb (q * 2 ^ k) (2 ^ (low f + suc (emax f))))
  where
    go : (b : Bool) → Signed s (cond b (odd (suc (prec f)) s q k (low f)) (inf s))
    go true = odd_signed (suc (prec f)) s q k (low f)
    go false = refl

round_signed : (f : Format) (s : Bool) (a c : ℕ) → Signed s (round f s a c)
round_signed f s a c = subst (λ (z : Float). Signed s z) (sym (round_is f s a c)) (units_signed f s _ _)

odd_neg : (d q k l : ℕ) → odd d true q k l ≡ neg (odd d false q k l)
unfolding odd neg
odd_neg d zero k l = refl
odd_neg d (suc q) k l = refl

units_neg : (f : Format) (q k : ℕ) → units f true q k ≡ neg (units f false q k)
unfolding units neg
units_neg f q k = go (ltb (q * 2 ^ k) (2 ^ (low f + suc (emax f))))
  where
    go : (b : Bool) → cond b (odd (suc (prec f)) true q k (low f)) (inf true) ≡ neg (cond b (odd (suc (prec f)) false q k (low f)) (inf false))
    go true = odd_neg (suc (prec f)) q k (low f)
    go false = refl

-- rounding is symmetric
pub round_neg : (f : Format) (a c : ℕ) → round f true a c ≡ neg (round f false a c)
round_neg f a c = round_is f true a c ∙ units_neg f _ _ ∙ ap neg (sym (round_is f false a c))

signed_le : (x y : Float) → Signed true x → Signed false y → T (le x y)
unfolding le
signed_le nan y p q = absurd p
signed_le (inf true) nan p q = absurd q
signed_le (inf true) (inf true) p q = absurd (true≢false q)
signed_le (inf true) (inf false) p q = tt
signed_le (inf true) (fin t n d) p q = tt
signed_le (inf false) y p q = absurd (false≢true p)
signed_le (fin false m e) y p q = absurd (false≢true p)
signed_le (fin true m e) nan p q = absurd q
signed_le (fin true m e) (inf true) p q = absurd (true≢false q)
signed_le (fin true m e) (inf false) p q = tt
signed_le (fin true m e) (fin true n d) p q = absurd (true≢false q)
signed_le (fin true m e) (fin false n d) p q = parts→ord true false (m * up e * down d) (n * up d * down e) (omega arith)

-- ---- zero
round_zero : (f : Format) (s : Bool) (c : ℕ) → 0 < c → HasValue (round f s 0 c) s 0 c
round_zero f s c C = round_exact f s 0 c 0 0 C (pow_pos (prec f)) (pow_pos (low f + suc (emax f))) (zero-mul (2 ^ low f) ∙ sym (zero-mul c))

no_product : (d c : ℕ) → 0 < c → d * c ≡ 0 → d ≡ 0
no_product d c C h = elim (eq-zero-or-pos d) [ inl z ↦ z | inr p ↦ absurd (no (d * c) (mul-pos p C) h) ]
  where
    no : (z : ℕ) → 0 < z → z ≡ 0 → ⊥
    no z a b = omega arith

part_zero : (s : Bool) → part s 0 ≡ 0
part_zero false = refl
part_zero true = refl

zero_parts : (x : Float) (s : Bool) (c : ℕ) → 0 < c → HasValue x s 0 c → (pos_part x ≡ 0) × (neg_part x ≡ 0)
zero_parts x s c C v =
    let k = value_parts x s 0 c v in (
      no_product (pos_part x) c C (k.0 ∙ ap (λ (z : ℕ). z * den x) (part_zero s) ∙ zero-mul (den x)),
      no_product (neg_part x) c C (k.1 ∙ ap (λ (z : ℕ). z * den x) (part_zero (not s)) ∙ zero-mul (den x)),
    )

zeros_le : (x y : Float) (s t : Bool) (c d : ℕ) → 0 < c → 0 < d → HasValue x s 0 c → HasValue y t 0 d → T (le x y)
zeros_le x y s t c d C D p q =
    let a = zero_parts x s c C p in
    let b = zero_parts y t d D q in
    val→le x y (value_finite x s 0 c p) (value_finite y t 0 d q) (rw (a.0, a.1, b.0, b.1) (omega arith))

-- ---- a larger fraction rounds to a value that is no smaller
module _ (p n c p' n' c' d d' : ℕ) (h : Frac-le p n c p' n' c') where
  both_nonneg : p ≡ n + d → p' ≡ n' + d' → d * c' ≤ d' * c
  both_nonneg e e' = omega (arith, simp ring at (rw (e, e') at h))

  both_zero : p ≡ n + d → n' ≡ p' + d' → d * c' + d' * c ≤ 0
  both_zero e e' = omega (arith, simp ring at (rw (e, e') at h))

  both_nonpos : n ≡ p + d → n' ≡ p' + d' → d' * c ≤ d * c'
  both_nonpos e e' = omega (arith, simp ring at (rw (e, e') at h))

zeros : (f : Format) (c c' d d' : ℕ) → 0 < c → 0 < c' → d * c' + d' * c ≤ 0 → T (le (round f false d c) (round f true d' c'))
zeros f c c' d d' C C' h =
    subst (λ (a : ℕ). T (le (round f false a c) (round f true d' c'))) (sym (no_product d c' C' (omega arith)))
    (subst (λ (a : ℕ). T (le (round f false 0 c) (round f true a c'))) (sym (no_product d' c C (omega arith)))
    (zeros_le (round f false 0 c) (round f true 0 c') false true c c' C C' (round_zero f false c C) (round_zero f true c' C')))

le_both : (x x' y y' : Float) → x ≡ x' → y ≡ y' → T (le x' y') → T (le x y)
le_both x x' y y' p q h = subst (λ (a : Float). T (le a y)) (sym p) (subst (λ (b : Float). T (le x' b)) (sym q) h)

pub rounds_mono : (f : Format) (z z' : Float) (p n c p' n' c' : ℕ) → 0 < c → 0 < c' → Rounds f z p n c → Rounds f z' p' n' c' → Frac-le p n c p' n' c' → T (le z z')
rounds_mono f z z' p n c p' n' c' C C' (nonneg d e w) (nonneg d' e' w') h =
    le_both z (round f false d c) z' (round f false d' c') w w' (round_mono f d c d' c' C C' (both_nonneg p n c p' n' c' d d' h e e'))
rounds_mono f z z' p n c p' n' c' C C' (nonneg d e w) (nonpos d' e' w') h =
    le_both z (round f false d c) z' (round f true d' c') w w' (zeros f c c' d d' C C' (both_zero p n c p' n' c' d d' h e e'))
rounds_mono f z z' p n c p' n' c' C C' (nonpos d e w) (nonneg d' e' w') h =
    le_both z (round f true d c) z' (round f false d' c') w w' (signed_le (round f true d c) (round f false d' c') (round_signed f true d c) (round_signed f false d' c'))
rounds_mono f z z' p n c p' n' c' C C' (nonpos d e w) (nonpos d' e' w') h =
    le_both z (neg (round f false d c)) z' (neg (round f false d' c')) (w ∙ round_neg f d c) (w' ∙ round_neg f d' c')
    (le_neg (round f false d c) (round f false d' c') (round_mono f d' c' d c C' C (both_nonpos p n c p' n' c' d d' h e e')))

-- a / c with the sign s, as it is rounded
pub round_rounds : (f : Format) (s : Bool) (a c : ℕ) → Rounds f (round f s a c) (part s a) (part (not s) a) c
round_rounds f false a c = nonneg a (omega arith) refl
round_rounds f true a c = nonpos a (omega arith) refl
