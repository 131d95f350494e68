-- The step between two PCRs: congruent to their difference, within half a wrap, and the difference itself where that is within half a wrap.
use Prim.Native.Nat.{ℕ, zero, suc, ◌-◌, ◌^◌, ◌≤◌, ◌<◌}
use mathlib.Core.Path.{◌≡◌, refl, sym}
use mathlib.Core.Bool.{Bool, true, false, cond, and-false}
use native.Mathlib.Omega.{arith}
use borrow.Author.Tests.{ltb-true, ltb-false, lt-ltb, le-ltb}
use lib.Dec.{ltb}
use lib.IntN.{ℤ, pos, negsuc, neg_ℤ, nat_abs, sub_ℕ, ◌+ℤ◌, ◌-ℤ◌, ◌*ℤ◌, +ℤ_idr, -ℤ-+ℤ_cancel, +ℤ-neg_ℤ_cancel}
use lib.Signed.{lt_z}
use mir.Syntax.{w64}
use mir.Val.{SFits, to_z, of_z}
use mir.Facts.{to_z_pos, to_z-of_z}
use Rattle.error.specs.declared.Refusal.{Refusal}
use Rattle.clock.specs.declared.Pcr.{Pcr}
use Rattle.std.specs.Prelude.{Ok, Err}
use Rattle.std.specs.Int.{abs_diff}
use Rattle.clock.specs.Pcr.{pcr_modulus, half_pcr_modulus, wrapped, difference, delta_ticks}

nat_abs_sub_lem : (a b : ℕ) → nat_abs (sub_ℕ a b) ≡ abs_diff a b
nat_abs_sub_lem a b = by (ltb a b) refl
  where
    by : (t : Bool) → ltb a b ≡ t → nat_abs (cond t (negsuc (b - suc a)) (pos (a - b))) ≡ abs_diff a b
    by true e = omega (arith, ltb-true a b e)
    by false e = omega (arith, ltb-false a b e)

pub nat_abs_difference_lem : (a b : ℕ) → nat_abs (pos a -ℤ pos b) ≡ abs_diff a b
nat_abs_difference_lem a zero = omega arith
nat_abs_difference_lem a (suc b) = nat_abs_sub_lem a (suc b)

pub fits_nat_abs : (z : ℤ) → nat_abs z < 2 ^ 63 → SFits w64 z
fits_nat_abs (pos a) h = record { sfits = h }
fits_nat_abs (negsuc a) h = record { sfits = omega arith }

wraps_of : (z : ℤ) (s t : Bool)
    → (wraps : ℤ) × (z ≡ cond s (z -ℤ pos pcr_modulus) (cond t (z +ℤ pos pcr_modulus) z) +ℤ wraps *ℤ pos pcr_modulus)
wraps_of z true t = (pos 1, sym (-ℤ-+ℤ_cancel z (pos pcr_modulus)))
wraps_of z false true = (negsuc 0, sym (+ℤ-neg_ℤ_cancel z (pos pcr_modulus)))
wraps_of z false false = (pos 0, sym (+ℤ_idr z))

within : (z : ℤ) → nat_abs z < pcr_modulus → nat_abs (wrapped z) ≤ half_pcr_modulus
unfolding wrapped
within (pos a) h = by (ltb half_pcr_modulus a) refl
  where
    by : (t : Bool) → ltb half_pcr_modulus a ≡ t → nat_abs (cond t (sub_ℕ a pcr_modulus) (pos a)) ≤ half_pcr_modulus
    by true e = omega (arith, nat_abs_sub_lem a pcr_modulus, ltb-true half_pcr_modulus a e)
    by false e = omega (arith, ltb-false half_pcr_modulus a e)
within (negsuc a) h = by (ltb (half_pcr_modulus - 1) a) refl
  where
    by : (t : Bool) → ltb (half_pcr_modulus - 1) a ≡ t → nat_abs (cond t (sub_ℕ pcr_modulus (suc a)) (negsuc a)) ≤ half_pcr_modulus
    by true e = omega (arith, nat_abs_sub_lem pcr_modulus (suc a), ltb-true (half_pcr_modulus - 1) a e)
    by false e = omega (arith, ltb-false (half_pcr_modulus - 1) a e)

kept : (z : ℤ) → nat_abs z ≤ half_pcr_modulus → wrapped z ≡ z
unfolding wrapped
kept (pos a) h = rw (le-ltb half_pcr_modulus a h)
kept (negsuc a) h = rw (le-ltb (half_pcr_modulus - 1) a (omega arith))

-- the step for a difference of two PCRs
pub record StepOf (difference step : ℤ) : Type 0 where
  pub wraps : ℤ
  pub congruent : difference ≡ step +ℤ wraps *ℤ pos pcr_modulus
  pub within_half : nat_abs step ≤ half_pcr_modulus
  pub keeps : nat_abs difference ≤ half_pcr_modulus → step ≡ difference

pub wrapped_step : (z : ℤ) → nat_abs z < pcr_modulus → StepOf z (wrapped z)
unfolding wrapped
wrapped_step z h =
    let w = wraps_of z (lt_z (pos half_pcr_modulus) z) (lt_z z (neg_ℤ (pos half_pcr_modulus))) in
    record { wraps = w.0; congruent = w.1; within_half = within z h; keeps = kept z }

module _ (self other : Pcr) where
  pub delta_refused_self : pcr_modulus ≤ self.ticks_27mhz → delta_ticks self other ≡ Err Refusal.OutsideLimits
  unfolding delta_ticks
  delta_refused_self h = rw (le-ltb self.ticks_27mhz pcr_modulus h)

  pub delta_refused_other : pcr_modulus ≤ other.ticks_27mhz → delta_ticks self other ≡ Err Refusal.OutsideLimits
  unfolding delta_ticks
  delta_refused_other h = rw (le-ltb other.ticks_27mhz pcr_modulus h, and-false)

  module _ (below : self.ticks_27mhz < pcr_modulus) (other-below : other.ticks_27mhz < pcr_modulus) where
    pub delta_accepted : delta_ticks self other ≡ Ok (wrapped (difference self other))
    unfolding delta_ticks
    delta_accepted = rw (lt-ltb self.ticks_27mhz pcr_modulus below, lt-ltb other.ticks_27mhz pcr_modulus other-below)

    pub difference_below : nat_abs (difference self other) < pcr_modulus
    difference_below = omega (arith, nat_abs_difference_lem self.ticks_27mhz other.ticks_27mhz)

    pub delta_step : StepOf (difference self other) (wrapped (difference self other))
    delta_step = wrapped_step (difference self other) difference_below

  -- the difference as the machine computes it, at 64 bits
  module _ (small : self.ticks_27mhz < 2 ^ 63) (other-small : other.ticks_27mhz < 2 ^ 63) where
    pub machine_fits : SFits w64 (to_z w64 self.ticks_27mhz -ℤ to_z w64 other.ticks_27mhz)
    machine_fits =
        rw (to_z_pos w64 small, to_z_pos w64 other-small)
        (fits_nat_abs _ (omega (arith, nat_abs_difference_lem self.ticks_27mhz other.ticks_27mhz)))

    pub machine_difference : to_z w64 (of_z w64 (to_z w64 self.ticks_27mhz -ℤ to_z w64 other.ticks_27mhz)) ≡ difference self other
    machine_difference = rw (to_z-of_z machine_fits, to_z_pos w64 small, to_z_pos w64 other-small)
