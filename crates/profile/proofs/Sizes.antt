-- The work that a replay needs: how it compares with what is lent, its bounds within limits, and `check_of` by cases.
-- Assumes nothing.
use Prim.Native.Nat.{ℕ, ◌+◌, ◌*◌, ◌-◌, ◌/◌, ◌≤◌, ◌<◌}
use mathlib.Core.Path.{◌≡◌, refl, sym, ap, ◌∙◌}
use mathlib.Core.Bool.{Bool, true, false, cond, ◌&&◌}
use native.Mathlib.Nat.{mul_comm, mul_assoc, mul-le-mul, le_trans, le-div_iff_mul-le, div-lt_iff_lt-mul}
use native.Mathlib.Omega.{arith}
use borrow.Author.Tests.{leb-true, leb-false, le-leb, lt-leb}
use lib.Dec.{leb, eqb}
use Rattle.std.specs.Prelude.{Ok, Err}
use Rattle.std.proofs.lemmas.Bool.{and_parts, and_from}
use Rattle.error.specs.declared.Refusal.{Refusal}
use Rattle.profile.specs.declared.config.TStdConfig.{TStdConfig}
use Rattle.profile.specs.declared.limits.Limits.{Limits}
use Rattle.profile.specs.declared.work.WorkSize.{WorkSize}
use Rattle.profile.specs.Limits.{within_limits}
use Rattle.profile.specs.Work.{times_needed, needed_of, covers, check_of}
use Rattle.profile.proofs.Within.{Within, NoLarger, limits_larger}

same_test : (a b x y : ℕ) (t : Bool) → leb a b ≡ t → (a ≤ b → x ≤ y) → (b < a → y < x) → leb a b ≡ leb x y
same_test a b x y true e f g = e ∙ sym (le-leb x y (f (leb-true a b e)))
same_test a b x y false e f g = e ∙ sym (lt-leb x y (g (leb-false a b e)))

pub product : (s q : ℕ) → q * (8 * s) ≡ 8 * q * s
product s q = rw (mul_comm 8 q, mul_assoc q 8 s)

-- the comparison by a quotient, which forms no product
pub times_compare : (s q clock lent : ℕ) → 0 < s → 3 * clock ≤ lent → leb q ((lent - 3 * clock) / (8 * s)) ≡ leb (times_needed s q clock) lent
times_compare s q clock lent h k =
    let positive : 0 < 8 * s = omega arith in
    same_test q ((lent - 3 * clock) / (8 * s)) (times_needed s q clock) lent _ refl
    (λ le. omega (arith, product s q, (le-div_iff_mul-le {x = q} {y = lent - 3 * clock} positive).0 le))
    (λ lt. omega (arith, product s q, (div-lt_iff_lt-mul {x = lent - 3 * clock} {y = q} positive).0 lt))

pub needed_times : (c : TStdConfig) → (needed_of c).times ≡ times_needed c.stream_count c.queue_depth c.clock_depth
unfolding needed_of
needed_times c = refl

row_most : (s m : ℕ) (t : Bool) → cond t s (s + 1) ≤ s + 1
row_most s m true = omega arith
row_most s m false = omega arith

-- what a replay within limits needs at most
pub record NeededMost (limits : Limits) (c : TStdConfig) : Type 0 where
  pub times : (needed_of c).times ≤ 64 * limits.deepest_queue + 9000
  pub places : (needed_of c).places ≤ 6000
  pub row : (needed_of c).row ≤ 9

pub needed_most : (limits : Limits) (c : TStdConfig) → Within limits c → NeededMost limits c
unfolding needed_of
needed_most limits c w =
    let depth : c.queue_depth * c.stream_count ≤ limits.deepest_queue * 8 = mul-le-mul w.queue_depth.most w.stream_count in
    record {
      times = omega (arith, mul_assoc 8 c.queue_depth c.stream_count, depth, w.clock_depth.most);
      places = omega (arith, w.clock_depth.most);
      row = omega (arith, row_most c.stream_count c.system_count (eqb c.system_count 0), w.stream_count);
    }

-- the work and row lent are at least what is needed
pub record Covered (lent needed : WorkSize) : Type 0 where
  pub times : needed.times ≤ lent.times
  pub places : needed.places ≤ lent.places
  pub row : needed.row ≤ lent.row

module _ (lent needed : WorkSize) where
  abbrev first : Bool
  first = leb needed.times lent.times

  abbrev second : Bool
  second = leb needed.places lent.places

  abbrev third : Bool
  third = leb needed.row lent.row

  pub covers_covered : covers lent needed ≡ true → Covered lent needed
  unfolding covers
  covers_covered e =
      let both = (and_parts (first && second) third e).0 in
      record {
        times = leb-true needed.times lent.times (and_parts first second both).0;
        places = leb-true needed.places lent.places (and_parts first second both).1;
        row = leb-true needed.row lent.row (and_parts (first && second) third e).1;
      }

  pub covered_covers : Covered lent needed → covers lent needed ≡ true
  unfolding covers
  covered_covers h =
      and_from (first && second) third
      (and_from first second (le-leb needed.times lent.times h.times) (le-leb needed.places lent.places h.places))
      (le-leb needed.row lent.row h.row)

  pub not_covers : (Covered lent needed → ⊥) → covers lent needed ≡ false
  not_covers h = by_test (covers lent needed) refl
    where
      by_test : (t : Bool) → covers lent needed ≡ t → t ≡ false
      by_test true e = absurd (h (covers_covered e))
      by_test false e = refl

module _ (limits : Limits) (c : TStdConfig) (lent : WorkSize) (recording : ℕ) where
  pub check_outside : within_limits limits c ≡ false → check_of limits c lent recording ≡ Err Refusal.OutsideLimits
  unfolding check_of
  check_outside e = rw e

  module _ (within : within_limits limits c ≡ true) where
    pub check_short : covers lent (needed_of c) ≡ false → check_of limits c lent recording ≡ Err Refusal.WorkTooShort
    unfolding check_of
    check_short e = rw (within, e)

    pub check_long : Covered lent (needed_of c) → limits.longest_recording < recording → check_of limits c lent recording ≡ Err Refusal.RecordingTooLong
    unfolding check_of
    check_long h k =
        rw (within, covered_covers lent (needed_of c) h, lt-leb recording limits.longest_recording k)

    pub check_fits : Covered lent (needed_of c) → recording ≤ limits.longest_recording → check_of limits c lent recording ≡ Ok (needed_of c)
    unfolding check_of
    check_fits h k =
        rw (within, covered_covers lent (needed_of c) h, le-leb recording limits.longest_recording k)

-- what is known where the check is passed
pub record Passes (limits : Limits) (c : TStdConfig) (lent : WorkSize) (recording : ℕ) (size : WorkSize) : Type 0 where
  pub within : within_limits limits c ≡ true
  pub needed : size ≡ needed_of c
  pub covered : Covered lent (needed_of c)
  pub length : recording ≤ limits.longest_recording

module _ (limits : Limits) (c : TStdConfig) (lent : WorkSize) (recording : ℕ) (size : WorkSize) where
  by_tests : (a b d : Bool) → within_limits limits c ≡ a → covers lent (needed_of c) ≡ b → leb recording limits.longest_recording ≡ d → cond a (cond b (cond d (Ok (needed_of c)) (Err Refusal.RecordingTooLong)) (Err Refusal.WorkTooShort)) (Err Refusal.OutsideLimits) ≡ Ok size → Passes limits c lent recording size
  by_tests true true true p q r e =
      record { within = p; needed = cc; covered = covers_covered lent (needed_of c) q; length = leb-true recording limits.longest_recording r }
  by_tests true true false p q r e = cc
  by_tests true false d p q r e = cc
  by_tests false b d p q r e = cc

  pub fits_passes : check_of limits c lent recording ≡ Ok size → Passes limits c lent recording size
  unfolding check_of
  fits_passes e = by_tests _ _ _ refl refl refl e

-- what fits small limits fits larger ones, and needs the same
pub check_larger : {small large : Limits} → NoLarger small large → (c : TStdConfig) (lent : WorkSize) (recording : ℕ) (size : WorkSize) → check_of small c lent recording ≡ Ok size → check_of large c lent recording ≡ Ok size
check_larger {small} {large} le c lent recording size e =
    let p = fits_passes small c lent recording size e in
    check_fits large c lent recording (limits_larger le c p.within) p.covered (le_trans p.length le.recording) ∙ ap Ok (sym p.needed)
