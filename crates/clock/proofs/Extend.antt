-- Where the extended timestamp lies: within half a wrap of the reference. So it is the nearest of all numbers of its residue,
-- and no caller needs to know by which search it was found.
use Prim.Native.Nat.{ℕ, zero, suc, ◌+◌, ◌-◌, ◌/◌, ◌%◌, ◌^◌, ◌≤◌, ◌<◌}
use mathlib.Core.Path.{◌≡◌, refl}
use mathlib.Core.List.{map}
use native.Mathlib.Omega.{arith}
use borrow.Author.Tests.{lt-ltb, le-ltb}
use Rattle.error.specs.declared.Refusal.{Refusal}
use Rattle.std.specs.Prelude.{Ok, Err}
use Rattle.clock.specs.Timestamp.{timestamp_modulus, in_epoch, epochs_around, candidates, nearest, nearest_timestamp, extend_near}
use Rattle.std.specs.Int.{abs_diff}
use Rattle.clock.proofs.Nearest.{Picks, here, there, picked}

-- at most half a wrap below the reference and less than half a wrap above it; or, near 0, in the first wrap
pub record Extends (raw reference r : ℕ) : Type 0 where
  pub congruent : r % timestamp_modulus ≡ raw % timestamp_modulus
  pub at_least : reference ≤ r + 2 ^ 32
  pub below : r < reference - 2 ^ 32 + timestamp_modulus

-- of all numbers of raw's residue none lies closer to the reference, and none that lies as close is lower
pub record NearestOfAll (raw reference r : ℕ) : Type 0 where
  pub same_residue : r % timestamp_modulus ≡ raw % timestamp_modulus
  pub closest : (c : ℕ) → c % timestamp_modulus ≡ raw % timestamp_modulus → abs_diff r reference ≤ abs_diff c reference
  pub lowest : (c : ℕ) → c % timestamp_modulus ≡ raw % timestamp_modulus → abs_diff c reference ≡ abs_diff r reference → r ≤ c

pub extends_unique : (raw reference r s : ℕ) → Extends raw reference r → Extends raw reference s → r ≡ s
extends_unique raw reference r s g h = omega arith

pub extends_nearest : (raw reference r : ℕ) → Extends raw reference r → NearestOfAll raw reference r
extends_nearest raw reference r h = omega arith

module _ (raw reference : ℕ) where
  above : (b : ℕ) → reference / timestamp_modulus ≡ suc b
      → abs_diff (in_epoch raw (suc (suc b))) reference < abs_diff (in_epoch raw (suc b)) reference
      → Extends raw reference (in_epoch raw (suc (suc b)))
  above b e h = omega arith

  in_first : {r : ℕ} → reference / timestamp_modulus ≡ 0 → Picks reference (map (in_epoch raw) (epochs_around 0)) r
      → Extends raw reference r
  unfolding epochs_around
  in_first e (here n) = omega arith
  in_first e (there h (here n)) = omega arith
  in_first {r = r} e (there h (there _ none)) = elim none [ ]

  in_later : (b : ℕ) {r : ℕ} → reference / timestamp_modulus ≡ suc b
      → Picks reference (map (in_epoch raw) (epochs_around (suc b))) r → Extends raw reference r
  unfolding epochs_around
  in_later b e (here n) = omega arith
  in_later b e (there h (here n)) = omega arith
  in_later b e (there h (there g (here n))) = above b e g
  in_later b {r = r} e (there h (there g (there _ none))) = elim none [ ]

  in_epochs : (own : ℕ) → reference / timestamp_modulus ≡ own
      → Extends raw reference (nearest reference (map (in_epoch raw) (epochs_around own)))
  unfolding epochs_around
  in_epochs zero e = in_first e (picked reference _ _)
  in_epochs (suc b) e = in_later b e (picked reference _ _)

  pub nearest_extends : Extends raw reference (nearest_timestamp raw reference)
  unfolding nearest_timestamp candidates
  nearest_extends = in_epochs (reference / timestamp_modulus) refl

  pub nearest_of_all : NearestOfAll raw reference (nearest_timestamp raw reference)
  nearest_of_all = extends_nearest raw reference _ nearest_extends

  pub nearest_fits : reference < 2 ^ 64 - timestamp_modulus → nearest_timestamp raw reference < 2 ^ 64
  nearest_fits h = omega (arith, nearest_extends)

  pub extend_accepted : reference < 2 ^ 64 - timestamp_modulus
      → extend_near raw reference ≡ Ok (nearest_timestamp raw reference)
  unfolding extend_near
  extend_accepted h = rw (lt-ltb reference (2 ^ 64 - timestamp_modulus) h)

  pub extend_refused : 2 ^ 64 - timestamp_modulus ≤ reference → extend_near raw reference ≡ Err Refusal.OutsideLimits
  unfolding extend_near
  extend_refused h = rw (le-ltb reference (2 ^ 64 - timestamp_modulus) h)
