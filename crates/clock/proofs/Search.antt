-- The search over the epochs, one after the other: what is known after each, and that all of them are the candidates.
use Prim.Native.Nat.{ℕ, zero, suc, ◌+◌, ◌-◌, ◌/◌}
use mathlib.Core.Path.{◌≡◌, sym, ◌∙◌, ap}
use mathlib.Core.List.{List, [], ◌∷◌, ◌++◌, map}
use native.Mathlib.Numerals.{add-one, add-two}
use native.Mathlib.Omega.{arith}
use Rattle.clock.specs.Timestamp.{timestamp_modulus, in_epoch, epochs_around, candidates, nearest, nearest_timestamp}
use Rattle.clock.proofs.Nearest.{here, nearest_is, nearest_more}

-- the timestamp in the n epochs above the lowest
abbrev pub higher : ℕ → ℕ → ℕ → List ℕ
higher raw lowest zero = []
higher raw lowest (suc n) = higher raw lowest n ++ (in_epoch raw (lowest + suc n) ∷ [])

-- best is the nearest in the epochs from the lowest up to the one before epoch
pub record Searched (raw reference lowest best epoch : ℕ) : Type 0 where
  pub count : ℕ
  pub next : epoch ≡ lowest + suc count
  pub best_is : best ≡ nearest reference (in_epoch raw lowest ∷ higher raw lowest count)

pub begun : (raw reference lowest best epoch : ℕ) → best ≡ in_epoch raw lowest → epoch ≡ lowest + 1 → Searched raw reference lowest best epoch
begun raw reference lowest best epoch b e =
    record { count = 0; next = e; best_is = b ∙ sym (nearest_is reference (here tt)) }

pub gone_on : {raw reference lowest best epoch : ℕ} (x nearer : ℕ) → Searched raw reference lowest best epoch
    → x ≡ in_epoch raw epoch → nearer ≡ nearest reference (best ∷ x ∷ []) → Searched raw reference lowest nearer (epoch + 1)
gone_on {raw} {reference} {lowest} x nearer s e n =
    record {
      count = suc s.count;
      next = omega arith;
      best_is =
          n ∙ rw (e, s.best_is, s.next) (sym (nearest_more reference (in_epoch raw (lowest + suc s.count)) (in_epoch raw lowest) (higher raw lowest s.count)));
    }

all_tried : (raw own lowest count : ℕ) → lowest ≡ own - 1 → own + 2 ≡ lowest + suc count
    → in_epoch raw lowest ∷ higher raw lowest count ≡ map (in_epoch raw) (epochs_around own)
unfolding epochs_around
all_tried raw zero lowest count l e =
    let c : count ≡ 1 = omega arith in rw (c, l)
all_tried raw (suc b) lowest count l e =
    let d : lowest ≡ b = omega arith in let c : count ≡ 2 = omega arith in rw (c, d, add-one, add-two)

pub ended : {raw reference lowest best epoch : ℕ} → Searched raw reference lowest best epoch → lowest ≡ reference / timestamp_modulus - 1
    → epoch ≡ reference / timestamp_modulus + 2 → best ≡ nearest_timestamp raw reference
unfolding nearest_timestamp candidates
ended {raw} {reference} {lowest} s l e =
    s.best_is ∙ ap (nearest reference) (all_tried raw (reference / timestamp_modulus) lowest s.count l (sym e ∙ s.next))
