-- Membership in the table from its entries: no for each of them, yes for what differs from them all.
-- Assumes nothing.
use mathlib.Core.Path.{◌≡◌, refl, ap}
use mathlib.Core.Bool.{true, false, not}
use Prim.Native.Nat.{ℕ, ◌<◌}
use lib.Dec.{eqb}
use lib.ListN.{length, get_or}
use borrow.Author.Tests.{eq-eqb, ne_eqb}
use Rattle.std.proofs.lemmas.List.Folds.{list_any_at}
use Rattle.std.proofs.lemmas.List.Recursion.{or_from_places}
use Rattle.pes.specs.StreamId.{member, without_header, has_optional_header}

-- no for each entry of the table, yes for what differs from all of them
pub has_none : (id i : ℕ) → i < length without_header → get_or without_header i 0 ≡ id → has_optional_header id ≡ false
unfolding has_optional_header
has_none id i h e = ap not (list_any_at (λ y. eqb y id) without_header i 0 h (eq-eqb _ _ e))

pub has_one : (id : ℕ) → ((i : ℕ) → i < length without_header → get_or without_header i 0 ≡ id → ⊥) → has_optional_header id ≡ true
unfolding has_optional_header
has_one id h =
    ap not (or_from_places (member id) (λ y. eqb y id) refl (λ _ _. refl) without_header 0 (λ i l. ne_eqb _ _ (h i l)))
