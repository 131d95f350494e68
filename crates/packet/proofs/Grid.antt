-- Sync bytes on a grid of packets, and the places of packets in a recording.
-- Assumes nothing.
use mathlib.Core.Path.{◌≡◌, refl, sym}
use mathlib.Core.Bool.{Bool, true, false, and-false}
use mathlib.Core.List.{List}
use Prim.Native.Nat.{ℕ, zero, suc, ◌+◌, ◌*◌, ◌/◌, ◌<◌, ◌≤◌, min}
use native.Mathlib.Nat.{suc-mul, mul-le-mul_right, div-mul-le_self, not-suc-le-zero}
use native.Mathlib.Omega.{arith}
use native.Mathlib.Numerals.{add-one}
use lib.Dec.{eqb}
use lib.ListN.{length, get_or}
use borrow.Author.Tests.{eq-eqb, ne_eqb, eqb-true, eqb-false, le-leb, lt-leb}
use Rattle.packet.specs.Layout.{in_sync, on_grid}

-- packet k of whole packets lies within the recording
pub in_packet_lem : (n size k : ℕ) → k < n / size → k * size + size ≤ n
in_packet_lem n size k h =
    let a : suc k * size ≤ n / size * size = mul-le-mul_right size h in
    omega (arith, suc-mul k size, div-mul-le_self n size)

-- one packet further on
pub step_on : (k size off at : ℕ) → at ≡ k * size + off → at + size ≡ (k + 1) * size + off
step_on k size off at e = rw (add-one, suc-mul) (omega arith)

pub sync_more : (l : List ℕ) (size off k : ℕ) → in_sync l size off k ≡ true → get_or l (k * size + off) 0 ≡ 0x47
    → in_sync l size off (suc k) ≡ true
sync_more l size off k h e = rw (h, eq-eqb _ _ e)

pub sync_not : (l : List ℕ) (size off k n : ℕ) → k < n → (get_or l (k * size + off) 0 ≡ 0x47 → ⊥) → in_sync l size off n ≡ false
sync_not l size off k zero h e = absurd (not-suc-le-zero h)
sync_not l size off k (suc n) h e = go (λ h'. sync_not l size off k n h' e) (eqb k n) refl
  where
    go : (k < n → in_sync l size off n ≡ false) → (t : Bool) → eqb k n ≡ t → in_sync l size off (suc n) ≡ false
    go ih true s =
        let d : (get_or l (n * size + off) 0 ≡ 0x47 → ⊥) = rw (eqb-true k n s) at e in
        rw (ne_eqb _ _ d) (and-false (in_sync l size off n))
    go ih false s =
        let ne = eqb-false k n s in
        rw (ih (omega arith))

module _ (l : List ℕ) (size off : ℕ) where
  pub grid_few : length l / size < 2 → false ≡ on_grid l size off
  unfolding on_grid
  grid_few h = rw (lt-leb 2 (length l / size) h)

  module _ (two : 2 ≤ length l / size) where
    pub grid_is : in_sync l size off (min (length l / size) 8) ≡ true → true ≡ on_grid l size off
    unfolding on_grid
    grid_is e = rw (le-leb 2 (length l / size) two) (sym e)

    pub grid_not : (k : ℕ) → k < min (length l / size) 8 → (get_or l (k * size + off) 0 ≡ 0x47 → ⊥) → false ≡ on_grid l size off
    unfolding on_grid
    grid_not k b e = rw (le-leb 2 (length l / size) two) (sym (sync_not l size off k (min (length l / size) 8) b e))
