-- The row when its loop ends. Assumes nothing.
use Prim.Native.Nat.{ℕ, zero, suc, ◌+◌, ◌*◌, ◌/◌, ◌≤◌, ◌<◌, min}
use mathlib.Core.Path.{◌≡◌, refl, sym, ap, ◌∙◌}
use mathlib.Core.List.{List, [], ◌∷◌, flat_map}
use native.Mathlib.Nat.{min-zero, zero-min, suc-min-suc, min-le_left, min-le_right, zero-add}
use native.Mathlib.Omega.{arith}
use lib.ListN.{length, take, drop, get_or, length-append, length-take, length-drop}
use lib.Seq.{take-nil, length-take-le}
use Rattle.report.specs.declared.TStdChainStats.{TStdChainStats}
use Rattle.words.specs.Row.{chain_words, row_after}
use borrow.Rule.Slice.PartMut.{put_mid}
use Rattle.words.proofs.Stores.{Written, written_next, flat_length}

pub chain_size : (s : TStdChainStats) → length (chain_words s) ≡ 6
unfolding chain_words
chain_size s = refl

module _ {A : Type 0} where
  take_both : (k n : ℕ) (l : List A) → take (min n k) l ≡ take k (take n l)
  take_both zero n l = rw (min-zero n)
  take_both (suc k) zero l = rw (zero-min (suc k))
  take_both (suc k) (suc n) [] = take-nil (min (suc n) (suc k))
  take_both (suc k) (suc n) (a ∷ l) = rw (suc-min-suc n k) (ap (λ (r : List A). a ∷ r) (take_both k n l))

  take_cut : (n : ℕ) (l : List A) → take (min n (length l)) l ≡ take n l
  take_cut zero l = rw (zero-min (length l))
  take_cut (suc n) [] = rw (min-zero (suc n))
  take_cut (suc n) (a ∷ l) = rw (suc-min-suc n (length l)) (ap (λ (r : List A). a ∷ r) (take_cut n l))

-- as many records as there are chains in use and the row has room for
module _ (chains : List TStdChainStats) (count end : ℕ) (row : List ℕ) (size : length chains ≡ 9) (e : end ≡ min (min count 9) (length row / 6)) where
  most : end ≤ 9
  most = omega (arith, e, min-le_left (min count 9) (length row / 6), min-le_right count 9)

  room : 6 * end ≤ length row
  room = omega (arith, e, min-le_right (min count 9) (length row / 6))

  pub row_next : (ws v : List ℕ) (i at k : ℕ) (d : TStdChainStats) → i < end → at ≡ 6 * i → k ≡ 6 → v ≡ chain_words (get_or chains i d) → Written chain_words 6 0 chains row ws i → Written chain_words 6 0 chains row (put_mid at k ws v) (i + 1)
  row_next ws v i at k d h a n is p =
      let most = most in
      let room = room in
      written_next chain_words 6 0 chain_size chains row ws i d (omega arith) (omega arith) p at k v (a ∙ sym (zero-add (6 * i))) n is

  in_use : take end chains ≡ take (length row / 6) (take count chains)
  in_use =
      rw (e, take_both (length row / 6) (min count 9) chains)
      (ap (λ (n : ℕ). take (length row / 6) (take (min count n) chains)) (sym size)
      ∙ ap (λ (r : List TStdChainStats). take (length row / 6) r) (take_cut count chains))

  pub row_ends : (ws : List ℕ) (i : ℕ) → Written chain_words 6 0 chains row ws i → i ≡ end → ws ≡ row_after (take count chains) row
  unfolding row_after
  row_ends ws i p last =
      let whole : length (flat_map chain_words (take end chains)) ≡ 6 * end = flat_length chain_words 6 chain_size (take end chains) ∙ rw (length-take-le end chains (omega (arith, most, size))) in
      rw last at p.done ∙ rw (← in_use, whole, zero-add (6 * end))

-- ---- what the row is
pub row_none : (row : List ℕ) → row_after [] row ≡ row
unfolding row_after flat_map
row_none row = rw (take-nil {A = TStdChainStats} (length row / 6))

pub row_length : (ss : List TStdChainStats) (row : List ℕ) → length (row_after ss row) ≡ length row
unfolding row_after
row_length ss row =
    let ws = flat_map chain_words (take (length row / 6) ss) in
    let size = flat_length chain_words 6 chain_size (take (length row / 6) ss) in
    let taken = length-take (length row / 6) ss in
    omega (arith, length-append ws (drop (length ws) row), length-drop (length ws) row, size, taken, min-le_left (length row / 6) (length ss))
