-- Parts of a byte string: at most n bytes from a place on, and the window of a packet.
-- Assumes nothing.
use mathlib.Core.Path.{◌≡◌, sym, ◌∙◌}
use mathlib.Core.Bool.{cond}
use mathlib.Core.Logic.{◌⊎◌, inl, inr}
use mathlib.Core.List.{List, []}
use Prim.Native.Nat.{ℕ, ◌+◌, ◌-◌, ◌*◌, ◌/◌, ◌<◌, ◌≤◌, min}
use native.Mathlib.Nat.{add-sub_cancel_left, div-lt_iff_lt-mul}
use native.Mathlib.Omega.{arith}
use lib.Dec.{leb}
use lib.ListN.{length, take, drop, drop_of_length-le}
use lib.Seq.{take-nil, drop-length}
use Rattle.std.proofs.lemmas.Bool.{cases_lt}
use borrow.Author.Tests.{le-leb, lt-leb}

module _ (l : List ℕ) where
  -- an empty part
  pub nothing : take (length l - length l) (drop (length l) l) ≡ []
  nothing = rw (drop-length l) (take-nil (length l - length l))

  -- the window at a place
  pub window_short : (from : ℕ) → length l < from + 188
      → take (length l - length l) (drop (length l) l) ≡ cond (leb (from + 188) (length l)) (take 188 (drop from l)) []
  window_short from h = nothing ∙ sym (rw (lt-leb (from + 188) (length l) h))

  pub window_fits : (from : ℕ) → from + 188 ≤ length l
      → take (from + 188 - from) (drop from l) ≡ cond (leb (from + 188) (length l)) (take 188 (drop from l)) []
  window_fits from h = rw (add-sub_cancel_left from, le-leb (from + 188) (length l) h)

-- a place that is cut at m, which no byte is behind
pub drop_capped : (l : List ℕ) (a b m : ℕ) → a ≡ min b m → length l ≤ m → drop a l ≡ drop b l
drop_capped l a b m e h = go (cases_lt m b)
  where
    go : (m < b) ⊎ (b ≤ m) → drop a l ≡ drop b l
    go (inl g) = drop_of_length-le l (omega arith) ∙ sym (drop_of_length-le l (omega arith))
    go (inr g) =
        let p : a ≡ b = omega arith in
        rw p

-- packets behind a place
pub past_length : (n size k : ℕ) → 0 < size → n / size < k → n < k * size
past_length n size k p h = (div-lt_iff_lt-mul p).0 h
