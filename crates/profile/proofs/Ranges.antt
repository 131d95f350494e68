-- Tests of ranges as facts, and back.
-- Assumes nothing.
use Prim.Native.Nat.{ℕ, ◌≤◌}
use mathlib.Core.Path.{◌≡◌}
use mathlib.Core.Bool.{true}
use lib.Dec.{leb}
use borrow.Author.Tests.{leb-true, le-leb}
use Rattle.std.proofs.lemmas.Bool.{and_parts, and_from}
use Rattle.profile.specs.Range.{min_rate, max_rate, min_size, max_size, between, rate_ok, size_ok}

pub record Between (lo hi n : ℕ) : Type 0 where
  pub least : lo ≤ n
  pub most : n ≤ hi

module _ (lo hi n : ℕ) where
  pub between_true : between lo hi n ≡ true → Between lo hi n
  between_true e =
      record { least = leb-true lo n (and_parts (leb lo n) (leb n hi) e).0; most = leb-true n hi (and_parts (leb lo n) (leb n hi) e).1 }

  pub true_between : Between lo hi n → between lo hi n ≡ true
  true_between h = and_from (leb lo n) (leb n hi) (le-leb lo n h.least) (le-leb n hi h.most)

abbrev pub RateWithin : ℕ → Type 0
RateWithin = Between min_rate max_rate

abbrev pub SizeWithin : ℕ → Type 0
SizeWithin = Between min_size max_size

pub rate_true : (n : ℕ) → rate_ok n ≡ true → RateWithin n
rate_true = between_true min_rate max_rate

pub true_rate : (n : ℕ) → RateWithin n → rate_ok n ≡ true
true_rate = true_between min_rate max_rate

pub size_true : (n : ℕ) → size_ok n ≡ true → SizeWithin n
size_true = between_true min_size max_size

pub true_size : (n : ℕ) → SizeWithin n → size_ok n ≡ true
true_size = true_between min_size max_size
