-- Words stored in front of what a slice holds. Assumes nothing.
use Rattle.std.proofs.Common.{◌≡◌, ℕ, ◌<◌, ◌≤◌, List, [], ◌++◌, length, append-nil, arith, le-leb, drop_of_length-le}
use borrow.Author.Tests.{lt-leb}
use borrow.Rule.Slice.PartMut.{put_mid}
use lib.Seq.{take_at, drop_at}
use Rattle.leaves.specs.Leaves.{stored}

module _ {A : Type 0} (words out : List A) where
  pub no_room : length out < length words → out ≡ stored words out
  unfolding stored
  no_room h = rw (lt-leb (length words) (length out) h)

-- no words: the slice stays as it was
pub stored_none : {A : Type 0} (out : List A) → out ≡ stored [] out
unfolding stored
stored_none out = rw (le-leb 0 (length out) (omega arith))

-- m places behind the first n are filled
pub filled_behind : {A : Type 0} (n m : ℕ) (a z b : List A) → length a ≡ n → length z ≤ m → put_mid n m (a ++ z) b ≡ a ++ b
filled_behind n m a z b first rest =
    rw (take_at a z n first, drop_at a z n first, drop_of_length-le z rest, append-nil b)
