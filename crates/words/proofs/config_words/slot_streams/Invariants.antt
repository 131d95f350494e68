-- `slot_streams` meets its contract. The invariant: the first i slots fit and hold their streams, the others the unused one. Assumes nothing.
use Prim.Native.Nat.{ℕ, ◌<◌}
use mathlib.Core.Path.{◌≡◌}
use mathlib.Core.Bool.{true}
use Rattle.profile.specs.Config.{unused_stream}
use Rattle.words.specs.Config.{slot_fits, stream_at}
use Rattle.words.proofs.UpTo.{Filled}
use Rattle.words.proofs.config_words.slot_streams.Given as goal

abbrev pub invariant-loop-i : goal.invariant-loop-i
invariant-loop-i l =
    Filled (stream_at l.words) unused_stream 8 l.streams l.i × ((k : ℕ) → k < l.i → slot_fits l.words k ≡ true)
