-- `slot_pids` meets its contract. The invariant: the first i PIDs fit and stand in their slots, the others are 0. Assumes nothing.
use Prim.Native.Nat.{ℕ, ◌<◌}
use mathlib.Core.Path.{◌≡◌}
use mathlib.Core.Bool.{true}
use Rattle.words.specs.Config.{pid_fits, system_word}
use Rattle.words.proofs.UpTo.{Filled}
use Rattle.words.proofs.config_words.slot_pids.Given as goal

abbrev pub invariant-loop-i : goal.invariant-loop-i
invariant-loop-i l =
    Filled (system_word l.words) 0 16 l.pids l.i × ((k : ℕ) → k < l.i → pid_fits (system_word l.words k) ≡ true)
