-- A payload fed to a state in words. Assumes nothing.
use Rattle.std.proofs.Common.{◌≡◌, ℕ, ◌<◌, ◌≤◌, List, length, le-leb}
use borrow.Author.Tests.{lt-leb}
use Rattle.scanner.specs.declared.Fed.{Fed}
use Rattle.leaves.specs.Leaves.{stored}
use Rattle.leaves.specs.Scanner.{scanner_words, run_words, fed_from, Feeds}
use Rattle.leaves.proofs.Stored.{no_room}

module _ (state payload : List ℕ) (start : ℕ) (out : List ℕ) where
  pub feeds_none : length state < 15 → Feeds state payload start out state out
  unfolding scanner_words
  feeds_none h = record { state_holds = no_room _ state h; out_holds = rw (lt-leb 15 (length state) h) }

  pub feeds : 15 ≤ length state → (p : Fed) → p ≡ fed_from state payload start → (state' out' : List ℕ)
      → state' ≡ stored (scanner_words p.scanner) state → out' ≡ stored (run_words p.runs) out → Feeds state payload start out state' out'
  feeds h p is state' out' s o = record { state_holds = rw (← is) s; out_holds = rw (le-leb 15 (length state) h, ← is) o }
