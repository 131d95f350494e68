-- The header marks of the video branch: whole bytes, one mark after the other.
use Rattle.std.specs.Prelude.{List, [], ◌∷◌, ◌+◌, ◌≤◌, ℕ, T}
use Rattle.std.specs.Float.{binary64}
use Rattle.std.specs.Float.Ieee.{fits}
use Rattle.ieee.specs.Whole.{Is}
use Rattle.branch.specs.declared.HeaderMark.{HeaderMark}

-- a mark of k bytes from a on
pub record MarkIs (m : HeaderMark) (a k : ℕ) : Type 0 where
  pub threshold : Is m.threshold (a + k)
  pub bytes : Is m.bytes k
  pub fit : T (fits binary64 m.threshold)

-- the marks follow each other from lo on, up to N
pub data Marked (N : ℕ) : List HeaderMark → ℕ → Type 0 where
  no_marks : {lo : ℕ} → Marked N [] lo
  a_mark : {m : HeaderMark} {ms : List HeaderMark} {lo : ℕ} (a k : ℕ) → lo ≤ a → a + k ≤ N → MarkIs m a k → Marked N ms (a + k) → Marked N (m ∷ ms) lo
