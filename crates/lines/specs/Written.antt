-- A text in the memory that a caller lends: it is cut where the memory ends.
use Rattle.std.specs.Prelude.{ℕ, ◌+◌, ◌≤◌, min, ◌≡◌, List, ◌++◌, length, take, drop}
use Rattle.std.proofs.lemmas.List.Edits.{sets}
use Rattle.lines.specs.declared.text.Text.{Text}

-- out with the text from its start on; what lies behind the text stays
unfoldable pub filled : List ℕ → List ℕ → List ℕ
filled out text = take (length out) text ++ drop (length text) out

-- after is out with the text stored from place `at` on, as far as out goes; next is the place behind it, and the text is at most so long
pub record Written (most : ℕ) (text out : List ℕ) (at : ℕ) (after : List ℕ) (next : ℕ) : Type 0 where
  pub short : length text ≤ most
  pub bytes : after ≡ sets out at text
  pub place : next ≡ min (at + length text) (length out)

-- the same of the memory that a text holds, which stays the caller's
pub record Appends (most : ℕ) (text : List ℕ) (before after : Text) : Type 0 where
  pub written : Written most text before.out.now before.at after.out.now after.at
  pub same_reference : after.out.ghost_name ≡ before.out.ghost_name
