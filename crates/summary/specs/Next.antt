-- Which slot's first event comes next behind an event.
use Rattle.std.specs.Prelude.{ℕ, ◌≤◌, ◌<◌, ◌≡◌, List, length, get_or, Option, Some, None}

-- slot k is the first with the number n
pub record FirstSlot (firsts : List ℕ) (n k : ℕ) : Type 0 where
  pub low : 0 < k
  pub high : k < length firsts
  pub at : get_or firsts k 0 ≡ n
  pub first : (j : ℕ) → 0 < j → j < k → get_or firsts j 0 ≡ n → ⊥

-- no slot has the number n
abbrev pub NoSlot : List ℕ → ℕ → Type 0
NoSlot firsts n = (j : ℕ) → 0 < j → j < length firsts → get_or firsts j 0 ≡ n → ⊥

pub record NextFirst (firsts : List ℕ) (events after k : ℕ) : Type 0 where
  pub slot : FirstSlot firsts (get_or firsts k 0) k
  pub behind : after < get_or firsts k 0
  pub counted : get_or firsts k 0 ≤ events
  pub between : (j : ℕ) → after < j → j < get_or firsts k 0 → NoSlot firsts j

-- the slot that comes next, or none up to the count does
abbrev pub NextSlot : List ℕ → ℕ → ℕ → Option ℕ → Type 0
NextSlot firsts events after None = (j : ℕ) → after < j → j ≤ events → NoSlot firsts j
NextSlot firsts events after (Some k) = NextFirst firsts events after k
