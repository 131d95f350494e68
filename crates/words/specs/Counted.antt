-- Which words of a profile count: all others are not looked at (proofs/Counted).
use Rattle.std.specs.Prelude.{ℕ, ◌<◌, ◌≡◌, List, length, get_or}
use Rattle.profile.specs.Range.{max_streams, max_system_pids}
use Rattle.words.specs.Config.{slot_word, system_word}

-- slot i in two profiles: the last two words count where the stream is no main stream
pub record SlotAlike (ws vs : List ℕ) (i : ℕ) : Type 0 where
  pub pid : slot_word ws i 0 ≡ slot_word vs i 0
  pub rx : slot_word ws i 1 ≡ slot_word vs i 1
  pub kind : slot_word ws i 2 ≡ slot_word vs i 2
  pub first : slot_word ws i 3 ≡ slot_word vs i 3
  pub second : (slot_word ws i 2 ≡ 0 → ⊥) → slot_word ws i 4 ≡ slot_word vs i 4
  pub third : (slot_word ws i 2 ≡ 0 → ⊥) → slot_word ws i 5 ≡ slot_word vs i 5

-- two profiles that agree in every word that counts
pub record Alike (ws vs : List ℕ) : Type 0 where
  pub size : length ws ≡ length vs
  pub head : (k : ℕ) → k < 5 → get_or ws k 0 ≡ get_or vs k 0
  pub slots : (i : ℕ) → i < max_streams → i < get_or ws 1 0 → SlotAlike ws vs i
  pub system : (i : ℕ) → i < max_system_pids → i < get_or ws 2 0 → system_word ws i ≡ system_word vs i
