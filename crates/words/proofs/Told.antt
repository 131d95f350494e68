-- The words of an answer, refused and accepted, and what one word gives back. Assumes nothing.
use Prim.Native.Nat.{◌/◌, ◌%◌, ◌^◌, ◌≤◌, ◌<◌}
use mathlib.Core.Path.{◌≡◌}
use native.Mathlib.Nat.{min-eq_left, min-le_right}
use native.Mathlib.Omega.{arith}
use Rattle.error.specs.declared.Code.{Code}
use Rattle.words.specs.Answer.{most_place, answer_word}

-- a code whose fields the word holds is read back from it
module _ (c : Code) (number : c.number < 256) (pid : c.pid < 65536) where
  pub word_fits : answer_word c < 2 ^ 64
  unfolding answer_word
  word_fits = omega (arith, min-le_right c.place most_place)

  pub word_number : answer_word c % 256 ≡ c.number
  unfolding answer_word
  word_number = omega arith

  pub word_pid : answer_word c / 256 % 65536 ≡ c.pid
  unfolding answer_word
  word_pid = omega arith

  pub word_place : c.place < 2 ^ 40 → answer_word c / 2 ^ 24 ≡ c.place
  unfolding answer_word
  word_place h =
      let held : c.place ≤ most_place = omega arith in
      rw (min-eq_left held) (omega arith)
