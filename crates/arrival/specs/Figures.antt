-- Document 01's figures for the arrival clock: two samples, at bytes 10 and 386, by the step between them.
use Rattle.std.specs.Prelude.{ℕ, Bool, true, false, ◌&&◌, List, [], ◌∷◌, ◌==◌, from_bits, Float, Ok, Err}
use Rattle.std.specs.Float.{binary64}
use Rattle.std.specs.Float.Ieee.{eq}
use Rattle.error.specs.Code.{code_of}
use Rattle.arrival.specs.declared.Sample.{Sample}
use Rattle.arrival.specs.ArrivalClock.{Built, build}
use Rattle.arrival.specs.Times.{arrival_at, rate_at}

-- accepted with a rate and the time of byte 386, or refused with a number and a place; not a Result of pairs, whose parts have no names
pub data Answer : Type 0 where
  accepted : Float → Float → Answer
  refused_with : ℕ → ℕ → Answer

pub record Row : Type 0 where
  pub step : ℕ
  pub answer : Answer

unfoldable pub clock_rows : List Row
clock_rows =
    record { step = 3375000; answer = accepted (from_bits binary64 0x40a7_8000_0000_0000) (from_bits binary64 0x3fc0_0000_0000_0000) }
    ∷ record { step = 27000000; answer = refused_with 9 1 }
    ∷ []

abbrev pub two_samples : ℕ → List Sample
two_samples step =
    record { position = 10; ticks = 0; marked = false }
    ∷ record { position = 386; ticks = step; marked = false }
    ∷ []

abbrev pub answers : Answer → Built → Bool
answers (accepted rate time) (Ok is) = eq (rate_at is 386) rate && eq (arrival_at is 386) time
answers (accepted rate time) (Err r) = false
answers (refused_with number place) (Ok is) = false
answers (refused_with number place) (Err r) = (code_of r).number == number && (code_of r).place == place

unfoldable pub all_hold : List Row → Bool
all_hold [] = true
all_hold (r ∷ rs) = answers r.answer (build 3000 (two_samples r.step)) && all_hold rs
