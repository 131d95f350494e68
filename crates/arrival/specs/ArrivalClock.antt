-- The arrival clock (H.222.0, 2.4.2.2; the Rust's `ArrivalClock::build`): intervals of constant rate from the PCR samples.
use Rattle.std.specs.Prelude.{ℕ, ◌+◌, ◌-◌, ◌/◌, ◌%◌, cond, ◌||◌, List, [], ◌∷◌, length, pos, ◌==◌, nat_lt, Float, Result, Ok, Err}
use Rattle.std.specs.Float.{binary64}
use Rattle.std.specs.Float.Ieee.{of_int, lt}
use Rattle.ieee.specs.Binary64.{◌⊕◌, ◌⊖◌, ◌⊘◌, 0f, 1000f, 27000000f, 1000000000f}
use Rattle.error.specs.declared.Refusal.{Refusal}
use Rattle.clock.specs.Pcr.{pcr_modulus}
use Rattle.arrival.specs.declared.RateInterval.{RateInterval}
use Rattle.arrival.specs.declared.Sample.{Sample}
use Rattle.arrival.specs.declared.Anchor.{Anchor}
use Rattle.arrival.specs.declared.Closed.{Closed}

-- a whole number as a float, and the seconds of so many ticks
abbrev pub float : ℕ → Float
float n = of_int binary64 (pos n)

abbrev pub seconds : ℕ → Float
seconds n = float n ⊘ 27000000f

-- the first sample is at time 0
abbrev pub anchor_at : Sample → Anchor
anchor_at s = record { position = s.position; extended = s.ticks; time = 0f; rate = 0f }

-- the interval that the last sample opens, at a rate
abbrev pub interval_at : Anchor → Float → RateInterval
interval_at a rate =
    record {
      start_pos = a.position;
      start_time = a.time;
      rate = rate;
      pts_offset = a.time ⊖ seconds a.extended;
      pcr_ref_90k = a.extended / 300;
    }

-- from the last sample to a sample without a mark: the step modulo a wrap, and by it the rate
abbrev pub step_to : Anchor → Sample → ℕ
step_to a s = (s.ticks + pcr_modulus - a.extended % pcr_modulus) % pcr_modulus

abbrev pub bytes_to : Anchor → Sample → Float
bytes_to a s = float (s.position - a.position)

abbrev pub rate_to : Anchor → Sample → Float
rate_to a s = bytes_to a s ⊘ seconds (step_to a s)

abbrev pub stepped : Anchor → Sample → Anchor
stepped a s = record { position = s.position; extended = a.extended + step_to a s; time = a.time ⊕ seconds (step_to a s); rate = rate_to a s }

-- to a sample with a mark: the rate before it holds on, and the time base starts again at the raw PCR
abbrev pub restarted : Anchor → Sample → Anchor
restarted a s = record { position = s.position; extended = s.ticks; time = a.time ⊕ bytes_to a s ⊘ a.rate; rate = a.rate }

-- the sample number n behind the anchor, counted from 0: number 6, 7 or 9
unfoldable pub close : ℕ → Anchor → Sample → Result Closed Refusal
close n a s =
    cond s.marked
    (cond (n == 1) (Err (Refusal.DiscontinuityBeforeRate n)) (Ok (record { interval = interval_at a a.rate; anchor = restarted a s })))
    (cond (step_to a s == 0) (Err (Refusal.RepeatedPcr n))
    (cond (lt (rate_to a s) 1000f || lt 1000000000f (rate_to a s)) (Err (Refusal.RateOutsideLimits n))
    (Ok (record { interval = interval_at a (rate_to a s); anchor = stepped a s }))))

abbrev pub Built : Type 0
Built = Result (List RateInterval) Refusal

abbrev pub and_then : RateInterval → Built → Built
and_then i (Ok is) = Ok (i ∷ is)
and_then i (Err r) = Err r

abbrev pub behind : Result Closed Refusal → (Anchor → Built) → Built
behind (Ok c) rest = and_then c.interval (rest c.anchor)
behind (Err r) rest = Err r

-- the samples from number n on
unfoldable pub build_from : ℕ → Anchor → List Sample → Built
build_from n a [] = Ok []
build_from n a (s ∷ ss) = behind (close n a s) (λ b. build_from (n + 1) b ss)

abbrev pub build_all : List Sample → Built
build_all [] = Ok []
build_all (s ∷ ss) = build_from 1 (anchor_at s) ss

-- more samples than the clock depth (number 8), then fewer than two (5), then sample by sample
unfoldable pub build : ℕ → List Sample → Built
build depth ss =
    cond (nat_lt depth (length ss)) (Err (Refusal.ClockFull depth))
    (cond (nat_lt (length ss) 2) (Err Refusal.TooFewPcrs)
    (build_all ss))
