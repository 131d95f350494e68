-- Times on the arrival clock (the Rust's `interval_at`, `time_of`, `decode_time_at` and `rate_at`).
use Rattle.std.specs.Prelude.{ℕ, ◌-◌, ◌^◌, cond, List, [], ◌∷◌, nat_le, nat_lt, Float}
use Rattle.ieee.specs.Binary64.{◌⊕◌, ◌⊖◌, ◌⊘◌, 0f, 90000f}
use Rattle.clock.specs.Timestamp.{timestamp_modulus, nearest_timestamp}
use Rattle.arrival.specs.declared.RateInterval.{RateInterval}
use Rattle.arrival.specs.ArrivalClock.{float}

-- the cursor moved on to a byte: the intervals from the one that covers it on, which is the last whose start is not behind the byte
unfoldable pub advance_to : ℕ → List RateInterval → List RateInterval
advance_to p [] = []
advance_to p (i ∷ []) = i ∷ []
advance_to p (i ∷ j ∷ is) = cond (nat_le j.start_pos p) (advance_to p (j ∷ is)) (i ∷ j ∷ is)

-- stands where there is no interval; a built clock has one at least
abbrev pub no_interval : RateInterval
no_interval = record { start_pos = 0; start_time = 0f; rate = 0f; pts_offset = 0f; pcr_ref_90k = 0 }

abbrev pub first : List RateInterval → RateInterval
first [] = no_interval
first (i ∷ is) = i

abbrev pub covering : ℕ → List RateInterval → RateInterval
covering p is = first (advance_to p is)

-- the arrival time of byte p; the first and the last rate hold on beyond the samples
unfoldable pub time_of : RateInterval → ℕ → Float
time_of i p =
    cond (nat_le i.start_pos p)
    (i.start_time ⊕ float (p - i.start_pos) ⊘ i.rate)
    (i.start_time ⊖ float (i.start_pos - p) ⊘ i.rate)

-- a raw PTS or DTS on the arrival clock
unfoldable pub decode_time : RateInterval → ℕ → Float
decode_time i raw = float (nearest_timestamp raw i.pcr_ref_90k) ⊘ 90000f ⊕ i.pts_offset

-- the same with an answer, 0, for a reference at which `extend_near` refuses; no PCR gives one, being below 2 ^ 64 / 300
unfoldable pub decode_time_or_zero : RateInterval → ℕ → Float
decode_time_or_zero i raw = cond (nat_lt i.pcr_ref_90k (2 ^ 64 - timestamp_modulus)) (decode_time i raw) 0f

-- by the interval that covers a byte: its arrival time; a stamp's time and the rate, asked at the end of a packet
abbrev pub arrival_at : List RateInterval → ℕ → Float
arrival_at is p = time_of (covering p is) p

abbrev pub decode_time_at : List RateInterval → ℕ → ℕ → Float
decode_time_at is p raw = decode_time (covering p is) raw

abbrev pub rate_at : List RateInterval → ℕ → Float
rate_at is p = (covering p is).rate
