-- The intervals in lent work: interval i at 3 i in the floats (start time, rate, offset of stamps) and at 2 i in the numbers
-- (start position, reference of stamps); and the cursor over them.
use Rattle.std.specs.Prelude.{ℕ, zero, suc, ◌+◌, ◌-◌, ◌*◌, ◌/◌, ◌^◌, Bool, cond, ◌&&◌, List, [], ◌∷◌, length, nat_le, nat_lt, slice_index, slice_index_or, Float}
use Rattle.std.specs.Float.{nan}
use Rattle.arrival.specs.declared.RateInterval.{RateInterval}
use Rattle.arrival.specs.declared.Cursor.{Cursor}
use Rattle.arrival.specs.declared.PacketArrival.{PacketArrival}
use Rattle.arrival.specs.Times.{no_interval, time_of}

-- there is room for n intervals, in so many floats and numbers and in the work
abbrev pub room_for : ℕ → ℕ → ℕ → Bool
room_for n times places = nat_le n (times / 3) && nat_le n (places / 2)

unfoldable pub holds : ℕ → List Float → List ℕ → Bool
holds n times places = room_for n (length times) (length places)

unfoldable pub interval_in : List Float → List ℕ → ℕ → RateInterval
interval_in times places i =
    record {
      start_pos = slice_index places (2 * i);
      start_time = slice_index_or times (3 * i) nan;
      rate = slice_index_or times (3 * i + 1) nan;
      pts_offset = slice_index_or times (3 * i + 2) nan;
      pcr_ref_90k = slice_index places (2 * i + 1);
    }

-- n intervals from number i on
unfoldable pub intervals_in : List Float → List ℕ → ℕ → ℕ → List RateInterval
intervals_in times places i zero = []
intervals_in times places i (suc n) = interval_in times places i ∷ intervals_in times places (i + 1) n

-- no byte is at this position
abbrev pub never : ℕ
never = 2 ^ 64 - 1

abbrev pub nowhere_at : ℕ → Cursor
nowhere_at i = record { index = i; until = never; interval = no_interval }

-- at interval i of count, and where the next begins; no interval where there is no such number or the work is too short
unfoldable pub cursor_at : List Float → List ℕ → ℕ → ℕ → Cursor
cursor_at times places count i =
    cond (nat_lt i count && holds count times places)
    (record {
      index = i;
      until = cond (nat_lt (i + 1) count) (slice_index places (2 * (i + 1))) never;
      interval = interval_in times places i;
    })
    (nowhere_at i)

-- on to the next interval, n times at most, while it begins at the position or before
unfoldable pub advance_by : ℕ → List Float → List ℕ → ℕ → Cursor → ℕ → Cursor
advance_by zero times places count c p = c
advance_by (suc n) times places count c p =
    cond (nat_le c.until p) (advance_by n times places count (cursor_at times places count (c.index + 1)) p) c

unfoldable pub advance : List Float → List ℕ → ℕ → Cursor → ℕ → Cursor
advance times places count c p = advance_by (count - 1 - c.index) times places count c p

-- before the first packet: it will arrive from byte 0 on
unfoldable pub start_of_arrival : List Float → List ℕ → ℕ → PacketArrival
start_of_arrival times places count =
    let c = advance times places count (cursor_at times places count 0) 0 in
    record { cursor = c; end = 0; t0 = time_of c.interval 0; t1 = time_of c.interval 0 }

-- the next packet arrives from the end of the last, 188 bytes; unchanged where no such byte has a position
unfoldable pub next_arrival : List Float → List ℕ → ℕ → PacketArrival → PacketArrival
next_arrival times places count a =
    let c = advance times places count a.cursor (a.end + 188) in
    cond (nat_le a.end (never - 188))
    (record { cursor = c; end = a.end + 188; t0 = a.t1; t1 = time_of c.interval (a.end + 188) })
    a
