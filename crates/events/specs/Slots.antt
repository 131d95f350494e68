-- The slots of a replay's events: the count, and of each slot the number of its first event, its largest figure and its first decode time.
-- Slot k, from 1 to 63, has its number at k, 0 for none, and its figure and decode time at k too.
use Rattle.std.specs.Prelude.{ℕ, ◌+◌, Bool, cond, ◌&&◌, List, [], ◌∷◌, get_or, set, replicate, ltb, eqb, Float}
use Rattle.std.specs.Float.{nan}
use Rattle.ieee.specs.Binary64.{0f}
use Rattle.ieee.specs.MaxMin.{max_num}
use Rattle.events.specs.declared.Event.{Event}
use Rattle.events.specs.declared.Slots.{Slots}
use Rattle.events.specs.Event.{kind_of, figure_of, decode_of}

-- before the first event
abbrev pub no_events : Slots
no_events = record { events = 0; firsts = replicate 64 0; figures = replicate 64 0f; decode_times = replicate 64 0f }

-- there is a slot k, and the count is not at its end
unfoldable pub writable : ℕ → Slots → Bool
writable k s = (ltb 0 k && ltb k 64) && ltb s.events 18446744073709551615

unfoldable pub first_in_slot : ℕ → Float → Float → ℕ → Slots → Slots
first_in_slot k figure decode event s =
    record { events = event; firsts = set s.firsts k event; figures = set s.figures k figure; decode_times = set s.decode_times k decode }

unfoldable pub later_in_slot : ℕ → Float → ℕ → Slots → Slots
later_in_slot k figure event s =
    record { events = event; firsts = s.firsts; figures = set s.figures k (max_num (get_or s.figures k nan) figure); decode_times = s.decode_times }

-- one event in slot k
unfoldable pub noted : ℕ → Float → Float → Slots → Slots
noted k figure decode s =
    cond (writable k s)
    (cond (eqb (get_or s.firsts k 0) 0) (first_in_slot k figure decode (s.events + 1) s) (later_in_slot k figure (s.events + 1) s))
    s

-- the events of a chain whose slots begin at k
unfoldable pub noted_all : ℕ → List Event → Slots → Slots
noted_all k [] s = s
noted_all k (e ∷ es) s = noted_all k es (noted (k + kind_of e) (figure_of e) (decode_of e) s)
