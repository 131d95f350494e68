-- What a chain finds against the rules of H.222.0, 2.4.2.6, as values in the order of their finding.
use Rattle.std.specs.Prelude.{ℕ, Bool, true, false, cond, eqb, List, [], ◌∷◌, Float}
use Rattle.ieee.specs.Binary64.{0f}
use Rattle.events.specs.declared.Event.{Event}
use Rattle.events.specs.declared.Event.TheVariants.{Overflow, Underflow, Delay, TbOverflow, TbBusy, MbBusy}

-- an event where the test holds
abbrev pub when : Bool → Event → List Event
when true e = e ∷ []
when false e = []

-- the kinds, as the slots of a chain have them
unfoldable pub kind_of : Event → ℕ
kind_of (Overflow b) = 0
kind_of (Underflow d b) = 1
kind_of (Delay d s) = 2
kind_of (TbOverflow b) = 3
kind_of (TbBusy s) = 4
kind_of (MbBusy s) = 5

unfoldable pub figure_of : Event → Float
figure_of (Overflow b) = b
figure_of (Underflow d b) = b
figure_of (Delay d s) = s
figure_of (TbOverflow b) = b
figure_of (TbBusy s) = s
figure_of (MbBusy s) = s

-- 0 for an event that has no decode time
unfoldable pub decode_of : Event → Float
decode_of (Overflow b) = 0f
decode_of (Underflow d b) = d
decode_of (Delay d s) = d
decode_of (TbOverflow b) = 0f
decode_of (TbBusy s) = 0f
decode_of (MbBusy s) = 0f

-- the event of a kind: that of `kind_of`, `figure_of` and `decode_of` below 6
unfoldable pub event_of : ℕ → Float → Float → Event
event_of kind figure decode =
    cond (eqb kind 0) (Overflow figure)
    (cond (eqb kind 1) (Underflow decode figure)
    (cond (eqb kind 2) (Delay decode figure)
    (cond (eqb kind 3) (TbOverflow figure)
    (cond (eqb kind 4) (TbBusy figure) (MbBusy figure)))))
