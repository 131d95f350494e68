-- Laws of the bounds of events and of access units. Assumes nothing.
use mathlib.Core.Bool.{Bool, false, true}
use mathlib.Core.List.{List, [], ◌++◌, ◌∷◌}
use mathlib.Core.Path.{◌≡◌, refl}
use Prim.Native.Nat.{◌+◌, ◌^◌, ◌≤◌, ℕ}
use native.Mathlib.Nat.{add-le-add, le-add_right, le_refl, le_trans}
use lib.Ieee.{Float, add, binary64, eq, le, lt, neg, of_bits, sub}
use Rattle.ieee.specs.Binary64.{1e-6f, 1f, ◌⊕◌, ◌⊖◌}
use Rattle.ieee.specs.Interval.{In, minus, plain, zero_float}
use Rattle.ieee.proofs.Interval.{closed_in, in_finite, sub_in}
use Rattle.ieee.proofs.Order.{le_trans as fl-trans, lt→le, to_t}
use Rattle.branch.specs.declared.AccessUnit.{AccessUnit}
use Rattle.bounds.specs.Events.{EventIn, EventsIn, an_event, delay_limit, no_events}
use Rattle.bounds.specs.Units.{UnitIs, Units, a_unit, no_units}
use Rattle.events.specs.declared.Event.{Event}
use Rattle.events.specs.declared.Event.TheVariants.{Delay}
use Rattle.events.specs.Event.{when}

pub events_append : {xs ys : List Event} → EventsIn xs → EventsIn ys → EventsIn (xs ++ ys)
events_append no_events q = q
events_append (an_event p ps) q = an_event p (events_append ps q)

pub events_when : (b : Bool) (e : Event) → (b ≡ true → EventIn e) → EventsIn (when b e)
events_when true e k = an_event (k refl) no_events
events_when false e k = no_events

-- a figure above a threshold that is not negative
pub over_in : {lo hi x m hi' : Float} → In zero_float m hi' → In lo x hi → lt m x ≡ true → In zero_float x hi
over_in {lo} {hi} {x} {m} i j e =
    record { low_finite = tt; high_finite = j.high_finite; low = fl-trans zero_float m x tt (in_finite i) (in_finite j) i.low (lt→le m x (in_finite i) (in_finite j) (to_t e)); high = j.high }

-- ---- access units
pub units_within : {N : ℕ} {us : List AccessUnit} {m : ℕ} → Units N us m → m ≤ N
units_within (no_units h) = h
units_within {N} {us} {m} (a_unit k i l) = le_trans (le-add_right m k) (units_within l)

pub units_mono : {N N' : ℕ} {us : List AccessUnit} {m : ℕ} → N ≤ N' → Units N us m → Units N' us m
units_mono h (no_units g) = no_units (le_trans g h)
units_mono h (a_unit k q l) = a_unit k q (units_mono h l)

pub units_append : {N : ℕ} {u : AccessUnit} (k : ℕ) (us : List AccessUnit) {m : ℕ} → Units N us m → UnitIs u k → Units (N + k) (us ++ (u ∷ [])) m
units_append {N} k [] {m} (no_units g) q = a_unit k q (no_units (add-le-add g (le_refl k)))
units_append k (u ∷ us) (a_unit j p l) q = a_unit j p (units_append k us l q)

-- the delay of a unit
pub age_in : {u : AccessUnit} {k : ℕ} → UnitIs u k → In (minus (2 ^ 18)) (u.decode_time ⊖ u.first_input_time) (plain delay_limit)
unfolding sub add neg le lt eq
age_in q = sub_in binary64 (minus (2 ^ 18)) (plain delay_limit) q.decode q.first_input tt

pub delay_in : {u : AccessUnit} {k : ℕ} → UnitIs u k
    → EventsIn (when (lt (1f ⊕ 1e-6f) (u.decode_time ⊖ u.first_input_time)) (Delay u.decode_time (u.decode_time ⊖ u.first_input_time)))
unfolding of_bits add le lt eq
delay_in {u} q =
    events_when (lt (1f ⊕ 1e-6f) (u.decode_time ⊖ u.first_input_time)) (Delay u.decode_time (u.decode_time ⊖ u.first_input_time))
    (λ (e : lt (1f ⊕ 1e-6f) (u.decode_time ⊖ u.first_input_time) ≡ true). (q.decode, over_in (closed_in zero_float (1f ⊕ 1e-6f) (plain 2) tt) (age_in q) e))
