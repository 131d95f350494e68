-- Laws of what holds of each of a list, and of the events of a chain. Assumes nothing.
use Prim.Native.Nat.{ℕ, zero, suc, ◌+◌, ◌<◌}
use mathlib.Core.Path.{◌≡◌}
use mathlib.Core.Logic.{◌⊎◌}
use mathlib.Core.List.{List, [], ◌∷◌, ◌++◌, map}
use lib.ListN.{length, drop, length-append, length-map}
use Rattle.events.specs.declared.Event.{Event}
use Rattle.bounds.specs.Events.{EventsIn, an_event}
use Rattle.report.specs.Record.{Each}
use Rattle.profile.specs.declared.config.TStdConfig.{TStdConfig}
use Rattle.profile.specs.Config.{streams_of}
use Rattle.summary.specs.Summary.{Found, found}
use Rattle.model.specs.Replay.{with_events}
use Rattle.demands.specs.State.{FoundHolds}

module _ {A : Type 0} (P : A → Type 0) where
  pub each_append : (xs ys : List A) → Each P xs → Each P ys → Each P (xs ++ ys)
  unfolding Each
  each_append [] ys h k = k
  each_append (x ∷ xs) ys h k = (h.0, each_append xs ys h.1 k)

  pub each_drop : (n : ℕ) (xs : List A) → Each P xs → Each P (drop n xs)
  unfolding Each
  each_drop zero xs h = h
  each_drop (suc n) [] h = tt
  each_drop (suc n) (x ∷ xs) h = each_drop n xs h.1

pub each_map : {A : Type 0} (P Q : A → Type 0) → ((x : A) → P x → Q x) → (xs : List A) → Each P xs → Each Q xs
unfolding Each
each_map P Q f [] h = tt
each_map P Q f (x ∷ xs) h = (f x h.0, each_map P Q f xs h.1)

-- the events of chain i
module _ (c : TStdConfig) (i : ℕ) (place : (i < length (streams_of c)) ⊎ (i ≡ 8)) where
  found_each : (es : List Event) → EventsIn es → Each (FoundHolds c) (map (found i) es)
  unfolding Each
  found_each [] h = tt
  found_each (e ∷ es) (an_event p ps) = (record { place = place; event = p }, found_each es ps)

  pub with_events_lem : (fs : List Found) (es : List Event) → Each (FoundHolds c) fs → EventsIn es → Each (FoundHolds c) (with_events fs i es)
  with_events_lem fs es h k = each_append (FoundHolds c) fs (map (found i) es) h (found_each es k)

pub events_length : (fs : List Found) (i : ℕ) (es : List Event) → length (with_events fs i es) ≡ length fs + length es
events_length fs i es = rw (length-append fs (map (found i) es), length-map es (found i))
