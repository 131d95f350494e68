-- What holds of both values of a choice holds of the chosen one; and the event of a test. Assumes nothing.
use mathlib.Core.Path.{◌≡◌, refl}
use mathlib.Core.Bool.{Bool, true, false, cond}
use Rattle.events.specs.declared.Event.{Event}
use Rattle.events.specs.Event.{when}
use Rattle.report.specs.Record.{Each}

pub either : {A : Type 0} (P : A → Type 0) (b : Bool) (x y : A) → P x → P y → P (cond b x y)
either P true x y h k = h
either P false x y h k = k

pub each_when : (P : Event → Type 0) (b : Bool) (e : Event) → (b ≡ true → P e) → Each P (when b e)
unfolding Each
each_when P true e h = (h refl, tt)
each_when P false e h = tt
