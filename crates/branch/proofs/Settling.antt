-- Laws of `settle` and `arrived_by` on lists: one run more, and the same question asked twice.
use mathlib.Core.Path.{◌≡◌, refl}
use mathlib.Core.Bool.{Bool, true, false}
use mathlib.Core.List.{List, [], ◌∷◌}
use lib.Ieee.{Float, le}
use Rattle.ieee.specs.Binary64.{◌⊕◌}
use Rattle.branch.specs.declared.Run.{Run}
use Rattle.branch.specs.CumulativeIn.{Inflow, rest_at, settled_at, settle, arrived_by}

abbrev pub inflow : List Run → Float → Inflow
inflow rs s = record { runs = rs; settled = s }

module _ (r : Run) (rs : List Run) (s t : Float) where
  pub settle_spent : le r.t1 t ≡ true → settle (inflow (r ∷ rs) s) t ≡ settle (inflow rs (s ⊕ r.bytes)) t
  unfolding settle rest_at settled_at
  settle_spent e = simp e

  pub settle_left : le r.t1 t ≡ false → settle (inflow (r ∷ rs) s) t ≡ inflow (r ∷ rs) s
  unfolding settle rest_at settled_at
  settle_left e = simp e

pub settle_none : (s t : Float) → settle (inflow [] s) t ≡ inflow [] s
unfolding settle rest_at settled_at
settle_none s t = refl

-- what is settled stays so
again_by : (r : Run) (rs : List Run) (s t : Float) (b : Bool) → le r.t1 t ≡ b → settle (settle (inflow rs (s ⊕ r.bytes)) t) t ≡ settle (inflow rs (s ⊕ r.bytes)) t →
    settle (settle (inflow (r ∷ rs) s) t) t ≡ settle (inflow (r ∷ rs) s) t
again_by r rs s t true e h = rw (settle_spent r rs s t e) h
again_by r rs s t false e h = rw (settle_left r rs s t e) (settle_left r rs s t e)

pub settle_again : (rs : List Run) (s t : Float) → settle (settle (inflow rs s) t) t ≡ settle (inflow rs s) t
settle_again [] s t = rw (settle_none s t) (settle_none s t)
settle_again (r ∷ rs) s t = again_by r rs s t (le r.t1 t) refl (settle_again rs (s ⊕ r.bytes) t)

-- asked twice at one time, `arrived_by` gives one answer
pub arrived_again : (i : Inflow) (t : Float) → arrived_by (settle i t) t ≡ arrived_by i t
unfolding arrived_by
arrived_again i t = rw (settle_again i.runs i.settled t)
