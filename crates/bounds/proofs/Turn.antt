-- The turn as a whole: one that is not the last moves bytes, or takes by the rate. Assumes nothing.
use mathlib.Core.Bool.{Bool, false, true, true≢false}
use mathlib.Core.Logic.{◌⊎◌, inl}
use mathlib.Core.Path.{◌∙◌, ◌≡◌, ap, refl, sym}
use lib.Dec.{T}
use lib.Ieee.{Float, binary64, fits, le, lt}
use Rattle.ieee.specs.Binary64.{1e-6f, 1f, ◌⊖◌}
use Rattle.branch.specs.VideoBranch.{Leak, Turned, VideoRates, eb_room, looked, mb_fullness, turn}
use Rattle.bounds.specs.Runs.{TimeIn}
use Rattle.bounds.specs.Video.{RatesIn}
use Rattle.bounds.proofs.TurnCases.{turn_backlogged, turn_none, turn_paced, turn_stalled}
use Rattle.bounds.proofs.TurnParts.{ByRate, Moves, TurnIn, back_moves, full_in, looked_turn_in, paced_moves, room_one}

not_more : {x y : Turned} → x ≡ y → x.more ≡ true → y.more ≡ false → ⊥
not_more e p n = true≢false (sym p ∙ (ap (λ (z : Turned). z.more) e ∙ n))

-- what a turn that is not the last does
pub record NotLast (r : VideoRates) (t : Float) (s s' : Leak) : Type 0 where
  pub early : lt s.proc_time (t ⊖ 1e-6f) ≡ true
  pub how : Moves s.flow.transferred s'.flow.transferred ⊎ ByRate s s' r.rbx t

unlooked : (s : Leak) {y : Float} → Moves (looked s).flow.transferred y → Moves s.flow.transferred y
unfolding looked
unlooked s k = k

turn_by : (r : VideoRates) (t : Float) (s : Leak) → TurnIn s → RatesIn r → TimeIn t → T (fits binary64 t) → (turn r t s).more ≡ true
    → (a b c : Bool) → lt s.proc_time (t ⊖ 1e-6f) ≡ a → le (eb_room r s.flow) 1f ≡ b → le (mb_fullness s s.proc_time) 1f ≡ c → NotLast r t s (turn r t s).leak
turn_by r t s q g i f m false b c x y z = absurd (not_more (turn_none r t s x) m refl)
turn_by r t s q g i f m true true c x y z = absurd (not_more (turn_stalled r t s x y) m refl)
turn_by r t s q g i f m true false true x y z =
    let e = turn_paced r t s x y z in
    rw e
    (record { early = x; how = inl (unlooked s (paced_moves t (looked s) (looked_turn_in s q) i (mb_fullness s s.proc_time) (eb_room r s.flow) (full_in s s.proc_time q q.time) (room_one r t s q g i f x y) (rw e at m))) })
turn_by r t s q g i f m true false false x y z = rw (turn_backlogged r t s x y z) (record { early = x; how = back_moves r t s q g i f x y z })

pub turn_not_last : (r : VideoRates) (t : Float) (s : Leak) → TurnIn s → RatesIn r → TimeIn t → T (fits binary64 t) → (turn r t s).more ≡ true → NotLast r t s (turn r t s).leak
turn_not_last r t s q g i f m = turn_by r t s q g i f m (lt s.proc_time (t ⊖ 1e-6f)) (le (eb_room r s.flow) 1f) (le (mb_fullness s s.proc_time) 1f) refl refl refl
