-- The ways through a turn, by its tests. Assumes nothing.
use mathlib.Core.Bool.{false, true}
use mathlib.Core.Path.{◌≡◌}
use lib.Ieee.{Float, le, lt}
use Rattle.ieee.specs.Binary64.{1e-6f, 1f, ◌⊖◌}
use Rattle.branch.specs.VideoBranch.{Leak, VideoRates, backlogged, break, eb_room, looked, mb_fullness, on, paced, stalled, step, turn}

module _ (r : VideoRates) (t : Float) (s : Leak) where
  pub turn_none : lt s.proc_time (t ⊖ 1e-6f) ≡ false → turn r t s ≡ break s
  unfolding turn
  turn_none h = simp h

  module _ (h : lt s.proc_time (t ⊖ 1e-6f) ≡ true) where
    pub turn_stalled : le (eb_room r s.flow) 1f ≡ true → turn r t s ≡ break (stalled (looked s) t)
    unfolding turn step
    turn_stalled k = simp (h, k)

    module _ (k : le (eb_room r s.flow) 1f ≡ false) where
      pub turn_paced : le (mb_fullness s s.proc_time) 1f ≡ true → turn r t s ≡ paced (looked s) t (mb_fullness s s.proc_time) (eb_room r s.flow)
      unfolding turn step
      turn_paced m = simp (h, k, m)

      pub turn_backlogged : le (mb_fullness s s.proc_time) 1f ≡ false → turn r t s ≡ on (backlogged r (looked s) t (mb_fullness s s.proc_time) (eb_room r s.flow))
      unfolding turn step
      turn_backlogged m = simp (h, k, m)
