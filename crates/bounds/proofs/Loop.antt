-- The turns of `leak_until`: 2 (2 ^ 24 + 1) + 2 of them end by the loop's own test, from any state of which an invariant holds that turns keep. Assumes nothing.
use mathlib.Core.Bool.{Bool, false, true}
use mathlib.Core.Logic.{◌⊎◌, inl, inr}
use mathlib.Core.Path.{◌∙◌, ◌≡◌, ap, refl, subst, sym}
use Prim.Native.Nat.{◌*◌, ◌+◌, ◌-◌, ◌<◌, ◌^◌, ◌≤◌, suc, zero, ℕ}
use native.Mathlib.Nat.{add-le-add, le_of_suc-le-suc, le_refl, le_trans, sub-le as nat-sub-le}
use native.Mathlib.Omega.{arith}
use lib.Dec.{T, lit≤}
use lib.Ieee.{Float, binary64, fits, lt}
use Rattle.ieee.specs.Binary64.{1e-6f, ◌⊖◌}
use Rattle.ieee.specs.Progress.{place, take_advance}
use Rattle.ieee.proofs.Progress.{measure_lt}
use Rattle.branch.specs.VideoBranch.{Leak, Turned, VideoRates, on, turn, turns}
use Rattle.bounds.specs.Runs.{TimeIn}
use Rattle.bounds.specs.Video.{RatesIn, loop_limit}
use Rattle.bounds.proofs.Rate.{rate_late}
use Rattle.bounds.proofs.Turn.{NotLast, turn_not_last}
use Rattle.bounds.proofs.TurnCases.{turn_none}
use Rattle.bounds.proofs.TurnParts.{ByRate, Moves, TurnIn, rate_time, span_in}

-- what is left of 2 ^ 24 + 1 bytes, in half bytes
unfoldable pub half_bytes : Float → ℕ
half_bytes x = (2 ^ 24 + 1 + 0) * 2 ^ 1 - place 0 1 x

fewer : (s s' : Leak) → TurnIn s → Moves s.flow.transferred s'.flow.transferred → half_bytes s'.flow.transferred < half_bytes s.flow.transferred
unfolding half_bytes
fewer s s' q m = measure_lt 0 1 (2 ^ 24 + 1) take_advance q.transferred m.top tt m.over

stopped : (n : ℕ) (r : VideoRates) (t : Float) (u : Turned) → u.more ≡ false → (turns n r t u).more ≡ false
unfolding turns
stopped zero r t u e = e
stopped (suc n) r t u e = simp e

-- where so many turns end the loop, more of them change nothing
module _ (r : VideoRates) (t : Float) where
  stopped_is : (k : ℕ) (u : Turned) → u.more ≡ false → turns k r t u ≡ u
  unfolding turns
  stopped_is zero u e = refl
  stopped_is (suc k) u e = simp e

  same_by : (k k' : ℕ) (u : Turned) (b : Bool) → u.more ≡ b → (turns (suc k) r t u).more ≡ false
      → ((turns k r t (turn r t u.leak)).more ≡ false → turns k' r t (turn r t u.leak) ≡ turns k r t (turn r t u.leak)) → turns (suc k') r t u ≡ turns (suc k) r t u
  unfolding turns
  same_by k k' u true e f g = simp e (g (simp e at f))
  same_by k k' u false e f g = simp e

  pub turns_same : (k k' : ℕ) (u : Turned) → k ≤ k' → (turns k r t u).more ≡ false → turns k' r t u ≡ turns k r t u
  unfolding turns
  turns_same zero k' u h e = stopped_is k' u e
  turns_same (suc k) zero u h e = absurd (no k h)
    where
      no : (k : ℕ) → suc k ≤ 0 → ⊥
      no k h = omega arith
  turns_same (suc k) (suc k') u h e = same_by k k' u u.more refl e (turns_same k k' (turn r t u.leak) (le_of_suc-le-suc h))

after : (r : VideoRates) (t : Float) (s s' : Leak) → TurnIn s → RatesIn r → TimeIn t → T (fits binary64 t) → lt s.proc_time (t ⊖ 1e-6f) ≡ true → ByRate s s' r.rbx t
    → lt s'.proc_time (t ⊖ 1e-6f) ≡ false
unfolding rate_time
after r t s s' q g i f h b =
    ap (λ (z : Float). lt z (t ⊖ 1e-6f)) b.time ∙ rate_late s.proc_time t r.rbx q.time i q.time_fits f g.rbx (span_in s.proc_time t q.time i f h) b.few

-- an invariant P that a turn keeps where it moves bytes and goes on
module _ (r : VideoRates) (t : Float) (g : RatesIn r) (i : TimeIn t) (f : T (fits binary64 t)) (P : Leak → Type 0) (mid : (s : Leak) → P s → TurnIn s)
    (keeps : (s : Leak) → P s → (turn r t s).more ≡ true → Moves s.flow.transferred (turn r t s).leak.flow.transferred → P (turn r t s).leak) where
  -- a state past t: one turn sees it
  past : (n : ℕ) (s : Leak) → 1 ≤ n → lt s.proc_time (t ⊖ 1e-6f) ≡ false → (turns n r t (on s)).more ≡ false
  unfolding turns
  past zero s h e = absurd (no h)
    where
      no : 1 ≤ 0 → ⊥
      no h = omega arith
  past (suc n) s h e = stopped n r t (turn r t s) (ap (λ (u : Turned). u.more) (turn_none r t s e))

  go_on : (n : ℕ) (s s' : Leak) → TurnIn s → half_bytes s.flow.transferred + 2 ≤ suc n → NotLast r t s s'
      → (Moves s.flow.transferred s'.flow.transferred → half_bytes s'.flow.transferred + 2 ≤ n → (turns n r t (on s')).more ≡ false) → (turns n r t (on s')).more ≡ false
  go_on n s s' q h o k = how o.how
    where
      how : Moves s.flow.transferred s'.flow.transferred ⊎ ByRate s s' r.rbx t → (turns n r t (on s')).more ≡ false
      how (inl m) = k m (less (half_bytes s'.flow.transferred) (half_bytes s.flow.transferred) n (fewer s s' q m) h)
        where
          less : (a b n : ℕ) → a < b → b + 2 ≤ suc n → a + 2 ≤ n
          less a b n x y = omega arith
      how (inr b) = past n s' (some (half_bytes s.flow.transferred) n h) (after r t s s' q g i f o.early b)
        where
          some : (a n : ℕ) → a + 2 ≤ suc n → 1 ≤ n
          some a n y = omega arith

  by_more : (n : ℕ) (u : Turned) (b : Bool) → u.more ≡ b → (u.more ≡ true → (turns n r t (on u.leak)).more ≡ false) → (turns n r t u).more ≡ false
  by_more n u true e k = ap (λ (c : Bool). (turns n r t (record { more = c; leak = u.leak })).more) e ∙ k e
  by_more n u false e k = stopped n r t u e

  -- n turns end by the loop's own test
  pub ends : (n : ℕ) (s : Leak) → P s → half_bytes s.flow.transferred + 2 ≤ n → (turns n r t (on s)).more ≡ false
  unfolding turns
  ends zero s p h = absurd (no (half_bytes s.flow.transferred) h)
    where
      no : (a : ℕ) → a + 2 ≤ 0 → ⊥
      no a h = omega arith
  ends (suc n) s p h =
      by_more n (turn r t s) (turn r t s).more refl
      (λ (e : (turn r t s).more ≡ true). go_on n s (turn r t s).leak (mid s p) h (turn_not_last r t s (mid s p) g i f e)
      (λ (m : Moves s.flow.transferred (turn r t s).leak.flow.transferred). ends n (turn r t s).leak (keeps s p e m)))

  -- and leave Q, which P, the last turn and a turn by the rate establish
  module _ (Q : Leak → Type 0) (weaken : (s : Leak) → P s → Q s) (last : (s : Leak) → P s → (turn r t s).more ≡ false → Q (turn r t s).leak)
      (by-rate : (s : Leak) → P s → (turn r t s).more ≡ true → ByRate s (turn r t s).leak r.rbx t → Q (turn r t s).leak) where
    stays : (n : ℕ) (u : Turned) → u.more ≡ false → Q u.leak → Q (turns n r t u).leak
    unfolding turns
    stays zero u e q = q
    stays (suc n) u e q = simp e q

    rests : (n : ℕ) (s : Leak) → lt s.proc_time (t ⊖ 1e-6f) ≡ false → Q s → Q (turns n r t (on s)).leak
    unfolding turns
    rests zero s e q = q
    rests (suc n) s e q = stays n (turn r t s) (ap (λ (u : Turned). u.more) (turn_none r t s e)) (rw (turn_none r t s e) q)

    leaves_by : (n : ℕ) (u : Turned) (b : Bool) → u.more ≡ b → (u.more ≡ true → Q (turns n r t (on u.leak)).leak) → (u.more ≡ false → Q u.leak) → Q (turns n r t u).leak
    leaves_by n u true e k l = subst (λ (c : Bool). Q (turns n r t (record { more = c; leak = u.leak })).leak) (sym e) (k e)
    leaves_by n u false e k l = stays n u e (l e)

    goes_by : (n : ℕ) (s s' : Leak) → TurnIn s → NotLast r t s s' → (Moves s.flow.transferred s'.flow.transferred → Q (turns n r t (on s')).leak) → (ByRate s s' r.rbx t → Q s')
        → Q (turns n r t (on s')).leak
    goes_by n s s' q o k l = how o.how
      where
        how : Moves s.flow.transferred s'.flow.transferred ⊎ ByRate s s' r.rbx t → Q (turns n r t (on s')).leak
        how (inl m) = k m
        how (inr b) = rests n s' (after r t s s' q g i f o.early b) (l b)

    pub leaves : (n : ℕ) (s : Leak) → P s → Q (turns n r t (on s)).leak
    unfolding turns
    leaves zero s p = weaken s p
    leaves (suc n) s p =
        leaves_by n (turn r t s) (turn r t s).more refl
        (λ (e : (turn r t s).more ≡ true). goes_by n s (turn r t s).leak (mid s p) (turn_not_last r t s (mid s p) g i f e)
        (λ (m : Moves s.flow.transferred (turn r t s).leak.flow.transferred). leaves n (turn r t s).leak (keeps s p e m)) (by-rate s p e))
        (last s p)

-- from any state so many half bytes are left at most
pub few_half_bytes : (x : Float) → half_bytes x + 2 ≤ loop_limit
unfolding half_bytes
few_half_bytes x = le_trans (add-le-add (nat-sub-le ((2 ^ 24 + 1 + 0) * 2 ^ 1) (place 0 1 x)) (le_refl 2)) (lit≤ tt)
