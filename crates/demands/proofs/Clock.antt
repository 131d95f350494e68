-- How the building of the clock ends: number 8, 5, 6, 7 or 9 under its condition, or intervals. Assumes nothing.
use Prim.Native.Nat.{ℕ, ◌+◌, ◌≤◌, ◌<◌}
use native.Mathlib.Omega.{arith}
use mathlib.Core.Path.{◌≡◌, refl, ap, ◌∙◌}
use mathlib.Core.Bool.{Bool, true, false, cond, ◌||◌}
use mathlib.Core.List.{List, [], ◌∷◌}
use borrow.Author.Tests.{ltb-true, ltb-false, lt-ltb, le-ltb, eqb-true, eqb-false, eq-eqb, ne_eqb}
use lib.ListN.{length}
use lib.Dec.{ltb, eqb}
use lib.Ieee.{lt}
use Rattle.std.specs.Prelude.{Result, Ok, Err}
use Rattle.ieee.specs.Binary64.{1000f, 1000000000f}
use Rattle.error.specs.declared.Refusal.{Refusal}
use Rattle.arrival.specs.declared.RateInterval.{RateInterval}
use Rattle.arrival.specs.declared.Sample.{Sample}
use Rattle.arrival.specs.declared.Anchor.{Anchor}
use Rattle.arrival.specs.declared.Closed.{Closed}
use Rattle.arrival.specs.ArrivalClock.{Built, and_then, behind, interval_at, stepped, restarted, anchor_at, step_to, rate_to, close, build_from, build_all, build}
use Rattle.demands.specs.Refused.{Reaches, here, later, Comes, comes, MarkBeforeRate, NoStep, BadRate, SampleIs}

-- ---- one sample
data CloseWay (n : ℕ) (a : Anchor) (s : Sample) : Result Closed Refusal → Type 0 where
  mark : MarkBeforeRate n s → CloseWay n a s (Err (Refusal.DiscontinuityBeforeRate n))
  no_step : NoStep a s → CloseWay n a s (Err (Refusal.RepeatedPcr n))
  bad_rate : BadRate a s → CloseWay n a s (Err (Refusal.RateOutsideLimits n))
  closes : (i : RateInterval) (b : Anchor) → CloseWay n a s (Ok (record { interval = i; anchor = b }))

module _ (n : ℕ) (a : Anchor) (s : Sample) where
  close_way : CloseWay n a s (close n a s)
  unfolding close
  close_way = by s.marked refl (eqb n 1) refl (eqb (step_to a s) 0) refl (lt (rate_to a s) 1000f || lt 1000000000f (rate_to a s)) refl
    where
      by : (m : Bool) → s.marked ≡ m → (o : Bool) → eqb n 1 ≡ o → (z : Bool) → eqb (step_to a s) 0 ≡ z → (r : Bool) → (lt (rate_to a s) 1000f || lt 1000000000f (rate_to a s)) ≡ r
          → CloseWay n a s
          (cond m (cond o (Err (Refusal.DiscontinuityBeforeRate n)) (Ok (record { interval = interval_at a a.rate; anchor = restarted a s })))
          (cond z (Err (Refusal.RepeatedPcr n))
          (cond r (Err (Refusal.RateOutsideLimits n)) (Ok (record { interval = interval_at a (rate_to a s); anchor = stepped a s })))))
      by true p true e z f r g = mark (record { marked = p; second = eqb-true n 1 e })
      by true p false e z f r g = closes _ _
      by false p o e true f r g = no_step (record { unmarked = p; none = eqb-true (step_to a s) 0 f })
      by false p o e false f true g = bad_rate (record { unmarked = p; some = omega (arith, eqb-false (step_to a s) 0 f); outside = g })
      by false p o e false f false g = closes _ _

  pub close_mark : MarkBeforeRate n s → close n a s ≡ Err (Refusal.DiscontinuityBeforeRate n)
  unfolding close
  close_mark h = rw (h.marked, eq-eqb n 1 h.second)

  pub close_no_step : NoStep a s → close n a s ≡ Err (Refusal.RepeatedPcr n)
  unfolding close
  close_no_step h = rw (h.unmarked, eq-eqb (step_to a s) 0 h.none)

  pub close_bad_rate : BadRate a s → close n a s ≡ Err (Refusal.RateOutsideLimits n)
  unfolding close
  close_bad_rate h = rw (h.unmarked, ne_eqb (step_to a s) 0 (λ e. omega (arith, h.some)), h.outside)

-- ---- the samples behind the first
data FromWay (n : ℕ) (a : Anchor) (ss : List Sample) : Built → Type 0 where
  mark : {m : ℕ} {b : Anchor} {s : Sample} → Reaches n a ss m b s → MarkBeforeRate m s → FromWay n a ss (Err (Refusal.DiscontinuityBeforeRate m))
  no_step : {m : ℕ} {b : Anchor} {s : Sample} → Reaches n a ss m b s → NoStep b s → FromWay n a ss (Err (Refusal.RepeatedPcr m))
  bad_rate : {m : ℕ} {b : Anchor} {s : Sample} → Reaches n a ss m b s → BadRate b s → FromWay n a ss (Err (Refusal.RateOutsideLimits m))
  built : (is : List RateInterval) → FromWay n a ss (Ok is)

then_way : {n : ℕ} {a b : Anchor} {s : Sample} {ss : List Sample} (i : RateInterval) → close n a s ≡ Ok (record { interval = i; anchor = b })
    → {x : Built} → FromWay (n + 1) b ss x → FromWay n a (s ∷ ss) (and_then i x)
then_way i e (FromWay.mark r h) = FromWay.mark (later i e r) h
then_way i e (FromWay.no_step r h) = FromWay.no_step (later i e r) h
then_way i e (FromWay.bad_rate r h) = FromWay.bad_rate (later i e r) h
then_way i e (FromWay.built is) = FromWay.built (i ∷ is)

from_way : (ss : List Sample) (n : ℕ) (a : Anchor) → FromWay n a ss (build_from n a ss)
unfolding build_from
from_way [] n a = FromWay.built []
from_way (s ∷ ss) n a = by (λ b. from_way ss (n + 1) b) (close n a s) refl (close_way n a s)
  where
    by : ((b : Anchor) → FromWay (n + 1) b ss (build_from (n + 1) b ss)) → (x : Result Closed Refusal) → close n a s ≡ x → CloseWay n a s x → FromWay n a (s ∷ ss) (behind x (λ b. build_from (n + 1) b ss))
    by again x e (CloseWay.mark h) = FromWay.mark here h
    by again x e (CloseWay.no_step h) = FromWay.no_step here h
    by again x e (CloseWay.bad_rate h) = FromWay.bad_rate here h
    by again x e (CloseWay.closes i b) = then_way i e (again b)

reaches_refused : {n m : ℕ} {a b : Anchor} {s : Sample} {ss : List Sample} {r : Refusal} → Reaches n a ss m b s → close m b s ≡ Err r → build_from n a ss ≡ Err r
unfolding build_from
reaches_refused here e = rw e
reaches_refused (later i f h) e = rw f (ap (and_then i) (reaches_refused h e))

comes_refused : {n : ℕ} {a : Anchor} {s : Sample} {ss : List Sample} {r : Refusal} → Comes ss n a s → close n a s ≡ Err r → build_all ss ≡ Err r
comes_refused (comes h) e = reaches_refused h e

-- ---- all of them
pub data ClockWay (depth : ℕ) (ss : List Sample) : Built → Type 0 where
  full_clock : depth < length ss → ClockWay depth ss (Err (Refusal.ClockFull depth))
  few : length ss < 2 → ClockWay depth ss (Err Refusal.TooFewPcrs)
  mark : {n : ℕ} → 2 ≤ length ss → length ss ≤ depth → SampleIs (λ (a : Anchor) (s : Sample). MarkBeforeRate n s) ss n → ClockWay depth ss (Err (Refusal.DiscontinuityBeforeRate n))
  no_step : {n : ℕ} → 2 ≤ length ss → length ss ≤ depth → SampleIs NoStep ss n → ClockWay depth ss (Err (Refusal.RepeatedPcr n))
  bad_rate : {n : ℕ} → 2 ≤ length ss → length ss ≤ depth → SampleIs BadRate ss n → ClockWay depth ss (Err (Refusal.RateOutsideLimits n))
  built : (is : List RateInterval) → ClockWay depth ss (Ok is)

pub clock_way : (depth : ℕ) (ss : List Sample) → ClockWay depth ss (build depth ss)
unfolding build
clock_way depth ss = by (ltb depth (length ss)) refl (ltb (length ss) 2) refl
  where
    all : (xs : List Sample) → 2 ≤ length xs → length xs ≤ depth → ClockWay depth xs (build_all xs)
    all [] h k = absurd (omega arith)
    all (s ∷ xs) h k = some (from_way xs 1 (anchor_at s))
      where
        some : {x : Built} → FromWay 1 (anchor_at s) xs x → ClockWay depth (s ∷ xs) x
        some (FromWay.mark r m) = ClockWay.mark h k (record { anchor = _; sample = _; before = comes r; holds = m })
        some (FromWay.no_step r m) = ClockWay.no_step h k (record { anchor = _; sample = _; before = comes r; holds = m })
        some (FromWay.bad_rate r m) = ClockWay.bad_rate h k (record { anchor = _; sample = _; before = comes r; holds = m })
        some (FromWay.built is) = ClockWay.built is

    by : (t : Bool) → ltb depth (length ss) ≡ t → (u : Bool) → ltb (length ss) 2 ≡ u → ClockWay depth ss (cond t (Err (Refusal.ClockFull depth)) (cond u (Err Refusal.TooFewPcrs) (build_all ss)))
    by true g u h = full_clock (ltb-true depth (length ss) g)
    by false g true h = few (ltb-true (length ss) 2 h)
    by false g false h = all ss (ltb-false (length ss) 2 h) (ltb-false depth (length ss) g)

-- ---- and back
module _ (depth : ℕ) (ss : List Sample) where
  pub build_full : depth < length ss → build depth ss ≡ Err (Refusal.ClockFull depth)
  unfolding build
  build_full h = rw (lt-ltb depth (length ss) h)

  pub build_few : 2 ≤ depth → length ss < 2 → build depth ss ≡ Err Refusal.TooFewPcrs
  unfolding build
  build_few d h =
      let e : length ss ≤ depth = omega arith in
      rw (le-ltb depth (length ss) e, lt-ltb (length ss) 2 h)

  module _ (two : 2 ≤ length ss) (most : length ss ≤ depth) where
    sampled : build depth ss ≡ build_all ss
    unfolding build
    sampled = rw (le-ltb depth (length ss) most, le-ltb (length ss) 2 two)

    pub build_mark : (n : ℕ) → SampleIs (λ (a : Anchor) (s : Sample). MarkBeforeRate n s) ss n → build depth ss ≡ Err (Refusal.DiscontinuityBeforeRate n)
    build_mark n h = sampled ∙ comes_refused h.before (close_mark n h.anchor h.sample h.holds)

    pub build_no_step : (n : ℕ) → SampleIs NoStep ss n → build depth ss ≡ Err (Refusal.RepeatedPcr n)
    build_no_step n h = sampled ∙ comes_refused h.before (close_no_step n h.anchor h.sample h.holds)

    pub build_bad_rate : (n : ℕ) → SampleIs BadRate ss n → build depth ss ≡ Err (Refusal.RateOutsideLimits n)
    build_bad_rate n h = sampled ∙ comes_refused h.before (close_bad_rate n h.anchor h.sample h.holds)
