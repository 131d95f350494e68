-- The system branch within bounds. Assumes nothing.
use mathlib.Core.Bool.{cond, true}
use mathlib.Core.Logic.{◌⊎◌, inl, inr}
use mathlib.Core.Path.{◌≡◌, refl}
use Prim.Native.Nat.{◌+◌, ◌^◌, ◌≤◌, zero-le, ℕ}
use native.Mathlib.Nat.{le-add_right, le_refl, lt_of_le_of_lt}
use lib.Dec.{T, lit<, lit≤}
use lib.Ieee.{Float, add, binary64, div, eq, fits, le, lt, mul, neg, of_bits, sub}
use lib.Ieee.Fits.{add-fits, sub-fits}
use lib.IntN.{pos}
use Rattle.ieee.specs.Binary64.{0f, 1536f, 1f, 500f, 80000f, 8f, ◌⊕◌, ◌⊖◌, ◌⊗◌, ◌⊘◌, -∞}
use Rattle.ieee.specs.Interval.{In, minus, plain, zero_float}
use Rattle.ieee.specs.MaxMin.{max_of}
use Rattle.ieee.specs.Whole.{Is}
use Rattle.ieee.proofs.Growth.{add_at, widen_at}
use Rattle.ieee.proofs.Interval.{closed_in, cond_in, div_in, in_finite, mul_in, sub_in, widen_low}
use Rattle.ieee.proofs.MaxMin.{max_in}
use Rattle.ieee.proofs.Order.{le_trans as fl-trans}
use Rattle.ieee.proofs.Sign.{sub_le}
use Rattle.ieee.proofs.Whole.{is_in, le_is, plain_is}
use Rattle.ieee.proofs.MaxMin.{max_fits, max_keeps}
use Rattle.branch.specs.SysBranch.{filled, idled, new_sys, push_sys, rsys_of, since, sys_events}
use Rattle.branch.specs.declared.Run.{Run}
use Rattle.branch.specs.declared.sys_branch.SysBranch.{SysBranch}
use Rattle.bounds.specs.Events.{EventsIn}
use Rattle.bounds.specs.Runs.{WindowTime, byte_limit}
use Rattle.bounds.specs.Sys.{SysBounded, SysRate, TransportRate, slowest_sys}
use Rattle.bounds.proofs.Events.{events_when}
use Rattle.events.specs.declared.Event.TheVariants.{Overflow}

pub rsys_in : (rate : Float) → TransportRate rate → SysRate (rsys_of rate)
unfolding rsys_of of_bits mul div le lt eq
rsys_in rate i =
    let m = mul_in binary64 (plain 8000) (plain (2 ^ 52)) i (closed_in (plain 8) 8f (plain 8) tt) tt in
    let d = div_in binary64 (plain 16) (plain (2 ^ 44)) m (closed_in (plain 500) 500f (plain 500) tt) tt in
    div_in binary64 (plain slowest_sys) (plain (2 ^ 41)) (max_in ((rate ⊗ 8f) ⊘ 500f) d.high (closed_in (plain 80000) 80000f (plain (2 ^ 44)) tt)) (closed_in (plain 8) 8f (plain 8) tt) tt

pub new_sys_lem : SysBounded 0 new_sys
unfolding of_bits le lt eq fits
new_sys_lem =
    record {
      few = zero-le;
      fullness = closed_in zero_float 0f (plain 0) tt;
      fullness_fits = tt;
      last = inl refl;
      peak = closed_in zero_float 0f (plain 0) tt;
    }

zero_in : (n : ℕ) → In zero_float 0f (plain n)
unfolding of_bits
zero_in n =
    record { low_finite = tt; high_finite = tt; low = le_is zero_float (plain 0) 0 0 (plain_is 0) (plain_is 0) zero-le; high = le_is (plain 0) (plain n) 0 n (plain_is 0) (plain_is n) zero-le }

zero_fits_f64 : T (fits binary64 0f)
unfolding of_bits fits
zero_fits_f64 = tt

-- what a drain of y leaves of x
drained_in : (n : ℕ) (x y : Float) → n ≤ byte_limit → In zero_float x (plain n) → T (fits binary64 x) → In zero_float y (plain (2 ^ 61)) → In zero_float (max_of (x ⊖ y) 0f) (plain n)
unfolding sub add neg le lt eq
drained_in n x y h i f j =
    let d = sub_in binary64 (minus (2 ^ 62)) (plain (2 ^ 62)) (widen_at 0 byte_limit (widen_low (minus 0) i tt) (lit≤ tt) h) j tt in
    max_in (x ⊖ y) (fl-trans (x ⊖ y) x (plain n) (in_finite d) (in_finite i) tt (sub_le binary64 x y (in_finite i) (in_finite j) f j.low) i.high) (zero_in n)

module _ (n k : ℕ) (s : SysBranch) (x : Run) (r : Float) (b : SysBounded n s) (c0 : WindowTime x.t0) (c1 : WindowTime x.t1) (whole : Is x.bytes k) (g : SysRate r)
    (few : n + k ≤ byte_limit) where
  since_in : WindowTime (since s x.t0)
  unfolding since eq
  since_in = go b.last
    where
      go : (s.last_time ≡ -∞) ⊎ WindowTime s.last_time → WindowTime (cond (eq s.last_time -∞) x.t0 s.last_time)
      go (inl e) = rw e c0
      go (inr i) = cond_in (eq s.last_time -∞) c0 i

  -- so much leaves between two times
  leaves_in : (x y : Float) → WindowTime x → WindowTime y → In zero_float (r ⊗ (max_of (x ⊖ y) 0f)) (plain (2 ^ 61))
  unfolding of_bits sub add neg mul le lt eq
  leaves_in x y i j =
      let d = sub_in binary64 (minus (2 ^ 17)) (plain (2 ^ 17)) i j tt in
      mul_in binary64 zero_float (plain (2 ^ 61)) g (max_in (x ⊖ y) d.high (closed_in zero_float 0f (plain (2 ^ 17)) tt)) tt

  abbrev idle : Float
  idle = max_of (s.fullness ⊖ (r ⊗ (max_of (x.t0 ⊖ (since s x.t0)) 0f))) 0f

  idle_in : In zero_float idle (plain n)
  idle_in = drained_in n s.fullness _ b.few b.fullness b.fullness_fits (leaves_in x.t0 (since s x.t0) c0 since_in)

  added_in : In zero_float (idle ⊕ x.bytes) (plain (n + k))
  unfolding le lt eq
  added_in =
      widen_low zero_float
      (add_at binary64 (pos 0) tt (widen_low (minus 0) idle_in tt) (widen_low (minus 0) (is_in x.bytes k 0 k whole zero-le (le_refl k)) tt) (lit< tt) (lt_of_le_of_lt few (lit< tt))) tt

  pub filled_in : In zero_float (filled s x r) (plain (n + k))
  unfolding filled idled
  filled_in = drained_in (n + k) (idle ⊕ x.bytes) _ few added_in (add-fits binary64 idle x.bytes) (leaves_in x.t1 x.t0 c1 c0)

  filled_fits : T (fits binary64 (filled s x r))
  unfolding filled idled
  filled_fits = max_fits binary64 ((idle ⊕ x.bytes) ⊖ (r ⊗ (max_of (x.t1 ⊖ x.t0) 0f))) 0f (sub-fits binary64 (idle ⊕ x.bytes) (r ⊗ (max_of (x.t1 ⊖ x.t0) 0f))) zero_fits_f64

  pub push_sys_lem : SysBounded (n + k) (push_sys s x r)
  unfolding push_sys le lt eq
  push_sys_lem =
      record {
        few = few;
        fullness = filled_in;
        fullness_fits = filled_fits;
        last = inr c1;
        peak = max_keeps (widen_low zero_float (widen_at 0 (n + k) (widen_low (minus 0) b.peak tt) (lit≤ tt) (le-add_right n k)) tt) filled_in;
      }

  pub sys_events_lem : EventsIn (sys_events s x r)
  unfolding sys_events of_bits add le lt eq
  sys_events_lem =
      events_when (lt (1536f ⊕ 1f) (filled s x r)) (Overflow (filled s x r))
      (λ (z : lt (1536f ⊕ 1f) (filled s x r) ≡ true). widen_low zero_float (widen_at 0 byte_limit (widen_low (minus 0) filled_in tt) (lit≤ tt) few) tt)
