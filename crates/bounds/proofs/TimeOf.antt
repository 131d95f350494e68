-- `time_of_cumulative` finds a time that is no not-a-number and at most found_limit, and only for bytes that are queued. Assumes nothing.
use mathlib.Core.Bool.{Bool, false, not, true}
use mathlib.Core.List.{List, [], ◌∷◌}
use mathlib.Core.Path.{◌∙◌, ◌≡◌, ap, refl, subst, sym}
use Prim.Native.Nat.{◌*◌, ◌+◌, ◌-◌, ◌<◌, ◌^◌, ◌≤◌, ℕ}
use native.Mathlib.Nat.{le_refl, le_trans, mul-one, mul-pos, one-mul, zero-mul}
use native.Mathlib.Omega.{arith}
use lib.Dec.{T}
use lib.Ieee.{Float, add, binary64, eq, fits, le, lt, mul, neg, of_int, sub}
use lib.Ieee.Fits.{add-fits}
use lib.Ieee.Positive.{den, den_pos}
use lib.Ieee.Scale.{finite}
use lib.IntN.{pos}
use Rattle.ieee.specs.Binary64.{◌⊕◌, ◌⊖◌, ◌⊗◌, ◌⊘◌}
use Rattle.ieee.specs.Interval.{In, minus, plain, zero_float}
use Rattle.ieee.specs.Value.{neg_part, pos_part}
use Rattle.ieee.specs.Whole.{Is}
use Rattle.ieee.proofs.Interval.{add_in, in_finite, in_self, mul_in, widen_high}
use Rattle.ieee.proofs.Monotone.{sub_mono}
use Rattle.ieee.proofs.Operations.{div_rounds, pos_part_pos}
use Rattle.ieee.proofs.Order.{between_finite, le_refl as fl-refl, le_trans as fl-trans, lt→le, nle→lt, to_t, to_not}
use Rattle.ieee.proofs.Representable.{rounds_below}
use Rattle.ieee.proofs.Sign.{div_nonneg, sub_nonneg}
use Rattle.ieee.proofs.Value.{le→val}
use Rattle.ieee.proofs.Whole.{is_finite, is_in, le_is, lt_is, of_int_is, plain_is, sub_is}
use Rattle.branch.specs.CumulativeIn.{Inflow, front_time, time_from, time_of_cumulative}
use Rattle.branch.specs.declared.Run.{Run}
use Rattle.std.specs.Prelude.{Option, Some, None}
use Rattle.bounds.specs.Runs.{InflowIn, RunIs, RunsWithin, a_run, longest_window}
use Rattle.bounds.proofs.Arrived.{whole_add, within}

-- a run's start and its longest window
abbrev pub found_limit : ℕ
found_limit = 87044

-- a time x, at which so many bytes, N at most, have come: no not-a-number, but it may be -∞
pub record FoundAt (N : ℕ) (target x : Float) : Type 0 where
  pub top : T (le target (plain N))
  pub number : T (le x x)
  pub high : T (le x (plain found_limit))
  pub fit : T (fits binary64 x)

abbrev pub FoundIn : ℕ → Float → Option Float → Type 0
FoundIn N target (Some x) = FoundAt N target x
FoundIn N target None = Unit {0}

pub is_under : (target x : Float) (m N : ℕ) → T (finite target) → Is x m → m ≤ N → T (le target x) → T (le target (plain N))
is_under target x m N p i h k = let j = is_in x m 0 N i (omega arith) h in fl-trans target x (plain N) p (in_finite j) tt k j.high

-- x at most y, over y, is at most 1
unit_frac : (px nx dx py ny dy : ℕ) → px * dy + ny * dx ≤ py * dx + nx * dy → px * dy * 1 + 0 * (py * dx) ≤ 1 * 1 * (py * dx) + nx * dy * 1
unit_frac px nx dx py ny dy h = omega (arith, mul-one (px * dy), mul-one (nx * dy), zero-mul (py * dx), one-mul (py * dx))

unit_in_lem : (x y : Float) → T (finite x) → T (finite y) → T (le zero_float x) → T (lt zero_float y) → T (le x y) → In zero_float (x ⊘ y) (plain 1)
unfolding fits
unit_in_lem x y p q l g h =
    let c = pos_part_pos y q g in
    record {
      low_finite = tt;
      high_finite = tt;
      low = div_nonneg binary64 x y p q l g;
      high = rounds_below binary64 (x ⊘ y) (plain 1) _ _ (pos_part y * den x) tt tt (mul-pos c (den_pos x)) (div_rounds binary64 x y p q c) (unit_frac (pos_part x) (neg_part x) (den x) (pos_part y) (neg_part y) (den y) (le→val x y p q h));
    }

between : (acc bytes target : Float) (m k : ℕ) → m + k ≤ 2 ^ 53 → 0 < k → Is acc m → Is bytes k → T (finite target) → T (le acc target) → T (le target (acc ⊕ bytes))
    → In zero_float ((target ⊖ acc) ⊘ bytes) (plain 1)
unfolding sub add neg le lt eq
between acc bytes target m k few over i j p a b =
    let s = whole_add acc bytes m k few i j in
    let fs = is_finite (acc ⊕ bytes) (m + k) s in
    let fa = is_finite acc m i in
    let d = sub_is binary64 (acc ⊕ bytes) acc (m + k) m s i (omega arith) in
    let e : Is ((acc ⊕ bytes) ⊖ acc) k = subst (λ (z : Float). Is z k) (sym (d ∙ ap (λ (n : ℕ). of_int binary64 (pos n)) (back m k))) (of_int_is binary64 k (omega arith)) in
    let u = sub_mono binary64 target (acc ⊕ bytes) acc acc p fs fa fa b (fl-refl acc fa) in
    let l = sub_nonneg binary64 target acc p fa a in
    let f = between_finite zero_float (target ⊖ acc) ((acc ⊕ bytes) ⊖ acc) tt (is_finite ((acc ⊕ bytes) ⊖ acc) k e) l u in
    unit_in_lem (target ⊖ acc) bytes f (is_finite bytes k j) l (lt_is zero_float bytes 0 k (plain_is 0) j over)
    (fl-trans (target ⊖ acc) ((acc ⊕ bytes) ⊖ acc) bytes f (is_finite ((acc ⊕ bytes) ⊖ acc) k e) (is_finite bytes k j) u (le_is ((acc ⊕ bytes) ⊖ acc) bytes k k e j (le_refl k)))
  where
    back : (m k : ℕ) → m + k - m ≡ k
    back m k = omega arith

-- the settled bytes: the start of the first run, or -∞
front_found : (N : ℕ) (rs : List Run) (m : ℕ) (target : Float) → RunsWithin N rs m → T (le target (plain N)) → FoundAt N target (front_time rs)
unfolding front_time le lt eq fits
front_found N [] m target l h = record { top = h; number = tt; high = tt; fit = tt }
front_found N (r ∷ rs) m target (a_run k q l) h =
    let i = widen_high (plain found_limit) q.start tt in
    record { top = h; number = in_self i; high = i.high; fit = q.start_fits }

-- within a run
run_found : (N : ℕ) (r : Run) (k : ℕ) (target x : Float) → RunIs r k → In zero_float x (plain 1) → T (le target (plain N)) → FoundAt N target (r.t0 ⊕ ((r.t1 ⊖ r.t0) ⊗ x))
unfolding add mul le lt eq
run_found N r k target x q i h =
    let p = mul_in binary64 zero_float (plain longest_window) q.span i tt in
    let z = add_in binary64 (minus found_limit) (plain found_limit) q.start p tt in
    record { top = h; number = in_self z; high = z.high; fit = add-fits binary64 r.t0 ((r.t1 ⊖ r.t0) ⊗ x) }

from_by : (N : ℕ) (r : Run) (rs : List Run) (acc target : Float) (b : Bool) → le target (acc ⊕ r.bytes) ≡ b
    → (T (le target (acc ⊕ r.bytes)) → FoundAt N target (r.t0 ⊕ ((r.t1 ⊖ r.t0) ⊗ ((target ⊖ acc) ⊘ r.bytes))))
    → (T (not (le target (acc ⊕ r.bytes))) → FoundIn N target (time_from rs (acc ⊕ r.bytes) target)) → FoundIn N target (time_from (r ∷ rs) acc target)
unfolding time_from
from_by N r rs acc target true e k l = simp e (k (to_t e))
from_by N r rs acc target false e k l = simp e (l (to_not e))

from_found : (N : ℕ) (rs : List Run) (acc target : Float) (m : ℕ) → N ≤ 2 ^ 53 → RunsWithin N rs m → Is acc m → T (finite target) → T (le acc target)
    → FoundIn N target (time_from rs acc target)
unfolding time_from
from_found N [] acc target m h l i p a = tt
from_found N (r ∷ rs) acc target m h (a_run k q l) i p a =
    let few = le_trans (within l) h in
    let y = acc ⊕ r.bytes in
    let s = whole_add acc r.bytes m k few i q.bytes in
    from_by N r rs acc target (le target y) refl
    (λ (b : T (le target y)). run_found N r k target _ q (between acc r.bytes target m k few q.positive i q.bytes p a b) (is_under target y (m + k) N p s (within l) b))
    (λ (b : T (not (le target y))). from_found N rs y target (m + k) h l s p (lt→le y target (is_finite y (m + k) s) p (nle→lt target y p (is_finite y (m + k) s) b)))

of_by : (N : ℕ) (i : Inflow) (target : Float) (b : Bool) → le target i.settled ≡ b → N ≤ 2 ^ 53 → InflowIn N i.runs i.settled → T (finite target)
    → FoundIn N target (time_of_cumulative i target)
unfolding time_of_cumulative
of_by N i target true e h k p = simp e (front_found N i.runs k.count target k.runs (is_under target i.settled k.count N p k.settled (within k.runs) (to_t e)))
of_by N i target false e h k p =
    let q = is_finite i.settled k.count k.settled in
    simp e (from_found N i.runs i.settled target k.count h k.runs k.settled p (lt→le i.settled target q p (nle→lt target i.settled p q (to_not e))))

-- what `time_of_cumulative` finds
pub time_found : (N : ℕ) (i : Inflow) (target : Float) → N ≤ 2 ^ 53 → InflowIn N i.runs i.settled → T (finite target) → FoundIn N target (time_of_cumulative i target)
time_found N i target h k p = of_by N i target (le target i.settled) refl h k p
