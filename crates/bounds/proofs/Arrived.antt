-- What has arrived by a time is between 0 and the bytes of all runs, which are whole numbers. Assumes nothing.
use mathlib.Core.Bool.{Bool, cond, false, true}
use mathlib.Core.List.{List, [], ◌++◌, ◌∷◌}
use mathlib.Core.Path.{◌≡◌, refl, subst, sym}
use Prim.Native.Nat.{◌+◌, ◌<◌, ◌^◌, ◌≤◌, ℕ}
use native.Mathlib.Nat.{add-le-add, le-add_right, le_of_lt, le_refl, le_trans, lt_of_le_of_lt, mul-one}
use native.Mathlib.Omega.{arith}
use lib.Dec.{T, lit<}
use lib.Ieee.{Float, add, binary64, eq, fits, le, lt, neg, of_bits, sub}
use lib.Ieee.Fits.{add-fits}
use lib.IntN.{pos}
use Rattle.ieee.specs.Binary64.{0f, 1f, ◌⊕◌, ◌⊖◌, ◌⊗◌, ◌⊘◌}
use Rattle.ieee.specs.Interval.{In, minus, plain, zero_float}
use Rattle.ieee.specs.Whole.{Is}
use Rattle.ieee.proofs.Growth.{add_at, mul_at, widen_at}
use Rattle.ieee.proofs.Interval.{closed_in, in_finite, sub_in, widen_low}
use Rattle.ieee.proofs.MaxMin.{clamp_in}
use Rattle.ieee.proofs.Monotone.{div_not_nan}
use Rattle.ieee.proofs.Order.{nle→lt, to_not}
use Rattle.ieee.proofs.Whole.{add_is, is_in, of_int_is}
use Rattle.branch.specs.CumulativeIn.{arrived_by, clamp, fraction, rest_at, settle, settled_at, total_of}
use Rattle.branch.specs.declared.Run.{Run}
use Rattle.bounds.specs.Runs.{InflowIn, RunIs, RunsWithin, TimeIn, a_run, no_runs}

-- what has arrived by t, of runs and settled bytes; the part of a run that has
abbrev pub arrived_of : List Run → Float → Float → Float
arrived_of rs s t = arrived_by (record { runs = rs; settled = s }) t

abbrev pub share : Run → Float → Float
share r t = r.bytes ⊗ (fraction r t)

pub within : {N : ℕ} {rs : List Run} {m : ℕ} → RunsWithin N rs m → m ≤ N
within (no_runs h) = h
within {N} {rs} {m} (a_run k i l) = le_trans (le-add_right m k) (within l)

-- more may come, and more has come
pub runs_mono : {N N' : ℕ} {rs : List Run} {m : ℕ} → N ≤ N' → RunsWithin N rs m → RunsWithin N' rs m
runs_mono h (no_runs g) = no_runs (le_trans g h)
runs_mono h (a_run k q l) = a_run k q (runs_mono h l)

pub runs_append : {N : ℕ} {r : Run} (k : ℕ) (rs : List Run) {m : ℕ} → RunsWithin N rs m → RunIs r k → RunsWithin (N + k) (rs ++ (r ∷ [])) m
runs_append {N} k [] {m} (no_runs g) q = a_run k q (no_runs (add-le-add g (le_refl k)))
runs_append k (r ∷ rs) (a_run j p l) q = a_run j p (runs_append k rs l q)

pub inflow_mono : {N N' : ℕ} {rs : List Run} {s : Float} → N ≤ N' → InflowIn N rs s → InflowIn N' rs s
inflow_mono h q = record { count = q.count; settled = q.settled; fit = q.fit; runs = runs_mono h q.runs }

pub inflow_append : {N : ℕ} {r : Run} (k : ℕ) {rs : List Run} {s : Float} → InflowIn N rs s → RunIs r k → InflowIn (N + k) (rs ++ (r ∷ [])) s
inflow_append k {rs} q p = record { count = q.count; settled = q.settled; fit = q.fit; runs = runs_append k rs q.runs p }

pub whole_add : (x y : Float) (m n : ℕ) → m + n ≤ 2 ^ 53 → Is x m → Is y n → Is (x ⊕ y) (m + n)
whole_add x y m n h p q = subst (λ (z : Float). Is z (m + n)) (sym (add_is binary64 x y m n p q)) (of_int_is binary64 (m + n) h)

-- ---- the runs that have ended by t settle
settle_by : (N : ℕ) (t : Float) (r : Run) (rs : List Run) (s : Float) (b : Bool) → le r.t1 t ≡ b
    → InflowIn N (r ∷ rs) s → InflowIn N (rest_at rs t) (settled_at rs (s ⊕ r.bytes) t) → InflowIn N (rest_at (r ∷ rs) t) (settled_at (r ∷ rs) s t)
unfolding rest_at settled_at
settle_by N t r rs s true e a b = simp e b
settle_by N t r rs s false e a b = simp e a

settles : (N : ℕ) (t : Float) (rs : List Run) (s : Float) (m : ℕ) → N ≤ 2 ^ 53 → RunsWithin N rs m → Is s m → T (fits binary64 s) → InflowIn N (rest_at rs t) (settled_at rs s t)
unfolding rest_at settled_at
settles N t [] s m h l i f = record { count = m; settled = i; fit = f; runs = l }
settles N t (r ∷ rs) s m h (a_run k q l) i f =
    settle_by N t r rs s (le r.t1 t) refl (record { count = m; settled = i; fit = f; runs = a_run k q l })
    (settles N t rs (s ⊕ r.bytes) (m + k) h l (whole_add s r.bytes m k (le_trans (within l) h) i q.bytes) (add-fits binary64 s r.bytes))

pub settle_keeps : (N : ℕ) (t : Float) (rs : List Run) (s : Float) → N ≤ 2 ^ 53 → InflowIn N rs s → InflowIn N (rest_at rs t) (settled_at rs s t)
settle_keeps N t rs s h k = settles N t rs s k.count h k.runs k.settled k.fit

-- ---- the share of a run
pub clamped : (x : Float) → T (le x x) → In zero_float (clamp x) (plain 1)
unfolding clamp of_bits le lt eq
clamped x h = clamp_in x 0f 1f tt h

pub whole_in : (x : Float) (k : ℕ) → Is x k → In (minus 0) x (plain k)
unfolding le lt eq
whole_in x k p = widen_low (minus 0) (is_in x k 0 k p (omega arith) (omega arith)) tt

times_unit : (x y : Float) (k : ℕ) → k < 2 ^ 53 → In (minus 0) x (plain k) → In zero_float y (plain 1) → In (minus 0) (x ⊗ y) (plain k)
times_unit x y k h i j = subst (λ (n : ℕ). In (minus 0) (x ⊗ y) (plain n)) (mul-one k) (mul_at binary64 (pos 0) tt i j (lit< tt) (rw (mul-one k) h))

share_by : (r : Run) (k : ℕ) (t : Float) (b : Bool) → le (r.t1 ⊖ r.t0) 0f ≡ b → RunIs r k → k < 2 ^ 53 → TimeIn t → In (minus 0) (share r t) (plain k)
unfolding fraction of_bits le lt eq sub add neg
share_by r k t true e q h i = simp e (times_unit r.bytes 1f k h (whole_in r.bytes k q.bytes) (closed_in zero_float 1f (plain 1) tt))
share_by r k t false e q h i =
    let d = sub_in binary64 (minus (2 ^ 20)) (plain (2 ^ 20)) q.end q.start tt in
    let n = sub_in binary64 (minus (2 ^ 20)) (plain (2 ^ 20)) i q.start tt in
    simp e (times_unit r.bytes _ k h (whole_in r.bytes k q.bytes)
    (clamped ((t ⊖ r.t0) ⊘ (r.t1 ⊖ r.t0))
    (div_not_nan binary64 (t ⊖ r.t0) (r.t1 ⊖ r.t0) (in_finite n) (in_finite d) (nle→lt (r.t1 ⊖ r.t0) zero_float (in_finite d) tt (to_not e)))))

pub share_in : (r : Run) (k : ℕ) (t : Float) → RunIs r k → k < 2 ^ 53 → TimeIn t → In (minus 0) (share r t) (plain k)
share_in r k t q h i = share_by r k t (le (r.t1 ⊖ r.t0) 0f) refl q h i

-- ---- the total
total_by : (N : ℕ) (t : Float) (r : Run) (rs : List Run) (x : Float) (m : ℕ) (b : Bool) → le t r.t0 ≡ b → m ≤ N → In (minus 0) x (plain m)
    → In (minus 0) (total_of rs (x ⊕ (share r t)) t) (plain N) → In (minus 0) (total_of (r ∷ rs) x t) (plain N)
unfolding total_of
total_by N t r rs x m true e h i j = simp e (widen_at 0 N i (omega arith) h)
total_by N t r rs x m false e h i j = simp e j

pub totals : (N : ℕ) (t : Float) (rs : List Run) (x : Float) (m : ℕ) → N < 2 ^ 53 → RunsWithin N rs m → TimeIn t → In (minus 0) x (plain m) → In (minus 0) (total_of rs x t) (plain N)
unfolding total_of
totals N t [] x m h (no_runs g) c i = widen_at 0 N i (omega arith) g
totals N t (r ∷ rs) x m h (a_run k q l) c i =
    total_by N t r rs x m (le t r.t0) refl (le_trans (le-add_right m k) (within l)) i
    (totals N t rs (x ⊕ (share r t)) (m + k) h l c (add_at binary64 (pos 0) tt i (share_in r k t q (small m k N h (within l)) c) (lit< tt) (lt_of_le_of_lt (within l) h)))
  where
    small : (m k N : ℕ) → N < 2 ^ 53 → m + k ≤ N → k < 2 ^ 53
    small m k N h g = omega arith

-- what has arrived by t is between 0 and N
pub arrived_in : (N : ℕ) (t : Float) (rs : List Run) (s : Float) → N < 2 ^ 53 → InflowIn N rs s → TimeIn t → In (minus 0) (arrived_of rs s t) (plain N)
unfolding arrived_by settle
arrived_in N t rs s h k c =
    let z = settle_keeps N t rs s (le_of_lt h) k in
    totals N t (rest_at rs t) (settled_at rs s t) z.count h z.runs c (whole_in _ _ z.settled)

-- and a value of the format
pick_fits : (x y : Float) (c : Bool) → T (fits binary64 x) → T (fits binary64 y) → T (fits binary64 (cond c x y))
pick_fits x y true f g = f
pick_fits x y false f g = g

total_fits : (t : Float) (rs : List Run) (x : Float) → T (fits binary64 x) → T (fits binary64 (total_of rs x t))
unfolding total_of
total_fits t [] x f = f
total_fits t (r ∷ rs) x f = pick_fits x (total_of rs (x ⊕ (share r t)) t) (le t r.t0) f (total_fits t rs (x ⊕ (share r t)) (add-fits binary64 x (share r t)))

pub arrived_fits : (N : ℕ) (t : Float) (rs : List Run) (s : Float) → N ≤ 2 ^ 53 → InflowIn N rs s → T (fits binary64 (arrived_of rs s t))
unfolding arrived_by settle
arrived_fits N t rs s h k = let z = settle_keeps N t rs s h k in total_fits t (rest_at rs t) (settled_at rs s t) z.fit
