-- `arrived_by` settles runs on the way: what has arrived by a later time is the same with and without it. A run pushed adds to what has arrived. Assumes nothing.
use mathlib.Core.Bool.{Bool, false, true}
use mathlib.Core.List.{List, [], ◌++◌, ◌∷◌}
use mathlib.Core.Path.{◌≡◌, refl, subst}
use Prim.Native.Nat.{◌+◌, ◌<◌, ◌^◌, ◌≤◌, ℕ}
use native.Mathlib.Nat.{le-add_right, le_of_lt, le_trans}
use native.Mathlib.Omega.{arith}
use lib.Dec.{T}
use lib.Ieee.{Float, binary64, eq, fits, le, lt}
use lib.Ieee.Fits.{add-fits}
use Rattle.ieee.specs.Binary64.{◌⊕◌}
use Rattle.ieee.specs.Interval.{In, minus, plain, zero_float}
use Rattle.ieee.specs.Units.{pos_units}
use Rattle.ieee.specs.Whole.{Is}
use Rattle.ieee.proofs.Interval.{in_finite, in_self, widen_low}
use Rattle.ieee.proofs.Order.{le_refl as fl-refl, le_trans as fl-trans, to_t, truth}
use Rattle.ieee.proofs.Units.{le→units}
use Rattle.branch.specs.CumulativeIn.{Inflow, arrived_by, rest_at, settle, settled_at, total_of}
use Rattle.branch.specs.declared.Run.{Run}
use Rattle.bounds.specs.Runs.{InflowIn, RunIs, RunsWithin, TimeIn, a_run}
use Rattle.bounds.proofs.Arrived.{arrived_fits, arrived_in, arrived_of, inflow_mono, runs_append, share, whole_add, whole_in, within}
use Rattle.bounds.proofs.ArrivedLater.{Sum, arrived_mono, arrived_up, step_in, total_up}
use Rattle.bounds.proofs.Rate.{neg_units_zero}

-- ---- settling to t and then to t' is settling to t'
module _ (t t' : Float) (c : TimeIn t) (c' : TimeIn t') (g : T (le t t')) where
  later : (r : Run) (k : ℕ) → RunIs r k → le r.t1 t ≡ true → le r.t1 t' ≡ true
  later r k q e = truth (le r.t1 t') (fl-trans r.t1 t t' (in_finite q.end) (in_finite c) (in_finite c') (to_t e) g)

  rest_by : (r : Run) (rs : List Run) (b : Bool) → le r.t1 t ≡ b → (le r.t1 t ≡ true → le r.t1 t' ≡ true) → rest_at (rest_at rs t) t' ≡ rest_at rs t'
      → rest_at (rest_at (r ∷ rs) t) t' ≡ rest_at (r ∷ rs) t'
  unfolding rest_at
  rest_by r rs true e f k = simp (e, f e) k
  rest_by r rs false e f k = simp e

  rest_rest : {N : ℕ} (rs : List Run) {m : ℕ} → RunsWithin N rs m → rest_at (rest_at rs t) t' ≡ rest_at rs t'
  unfolding rest_at
  rest_rest [] l = refl
  rest_rest (r ∷ rs) (a_run k q l) = rest_by r rs (le r.t1 t) refl (later r k q) (rest_rest rs l)

  settled_by : (r : Run) (rs : List Run) (s : Float) (b : Bool) → le r.t1 t ≡ b → (le r.t1 t ≡ true → le r.t1 t' ≡ true)
      → settled_at (rest_at rs t) (settled_at rs (s ⊕ r.bytes) t) t' ≡ settled_at rs (s ⊕ r.bytes) t' → settled_at (rest_at (r ∷ rs) t) (settled_at (r ∷ rs) s t) t' ≡ settled_at (r ∷ rs) s t'
  unfolding rest_at settled_at
  settled_by r rs s true e f k = simp (e, f e) k
  settled_by r rs s false e f k = simp e

  settled_settled : {N : ℕ} (rs : List Run) (s : Float) {m : ℕ} → RunsWithin N rs m → settled_at (rest_at rs t) (settled_at rs s t) t' ≡ settled_at rs s t'
  unfolding rest_at settled_at
  settled_settled [] s l = refl
  settled_settled (r ∷ rs) s (a_run k q l) = settled_by r rs s (le r.t1 t) refl (later r k q) (settled_settled rs (s ⊕ r.bytes) l)

  pub arrived_settled : (N : ℕ) (i : Inflow) → InflowIn N i.runs i.settled → arrived_by (settle i t) t' ≡ arrived_by i t'
  unfolding arrived_by settle
  arrived_settled N i q = rw (rest_rest i.runs q.runs, settled_settled i.runs i.settled q.runs)

-- ---- what has arrived, in units
units_le : (x y : Float) {hi hi' : Float} → In (minus 0) x hi → In (minus 0) y hi' → T (fits binary64 x) → T (fits binary64 y) → T (le x y) → pos_units binary64 x ≤ pos_units binary64 y
unfolding le lt eq
units_le x y i j f g h =
    flat _ _ _ _ (neg_units_zero x (in_finite i) (widen_low zero_float i tt).low) (neg_units_zero y (in_finite j) (widen_low zero_float j tt).low)
    (le→units binary64 x y (in_finite i) (in_finite j) f g h)
  where
    flat : (x y ox oy : ℕ) → ox ≡ 0 → oy ≡ 0 → x + oy ≤ y + ox → x ≤ y
    flat x y ox oy a b h = omega arith

module _ (N : ℕ) (h : N < 2 ^ 53) (i : Inflow) (q : InflowIn N i.runs i.settled) where
  pub arrival_in : (t : Float) → TimeIn t → In (minus 0) (arrived_by i t) (plain N)
  arrival_in t c = arrived_in N t i.runs i.settled h q c

  pub arrival_fits : (t : Float) → T (fits binary64 (arrived_by i t))
  arrival_fits t = arrived_fits N t i.runs i.settled (le_of_lt h) q

  -- by a later time
  pub arrived_later : (t t' : Float) → TimeIn t → TimeIn t' → T (le t t') → T (le (arrived_by i t) (arrived_by i t'))
  arrived_later t t' c c' g = arrived_mono N h t t' c c' g i.runs q.count i.settled q.runs q.settled q.fit

  pub units_later : (t t' : Float) → TimeIn t → TimeIn t' → T (le t t') → pos_units binary64 (arrived_by i t) ≤ pos_units binary64 (arrived_by i t')
  units_later t t' c c' g = units_le (arrived_by i t) (arrived_by i t') (arrival_in t c) (arrival_in t' c') (arrival_fits t) (arrival_fits t') (arrived_later t t' c c' g)

-- ---- a run more
module _ (N : ℕ) (h : N < 2 ^ 53) (t : Float) (c : TimeIn t) (r : Run) (k : ℕ) (q : RunIs r k) where
  total_by : (x : Run) (xs ys : List Run) (s : Float) (b : Bool) → le t x.t0 ≡ b → T (le s s) → T (le (total_of xs (s ⊕ (share x t)) t) (total_of ys (s ⊕ (share x t)) t))
      → T (le (total_of (x ∷ xs) s t) (total_of (x ∷ ys) s t))
  unfolding total_of
  total_by x xs ys s true e p k = simp e p
  total_by x xs ys s false e p k = simp e k

  total_append : (rs : List Run) (m : ℕ) (s : Float) → RunsWithin N (rs ++ (r ∷ [])) m → Sum s m → T (fits binary64 s) → T (le (total_of rs s t) (total_of (rs ++ (r ∷ [])) s t))
  unfolding total_of
  total_append [] m s l i f = total_up N h t c (r ∷ []) m s l i f
  total_append (x ∷ xs) m s (a_run j p l) i f =
      total_by x xs (xs ++ (r ∷ [])) s (le t x.t0) refl (in_self i)
      (total_append xs (m + j) (s ⊕ (share x t)) l (step_in N h t c x j m s p (within l) i) (add-fits binary64 s (share x t)))

  append_by : (x : Run) (xs : List Run) (s : Float) (b : Bool) → le x.t1 t ≡ b → T (le (arrived_of xs (s ⊕ x.bytes) t) (arrived_of (xs ++ (r ∷ [])) (s ⊕ x.bytes) t))
      → T (le (total_of (x ∷ xs) s t) (total_of (x ∷ (xs ++ (r ∷ []))) s t)) → T (le (arrived_of (x ∷ xs) s t) (arrived_of (x ∷ (xs ++ (r ∷ []))) s t))
  unfolding arrived_by settle rest_at settled_at
  append_by x xs s true e u v = simp e u
  append_by x xs s false e u v = simp e v

  arrived_append : (rs : List Run) (m : ℕ) (s : Float) → RunsWithin N (rs ++ (r ∷ [])) m → Is s m → T (fits binary64 s) → T (le (arrived_of rs s t) (arrived_of (rs ++ (r ∷ [])) s t))
  unfolding arrived_by settle rest_at settled_at total_of
  arrived_append [] m s l i f = arrived_up N h t t c c (fl-refl t (in_finite c)) (r ∷ []) m s l i f
  arrived_append (x ∷ xs) m s (a_run j p l) i f =
      append_by x xs s (le x.t1 t) refl
      (arrived_append xs (m + j) (s ⊕ x.bytes) l (whole_add s x.bytes m j (le_trans (within l) (le_of_lt h)) i p.bytes) (add-fits binary64 s x.bytes))
      (total_append (x ∷ xs) m s (a_run j p l) (whole_in s m i) f)

  pub units_append_run : (n : ℕ) (i : Inflow) → n + k ≡ N → InflowIn n i.runs i.settled
      → pos_units binary64 (arrived_by i t) ≤ pos_units binary64 (arrived_by (record { runs = i.runs ++ (r ∷ []); settled = i.settled }) t)
  units_append_run n i e s =
      let l : RunsWithin N (i.runs ++ (r ∷ [])) s.count = subst (λ (y : ℕ). RunsWithin y (i.runs ++ (r ∷ [])) s.count) e (runs_append k i.runs s.runs q) in
      let a : InflowIn N (i.runs ++ (r ∷ [])) i.settled = record { count = s.count; settled = s.settled; fit = s.fit; runs = l } in
      let b = inflow_mono (subst (λ (y : ℕ). n ≤ y) e (le-add_right n k)) s in
      units_le _ _ (arrival_in N h i b t c) (arrival_in N h (record { runs = i.runs ++ (r ∷ []); settled = i.settled }) a t c) (arrival_fits N h i b t)
      (arrival_fits N h (record { runs = i.runs ++ (r ∷ []); settled = i.settled }) a t)
      (arrived_append i.runs s.count i.settled l s.settled s.fit)
