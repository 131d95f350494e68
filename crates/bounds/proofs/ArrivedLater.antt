-- What has arrived by a later time is no less. Assumes nothing.
use mathlib.Core.Bool.{Bool, cond, false, not, true, true≢false}
use mathlib.Core.List.{List, [], ◌∷◌}
use mathlib.Core.Path.{◌∙◌, ◌≡◌, refl, sym}
use Prim.Native.Nat.{◌*◌, ◌+◌, ◌<◌, ◌^◌, ◌≤◌, ℕ}
use native.Mathlib.Nat.{le_of_lt, le_trans, lt_of_le_of_lt, mul-pos}
use native.Mathlib.Omega.{arith}
use lib.Dec.{T, lit<}
use lib.Ieee.{Float, add, binary64, div, eq, fits, le, lt, neg, of_bits, sub}
use lib.Ieee.Fits.{add-fits}
use lib.Ieee.Positive.{den, den_pos}
use lib.Ieee.Scale.{finite}
use lib.IntN.{pos}
use Rattle.ieee.specs.Binary64.{0f, 1f, ◌⊕◌, ◌⊖◌, ◌⊗◌, ◌⊘◌}
use Rattle.ieee.specs.Interval.{In, minus, plain, zero_float}
use Rattle.ieee.specs.Value.{pos_part}
use Rattle.ieee.specs.Whole.{Is}
use Rattle.ieee.proofs.Growth.{add_at}
use Rattle.ieee.proofs.Interval.{div_in, in_finite, in_self, sub_in}
use Rattle.ieee.proofs.Monotone.{add_mono, div_l, mul_r, sub_mono}
use Rattle.ieee.proofs.Operations.{div_rounds, mul_rounds, pos_part_pos}
use Rattle.ieee.proofs.Order.{falsity, le_refl as fl-refl, le_trans as fl-trans, lt_of_le_of_lt as fl-lt, lt_of_lt_of_le, to_t, truth}
use Rattle.ieee.proofs.Rounding.{rounds_mono}
use Rattle.ieee.proofs.Sign.{add_ge}
use Rattle.ieee.proofs.Whole.{is_finite, is_in, le_is, plain_is}
use Rattle.fifo.specs.Bounds.{shortest_span}
use Rattle.branch.specs.CumulativeIn.{arrived_by, clamp, fraction, rest_at, settle, settled_at, total_of}
use Rattle.branch.specs.declared.Run.{Run}
use Rattle.bounds.specs.Runs.{RunIs, RunsWithin, TimeIn, a_run}
use Rattle.bounds.proofs.Arrived.{arrived_in, arrived_of, clamped, share, share_in, totals, whole_add, whole_in, within}

clamp_by : (x y : Float) → T (finite x) → T (finite y) → T (le x y) → (a b c d : Bool) → lt x 0f ≡ a → lt 1f x ≡ b → lt y 0f ≡ c → lt 1f y ≡ d
    → In zero_float (cond a 0f (cond b 1f x)) (plain 1) → In zero_float (cond c 0f (cond d 1f y)) (plain 1) → T (le (cond a 0f (cond b 1f x)) (cond c 0f (cond d 1f y)))
unfolding of_bits le lt eq
clamp_by x y p q h true b c d e1 e2 e3 e4 i j = j.low
clamp_by x y p q h false b true d e1 e2 e3 e4 i j = absurd (true≢false (sym (truth (lt x 0f) (fl-lt x y 0f p q tt h (to_t e3))) ∙ e1))
clamp_by x y p q h false b false true e1 e2 e3 e4 i j = i.high
clamp_by x y p q h false true false false e1 e2 e3 e4 i j = absurd (true≢false (sym (truth (lt 1f y) (lt_of_lt_of_le 1f x y tt p q (to_t e2) h)) ∙ e4))
clamp_by x y p q h false false false false e1 e2 e3 e4 i j = h

clamp_mono : (x y : Float) → T (finite x) → T (finite y) → T (le x y) → T (le (clamp x) (clamp y))
unfolding clamp
clamp_mono x y p q h = clamp_by x y p q h (lt x 0f) (lt 1f x) (lt y 0f) (lt 1f y) refl refl refl refl (clamped x (fl-refl x p)) (clamped y (fl-refl y q))

gap_open : (r : Run) (k : ℕ) → RunIs r k → le (r.t1 ⊖ r.t0) 0f ≡ false
unfolding of_bits le lt eq
gap_open r k q =
    falsity (le (r.t1 ⊖ r.t0) 0f)
    (no (le (r.t1 ⊖ r.t0) 0f) (λ (h : T (le (r.t1 ⊖ r.t0) 0f)). absurd (fl-trans (shortest_span) (r.t1 ⊖ r.t0) 0f tt (in_finite q.span) tt q.span.low h)))
  where
    no : (c : Bool) → (T c → ⊥) → T (not c)
    no true k = absurd (k tt)
    no false k = tt

ratio_in : (r : Run) (k : ℕ) (t : Float) → RunIs r k → TimeIn t → In (minus (2 ^ 60)) ((t ⊖ r.t0) ⊘ (r.t1 ⊖ r.t0)) (plain (2 ^ 60))
unfolding sub add neg div le lt eq
ratio_in r k t q i = div_in binary64 (minus (2 ^ 60)) (plain (2 ^ 60)) (sub_in binary64 (minus (2 ^ 19)) (plain (2 ^ 19)) i q.start tt) q.span tt

share_mono : (r : Run) (k : ℕ) (t t' : Float) → RunIs r k → TimeIn t → TimeIn t' → T (le t t') → T (le (share r t) (share r t'))
unfolding fraction sub add neg le lt eq
share_mono r k t t' q i i' h =
    let g = r.t1 ⊖ r.t0 in
    let n = sub_in binary64 (minus (2 ^ 19)) (plain (2 ^ 19)) i q.start tt in
    let n' = sub_in binary64 (minus (2 ^ 19)) (plain (2 ^ 19)) i' q.start tt in
    let s = sub_mono binary64 t t' r.t0 r.t0 (in_finite i) (in_finite i') (in_finite q.start) (in_finite q.start) h (fl-refl r.t0 (in_finite q.start)) in
    let c = pos_part_pos g (in_finite q.span) (lt_of_lt_of_le zero_float (shortest_span) g tt tt (in_finite q.span) tt q.span.low) in
    let x = (t ⊖ r.t0) ⊘ g in
    let x' = (t' ⊖ r.t0) ⊘ g in
    let d = rounds_mono binary64 x x' _ _ (pos_part g * den (t ⊖ r.t0)) _ _ (pos_part g * den (t' ⊖ r.t0)) (mul-pos c (den_pos (t ⊖ r.t0))) (mul-pos c (den_pos (t' ⊖ r.t0)))
    (div_rounds binary64 (t ⊖ r.t0) g (in_finite n) (in_finite q.span) c) (div_rounds binary64 (t' ⊖ r.t0) g (in_finite n') (in_finite q.span) c)
    (div_l (t ⊖ r.t0) (t' ⊖ r.t0) g (in_finite n) (in_finite n') s) in
    let m = clamp_mono x x' (in_finite (ratio_in r k t q i)) (in_finite (ratio_in r k t' q i')) d in
    let b = is_in r.bytes k 0 k q.bytes (omega arith) (omega arith) in
    let u = clamped x (in_self (ratio_in r k t q i)) in
    let u' = clamped x' (in_self (ratio_in r k t' q i')) in
    simp (gap_open r k q)
    (rounds_mono binary64 (r.bytes ⊗ (clamp x)) (r.bytes ⊗ (clamp x')) _ _ (den r.bytes * den (clamp x)) _ _ (den r.bytes * den (clamp x')) (mul-pos (den_pos r.bytes) (den_pos (clamp x))) (mul-pos (den_pos r.bytes) (den_pos (clamp x')))
    (mul_rounds binary64 r.bytes (clamp x) (in_finite b) (in_finite u)) (mul_rounds binary64 r.bytes (clamp x') (in_finite b) (in_finite u'))
    (mul_r r.bytes (clamp x) (clamp x') (in_finite b) (in_finite u) (in_finite u') b.low m))

-- ---- the total grows with the runs, the time and the sum before
abbrev pub Sum : Float → ℕ → Type 0
Sum x m = In (minus 0) x (plain m)

module _ (N : ℕ) (h : N < 2 ^ 53) (t : Float) (c : TimeIn t) where
  pub step_in : (r : Run) (k m : ℕ) (x : Float) → RunIs r k → m + k ≤ N → Sum x m → Sum (x ⊕ (share r t)) (m + k)
  step_in r k m x q l i = add_at binary64 (pos 0) tt i (share_in r k t q (omega arith) c) (lit< tt) (lt_of_le_of_lt l h)

  up : (r : Run) (k m : ℕ) (x : Float) → RunIs r k → m + k ≤ N → Sum x m → T (fits binary64 x) → T (le x (x ⊕ (share r t)))
  unfolding le lt eq
  up r k m x q l i f =
      let s = share_in r k t q (omega arith) c in add_ge binary64 x (share r t) (in_finite i) (in_finite s) f (fl-trans zero_float (minus 0) (share r t) tt tt (in_finite s) tt s.low)

  total_by : (r : Run) (rs : List Run) (x : Float) (b : Bool) → le t r.t0 ≡ b → T (le x x) → T (le x (total_of rs (x ⊕ (share r t)) t)) → T (le x (total_of (r ∷ rs) x t))
  unfolding total_of
  total_by r rs x true e p q = simp e p
  total_by r rs x false e p q = simp e q

  total_in : (rs : List Run) (m : ℕ) (x : Float) → RunsWithin N rs m → Sum x m → In (minus 0) (total_of rs x t) (plain N)
  total_in rs m x l i = totals N t rs x m h l c i

  pub total_up : (rs : List Run) (m : ℕ) (x : Float) → RunsWithin N rs m → Sum x m → T (fits binary64 x) → T (le x (total_of rs x t))
  unfolding total_of
  total_up [] m x l i f = fl-refl x (in_finite i)
  total_up (r ∷ rs) m x (a_run k q l) i f =
      let s = step_in r k m x q (within l) i in
      total_by r rs x (le t r.t0) refl (fl-refl x (in_finite i))
      (fl-trans x (x ⊕ (share r t)) (total_of rs (x ⊕ (share r t)) t) (in_finite i) (in_finite s) (in_finite (total_in rs (m + k) _ l s)) (up r k m x q (within l) i f) (total_up rs (m + k) (x ⊕ (share r t)) l s (add-fits binary64 x (share r t))))

-- ---- over two times
module _ (N : ℕ) (h : N < 2 ^ 53) (t t' : Float) (c : TimeIn t) (c' : TimeIn t') (g : T (le t t')) where
  mono_by : (r : Run) (rs : List Run) (x x' : Float) (b b' : Bool) → T (finite r.t0) → le t r.t0 ≡ b → le t' r.t0 ≡ b' → T (le x (total_of (r ∷ rs) x' t'))
      → T (le (total_of rs (x ⊕ (share r t)) t) (total_of rs (x' ⊕ (share r t')) t')) → T (le (total_of (r ∷ rs) x t) (total_of (r ∷ rs) x' t'))
  unfolding total_of
  mono_by r rs x x' true b' p e e' u v = simp e u
  mono_by r rs x x' false true p e e' u v = absurd (true≢false (sym (truth (le t r.t0) (fl-trans t t' r.t0 (in_finite c) (in_finite c') p g (to_t e'))) ∙ e))
  mono_by r rs x x' false false p e e' u v = simp (e, e') v

  total_mono : (rs : List Run) (m : ℕ) (x x' : Float) → RunsWithin N rs m → Sum x m → Sum x' m → T (fits binary64 x') → T (le x x') → T (le (total_of rs x t) (total_of rs x' t'))
  unfolding total_of
  total_mono [] m x x' l i i' f k = k
  total_mono (r ∷ rs) m x x' (a_run k q l) i i' f w =
      let s = share_in r k t q (low_of m k N h (within l)) c in
      let s' = share_in r k t' q (low_of m k N h (within l)) c' in
      mono_by r rs x x' (le t r.t0) (le t' r.t0) (in_finite q.start) refl refl
      (fl-trans x x' (total_of (r ∷ rs) x' t') (in_finite i) (in_finite i') (in_finite (total_in N h t' c' (r ∷ rs) m x' (a_run k q l) i')) w (total_up N h t' c' (r ∷ rs) m x' (a_run k q l) i' f))
      (total_mono rs (m + k) (x ⊕ (share r t)) (x' ⊕ (share r t')) l (step_in N h t c r k m x q (within l) i) (step_in N h t' c' r k m x' q (within l) i') (add-fits binary64 x' (share r t'))
      (add_mono binary64 x x' (share r t) (share r t') (in_finite i) (in_finite i') (in_finite s) (in_finite s') w (share_mono r k t t' q c c' g)))
    where
      low_of : (m k N : ℕ) → N < 2 ^ 53 → m + k ≤ N → k < 2 ^ 53
      low_of m k N h l = omega arith

  -- ---- what has arrived
  arrived_settles : (r : Run) (rs : List Run) (x y : Float) → le r.t1 y ≡ true → arrived_of (r ∷ rs) x y ≡ arrived_of rs (x ⊕ r.bytes) y
  unfolding arrived_by settle rest_at settled_at
  arrived_settles r rs x y e = simp e

  arrived_runs : (r : Run) (rs : List Run) (x y : Float) → le r.t1 y ≡ false → arrived_of (r ∷ rs) x y ≡ total_of (r ∷ rs) x y
  unfolding arrived_by settle rest_at settled_at
  arrived_runs r rs x y e = simp e

  arrives : (rs : List Run) (m : ℕ) (x : Float) → RunsWithin N rs m → Is x m → T (fits binary64 x) → In (minus 0) (arrived_of rs x t') (plain N)
  arrives rs m x l i f = arrived_in N t' rs x h (record { count = m; settled = i; fit = f; runs = l }) c'

  all_bytes : (r : Run) (k m : ℕ) (x' : Float) → RunIs r k → m + k ≤ N → Is x' m → Is (x' ⊕ r.bytes) (m + k)
  all_bytes r k m x' q l i = whole_add x' r.bytes m k (le_trans l (le_of_lt h)) i q.bytes

  add_up : (r : Run) (k m : ℕ) (x' : Float) → RunIs r k → m + k ≤ N → Is x' m → T (fits binary64 x') → T (le x' (x' ⊕ r.bytes))
  add_up r k m x' q l i f = le_is x' (x' ⊕ r.bytes) m (m + k) i (all_bytes r k m x' q l i) (omega arith)

  up_by : (r : Run) (rs : List Run) (x' : Float) (b : Bool) → le r.t1 t' ≡ b → T (le x' (arrived_of rs (x' ⊕ r.bytes) t')) → T (le x' (total_of (r ∷ rs) x' t'))
      → T (le x' (arrived_of (r ∷ rs) x' t'))
  up_by r rs x' true e u v = rw (arrived_settles r rs x' t' e) u
  up_by r rs x' false e u v = rw (arrived_runs r rs x' t' e) v

  pub arrived_up : (rs : List Run) (m : ℕ) (x' : Float) → RunsWithin N rs m → Is x' m → T (fits binary64 x') → T (le x' (arrived_of rs x' t'))
  unfolding arrived_by settle rest_at settled_at total_of
  arrived_up [] m x' l i f = fl-refl x' (is_finite x' m i)
  arrived_up (r ∷ rs) m x' (a_run k q l) i f =
      let s = all_bytes r k m x' q (within l) i in
      let y = x' ⊕ r.bytes in
      up_by r rs x' (le r.t1 t') refl
      (fl-trans x' y (arrived_of rs y t') (is_finite x' m i) (is_finite y (m + k) s) (in_finite (arrives rs (m + k) y l s (add-fits binary64 x' r.bytes))) (add_up r k m x' q (within l) i f) (arrived_up rs (m + k) y l s (add-fits binary64 x' r.bytes)))
      (total_up N h t' c' (r ∷ rs) m x' (a_run k q l) (whole_in x' m i) f)

  share_bytes : (r : Run) (k : ℕ) → RunIs r k → k < 2 ^ 53 → T (le (share r t) r.bytes)
  share_bytes r k q small =
      let s = share_in r k t q small c in
      fl-trans (share r t) (plain k) r.bytes (in_finite s) tt (is_finite r.bytes k q.bytes) s.high (le_is (plain k) r.bytes k k (plain_is k) q.bytes (omega arith))

  total_none : (r : Run) (rs : List Run) (x : Float) → le t r.t0 ≡ true → total_of (r ∷ rs) x t ≡ x
  unfolding total_of
  total_none r rs x e = simp e

  total_some : (r : Run) (rs : List Run) (x : Float) → le t r.t0 ≡ false → total_of (r ∷ rs) x t ≡ total_of rs (x ⊕ (share r t)) t
  unfolding total_of
  total_some r rs x e = simp e

  into_by : (r : Run) (rs : List Run) (x x' : Float) (b d : Bool) → le t r.t0 ≡ b → le r.t1 t' ≡ d → T (le x (arrived_of (r ∷ rs) x' t'))
      → T (le (total_of (r ∷ rs) x t) (total_of (r ∷ rs) x' t'))
      → T (le (total_of rs (x ⊕ (share r t)) t) (arrived_of rs (x' ⊕ r.bytes) t')) → T (le (total_of (r ∷ rs) x t) (arrived_of (r ∷ rs) x' t'))
  into_by r rs x x' b false e e' u v w = rw (arrived_runs r rs x' t' e') v
  into_by r rs x x' true true e e' u v w = rw (total_none r rs x e) u
  into_by r rs x x' false true e e' u v w = rw (total_some r rs x e, arrived_settles r rs x' t' e') w

  -- a sum x with shares at t, against a whole sum x' with what has arrived by t'
  total_arrived : (rs : List Run) (m : ℕ) (x x' : Float) → RunsWithin N rs m → Sum x m → Is x' m → T (fits binary64 x') → T (le x x') → T (le (total_of rs x t) (arrived_of rs x' t'))
  unfolding arrived_by settle rest_at settled_at total_of
  total_arrived [] m x x' l i i' f w = w
  total_arrived (r ∷ rs) m x x' (a_run k q l) i i' f w =
      let s = share_in r k t q (low_of m k N h (within l)) c in
      let y = x' ⊕ r.bytes in
      let ys = all_bytes r k m x' q (within l) i' in
      into_by r rs x x' (le t r.t0) (le r.t1 t') refl refl
      (fl-trans x x' (arrived_of (r ∷ rs) x' t') (in_finite i) (is_finite x' m i') (in_finite (arrives (r ∷ rs) m x' (a_run k q l) i' f)) w (arrived_up (r ∷ rs) m x' (a_run k q l) i' f))
      (total_mono (r ∷ rs) m x x' (a_run k q l) i (whole_in x' m i') f w)
      (total_arrived rs (m + k) (x ⊕ (share r t)) y l (step_in N h t c r k m x q (within l) i) ys (add-fits binary64 x' r.bytes)
      (add_mono binary64 x x' (share r t) r.bytes (in_finite i) (is_finite x' m i') (in_finite s) (is_finite r.bytes k q.bytes) w (share_bytes r k q (low_of m k N h (within l)))))
    where
      low_of : (m k N : ℕ) → N < 2 ^ 53 → m + k ≤ N → k < 2 ^ 53
      low_of m k N h l = omega arith

  arrived_by_lem : (r : Run) (rs : List Run) (x : Float) (b : Bool) → T (finite r.t1) → le r.t1 t ≡ b → T (le (arrived_of rs (x ⊕ r.bytes) t) (arrived_of rs (x ⊕ r.bytes) t'))
      → T (le (total_of (r ∷ rs) x t) (arrived_of (r ∷ rs) x t'))
      → T (le (arrived_of (r ∷ rs) x t) (arrived_of (r ∷ rs) x t'))
  arrived_by_lem r rs x true p e u v = rw (arrived_settles r rs x t e, arrived_settles r rs x t' (truth (le r.t1 t') (fl-trans r.t1 t t' p (in_finite c) (in_finite c') (to_t e) g))) u
  arrived_by_lem r rs x false p e u v = rw (arrived_runs r rs x t e) v

  -- what has arrived by t is at most what has arrived by t'
  pub arrived_mono : (rs : List Run) (m : ℕ) (x : Float) → RunsWithin N rs m → Is x m → T (fits binary64 x) → T (le (arrived_of rs x t) (arrived_of rs x t'))
  unfolding arrived_by settle rest_at settled_at total_of
  arrived_mono [] m x l i f = fl-refl x (is_finite x m i)
  arrived_mono (r ∷ rs) m x (a_run k q l) i f =
      arrived_by_lem r rs x (le r.t1 t) (in_finite q.end) refl (arrived_mono rs (m + k) (x ⊕ r.bytes) l (all_bytes r k m x q (within l) i) (add-fits binary64 x r.bytes))
      (total_arrived (r ∷ rs) m x x (a_run k q l) (whole_in x m i) i f (fl-refl x (is_finite x m i)))
