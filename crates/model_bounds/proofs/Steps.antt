-- What a packet's step does to a branch of either kind: its access units are closed and opened, and what the packet delivers comes in turn.
-- Assumes nothing.
use Prim.Native.Nat.{ℕ, suc, ◌+◌, ◌≤◌}
use native.Mathlib.Nat.{le_refl, le-add_right}
use native.Mathlib.Omega.{arith}
use mathlib.Core.Path.{◌≡◌, refl, subst, sym}
use mathlib.Core.Bool.{Bool, true, false, cond}
use mathlib.Core.List.{[], ◌∷◌, ◌++◌}
use lib.Dec.{eqb}
use lib.ListN.{length}
use Rattle.std.specs.Prelude.{Option, Some, None}
use Rattle.branch.specs.declared.AccessUnit.{AccessUnit}
use Rattle.branch.specs.Units.{Waiting, refused, placed, with_open, close_by, close_units, opened, open_units}
use Rattle.bounds.specs.Runs.{byte_limit}
use Rattle.bounds.specs.Units.{UnitIs}
use Rattle.model_bounds.specs.Chain.{OpenIn, none_open, one_open}
use Rattle.model_bounds.proofs.Open.{StampIn, no_stamp, a_stamp, open_more}

-- ---- the open unit is closed, and another opened
-- In q p x: with the units x the branch, to which n bytes have come, is within its bounds, q bytes in p units being closed.
-- So it is with another open unit, and with a unit of j bytes more in the queue.
pub record TakesUnits (n : ℕ) (In : ℕ → ℕ → Waiting → Type 0) : Type 0 where
  pub any_open : {q p : ℕ} (x : Waiting) (o : Option AccessUnit) → In q p x → In q p (with_open x x.pending o)
  pub pended : {q p : ℕ} (x : Waiting) (w : AccessUnit) (j : ℕ) (o : Option AccessUnit) → UnitIs w j → q + j ≤ n → In q p x
      → In (q + j) (p + 1) (with_open x (x.pending ++ (w ∷ [])) o)

-- the units x, of which k at most have come and u are removed
pub record UnitsIn (n : ℕ) (In : ℕ → ℕ → Waiting → Type 0) (u k : ℕ) (x : Waiting) : Type 0 where
  pub closed_bytes : ℕ
  pub closed_units : ℕ
  pub bounded : In closed_bytes closed_units x
  pub open_unit : OpenIn n k closed_bytes closed_units x.open_au
  pub same : x.units ≡ u

more_units : (k : ℕ) → k ≤ suc k
more_units k = omega arith

module _ {n : ℕ} {In : ℕ → ℕ → Waiting → Type 0} (takes : TakesUnits n In) (depth : ℕ) where
  closed_by : {u k q p : ℕ} (x : Waiting) (o : Option AccessUnit) → In q p x → OpenIn n k q p o → x.open_au ≡ o → x.units ≡ u
      → UnitsIn n In u k (close_by depth x o).units
  unfolding close_by
  closed_by {u} {k} {q} {p} x None m i e s =
      record { closed_bytes = q; closed_units = p; bounded = m; open_unit = subst (OpenIn n k q p) (sym e) i; same = s }
  closed_by {u} {k} {q} {p} x (Some w) m (one_open j i few less) e s = go (eqb (length x.pending) depth)
    where
      go : (t : Bool) → UnitsIn n In u k (cond t (refused x) (placed (with_open x (x.pending ++ (w ∷ [])) None))).units
      go true =
          record { closed_bytes = q; closed_units = p; bounded = m; open_unit = subst (OpenIn n k q p) (sym e) (one_open j i few less); same = s }
      go false =
          record { closed_bytes = q + j; closed_units = p + 1; bounded = takes.pended x w j None i few m; open_unit = none_open few less; same = s }

  opened_by : {u k q p : ℕ} (x : Waiting) (o : Option AccessUnit) (z : AccessUnit) → UnitIs z 0 → In q p x → OpenIn n k q p o → x.open_au ≡ o → x.units ≡ u
      → UnitsIn n In u (suc k) (opened z (close_by depth x o)).units
  unfolding close_by
  opened_by {u} {k} {q} {p} x None z y m (none_open a less) e s =
      record { closed_bytes = q; closed_units = p; bounded = takes.any_open x (Some z) m; open_unit = one_open 0 y (zero q n a) (one p k less); same = s }
    where
      zero : (q n : ℕ) → q ≤ n → q + 0 ≤ n
      zero q n h = omega arith

      one : (p k : ℕ) → p ≤ k → p + 1 ≤ suc k
      one p k h = omega arith
  opened_by {u} {k} {q} {p} x (Some w) z y m (one_open j i few less) e s = go (eqb (length x.pending) depth)
    where
      zero : (q j n : ℕ) → q + j ≤ n → q + j + 0 ≤ n
      zero q j n h = omega arith

      one : (p k : ℕ) → p + 1 ≤ k → p + 1 + 1 ≤ suc k
      one p k h = omega arith

      go : (t : Bool) → UnitsIn n In u (suc k) (opened z (cond t (refused x) (placed (with_open x (x.pending ++ (w ∷ [])) None)))).units
      go true =
          record {
            closed_bytes = q;
            closed_units = p;
            bounded = m;
            open_unit = open_more n (suc k) (le_refl n) (more_units k) (subst (OpenIn n k q p) (sym e) (one_open j i few less));
            same = s;
          }
      go false =
          record {
            closed_bytes = q + j;
            closed_units = p + 1;
            bounded = takes.pended x w j (Some z) i few m;
            open_unit = one_open 0 y (zero q j n few) (one p k less);
            same = s;
          }

  pub units_closed : {u k : ℕ} (x : Waiting) → UnitsIn n In u k x → UnitsIn n In u k (close_units depth x).units
  unfolding close_units
  units_closed x m = closed_by x x.open_au m.bounded m.open_unit refl m.same

  pub units_opened : {u k : ℕ} (o : Option AccessUnit) (x : Waiting) → StampIn o → UnitsIn n In u k x → UnitsIn n In u (suc k) (open_units depth o x).units
  unfolding open_units close_units
  units_opened {u} {k} None x no_stamp m =
      record {
        closed_bytes = m.closed_bytes;
        closed_units = m.closed_units;
        bounded = m.bounded;
        open_unit = open_more n (suc k) (le_refl n) (more_units k) m.open_unit;
        same = m.same;
      }
  units_opened (Some z) x (a_stamp y) m = opened_by x x.open_au z y m.bounded m.open_unit refl m.same

-- ---- what a packet delivers
-- a branch or chain to which N bytes at most have come, in k units at most, and that has removed u units
pub record Kept {X : Type 0} (units : X → ℕ) (Holds : ℕ → ℕ → X → Type 0) (u N k : ℕ) (b : X) : Type 0 where
  pub holds : Holds N k b
  pub same : units b ≡ u

-- F is what a push answers: whether it was refused, and the branch; a refusal ends the step
abbrev then : {X F : Type 0} → (F → Bool) → (F → X) → F → (X → F) → F
then full branch f g = cond (full f) f (g (branch f))

module _ {X : Type 0} {units : X → ℕ} {Holds : ℕ → ℕ → X → Type 0}
    (more : (N k N' k' : ℕ) (b : X) → N ≤ N' → k ≤ k' → Holds N k b → Holds N' k' b) where
  pub kept_more : {u N k : ℕ} {b : X} (N' k' : ℕ) → N ≤ N' → k ≤ k' → Kept units Holds u N k b → Kept units Holds u N' k' b
  kept_more {u} {N} {k} {b} N' k' h g m = record { holds = more N k N' k' b h g m.holds; same = m.same }

  module _ {F : Type 0} (full : F → Bool) (branch : F → X) where
    -- a refusal leaves the branch as it is
    then_kept : {u N k : ℕ} (N' : ℕ) (f : F) (g : X → F) → N ≤ N' → Kept units Holds u N k (branch f)
        → ((b : X) → Kept units Holds u N k b → Kept units Holds u N' k (branch (g b))) → Kept units Holds u N' k (branch (then full branch f g))
    then_kept {u} {N} {k} N' f g h m next = go (full f)
      where
        go : (t : Bool) → Kept units Holds u N' k (branch (cond t f (g (branch f))))
        go true = kept_more N' k h (le_refl k) m
        go false = next (branch f) m

    -- a stamp and three runs, one after the other
    pub delivered : {u N k : ℕ} (i j l : ℕ) (f : F) (head rest body : X → F) → N + i + j + l ≤ byte_limit
        → Kept units Holds u N k (branch f)
        → ((b : X) → N + i ≤ byte_limit → Kept units Holds u N k b → Kept units Holds u (N + i) k (branch (head b)))
        → ((b : X) → N + i + j ≤ byte_limit → Kept units Holds u (N + i) k b → Kept units Holds u (N + i + j) k (branch (rest b)))
        → ((b : X) → N + i + j + l ≤ byte_limit → Kept units Holds u (N + i + j) k b → Kept units Holds u (N + i + j + l) k (branch (body b)))
        → Kept units Holds u (N + i + j + l) k (branch (then full branch f (λ m. then full branch (head m) (λ n. then full branch (rest n) body))))
    delivered {u} {N} {k} i j l f head rest body few m a b c =
        then_kept (N + i + j + l) f _ (three N i j l) m
        (λ (x : X) (o : Kept units Holds u N k x). then_kept (N + i + j + l) (head x) _ (two N i j l) (a x (first N i j l few) o)
        (λ (y : X) (p : Kept units Holds u (N + i) k y). then_kept (N + i + j + l) (rest y) body (le-add_right (N + i + j) l) (b y (second N i j l few) p)
        (λ (z : X) (q : Kept units Holds u (N + i + j) k z). c z few q)))
      where
        three : (N i j l : ℕ) → N ≤ N + i + j + l
        three N i j l = omega arith

        two : (N i j l : ℕ) → N + i ≤ N + i + j + l
        two N i j l = omega arith

        first : (N i j l : ℕ) → N + i + j + l ≤ byte_limit → N + i ≤ byte_limit
        first N i j l h = omega arith

        second : (N i j l : ℕ) → N + i + j + l ≤ byte_limit → N + i + j ≤ byte_limit
        second N i j l h = omega arith
