-- The units of a branch as lists: a close or a stamp adds one at most, and a close behind a close changes nothing.
use Prim.Native.Nat.{ℕ, ◌+◌, ◌≤◌}
use mathlib.Core.Path.{◌≡◌, refl, sym, ◌∙◌}
use mathlib.Core.Bool.{Bool, true, false, cond, true≢false}
use native.Mathlib.Omega.{arith}
use lib.ListN.{length, length-append}
use lib.Dec.{eqb}
use Rattle.std.specs.Prelude.{Option, Some, None}
use Rattle.branch.specs.declared.AccessUnit.{AccessUnit}
use Rattle.branch.specs.Units.{Waiting, Queued, close_by, close_units, opened, open_units}

abbrev pub units_in : Waiting → ℕ
units_in x = x.units + length x.pending

close_by_lem : (depth : ℕ) (x : Waiting) (o : Option AccessUnit) (b : Bool) → eqb (length x.pending) depth ≡ b → units_in (close_by depth x o).units ≤ units_in x + 1
unfolding close_by
close_by_lem depth x None b e = omega arith
close_by_lem depth x (Some u) true e = simp e (omega arith)
close_by_lem depth x (Some u) false e = simp (e, length-append) (omega arith)

pub close_counts : (depth : ℕ) (x : Waiting) → units_in (close_units depth x).units ≤ units_in x + 1
unfolding close_units
close_counts depth x = close_by_lem depth x x.open_au _ refl

opened_lem : (u : AccessUnit) (q : Queued) (b : Bool) → q.full ≡ b → units_in (opened u q).units ≡ units_in q.units
opened_lem u q true e = simp e
opened_lem u q false e = simp e

pub open_counts : (depth : ℕ) (o : Option AccessUnit) (x : Waiting) → units_in (open_units depth o x).units ≤ units_in x + 1
unfolding open_units
open_counts depth None x = omega arith
open_counts depth (Some u) x = rw (opened_lem u (close_units depth x) _ refl) (close_counts depth x)

-- behind a close nothing is open
twice_by : (depth : ℕ) (x : Waiting) (o : Option AccessUnit) (b : Bool) → x.open_au ≡ o → eqb (length x.pending) depth ≡ b → (close_by depth x o).full ≡ false → close_units depth (close_by depth x o).units ≡ close_by depth x o
unfolding close_units close_by
twice_by depth x None b o e f = simp o
twice_by depth x (Some u) true o e f = absurd (true≢false (sym (simp e) ∙ f))
twice_by depth x (Some u) false o e f = simp e

pub close_twice : (depth : ℕ) (x : Waiting) → (close_units depth x).full ≡ false → close_units depth (close_units depth x).units ≡ close_units depth x
unfolding close_units
close_twice depth x f = twice_by depth x x.open_au _ refl refl f

-- ---- what is fed to a branch: a refusal ends it

pub either : {A : Type 0} (P : A → Type 0) (c : Bool) (x y : A) → P x → P y → P (cond c x y)
either P true x y h k = h
either P false x y h k = k

-- over the states of either branch, with a count of their units
module _ {S F : Type 0} (units : S → ℕ) (state : F → S) (full : F → Bool) where
  abbrev next : F → (S → F) → F
  next f g = cond (full f) f (g (state f))

  abbrev pub AtMost : ℕ → F → Type 0
  AtMost n f = units (state f) ≤ n

  -- what adds none
  abbrev pub AddsNone : ℕ → (S → F) → Type 0
  AddsNone n g = (s : S) → units s ≤ n → AtMost n (g s)

  then_counts : (n : ℕ) (f : F) (g : S → F) → AtMost n f → AddsNone n g → AtMost n (next f g)
  then_counts n f g h k = either (AtMost n) (full f) f (g (state f)) h (k (state f) h)

  -- a stamp, and three runs
  pub deliver_counts : (n : ℕ) (o : F) (g h i : S → F) → AtMost n o → AddsNone n g → AddsNone n h → AddsNone n i → AtMost n (next o (λ s. next (g s) (λ t. next (h t) i)))
  deliver_counts n o g h i a b c d =
      then_counts n o (λ s. next (g s) (λ t. next (h t) i)) a (λ s x. then_counts n (g s) (λ t. next (h t) i) (b s x) (λ t y. then_counts n (h t) i (c t y) d))
