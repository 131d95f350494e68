-- The access unit whose bytes still arrive, and what a packet delivers: a stamp that may open a unit, and three runs, each of which may be none.
-- Assumes nothing.
use Prim.Native.Nat.{ℕ, ◌+◌, ◌*◌, ◌^◌, ◌≤◌}
use native.Mathlib.Nat.{le_trans}
use native.Mathlib.Omega.{arith}
use mathlib.Core.Path.{◌≡◌}
use mathlib.Core.List.{List, []}
use lib.ListN.{length}
use lib.Ieee.{Float, of_bits}
use Rattle.std.specs.Prelude.{Option, Some, None}
use Rattle.ieee.specs.Binary64.{0f}
use Rattle.ieee.specs.Whole.{Is}
use Rattle.ieee.proofs.Whole.{plain_is}
use Rattle.branch.specs.declared.AccessUnit.{AccessUnit}
use Rattle.branch.specs.declared.Delivered.{Delivered}
use Rattle.branch.specs.declared.Run.{Run}
use Rattle.branch.specs.MainBranch.{grown, stamp_of}
use Rattle.events.specs.declared.Event.{Event}
use Rattle.bounds.specs.Events.{FewEvents}
use Rattle.bounds.specs.Runs.{RunIs, byte_limit}
use Rattle.bounds.specs.Units.{UnitIs}
use Rattle.bounds.proofs.Arrived.{whole_add}
use Rattle.model_bounds.specs.Chain.{OpenIn, none_open, one_open}

-- ---- what a packet delivers
-- a run of j bytes, or none
pub data RunIn : Run → ℕ → Type 0 where
  no_run : {r : Run} → r.bytes ≡ 0f → RunIn r 0
  a_run : {r : Run} {j : ℕ} → RunIs r j → RunIn r j

-- no stamp, or one that opens a unit without bytes
pub data StampIn : Option AccessUnit → Type 0 where
  no_stamp : StampIn None
  a_stamp : {u : AccessUnit} → UnitIs u 0 → StampIn (Some u)

pub record DeliveredIn (i j l : ℕ) (d : Delivered) : Type 0 where
  pub stamp : StampIn (stamp_of d)
  pub head : RunIn d.head i
  pub rest : RunIn d.rest j
  pub body : RunIn d.body l

-- ---- the open unit
pub open_more : {n k q p : ℕ} {o : Option AccessUnit} (n' k' : ℕ) → n ≤ n' → k ≤ k' → OpenIn n k q p o → OpenIn n' k' q p o
open_more n' k' h g (none_open a b) = none_open (le_trans a h) (le_trans b g)
open_more n' k' h g (one_open j u a b) = one_open j u (le_trans a h) (le_trans b g)

pub zero_is : Is 0f 0
unfolding of_bits
zero_is = plain_is 0

-- j more bytes, of which i are the open unit's
pub open_grows : {n k q p : ℕ} {o : Option AccessUnit} (x : Float) (i j : ℕ) → Is x i → i ≤ j → n + j ≤ byte_limit → OpenIn n k q p o → OpenIn (n + j) k q p (grown x o)
unfolding grown
open_grows {n} {k} {q} {p} x i j e h few (none_open a b) = none_open (more q n j a) b
  where
    more : (q n j : ℕ) → q ≤ n → q ≤ n + j
    more q n j h = omega arith
open_grows {n} {k} {q} {p} x i j e h few (one_open {u = u} l w a b) =
    one_open (l + i)
    (record { bytes = whole_add u.bytes x l i (small q l n i j a h few) w.bytes e; decode = w.decode; decode_fits = w.decode_fits; first_input = w.first_input })
    (more q l n i j a h) b
  where
    small : (q l n i j : ℕ) → q + l ≤ n → i ≤ j → n + j ≤ byte_limit → l + i ≤ 2 ^ 53
    small q l n i j a h few = omega arith

    more : (q l n i j : ℕ) → q + l ≤ n → i ≤ j → q + (l + i) ≤ n + j
    more q l n i j a h = omega arith

pub closed_few : {n k q p : ℕ} {o : Option AccessUnit} → OpenIn n k q p o → p ≤ k
closed_few (none_open a b) = b
closed_few {n} {k} {q} {p} (one_open j u a b) = less p k b
  where
    less : (p k : ℕ) → p + 1 ≤ k → p ≤ k
    less p k h = omega arith

-- ---- how many events
pub few_more : {a u v : ℕ} {es : List Event} (b : ℕ) → a ≤ b → FewEvents a u es v → FewEvents b u es v
few_more {a} {u} {v} {es} b h f = record { few = more (length es) u v a b f.few h }
  where
    more : (l u v a b : ℕ) → l + 3 * u ≤ 3 * v + a → a ≤ b → l + 3 * u ≤ 3 * v + b
    more l u v a b f h = omega arith

pub no_events_few : (a u : ℕ) → FewEvents a u [] u
no_events_few a u = record { few = more u a }
  where
    more : (u a : ℕ) → 0 + 3 * u ≤ 3 * u + a
    more u a = omega arith
