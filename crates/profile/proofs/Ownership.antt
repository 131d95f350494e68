-- Whose packets a PID carries, by cases and back: a stream's exactly if the PID is one of the streams' PIDs.
-- Assumes nothing.
use Prim.Native.Nat.{ℕ, ◌<◌}
use mathlib.Core.Path.{◌≡◌, refl, sym, ap, ◌∙◌, subst}
use mathlib.Core.Bool.{Bool, true, false, cond}
use mathlib.Core.List.{List}
use borrow.Author.Tests.{ltb-true}
use lib.ListN.{length, get_or, length-map, length-take, get_or-map}
use lib.Seq.{get_or-take}
use native.Mathlib.Nat.{min-le_left}
use native.Mathlib.Omega.{arith}
use Rattle.profile.specs.declared.config.TStdConfig.{TStdConfig}
use Rattle.profile.specs.declared.owner.Owner.{Owner}
use Rattle.profile.specs.declared.owner.Owner.TheVariants.{Stream, System, Nobody}
use Rattle.profile.specs.Owner.{contains, first_index, owner_in, owner_of, owner_by, pids_of}
use Rattle.profile.specs.Config.{unused_stream, streams_of, pid_of, stream_pids, system_pids}
use Rattle.profile.proofs.Copies.{take_map}
use Rattle.profile.proofs.Search.{contains_index, index_at, index_before}

abbrev pub is_stream : Owner → Bool
is_stream (Stream i) = true
is_stream System = false
is_stream Nobody = false

-- slot i is the first of the PID
pub record FirstOf (l : List ℕ) (pid i : ℕ) : Type 0 where
  pub inside : i < length l
  pub at : get_or l i 0 ≡ pid
  pub first : (j : ℕ) → j < i → get_or l j 0 ≡ pid → ⊥

pub first_of : (l : List ℕ) (pid : ℕ) → contains l pid ≡ true → FirstOf l pid (first_index l pid)
first_of l pid e =
    let h = ltb-true (first_index l pid) (length l) (sym (contains_index l pid) ∙ e) in
    record { inside = h; at = index_at pid l h; first = index_before pid l }

module _ (streams system : List ℕ) (pid : ℕ) where
  pub owner_stream : contains streams pid ≡ true → owner_in streams system pid ≡ Stream (first_index streams pid)
  unfolding owner_in
  owner_stream e = rw e

  pub owner_system : contains streams pid ≡ false → contains system pid ≡ true → owner_in streams system pid ≡ System
  unfolding owner_in
  owner_system e f = rw (e, f)

  pub owner_nobody : contains streams pid ≡ false → contains system pid ≡ false → owner_in streams system pid ≡ Nobody
  unfolding owner_in
  owner_nobody e f = rw (e, f)

  by_tests : (a b : Bool) (i : ℕ) → is_stream (cond a (Stream i) (cond b System Nobody)) ≡ a
  by_tests true b i = refl
  by_tests false true i = refl
  by_tests false false i = refl

  pub is_stream_lem : is_stream (owner_in streams system pid) ≡ contains streams pid
  unfolding owner_in
  is_stream_lem = by_tests (contains streams pid) (contains system pid) (first_index streams pid)

  pub stream_first : (i : ℕ) → owner_in streams system pid ≡ Stream i → FirstOf streams pid i
  stream_first i e =
      let member : contains streams pid ≡ true = sym is_stream_lem ∙ ap is_stream e in
      let found : Stream (first_index streams pid) ≡ Stream i = sym (owner_stream member) ∙ e in
      let same : first_index streams pid ≡ i = cc in
      subst (FirstOf streams pid) same (first_of streams pid member)

-- the PIDs alone tell the owner
pub pids_owner : (c : TStdConfig) (pid : ℕ) → owner_by (pids_of c) pid ≡ owner_of c pid
unfolding pids_of
pids_owner c pid = rw (take_map pid_of c.stream_count c.streams)

-- the slot of a stream that owns a PID
pub record OwnerSlot (c : TStdConfig) (pid i : ℕ) : Type 0 where
  pub in_use : i < length (streams_of c)
  pub counted : i < c.stream_count
  pub pid_there : (get_or c.streams i unused_stream).pid ≡ pid

pub owner_slot : (c : TStdConfig) (pid i : ℕ) → owner_of c pid ≡ Stream i → OwnerSlot c pid i
owner_slot c pid i e =
    let f = stream_first (stream_pids c) (system_pids c) pid i e in
    let inside : i < length (streams_of c) = rw (length-map (streams_of c) pid_of) at f.inside in
    let counted : i < c.stream_count = omega (arith, inside, length-take c.stream_count c.streams, min-le_left c.stream_count (length c.streams)) in
    let there = sym (get_or-map pid_of (streams_of c) i unused_stream) ∙ f.at in
    record { in_use = inside; counted = counted; pid_there = ap pid_of (sym (get_or-take c.stream_count c.streams i unused_stream counted)) ∙ there }
