-- Each refusal of the definition comes under its condition, and otherwise never; number 10 as far as a push met a full queue.
use Prim.Native.Nat.{ℕ, suc, ◌*◌}
use mathlib.Core.Path.{◌≡◌, refl, sym, ap, ◌∙◌, subst}
use mathlib.Core.List.{List, [], ◌∷◌}
use lib.ListN.{length}
use Rattle.std.specs.Prelude.{Option, Some, None, Result, Ok, Err}
use Rattle.error.specs.declared.Refusal.{Refusal}
use Rattle.packet.specs.declared.TsPacketLayout.{TsPacketLayout}
use Rattle.packet.specs.Layout.{layout_of}
use Rattle.recording.specs.Read.{Streams, Fact, read_at, read_by, read_of}
use Rattle.arrival.specs.declared.RateInterval.{RateInterval}
use Rattle.arrival.specs.ArrivalClock.{Built, build}
use Rattle.report.specs.declared.TStdReport.{TStdReport}
use Rattle.report.specs.declared.TStdChainStats.{TStdChainStats}
use Rattle.profile.specs.Config.{streams_of}
use Rattle.profile.specs.declared.config.TStdConfig.{TStdConfig}
use Rattle.profile.specs.declared.limits.Limits.{Limits}
use Rattle.profile.specs.declared.work.WorkSize.{WorkSize}
use Rattle.profile.specs.Work.{check_of}
use Rattle.model.specs.Replay.{Outcome, accepted, refused_with, State, Ran, running, full, or_full, ends_from, fact_step, replay_from, replay, with_check, with_layout, with_clock, samples_read, streams_read}

pub read_size : (s : Streams) (l : List ℕ) (d : Option TsPacketLayout) → (read_by d s l).size ≡ length l
unfolding read_by read_at
read_size s l (Some y) = refl
read_size s l None = refl

-- numbers 1 to 3 come by the profile and the lengths, whatever the recording holds
pub early_refusal : (limits : Limits) (c : TStdConfig) (room : WorkSize) (l : List ℕ) (x : Refusal) → check_of limits c room (length l) ≡ Err x
    → replay limits c room (read_of (streams_read c) l) ≡ refused_with x
unfolding replay with_check
early_refusal limits c room l x e = rw (read_size (streams_read c) l (layout_of l), e)

-- number 4 comes where no layout is found, and 8, 5, 6, 7 and 9 where the clock's building refuses, profile, work and length being fit
module _ (limits : Limits) (c : TStdConfig) (room needed : WorkSize) (l : List ℕ) (fit : check_of limits c room (length l) ≡ Ok needed) where
  pub layout_refusal : layout_of l ≡ None → replay limits c room (read_of (streams_read c) l) ≡ refused_with Refusal.NoPacketLayout
  unfolding replay with_check with_layout read_by
  layout_refusal e = rw (e, fit)

  pub clock_refusal : (y : TsPacketLayout) (x : Refusal) → layout_of l ≡ Some y
      → build c.clock_depth (samples_read c (read_at y (streams_read c) l)) ≡ Err x
      → replay limits c room (read_of (streams_read c) l) ≡ refused_with x
  unfolding replay with_check with_layout with_clock read_by read_at
  clock_refusal y x e b = rw (e, fit, b)

-- ---- and otherwise never: each refusal has its cause
-- a full queue
pub data QueueRefusal : Refusal → Type 0 where
  full_queue : (packet pid : ℕ) → QueueRefusal (Refusal.QueueFull packet pid)

pub data Cause (limits : Limits) (c : TStdConfig) (room : WorkSize) (l : List ℕ) (x : Refusal) : Type 0 where
  by_check : check_of limits c room (length l) ≡ Err x → Cause limits c room l x
  by_layout : layout_of l ≡ None → x ≡ Refusal.NoPacketLayout → Cause limits c room l x
  by_clock : (y : TsPacketLayout) → layout_of l ≡ Some y
      → build c.clock_depth (samples_read c (read_at y (streams_read c) l)) ≡ Err x → Cause limits c room l x
  by_queue : QueueRefusal x → Cause limits c room l x

same_refusal : {x y : Refusal} → refused_with x ≡ refused_with y → x ≡ y
same_refusal e = cc

never_accepted : (r : TStdReport) (fs : List TStdChainStats) (x : Refusal) → accepted r fs ≡ refused_with x → ⊥
never_accepted r fs x e = cc

or_full_lem : (k : ℕ) (r : Ran) (next : State → Outcome) (x : Refusal) → ((s : State) → next s ≡ refused_with x → QueueRefusal x)
    → or_full k r next ≡ refused_with x → QueueRefusal x
or_full_lem k (running s) next x h e = h s e
or_full_lem k (full pid) next x h e = subst QueueRefusal (same_refusal e) (full_queue k pid)

queue_only : (c : TStdConfig) (clock : List RateInterval) (n k : ℕ) (fs : List Fact) (s : State) (x : Refusal)
    → replay_from c clock n k fs s ≡ refused_with x → QueueRefusal x
unfolding replay_from
queue_only c clock n k [] s x e = or_full_lem k (ends_from c 0 (streams_of c) s) _ x (λ s' d. absurd (never_accepted _ _ x d)) e
queue_only c clock n k (f ∷ fs) s x e = or_full_lem k (fact_step c clock (188 * k) f s) _ x (λ s' d. queue_only c clock n (suc k) fs s' x d) e

module _ (limits : Limits) (c : TStdConfig) (room : WorkSize) (l : List ℕ) (x : Refusal) where
  cause_clock : (y : TsPacketLayout) → layout_of l ≡ Some y → (b : Built) → build c.clock_depth (samples_read c (read_at y (streams_read c) l)) ≡ b
      → with_clock c (read_at y (streams_read c) l) b ≡ refused_with x → Cause limits c room l x
  unfolding with_clock
  cause_clock y d (Err z) e h = by_clock y d (e ∙ ap Err (same_refusal h))
  cause_clock y d (Ok clock) e h = by_queue (queue_only c clock _ 0 _ _ x h)

  cause_layout : (d : Option TsPacketLayout) → layout_of l ≡ d → with_layout c (read_by d (streams_read c) l) (read_by d (streams_read c) l).layout ≡ refused_with x
      → Cause limits c room l x
  unfolding with_layout read_by read_at
  cause_layout None d h = by_layout d (sym (same_refusal h))
  cause_layout (Some y) d h = cause_clock y d (build c.clock_depth (samples_read c (read_at y (streams_read c) l))) refl h

  cause_check : (k : Result WorkSize Refusal) → check_of limits c room (length l) ≡ k → with_check c (read_of (streams_read c) l) k ≡ refused_with x → Cause limits c room l x
  unfolding with_check
  cause_check (Err z) e h = by_check (e ∙ ap Err (same_refusal h))
  cause_check (Ok needed) e h = cause_layout (layout_of l) refl h

  pub refusals : replay limits c room (read_of (streams_read c) l) ≡ refused_with x → Cause limits c room l x
  unfolding replay
  refusals h =
      cause_check (check_of limits c room (length l)) refl
      (ap (λ (n : ℕ). with_check c (read_of (streams_read c) l) (check_of limits c room n)) (sym (read_size (streams_read c) l (layout_of l))) ∙ h)
