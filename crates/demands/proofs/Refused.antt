-- Each refusal comes exactly under its condition, number by number; and a replay is accepted exactly where it runs to its end. Assumes nothing.
use Rattle.std.specs.Prelude.{Err}
use Prim.Native.Nat.{ℕ}
use mathlib.Core.Path.{◌≡◌, refl, sym, ap, ◌∙◌, subst}
use mathlib.Core.Logic.{◌↔◌}
use mathlib.Core.Bool.{false}
use mathlib.Core.List.{List}
use lib.ListN.{length}
use Rattle.error.specs.declared.Refusal.{Refusal}
use Rattle.arrival.specs.ArrivalClock.{build}
use Rattle.report.specs.declared.TStdReport.{TStdReport}
use Rattle.report.specs.declared.TStdChainStats.{TStdChainStats}
use Rattle.profile.specs.declared.config.TStdConfig.{TStdConfig}
use Rattle.profile.specs.declared.limits.Limits.{Limits}
use Rattle.profile.specs.declared.work.WorkSize.{WorkSize}
use Rattle.profile.specs.Limits.{within_limits}
use Rattle.profile.specs.Work.{needed_of}
use Rattle.profile.proofs.Within.{limits_within}
use Rattle.profile.proofs.Sizes.{check_outside, check_short, check_long, covers_covered}
use Rattle.model.specs.Replay.{Outcome, accepted, refused_with, with_clock}
use Rattle.model.proofs.Refusals.{early_refusal, layout_refusal}
use Rattle.demands.specs.Refused.{answer, read_in, samples_in, LaidOut, reported, Completed}
use Rattle.demands.specs.Refused.{TooShort, TooLong, NoLayout, ClockFullAt, TooFew, MarkedAt, RepeatedAt, RateAt, QueueFullAt, RefusedBy}
use Rattle.demands.proofs.Clock.{build_full, build_few, build_mark, build_no_step, build_bad_rate}
use Rattle.demands.proofs.Passes.{queue_full_lem, ended}
use Rattle.demands.proofs.Ways.{Way, way, fit_check, laid_out_answer, clocked_answer}

module _ (limits : Limits) (c : TStdConfig) (room : WorkSize) (l : List ℕ) where
  abbrev W : Outcome → Type 0
  W o = Way limits c room l o

  to_way : (o : Outcome) → answer limits c room l ≡ o → W o
  to_way o e = subst W e (way limits c room l)

  -- by what the clock's building refuses
  by_clock : LaidOut limits c room l → (x : Refusal) → build c.clock_depth (samples_in c l) ≡ Err x → answer limits c room l ≡ refused_with x
  unfolding with_clock
  by_clock h x e = laid_out_answer limits c room l h ∙ ap (with_clock c (read_in c l)) e

  -- ---- number 1
  from_1 : W (refused_with Refusal.OutsideLimits) → within_limits limits c ≡ false
  from_1 (Way.outside h) = h

  pub refused_1 : (answer limits c room l ≡ refused_with Refusal.OutsideLimits) ↔ (within_limits limits c ≡ false)
  refused_1 = (λ e. from_1 (to_way _ e), λ h. early_refusal limits c room l Refusal.OutsideLimits (check_outside limits c room (length l) h))

  -- ---- number 2
  from_2 : W (refused_with Refusal.WorkTooShort) → TooShort limits c room
  from_2 (Way.work h k) = record { within = h; uncovered = k }

  pub refused_2 : (answer limits c room l ≡ refused_with Refusal.WorkTooShort) ↔ TooShort limits c room
  refused_2 = (λ e. from_2 (to_way _ e), λ h. early_refusal limits c room l Refusal.WorkTooShort (check_short limits c room (length l) h.within h.uncovered))

  -- ---- number 3
  from_3 : W (refused_with Refusal.RecordingTooLong) → TooLong limits c room l
  from_3 (Way.long h k m) = record { within = h; covered = k; long = m }

  pub refused_3 : (answer limits c room l ≡ refused_with Refusal.RecordingTooLong) ↔ TooLong limits c room l
  refused_3 = (
    λ e. from_3 (to_way _ e),
    λ h. early_refusal limits c room l Refusal.RecordingTooLong (check_long limits c room (length l) h.within (covers_covered room (needed_of c) h.covered) h.long),
  )

  -- ---- number 4
  from_4 : W (refused_with Refusal.NoPacketLayout) → NoLayout limits c room l
  from_4 (Way.no_layout h k) = record { fit = h; none = k }

  pub refused_4 : (answer limits c room l ≡ refused_with Refusal.NoPacketLayout) ↔ NoLayout limits c room l
  refused_4 = (λ e. from_4 (to_way _ e), λ h. layout_refusal limits c room (needed_of c) l (fit_check limits c room l h.fit) h.none)

  -- ---- number 5
  from_5 : W (refused_with Refusal.TooFewPcrs) → TooFew limits c room l
  from_5 (Way.few h k) = record { laid_out = h; few = k }

  pub refused_5 : (answer limits c room l ≡ refused_with Refusal.TooFewPcrs) ↔ TooFew limits c room l
  refused_5 = (
    λ e. from_5 (to_way _ e),
    λ h. by_clock h.laid_out Refusal.TooFewPcrs (build_few c.clock_depth (samples_in c l) (limits_within limits c h.laid_out.fit.within).clock_depth.least h.few),
  )

  -- ---- numbers 6, 7 and 9
  module _ (n : ℕ) where
    from_6 : W (refused_with (Refusal.DiscontinuityBeforeRate n)) → MarkedAt limits c room l n
    from_6 (Way.mark h k) = record { sampled = h; sample = k }

    pub refused_6 : (answer limits c room l ≡ refused_with (Refusal.DiscontinuityBeforeRate n)) ↔ MarkedAt limits c room l n
    refused_6 = (
      λ e. from_6 (to_way _ e),
      λ h. by_clock h.sampled.laid_out (Refusal.DiscontinuityBeforeRate n) (build_mark c.clock_depth (samples_in c l) h.sampled.two h.sampled.within_depth n h.sample),
    )

    from_7 : W (refused_with (Refusal.RepeatedPcr n)) → RepeatedAt limits c room l n
    from_7 (Way.no_step h k) = record { sampled = h; sample = k }

    pub refused_7 : (answer limits c room l ≡ refused_with (Refusal.RepeatedPcr n)) ↔ RepeatedAt limits c room l n
    refused_7 = (
      λ e. from_7 (to_way _ e),
      λ h. by_clock h.sampled.laid_out (Refusal.RepeatedPcr n) (build_no_step c.clock_depth (samples_in c l) h.sampled.two h.sampled.within_depth n h.sample),
    )

    from_9 : W (refused_with (Refusal.RateOutsideLimits n)) → RateAt limits c room l n
    from_9 (Way.bad_rate h k) = record { sampled = h; sample = k }

    pub refused_9 : (answer limits c room l ≡ refused_with (Refusal.RateOutsideLimits n)) ↔ RateAt limits c room l n
    refused_9 = (
      λ e. from_9 (to_way _ e),
      λ h. by_clock h.sampled.laid_out (Refusal.RateOutsideLimits n) (build_bad_rate c.clock_depth (samples_in c l) h.sampled.two h.sampled.within_depth n h.sample),
    )

  -- ---- number 8
  from_8 : (n : ℕ) → W (refused_with (Refusal.ClockFull n)) → ClockFullAt limits c room l n
  from_8 n (Way.full_clock h k) = record { laid_out = h; place = refl; more = k }

  pub refused_8 : (n : ℕ) → (answer limits c room l ≡ refused_with (Refusal.ClockFull n)) ↔ ClockFullAt limits c room l n
  refused_8 n = (
    λ e. from_8 n (to_way _ e),
    λ h. rw h.place (by_clock h.laid_out (Refusal.ClockFull c.clock_depth) (build_full c.clock_depth (samples_in c l) h.more)),
  )

  -- ---- number 10
  module _ (k pid : ℕ) where
    from_10 : W (refused_with (Refusal.QueueFull k pid)) → QueueFullAt limits c room l k pid
    from_10 (Way.queue h q) = record { clocked = h; queue = q }

    pub refused_10 : (answer limits c room l ≡ refused_with (Refusal.QueueFull k pid)) ↔ QueueFullAt limits c room l k pid
    refused_10 = (
      λ e. from_10 (to_way _ e),
      λ h. clocked_answer limits c room l h.clocked ∙ queue_full_lem c h.clocked.clock (length (samples_in c l)) h.queue,
    )

  -- ---- all ten
  pub refused_iff : (x : Refusal) → (answer limits c room l ≡ refused_with x) ↔ RefusedBy limits c room l x
  refused_iff Refusal.OutsideLimits = refused_1
  refused_iff Refusal.WorkTooShort = refused_2
  refused_iff Refusal.RecordingTooLong = refused_3
  refused_iff Refusal.NoPacketLayout = refused_4
  refused_iff Refusal.TooFewPcrs = refused_5
  refused_iff (Refusal.DiscontinuityBeforeRate n) = refused_6 n
  refused_iff (Refusal.RepeatedPcr n) = refused_7 n
  refused_iff (Refusal.ClockFull n) = refused_8 n
  refused_iff (Refusal.RateOutsideLimits n) = refused_9 n
  refused_iff (Refusal.QueueFull k pid) = refused_10 k pid

  -- ---- accepted
  from_accepted : (r : TStdReport) (fs : List TStdChainStats) → W (accepted r fs) → (h : Completed limits c room l) × (accepted r fs ≡ reported c (length (samples_in c l)) h.ended.final)
  from_accepted r fs (Way.completed h) = (h, refl)

  pub accepted_iff : (r : TStdReport) (fs : List TStdChainStats)
      → (answer limits c room l ≡ accepted r fs) ↔ ((h : Completed limits c room l) × (accepted r fs ≡ reported c (length (samples_in c l)) h.ended.final))
  accepted_iff r fs = (
    λ e. from_accepted r fs (to_way _ e),
    λ h. clocked_answer limits c room l h.0.clocked ∙ ended c h.0.clocked.clock (length (samples_in c l)) h.0.ended ∙ sym h.1,
  )
