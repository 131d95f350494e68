-- How a replay ends: each number under its condition, or accepted, for every recording and profile. Assumes nothing.
use Prim.Native.Nat.{ℕ, ◌<◌}
use mathlib.Core.Path.{◌≡◌, refl, ap, ◌∙◌}
use mathlib.Core.Bool.{Bool, true, false}
use mathlib.Core.List.{List}
use borrow.Author.Tests.{leb-true, leb-false}
use lib.ListN.{length}
use lib.Dec.{leb}
use Rattle.std.specs.Prelude.{Option, Some, None, Ok}
use Rattle.error.specs.declared.Refusal.{Refusal}
use Rattle.packet.specs.declared.TsPacketLayout.{TsPacketLayout}
use Rattle.packet.specs.Layout.{layout_of}
use Rattle.recording.specs.Read.{read_at, read_by}
use Rattle.arrival.specs.declared.Sample.{Sample}
use Rattle.arrival.specs.declared.Anchor.{Anchor}
use Rattle.arrival.specs.ArrivalClock.{Built, build}
use Rattle.profile.specs.declared.config.TStdConfig.{TStdConfig}
use Rattle.profile.specs.declared.limits.Limits.{Limits}
use Rattle.profile.specs.declared.work.WorkSize.{WorkSize}
use Rattle.profile.specs.Limits.{within_limits}
use Rattle.profile.specs.Work.{needed_of, covers, check_of}
use Rattle.profile.proofs.Sizes.{check_outside, check_short, check_long, check_fits, covers_covered}
use Rattle.model.specs.Replay.{Outcome, refused_with, started, replay, with_check, with_layout, with_clock, replay_from}
use Rattle.model.proofs.Refusals.{early_refusal, layout_refusal}
use Rattle.demands.specs.Refused.{answer, read_in, samples_in, Fit, LaidOut, Sampled, MarkBeforeRate, NoStep, BadRate, SampleIs, Clocked, FullQueue, reported, Completed}
use Rattle.demands.proofs.Clock.{ClockWay, clock_way}
use Rattle.demands.proofs.Passes.{RunWay, run_way}

module _ (limits : Limits) (c : TStdConfig) (room : WorkSize) (l : List ℕ) where
  pub data Way : Outcome → Type 0 where
    outside : within_limits limits c ≡ false → Way (refused_with Refusal.OutsideLimits)
    work : within_limits limits c ≡ true → covers room (needed_of c) ≡ false → Way (refused_with Refusal.WorkTooShort)
    long : within_limits limits c ≡ true → covers room (needed_of c) ≡ true → limits.longest_recording < length l → Way (refused_with Refusal.RecordingTooLong)
    no_layout : Fit limits c room l → layout_of l ≡ None → Way (refused_with Refusal.NoPacketLayout)
    full_clock : LaidOut limits c room l → c.clock_depth < length (samples_in c l) → Way (refused_with (Refusal.ClockFull c.clock_depth))
    few : LaidOut limits c room l → length (samples_in c l) < 2 → Way (refused_with Refusal.TooFewPcrs)
    mark : {n : ℕ} → Sampled limits c room l → SampleIs (λ (a : Anchor) (s : Sample). MarkBeforeRate n s) (samples_in c l) n → Way (refused_with (Refusal.DiscontinuityBeforeRate n))
    no_step : {n : ℕ} → Sampled limits c room l → SampleIs NoStep (samples_in c l) n → Way (refused_with (Refusal.RepeatedPcr n))
    bad_rate : {n : ℕ} → Sampled limits c room l → SampleIs BadRate (samples_in c l) n → Way (refused_with (Refusal.RateOutsideLimits n))
    queue : {k pid : ℕ} (h : Clocked limits c room l) → FullQueue c h.clock 0 (read_in c l).facts (started c) k pid → Way (refused_with (Refusal.QueueFull k pid))
    completed : (h : Completed limits c room l) → Way (reported c (length (samples_in c l)) h.ended.final)

  pub fit_check : Fit limits c room l → check_of limits c room (length l) ≡ Ok (needed_of c)
  fit_check f = check_fits limits c room (length l) f.within (covers_covered room (needed_of c) f.covered) f.short

  -- at a layout: the clock, then pass 2
  pub laid_out_answer : LaidOut limits c room l → answer limits c room l ≡ with_clock c (read_in c l) (build c.clock_depth (samples_in c l))
  unfolding replay with_check with_layout read_by read_at
  laid_out_answer h = rw (h.found, fit_check h.fit)

  pub clocked_answer : (h : Clocked limits c room l) → answer limits c room l ≡ replay_from c h.clock (length (samples_in c l)) 0 (read_in c l).facts (started c)
  unfolding with_clock
  clocked_answer h = laid_out_answer h.laid_out ∙ ap (with_clock c (read_in c l)) h.built

  by_clock : (h : LaidOut limits c room l) (b : Built) → build c.clock_depth (samples_in c l) ≡ b → ClockWay c.clock_depth (samples_in c l) b → Way (with_clock c (read_in c l) b)
  unfolding with_clock
  by_clock h b e (ClockWay.full_clock d) = full_clock h d
  by_clock h b e (ClockWay.few d) = few h d
  by_clock h b e (ClockWay.mark two most s) = mark (record { laid_out = h; two = two; within_depth = most }) s
  by_clock h b e (ClockWay.no_step two most s) = no_step (record { laid_out = h; two = two; within_depth = most }) s
  by_clock h b e (ClockWay.bad_rate two most s) = bad_rate (record { laid_out = h; two = two; within_depth = most }) s
  by_clock h b e (ClockWay.built clock) = by (run_way c clock (length (samples_in c l)) (read_in c l).facts 0 (started c))
    where
      k : Clocked limits c room l
      k = record { laid_out = h; clock = clock; built = e }

      by : {o : Outcome} → RunWay c clock (length (samples_in c l)) 0 (read_in c l).facts (started c) o → Way o
      by (RunWay.queue q) = queue k q
      by (RunWay.done d) = completed (record { clocked = k; ended = d })

  by_layout : Fit limits c room l → (d : Option TsPacketLayout) → layout_of l ≡ d → Way (answer limits c room l)
  by_layout f None e = rw (layout_refusal limits c room (needed_of c) l (fit_check f) e) (no_layout f e)
  by_layout f (Some y) e =
      let h : LaidOut limits c room l = record { fit = f; layout = y; found = e } in
      rw (laid_out_answer h) (by_clock h (build c.clock_depth (samples_in c l)) refl (clock_way c.clock_depth (samples_in c l)))

  pub way : Way (answer limits c room l)
  way = by (within_limits limits c) refl (covers room (needed_of c)) refl (leb (length l) limits.longest_recording) refl
    where
      by : (a : Bool) → within_limits limits c ≡ a → (b : Bool) → covers room (needed_of c) ≡ b → (d : Bool) → leb (length l) limits.longest_recording ≡ d → Way (answer limits c room l)
      by false p b q d r = rw (early_refusal limits c room l Refusal.OutsideLimits (check_outside limits c room (length l) p)) (outside p)
      by true p false q d r = rw (early_refusal limits c room l Refusal.WorkTooShort (check_short limits c room (length l) p q)) (work p q)
      by true p true q false r =
          let k = leb-false (length l) limits.longest_recording r in
          rw (early_refusal limits c room l Refusal.RecordingTooLong (check_long limits c room (length l) p (covers_covered room (needed_of c) q) k)) (long p q k)
      by true p true q true r = by_layout (record { within = p; covered = q; short = leb-true (length l) limits.longest_recording r }) (layout_of l) refl
