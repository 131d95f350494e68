-- The events of a video branch whose longest busy stretch is a binary64: every figure in seconds is a binary64 above zero. Assumes nothing.
use Prim.Native.Nat.{ℕ}
use mathlib.Core.Path.{◌≡◌, refl}
use mathlib.Core.Bool.{Bool, true, false}
use mathlib.Core.List.{List, [], ◌∷◌, ◌++◌}
use lib.Ieee.{Float, lt, le, eq}
use Rattle.ieee.specs.Binary64.{◌⊕◌, ◌⊖◌, -∞, 1f}
use Rattle.events.specs.declared.Event.TheVariants.{Overflow, Underflow}
use Rattle.events.specs.Event.{when}
use Rattle.branch.specs.declared.AccessUnit.{AccessUnit}
use Rattle.branch.specs.declared.Delivered.{Delivered}
use Rattle.branch.specs.VideoBranch.{VideoRates, Leak, Video, mb_fullness, ran, leak_events, remove_unit, remove_events, advance_from, advance, drain_time, finish_video}
use Rattle.branch.specs.VideoStep.{VideoChain, VideoFed, close_au, packet_step, end_step, video_step}
use Rattle.branch.proofs.VideoAdvance.{leaked}
use Rattle.summary.specs.Violation.{SecondsAboveZero}
use Rattle.legal.specs.Legal.{BusyFits}
use Rattle.legal.proofs.Cases.{either, each_when}
use Rattle.legal.proofs.Busy.{advance_fits, close_fits}
use Rattle.legal.proofs.Events.{AllAbove, none_above, both_above, delay_above, mb_busy_above}

module _ (r : VideoRates) where
  leak_above : (t : Float) (s : Leak) → AllAbove (leak_events r t s)
  unfolding leak_events
  leak_above t s =
      let x = mb_fullness (ran r t s) t in
      either AllAbove (eq s.proc_time -∞) [] (when (lt (r.mb_size ⊕ 1f) x) (Overflow x)) none_above
      (each_when SecondsAboveZero (lt (r.mb_size ⊕ 1f) x) (Overflow x) (λ e. tt))

  remove_above : (v : Video) (u : AccessUnit) → AllAbove (remove_events v u)
  unfolding remove_events
  remove_above v u =
      let required = v.eb_required ⊕ u.bytes in
      let arrived = v.leak.flow.eb_in in
      both_above (when (lt (arrived ⊕ 1f) required) (Underflow u.decode_time (required ⊖ arrived))) _
      (each_when SecondsAboveZero (lt (arrived ⊕ 1f) required) (Underflow u.decode_time (required ⊖ arrived)) (λ e. tt))
      (delay_above u)

  from_by : (f : Float) (u : AccessUnit) (us : List AccessUnit) (v : Video) (z : Bool) → le u.decode_time f ≡ z
      → AllAbove (advance_from r f us (remove_unit (leaked r u.decode_time v) u us)).events → AllAbove (advance_from r f (u ∷ us) v).events
  unfolding advance_from
  from_by f u us v true z h =
      let t = u.decode_time in
      simp z
      (both_above (leak_events r t v.leak ++ remove_events (leaked r t v) u) _
      (both_above (leak_events r t v.leak) (remove_events (leaked r t v) u) (leak_above t v.leak) (remove_above (leaked r t v) u)) h)
  from_by f u us v false z h = simp z (leak_above f v.leak)

  from_above : (f : Float) (us : List AccessUnit) (v : Video) → AllAbove (advance_from r f us v).events
  unfolding advance_from
  from_above f [] v = leak_above f v.leak
  from_above f (u ∷ us) v = from_by f u us v (le u.decode_time f) refl (from_above f us (remove_unit (leaked r u.decode_time v) u us))

  advance_above : (f : Float) (v : Video) → AllAbove (advance r f v).events
  unfolding advance
  advance_above f v = from_above f v.pending v

  finish_above : (v : Video) → BusyFits v.leak → AllAbove (finish_video r v).events
  unfolding finish_video
  finish_above v h =
      let t = drain_time r v in
      both_above (advance r t v).events _ (advance_above t v) (mb_busy_above (advance r t v).branch.leak.longest_busy (advance_fits r t v h))

  end_above : (f : VideoFed) (z : Bool) → f.full ≡ z → BusyFits f.chain.branch.leak → AllAbove (end_step r f).events
  unfolding end_step
  end_above f true z h = simp z none_above
  end_above f false z h = simp z (finish_above f.chain.branch h)

  -- one step: a packet, or the end
  pub video_above : (depth : ℕ) (d : Delivered) (end : Bool) (t : Float) (c : VideoChain) → BusyFits c.branch.leak → AllAbove (video_step r depth d end t c).events
  unfolding video_step packet_step
  video_above depth d true t c h = end_above (close_au depth c) (close_au depth c).full refl (close_fits depth c h)
  video_above depth d false t c h = advance_above t c.branch
