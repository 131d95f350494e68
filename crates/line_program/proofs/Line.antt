-- The line program's limits beside the replay's. Assumes nothing.
use Prim.Native.Nat.{ℕ, ◌≤◌, ◌<◌, min}
use mathlib.Core.Path.{◌≡◌, refl, sym}
use mathlib.Core.Bool.{cond}
use mathlib.Core.List.{List}
use borrow.Author.Tests.{le-leb, lt-leb}
use native.Mathlib.Omega.{arith}
use native.Mathlib.Nat.{min_comm}
use lib.ListN.{length, take, length-append, length-take, length-drop}
use lib.Seq.{length-take-le}
use lib.Dec.{leb}
use Rattle.std.specs.Prelude.{Ok, Err}
use Rattle.error.specs.declared.Refusal.{Refusal}
use Rattle.packet.specs.Layout.{layout_of}
use Rattle.recording.specs.Read.{read_of}
use Rattle.profile.specs.Range.{max_recording}
use Rattle.profile.specs.Model.{branch_ok}
use Rattle.profile.specs.Config.{stream_ok}
use Rattle.profile.specs.Limits.{replay_limits, within_limits}
use Rattle.profile.specs.Work.{needed_of, covers, check_of}
use Rattle.lines.specs.Written.{filled}
use Rattle.model.specs.Replay.{refused_with, replay, with_check, streams_read}
use Rattle.model.proofs.Refusals.{read_size}
use Rattle.tstd.specs.Core.{outcome_of}
use Rattle.line_program.specs.Output.{line_config, line_limits, line_room, line_outcome}

-- the profile is within the limits, and the work and row are what it needs
line_check : (n : ℕ) → check_of line_limits line_config line_room n ≡ cond (leb n 32768) (Ok (needed_of line_config)) (Err Refusal.RecordingTooLong)
unfolding check_of within_limits stream_ok branch_ok covers needed_of line_config
line_check n = refl

replay_check : (n : ℕ) → check_of replay_limits line_config line_room n ≡ cond (leb n max_recording) (Ok (needed_of line_config)) (Err Refusal.RecordingTooLong)
unfolding check_of within_limits stream_ok branch_ok covers needed_of line_config
replay_check n = refl

module _ (l : List ℕ) where
  size : (read_of (streams_read line_config) l).size ≡ length l
  size = read_size (streams_read line_config) l (layout_of l)

  pub line_long : 32768 < length l → line_outcome l ≡ refused_with Refusal.RecordingTooLong
  unfolding line_outcome replay with_check
  line_long h = rw (size, line_check (length l), lt-leb (length l) 32768 h)

  -- a recording within the line program's limit is within the replay's
  pub line_replays : length l ≤ 32768 → outcome_of l line_config 1216 128 2 ≡ line_outcome l
  unfolding line_outcome replay
  line_replays h =
      let most : length l ≤ max_recording = omega arith in
      rw (size, line_check (length l), replay_check (length l), le-leb (length l) 32768 h, le-leb (length l) max_recording most)

-- the bytes that hold the text are among those of the memory
pub text_counts : (text out after : List ℕ) (n : ℕ) → n ≡ min (length text) (length out) → after ≡ filled out text → (n ≤ length after) × (n ≡ length (take n after))
unfolding filled
text_counts text out after n e f =
    let le : n ≤ length after = rw f (simp (length-append, length-take, length-drop) (omega (arith, e, min_comm (length text) (length out)))) in
    (le, sym (length-take-le n after le))
