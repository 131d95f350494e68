-- The line program of document 01: its profile and limits, and its whole output for a recording.
use Rattle.std.specs.Prelude.{ℕ, ◌≤◌, min, ◌≡◌, List, ◌∷◌, length, replicate}
use Rattle.recording.specs.Read.{read_of}
use Rattle.report.specs.Report.{empty_report}
use Rattle.profile.specs.declared.config.TStdStream.{TStdStream}
use Rattle.profile.specs.declared.config.TStdConfig.{TStdConfig}
use Rattle.profile.specs.declared.limits.Limits.{Limits}
use Rattle.profile.specs.declared.work.WorkSize.{WorkSize}
use Rattle.profile.specs.Range.{max_streams, max_queue_depth}
use Rattle.profile.specs.Model.{audio_model}
use Rattle.profile.specs.Config.{config}
use Rattle.lines.specs.Text.{text_of}
use Rattle.lines.specs.Written.{filled}
use Rattle.model.specs.Replay.{Outcome, replay, streams_read}
use Rattle.tstd.specs.Core.{answer_for}

-- audio on PID 257; one of the slots is in use
abbrev pub audio_stream : TStdStream
audio_stream = record { pid = 257; model = audio_model }

-- PCR PID 256; system PIDs 0, 1 and 4096; queue depth 128, clock depth 64
unfoldable pub line_config : TStdConfig
line_config = config 256 (replicate max_streams audio_stream) 1 (0 ∷ 1 ∷ 4096 ∷ replicate 13 0) 3 128 64

-- 32,768 bytes at most
abbrev pub line_limits : Limits
line_limits = record { longest_recording = 32768; deepest_queue = max_queue_depth }

-- what the profile needs
abbrev pub line_room : WorkSize
line_room = record { times = 1216; places = 128; row = 2 }

unfoldable pub line_outcome : List ℕ → Outcome
line_outcome l = replay line_limits line_config line_room (read_of (streams_read line_config) l)

unfoldable pub output_of : List ℕ → List ℕ
output_of l = text_of (answer_for empty_report (line_outcome l))

-- n bytes of the output stand at the start of out', the memory out as it is then
pub record Output (l out : List ℕ) (n : ℕ) (out' : List ℕ) : Type 0 where
  pub count : n ≡ min (length (output_of l)) (length out)
  pub bytes : out' ≡ filled out (output_of l)
  pub short : length (output_of l) ≤ 8618
