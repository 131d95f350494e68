-- When a configuration is within the limits of document 01 ('Profile and limits'): a repeated stream PID is legal, and
-- slots past the counts are not looked at.
use Rattle.std.specs.Prelude.{Bool, ◌&&◌, leb}
use Rattle.std.specs.List.{list_all}
use Rattle.profile.specs.declared.config.TStdConfig.{TStdConfig}
use Rattle.profile.specs.declared.limits.Limits.{Limits}
use Rattle.profile.specs.Range.{max_streams, max_system_pids, min_queue_depth, max_queue_depth, min_clock_depth, max_clock_depth, max_recording, between, pid_ok}
use Rattle.profile.specs.Config.{stream_ok, streams_of, system_pids}

-- those of the replay
abbrev pub replay_limits : Limits
replay_limits = record { longest_recording = max_recording; deepest_queue = max_queue_depth }

unfoldable pub within_limits : Limits → TStdConfig → Bool
within_limits limits c =
    pid_ok c.pcr_pid
    && leb c.stream_count max_streams
    && leb c.system_count max_system_pids
    && between min_queue_depth limits.deepest_queue c.queue_depth
    && between min_clock_depth max_clock_depth c.clock_depth
    && list_all stream_ok (streams_of c)
    && list_all pid_ok (system_pids c)
