-- The limits of document 01 ('Profile and limits'). Rates are in bit/s, sizes and the recording in bytes.
use Rattle.std.specs.Prelude.{ℕ, Bool, ◌&&◌, leb}

abbrev pub max_pid : ℕ
max_pid = 8191

abbrev pub max_streams : ℕ
max_streams = 8

abbrev pub max_system_pids : ℕ
max_system_pids = 16

abbrev pub min_rate : ℕ
min_rate = 8000

abbrev pub max_rate : ℕ
max_rate = 1000000000

abbrev pub min_size : ℕ
min_size = 1

abbrev pub max_size : ℕ
max_size = 1073741824

abbrev pub min_queue_depth : ℕ
min_queue_depth = 1

abbrev pub max_queue_depth : ℕ
max_queue_depth = 8192

abbrev pub min_clock_depth : ℕ
min_clock_depth = 2

abbrev pub max_clock_depth : ℕ
max_clock_depth = 3000

abbrev pub max_recording : ℕ
max_recording = 16777216

-- lo ≤ n ≤ hi
abbrev pub between : ℕ → ℕ → ℕ → Bool
between lo hi n = leb lo n && leb n hi

abbrev pub pid_ok : ℕ → Bool
pid_ok n = leb n max_pid

abbrev pub rate_ok : ℕ → Bool
rate_ok n = between min_rate max_rate n

abbrev pub size_ok : ℕ → Bool
size_ok n = between min_size max_size n
