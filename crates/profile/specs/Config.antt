-- What the constructors of a configuration give (TStdConfig of the Rust), and its slots in use.
use Rattle.std.specs.Prelude.{ℕ, Bool, ◌&&◌, List, ◌∷◌, map, take, replicate}
use Rattle.profile.specs.declared.model.TStdBranch.TheVariants.{Main}
use Rattle.profile.specs.declared.config.TStdStream.{TStdStream}
use Rattle.profile.specs.declared.config.TStdConfig.{TStdConfig}
use Rattle.profile.specs.Range.{max_streams, max_system_pids, max_queue_depth, max_clock_depth, pid_ok, rate_ok}
use Rattle.profile.specs.Model.{branch_ok}

unfoldable pub stream_ok : TStdStream → Bool
stream_ok s = pid_ok s.pid && rate_ok s.model.rx_bps && branch_ok s.model.branch

-- what a slot past the count holds
abbrev pub unused_stream : TStdStream
unused_stream = record { pid = 0; model = record { rx_bps = 0; branch = Main 0 } }

-- the slots in use
abbrev pub streams_of : TStdConfig → List TStdStream
streams_of c = take c.stream_count c.streams

abbrev pub pid_of : TStdStream → ℕ
pid_of s = s.pid

abbrev pub stream_pids : TStdConfig → List ℕ
stream_pids c = map pid_of (streams_of c)

abbrev pub system_pids : TStdConfig → List ℕ
system_pids c = take c.system_count c.system_pids

-- a configuration from its fields in order
abbrev pub config : ℕ → List TStdStream → ℕ → List ℕ → ℕ → ℕ → ℕ → TStdConfig
config pcr streams n system m queue clock =
    record {
      pcr_pid = pcr;
      streams = streams;
      stream_count = n;
      system_pids = system;
      system_count = m;
      queue_depth = queue;
      clock_depth = clock;
    }

-- no streams and no system PIDs; the deepest queues and clock
abbrev pub default_config : TStdConfig
default_config = config 0 (replicate max_streams unused_stream) 0 (replicate max_system_pids 0) 0 max_queue_depth max_clock_depth

abbrev pub with_pcr_pid : TStdConfig → ℕ → TStdConfig
with_pcr_pid c pcr =
    config pcr c.streams c.stream_count c.system_pids c.system_count c.queue_depth c.clock_depth

abbrev pub with_streams : TStdConfig → List TStdStream → ℕ → TStdConfig
with_streams c streams n =
    config c.pcr_pid streams n c.system_pids c.system_count c.queue_depth c.clock_depth

abbrev pub with_system_pids : TStdConfig → List ℕ → ℕ → TStdConfig
with_system_pids c system m =
    config c.pcr_pid c.streams c.stream_count system m c.queue_depth c.clock_depth

abbrev pub with_queue_depth : TStdConfig → ℕ → TStdConfig
with_queue_depth c queue =
    config c.pcr_pid c.streams c.stream_count c.system_pids c.system_count queue c.clock_depth

abbrev pub with_clock_depth : TStdConfig → ℕ → TStdConfig
with_clock_depth c clock =
    config c.pcr_pid c.streams c.stream_count c.system_pids c.system_count c.queue_depth clock

-- the system PIDs are PAT (0), CAT (1) and the program's PMT
abbrev pub single_program : (pcr pmt : ℕ) → List TStdStream → ℕ → TStdConfig
single_program pcr pmt streams n = config pcr streams n (0 ∷ 1 ∷ pmt ∷ replicate 13 0) 3 max_queue_depth max_clock_depth
