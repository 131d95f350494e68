-- The replay (the Rust's `analyze_tstd` with document 01's limits and refusals), over lists, floats and what is read of a recording.
use Rattle.std.specs.Prelude.{ℕ, suc, ◌+◌, ◌*◌, cond, List, [], ◌∷◌, ◌++◌, map, length, get_or, set, eqb, Float, Option, Some, None, Result, Ok, Err}
use Rattle.std.specs.Float.Ieee.{lt}
use Rattle.ieee.specs.Binary64.{◌⊖◌, -∞, +∞, 0f, 188f}
use Rattle.ieee.specs.MaxMin.{max_of, min_of}
use Rattle.error.specs.declared.Refusal.{Refusal}
use Rattle.packet.specs.declared.TsPacketLayout.{TsPacketLayout}
use Rattle.packet.specs.declared.TsPacket.{TsPacket}
use Rattle.scanner.specs.declared.Runs.{Runs}
use Rattle.recording.specs.Read.{Streams, Fact, unparsed, parsed, parse_in, Read}
use Rattle.arrival.specs.declared.RateInterval.{RateInterval}
use Rattle.arrival.specs.declared.Sample.{Sample}
use Rattle.arrival.specs.ArrivalClock.{Built, build}
use Rattle.arrival.specs.Samples.{samples_of}
use Rattle.arrival.specs.Times.{covering, arrival_at}
use Rattle.fifo.specs.declared.FluidFifo.{FluidFifo}
use Rattle.fifo.specs.FluidFifo.{new, pushed}
use Rattle.branch.specs.declared.Run.{Run}
use Rattle.branch.specs.declared.sys_branch.SysBranch.{SysBranch}
use Rattle.branch.specs.SysBranch.{new_sys, rsys_of, push_sys, sys_events}
use Rattle.events.specs.declared.Event.{Event}
use Rattle.report.specs.declared.TStdReport.{TStdReport}
use Rattle.report.specs.declared.TStdChainStats.{TStdChainStats}
use Rattle.report.specs.Report.{empty_report}
use Rattle.report.specs.Record.{record_all}
use Rattle.profile.specs.declared.config.TStdStream.{TStdStream}
use Rattle.profile.specs.declared.config.TStdConfig.{TStdConfig}
use Rattle.profile.specs.declared.limits.Limits.{Limits}
use Rattle.profile.specs.declared.owner.Owner.{Owner}
use Rattle.profile.specs.declared.work.WorkSize.{WorkSize}
use Rattle.profile.specs.Config.{streams_of, stream_pids, unused_stream}
use Rattle.profile.specs.Owner.{owner_of}
use Rattle.profile.specs.Work.{check_of}
use Rattle.summary.specs.Violation.{system_pid}
use Rattle.summary.specs.Summary.{Found, found, violations_of}
use Rattle.model.specs.Chain.{Chain, new_chain, packet_step, ChainStep, tb_events, end_step, stats_of, whole}

-- the streams of a configuration, by which a recording is read
abbrev pub streams_read : TStdConfig → Streams
streams_read c = record { pids = stream_pids c }

-- ---- the state of pass 2
pub record State : Type 0 where
  pub chains : List Chain
  pub sys_tb : FluidFifo
  pub sys : SysBranch
  -- arrival of the first and the last byte of the packets that parse
  pub first_time : Float
  pub last_time : Float
  pub events : List Found

-- Rxsys, 1,000,000 bit/s
unfoldable pub started : TStdConfig → State
started c =
    record {
      chains = map new_chain (streams_of c);
      sys_tb = new 1000000;
      sys = new_sys;
      first_time = +∞;
      last_time = -∞;
      events = [];
    }

-- the events of chain i, behind those so far; chain 8 is the system's
abbrev pub with_events : List Found → ℕ → List Event → List Found
with_events fs i es = fs ++ map (found i) es

-- (not a Result State ℕ: theorems and pass 2 tell of what is running and what is full, and the number is a PID)
pub data Ran : Type 0 where
  running : State → Ran
  -- a push met a full queue of the chain of a PID
  full : ℕ → Ran

-- a full queue ends the replay
unfoldable pub and_then : Ran → (State → Ran) → Ran
and_then (running s) next = next s
and_then (full pid) next = full pid

abbrev pub chain_at : TStdConfig → State → ℕ → Chain
chain_at c s i = get_or s.chains i (new_chain unused_stream)

abbrev pub stream_at : TStdConfig → ℕ → TStdStream
stream_at c i = get_or c.streams i unused_stream

-- a step of chain i
unfoldable pub stepped : TStdConfig → ℕ → State → ChainStep → Ran
stepped c i s x =
    cond x.full (full (stream_at c i).pid)
    (running
    (record {
      chains = set s.chains i x.chain;
      sys_tb = s.sys_tb;
      sys = s.sys;
      first_time = s.first_time;
      last_time = s.last_time;
      events = with_events s.events i x.events;
    }))

-- ---- one packet, which arrives from byte p on; clock is the list of intervals
module _ (c : TStdConfig) (clock : List RateInterval) (p : ℕ) where
  abbrev t0 : Float
  t0 = arrival_at clock p

  abbrev t1 : Float
  t1 = arrival_at clock (p + 188)

  -- the interval of the packet's end
  abbrev interval : RateInterval
  interval = covering (p + 188) clock

  unfoldable pub timed : State → State
  timed s =
      record {
        chains = s.chains;
        sys_tb = s.sys_tb;
        sys = s.sys;
        first_time = min_of s.first_time t0;
        last_time = max_of s.last_time t1;
        events = s.events;
      }

  unfoldable pub system_step : State → State
  system_step s =
      let x = pushed s.sys_tb t0 t1 188f in
      let run : Run = record { t0 = x.start; t1 = x.end; bytes = 188f } in
      record {
        chains = s.chains;
        sys_tb = x.fifo;
        sys = push_sys s.sys run (rsys_of interval.rate);
        first_time = s.first_time;
        last_time = s.last_time;
        events = with_events s.events 8 (sys_events s.sys run (rsys_of interval.rate));
      }

  unfoldable pub owned_step : Owner → TsPacket → Runs → State → Ran
  owned_step (Owner.Stream i) h r s =
      stepped c i s (packet_step (stream_at c i) c.queue_depth h r t0 t1 interval (chain_at c s i))
  owned_step Owner.System h r s = running (system_step s)
  owned_step Owner.Nobody h r s = running s

  unfoldable pub fact_step : Fact → State → Ran
  fact_step unparsed s = running s
  fact_step (parsed h r) s = owned_step (owner_of c h.pid) h r (timed s)

-- ---- the answer (not a Result: it accepts with two things, each by its place, and the conditions of demands/specs go by the two names)
pub data Outcome : Type 0 where
  accepted : TStdReport → List TStdChainStats → Outcome
  refused_with : Refusal → Outcome

-- ---- the wrap-up
-- the streams' ends in their order, from stream i on
unfoldable pub ends_from : TStdConfig → ℕ → List TStdStream → State → Ran
ends_from c i [] s = running s
ends_from c i (m ∷ ms) s =
    and_then (stepped c i s (end_step m c.queue_depth (chain_at c s i))) (λ (s' : State). ends_from c (suc i) ms s')

-- then the system chain's transport buffer, where there are system PIDs
unfoldable pub system_events : TStdConfig → State → List Found
system_events c s = cond (eqb c.system_count 0) s.events (with_events s.events 8 (tb_events s.sys_tb))

unfoldable pub report_of : TStdConfig → ℕ → State → TStdReport
report_of c samples s =
    let r = record_all empty_report (violations_of c (system_events c s)) in
    record {
      violations = r.violations;
      violation_count = r.violation_count;
      violation_events = r.violation_events;
      pcr_samples = samples;
      modelled_seconds = cond (lt s.first_time s.last_time) (s.last_time ⊖ s.first_time) 0f;
    }

unfoldable pub stream_stats : ℕ → List TStdStream → TStdConfig → State → List TStdChainStats
stream_stats i [] c s = []
stream_stats i (m ∷ ms) c s = stats_of m (chain_at c s i) ∷ stream_stats (suc i) ms c s

unfoldable pub system_stats : TStdConfig → State → List TStdChainStats
system_stats c s =
    cond (eqb c.system_count 0) []
    (record {
      pid = system_pid c;
      peak_tb_bytes = whole s.sys_tb.peak;
      peak_main_bytes = whole s.sys.peak;
      peak_eb_bytes = 0;
      access_units = 0;
      max_delay_seconds = 0f;
    }
    ∷ [])

-- ---- pass 2: packet k, which begins at byte 188 k, and those behind it; in the end the place of a refusal is the packet count
abbrev pub or_full : ℕ → Ran → (State → Outcome) → Outcome
or_full k (running s) next = next s
or_full k (full pid) next = refused_with (Refusal.QueueFull k pid)

unfoldable pub replay_from : TStdConfig → List RateInterval → ℕ → ℕ → List Fact → State → Outcome
replay_from c clock samples k [] s =
    or_full k (ends_from c 0 (streams_of c) s)
    (λ (s' : State). accepted (report_of c samples s') (stream_stats 0 (streams_of c) c s' ++ system_stats c s'))
replay_from c clock samples k (f ∷ fs) s =
    or_full k (fact_step c clock (188 * k) f s) (λ (s' : State). replay_from c clock samples (suc k) fs s')

-- ---- pass 1, on the packets as they parsed
abbrev pub samples_read : TStdConfig → Read → List Sample
samples_read c r = samples_of c.pcr_pid (map parse_in r.facts)

unfoldable pub with_clock : TStdConfig → Read → Built → Outcome
with_clock c r (Err x) = refused_with x
with_clock c r (Ok clock) = replay_from c clock (length (samples_read c r)) 0 r.facts (started c)

unfoldable pub with_layout : TStdConfig → Read → Option TsPacketLayout → Outcome
with_layout c r None = refused_with Refusal.NoPacketLayout
with_layout c r (Some y) = with_clock c r (build c.clock_depth (samples_read c r))

unfoldable pub with_check : TStdConfig → Read → Result WorkSize Refusal → Outcome
with_check c r (Err x) = refused_with x
with_check c r (Ok needed) = with_layout c r r.layout

-- room: the lengths of work and row that are lent
unfoldable pub replay : Limits → TStdConfig → WorkSize → Read → Outcome
replay limits c room r = with_check c r (check_of limits c room r.size)
