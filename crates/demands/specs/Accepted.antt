-- What is asked of an accepted replay: of each f64 and each whole figure of its answer, and of the recording of its events.
use Rattle.std.specs.Prelude.{ℕ, ◌≤◌, ◌<◌, ◌^◌, ◌≡◌, ◌↔◌, true, List, ◌++◌, length, T, Float}
use Rattle.std.specs.Float.Ieee.Scale.{finite}
use Rattle.ieee.specs.Interval.{In, minus, plain}
use Rattle.report.specs.declared.violation.Key.{Key}
use Rattle.report.specs.declared.ViolationLine.{ViolationLine}
use Rattle.report.specs.declared.TStdReport.{TStdReport}
use Rattle.report.specs.declared.TStdChainStats.{TStdChainStats}
use Rattle.report.specs.Violation.{FieldsHave}
use Rattle.report.specs.Report.{empty_report, conformant}
use Rattle.report.specs.Keys.{all_in, distinct}
use Rattle.report.specs.Record.{Each, accepts, event_keys, keys_of, lines_of}
use Rattle.profile.specs.declared.config.TStdConfig.{TStdConfig}
use Rattle.profile.specs.declared.limits.Limits.{Limits}
use Rattle.profile.specs.declared.work.WorkSize.{WorkSize}
use Rattle.profile.specs.Config.{streams_of}
use Rattle.summary.specs.Violation.{system_pid}
use Rattle.summary.specs.Summary.{violations_of}
use Rattle.summary.specs.Keys.{keys_of_streams, system_keys}
use Rattle.model.specs.Replay.{system_events, report_of}
use Rattle.demands.specs.Refused.{samples_in, Completed}

-- ---- finite: neither infinite nor a not-a-number
abbrev pub Finite : Float → Type 0
Finite x = T (finite x)

-- nothing is asked of a whole number
abbrev pub AnyNumber : ℕ → Type 0
AnyNumber n = Unit {0}

-- limit, decode time and figure of a violation: the times are finite
abbrev pub LineFinite : ViolationLine → Type 0
LineFinite l = FieldsHave AnyNumber Finite AnyNumber Finite l.violation

abbrev pub StatsFinite : TStdChainStats → Type 0
StatsFinite s = Finite s.max_delay_seconds

-- all of the report's records, the unused ones too
pub record AnswerFinite (r : TStdReport) (fs : List TStdChainStats) : Type 0 where
  pub modelled : Finite r.modelled_seconds
  pub violations : Each LineFinite r.violations
  pub chains : Each StatsFinite fs

-- ---- bounds
abbrev pub whole_limit : ℕ
whole_limit = 2 ^ 44

abbrev pub seconds_limit : ℕ
seconds_limit = 200000

abbrev pub Below : ℕ → Type 0
Below n = n < whole_limit

abbrev pub TimeWithin : Float → Type 0
TimeWithin x = In (minus seconds_limit) x (plain seconds_limit)

abbrev pub LineBounded : ViolationLine → Type 0
LineBounded l = FieldsHave Below TimeWithin Below TimeWithin l.violation

pub record StatsBelow (s : TStdChainStats) : Type 0 where
  pub peak_tb : Below s.peak_tb_bytes
  pub peak_main : Below s.peak_main_bytes
  pub peak_eb : Below s.peak_eb_bytes
  pub access_units : Below s.access_units
  pub max_delay : TimeWithin s.max_delay_seconds

pub record AnswerBounded (r : TStdReport) (fs : List TStdChainStats) : Type 0 where
  pub modelled : TimeWithin r.modelled_seconds
  pub violations : Each LineBounded r.violations
  pub events : Below r.violation_events
  pub samples : Below r.pcr_samples
  pub chains : Each StatsBelow fs

-- ---- recording
-- six keys of each stream in use, and three of the system chain
abbrev pub keys_in : TStdConfig → List Key
keys_in c = keys_of_streams (streams_of c) ++ system_keys (system_pid c)

-- the report is that of the events found in a run of all packets and ends, and `record` refuses none of them
pub record RecordAccepts (limits : Limits) (c : TStdConfig) (room : WorkSize) (l : List ℕ) (r : TStdReport) : Type 0 where
  pub completed : Completed limits c room l
  pub report : r ≡ report_of c (length (samples_in c l)) completed.ended.final
  pub none_refused : accepts empty_report (violations_of c (system_events c completed.ended.final)) ≡ true

-- the keys of these events are among `keys_in`, of which there are 51 at most, and each has one line at most
pub record Keys51 (limits : Limits) (c : TStdConfig) (room : WorkSize) (l : List ℕ) (r : TStdReport) : Type 0 where
  pub completed : Completed limits c room l
  pub report : r ≡ report_of c (length (samples_in c l)) completed.ended.final
  pub few : length (keys_in c) ≤ 51
  pub arise : all_in (keys_in c) (event_keys (violations_of c (system_events c completed.ended.final))) ≡ true
  pub lines : r.violation_count ≤ 51
  pub apart : distinct (keys_of (lines_of r)) ≡ true

-- ---- conformance
abbrev pub ConformantIff : TStdReport → Type 0
ConformantIff r = (conformant r ≡ true) ↔ (r.violation_events ≡ 0)
