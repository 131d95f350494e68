-- An accepted replay: every f64 of its answer is finite and within bounds, every whole figure too; `record` refuses none of its events, at most 51 keys
-- arise, and it is conformant exactly if its events are 0. Assumes nothing.
use Prim.Native.Nat.{ℕ, suc, ◌+◌, ◌*◌, ◌^◌, ◌<◌, ◌≤◌}
use native.Mathlib.Omega.{arith}
use mathlib.Core.Path.{◌≡◌, refl, sym, ◌∙◌}
use mathlib.Core.Logic.{inl, inr}
use mathlib.Core.Bool.{Bool, true, false, cond}
use mathlib.Core.List.{List, [], ◌∷◌, ◌++◌}
use borrow.Author.Tests.{eqb-true, eq-eqb}
use lib.ListN.{length, drop, length-take}
use native.Mathlib.Nat.{min-le_left}
use lib.Dec.{eqb}
use lib.Ieee.{Float, binary64, add, sub, neg, lt, le}
use Rattle.ieee.specs.Binary64.{0f, ◌⊖◌}
use Rattle.ieee.specs.Interval.{plain, minus}
use Rattle.ieee.proofs.Interval.{cond_in, sub_in, in_finite}
use Rattle.fifo.proofs.Bounds.{peak_below}
use Rattle.bounds.proofs.Figures.{sys_peak}
use Rattle.report.specs.declared.violation.Figure.TheVariants.{Bytes, Seconds}
use Rattle.report.specs.declared.violation.Figure.{Figure}
use Rattle.report.specs.declared.ViolationLine.{ViolationLine}
use Rattle.report.specs.declared.TStdReport.{TStdReport}
use Rattle.report.specs.declared.TStdChainStats.{TStdChainStats}
use Rattle.report.specs.Violation.{fields_of, FigureHas}
use Rattle.report.specs.Report.{empty_report, conformant}
use Rattle.report.specs.Keys.{all_in, distinct}
use Rattle.report.specs.Record.{Each, accepts, event_keys, keys_of, lines_of, most_events}
use Rattle.profile.specs.declared.config.TStdStream.{TStdStream}
use Rattle.profile.specs.declared.config.TStdConfig.{TStdConfig}
use Rattle.profile.specs.declared.work.WorkSize.{WorkSize}
use Rattle.profile.specs.Config.{streams_of}
use Rattle.profile.specs.Limits.{replay_limits}
use Rattle.profile.proofs.Within.{Within}
use Rattle.arrival.proofs.Within.{build_counted}
use Rattle.summary.specs.Violation.{system_pid}
use Rattle.summary.specs.Summary.{violations_of}
use Rattle.model.specs.Chain.{tb_events, whole}
use Rattle.model.specs.Replay.{State, accepted, with_events, chain_at, system_events, report_of, stream_stats, system_stats}
use Rattle.model_bounds.proofs.Chain.{stats_bounded, tb_events_lem, tb_events_few}
use Rattle.demands.specs.Refused.{answer, samples_in, Completed, reported}
use Rattle.demands.specs.Refused.{stream_of}
use Rattle.demands.specs.State.{FoundHolds, Times, step_events, StateHolds}
use Rattle.demands.specs.Accepted.{Finite, AnyNumber, LineFinite, StatsFinite, AnswerFinite, Below, TimeWithin, LineBounded, StatsBelow, AnswerBounded, keys_in, RecordAccepts, Keys51, ConformantIff}
use Rattle.demands.proofs.Ends.{ends_run, place}
use Rattle.demands.proofs.Found.{each_append, each_map, with_events_lem, events_length}
use Rattle.demands.proofs.Violations.{zero_time}
use Rattle.demands.proofs.Keys.{keys_few, arise, all_accepted, made_kept, made_few, made_events, made_conformant, made_bounded}
use Rattle.demands.proofs.Refused.{accepted_iff}
use Rattle.demands.proofs.State.{started_holds}
use Rattle.demands.proofs.Runs.{profile_within, read_fits, clock_holds, runs_hold, ends_hold}

few_streams : (c : TStdConfig) → Within replay_limits c → length (streams_of c) ≤ 8
few_streams c within = omega (arith, length-take c.stream_count c.streams, min-le_left c.stream_count (length c.streams), within.stream_count)

-- ---- the last state of a run
module _ (c : TStdConfig) (within : Within replay_limits c) (k : ℕ) (fit : 188 * k ≤ 2 ^ 24) (s : State) (h : StateHolds c k (length (streams_of c)) s) where
  -- the events that the report is made of, and their number
  pub last_events : Each (FoundHolds c) (system_events c s) × (length (system_events c s) < 2 ^ 44)
  unfolding system_events
  last_events = go (eqb c.system_count 0)
    where
      few : length s.events ≤ step_events * (k + 8)
      few = omega (arith, h.few, few_streams c within)

      go : (b : Bool) → Each (FoundHolds c) (cond b s.events (with_events s.events 8 (tb_events s.sys_tb)))
          × (length (cond b s.events (with_events s.events 8 (tb_events s.sys_tb))) < 2 ^ 44)
      go true = (h.events, omega (arith, few))
      go false = (
        with_events_lem c 8 (inr refl) s.events (tb_events s.sys_tb) h.events (tb_events_lem h.system.tb (omega (arith, h.system.few))),
        rw (events_length s.events 8 (tb_events s.sys_tb)) (omega (arith, few, (tb_events_few s.sys_tb).few)),
      )

  -- ---- the report
  seconds_within : (x y : Float) → Times x y → TimeWithin (cond (lt x y) (y ⊖ x) 0f)
  unfolding sub add neg le lt
  seconds_within x y (inl e) = rw (e.0, e.1) zero_time
  seconds_within x y (inr t) = cond_in (lt x y) (sub_in binary64 (minus 200000) (plain 200000) t.1 t.0 tt) zero_time

  pub last_few : length (system_events c s) ≤ most_events
  last_few = omega (arith, last_events.1)

  pub report_accepts : accepts empty_report (violations_of c (system_events c s)) ≡ true
  report_accepts = all_accepted c within (system_events c s) last_events.0 last_few

  module _ (n : ℕ) where
    pub report_conformant : conformant (report_of c n s) ≡ eqb (report_of c n s).violation_events 0
    unfolding report_of
    report_conformant = made_conformant c within (system_events c s) last_events.0 last_few

    pub report_lines : (report_of c n s).violation_count ≤ 51
    unfolding report_of
    report_lines = made_few c within (system_events c s) last_events.0 last_few

    pub report_apart : distinct (keys_of (lines_of (report_of c n s))) ≡ true
    unfolding report_of
    report_apart = (made_kept c within (system_events c s) last_events.0 last_few).apart

  pub keys_arise : all_in (keys_in c) (event_keys (violations_of c (system_events c s))) ≡ true
  keys_arise = arise c within (system_events c s) last_events.0

  -- ---- the chains' figures
  stream_stats_lem : (ms : List TStdStream) (i : ℕ) → drop i (streams_of c) ≡ ms → Each StatsBelow (stream_stats i ms c s)
  unfolding stream_stats Each
  stream_stats_lem [] i d = tt
  stream_stats_lem (m ∷ ms) i d =
      let p = place c i m ms d in
      let b = stats_bounded (stream_of c i) k (chain_at c s i) (h.ended i p.inside p.inside) in
      (rw p.stream (record { peak_tb = b.peak_tb; peak_main = b.peak_main; peak_eb = b.peak_eb; access_units = omega (arith, b.access_units); max_delay = b.max_delay }), stream_stats_lem ms (suc i) p.rest)

  abbrev system_row : TStdChainStats
  system_row =
      record {
        pid = system_pid c;
        peak_tb_bytes = whole s.sys_tb.peak;
        peak_main_bytes = whole s.sys.peak;
        peak_eb_bytes = 0;
        access_units = 0;
        max_delay_seconds = 0f;
      }

  system_stats_lem : Each StatsBelow (system_stats c s)
  unfolding system_stats Each
  system_stats_lem = go (eqb c.system_count 0)
    where
      row : StatsBelow system_row
      row = record { peak_tb = peak_below h.system.tb; peak_main = (sys_peak h.system.branch).whole; peak_eb = omega arith; access_units = omega arith; max_delay = zero_time }

      go : (b : Bool) → Each StatsBelow (cond b [] (system_row ∷ []))
      go true = tt
      go false = (row, tt)

  pub answer_bounded : (n : ℕ) → n < 2 ^ 44 → AnswerBounded (report_of c n s) (stream_stats 0 (streams_of c) c s ++ system_stats c s)
  unfolding report_of
  answer_bounded n small =
      record {
        modelled = seconds_within s.first_time s.last_time h.times;
        violations = made_bounded c within (system_events c s) last_events.0 last_few;
        events = omega (arith, made_events c within (system_events c s) last_events.0 last_few, last_events.1);
        samples = small;
        chains = each_append StatsBelow (stream_stats 0 (streams_of c) c s) (system_stats c s) (stream_stats_lem (streams_of c) 0 refl) system_stats_lem;
      }

-- ---- what is bounded is finite
figure_finite : (f : Figure) → FigureHas Below TimeWithin f → FigureHas AnyNumber Finite f
figure_finite (Bytes n) h = tt
figure_finite (Seconds x) h = in_finite h

line_finite : (l : ViolationLine) → LineBounded l → LineFinite l
line_finite l h = record { limit = tt; decode = in_finite h.decode; figure = figure_finite (fields_of l.violation).figure h.figure }

pub bounded_finite : (r : TStdReport) (fs : List TStdChainStats) → AnswerBounded r fs → AnswerFinite r fs
bounded_finite r fs h =
    record {
      modelled = in_finite h.modelled;
      violations = each_map LineBounded LineFinite line_finite r.violations h.violations;
      chains = each_map StatsBelow StatsFinite (λ s b. in_finite b.max_delay) fs h.chains;
    }

-- ---- an accepted replay
module _ (c : TStdConfig) (room : WorkSize) (l : List ℕ) where
  -- of a run of all packets and ends
  record Final (h : Completed replay_limits c room l) : Type 0 where
    within : Within replay_limits c
    fit : 188 * h.ended.count ≤ 2 ^ 24
    holds : StateHolds c h.ended.count (length (streams_of c)) h.ended.final
    small : length (samples_in c l) < 2 ^ 44

  final : (h : Completed replay_limits c room l) → Final h
  final h =
      let laid = h.clocked.laid_out in
      let w = profile_within c room l laid in
      let clock = h.clocked.clock in
      let r = runs_hold c w clock (clock_holds c room l laid clock h.clocked.built) h.ended.runs (read_fits c room l laid) (started_holds c w) in
      let fit : 188 * h.ended.count ≤ 2 ^ 24 = omega (arith, r.1.fit) in
      let e = ends_hold c w h.ended.count fit (ends_run c (streams_of c) 0 h.ended.last h.ended.final h.ended.ends) refl r.0 in
      let z : 0 + length (streams_of c) ≡ length (streams_of c) = omega arith in
      let d = build_counted c.clock_depth (samples_in c l) clock h.clocked.built in
      record { within = w; fit = fit; holds = rw z at e.0; small = omega (arith, d.within_depth, w.clock_depth.most) }

  -- of a report and figures that are those of such a run
  module _ (h : Completed replay_limits c room l) (r : TStdReport) (fs : List TStdChainStats) where
    abbrev n : ℕ
    n = length (samples_in c l)

    abbrev last : State
    last = h.ended.final

    abbrev packets : ℕ
    packets = h.ended.count

    bounds_by : r ≡ report_of c n last → fs ≡ stream_stats 0 (streams_of c) c last ++ system_stats c last → AnswerBounded r fs
    bounds_by p q =
        let f = final h in
        rw (p, q) (answer_bounded c f.within packets f.fit last f.holds n f.small)

    accepts_by : r ≡ report_of c n last → RecordAccepts replay_limits c room l r
    accepts_by p =
        let f = final h in
        record { completed = h; report = p; none_refused = report_accepts c f.within packets f.fit last f.holds }

    keys_by : r ≡ report_of c n last → Keys51 replay_limits c room l r
    keys_by p =
        let f = final h in
        record {
          completed = h;
          report = p;
          few = keys_few c f.within;
          arise = keys_arise c f.within packets f.fit last f.holds;
          lines = rw p (report_lines c f.within packets f.fit last f.holds n);
          apart = rw p (report_apart c f.within packets f.fit last f.holds n);
        }

    conformant_by : r ≡ report_of c n last → conformant r ≡ eqb r.violation_events 0
    conformant_by p =
        let f = final h in
        rw p (report_conformant c f.within packets f.fit last f.holds n)

  module _ (r : TStdReport) (fs : List TStdChainStats) (is : answer replay_limits c room l ≡ accepted r fs) where
    abbrev completed : Completed replay_limits c room l
    completed = ((accepted_iff replay_limits c room l r fs).0 is).0

    same : accepted r fs ≡ reported c (length (samples_in c l)) completed.ended.final
    same = ((accepted_iff replay_limits c room l r fs).0 is).1

    report_is : r ≡ report_of c (length (samples_in c l)) completed.ended.final
    report_is = let e = same in cc

    stats_are : fs ≡ stream_stats 0 (streams_of c) c completed.ended.final ++ system_stats c completed.ended.final
    stats_are = let e = same in cc

    pub accepted_bounds : AnswerBounded r fs
    accepted_bounds = bounds_by completed r fs report_is stats_are

    pub accepted_finite : AnswerFinite r fs
    accepted_finite = bounded_finite r fs accepted_bounds

    pub record_accepts : RecordAccepts replay_limits c room l r
    record_accepts = accepts_by completed r fs report_is

    pub keys_51 : Keys51 replay_limits c room l r
    keys_51 = keys_by completed r fs report_is

    pub conformant_iff : ConformantIff r
    conformant_iff =
        let e = conformant_by completed r fs report_is in (
          λ p. eqb-true r.violation_events 0 (sym e ∙ p),
          λ p. e ∙ eq-eqb r.violation_events 0 p,
        )
