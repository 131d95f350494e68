-- At most 51 keys arise, so that `record` refuses no event of a replay; the lines of the report are within bounds, and it is conformant exactly if its
-- events are 0. Assumes nothing.
use Prim.Native.Nat.{ℕ, zero, suc, ◌≤◌}
use native.Mathlib.Omega.{arith}
use mathlib.Core.Path.{◌≡◌, refl, subst}
use mathlib.Core.Bool.{true}
use mathlib.Core.List.{List, [], ◌∷◌}
use lib.ListN.{length, drop, replicate, length-append, length-take, take-append-drop}
use native.Mathlib.Nat.{min-le_left}
use lib.Dec.{eqb}
use Rattle.report.specs.declared.violation.TStdViolation.{TStdViolation}
use Rattle.report.specs.declared.TStdReport.{TStdReport}
use Rattle.report.specs.Violation.{fields_of, key_of}
use Rattle.report.specs.Report.{empty_report, unused_line, conformant}
use Rattle.report.specs.Keys.{has_key, all_in}
use Rattle.report.specs.Record.{Each, record_all, accepts, event_keys, most_events, lines_of}
use Rattle.std.proofs.lemmas.Bool.{and_from as both}
use Rattle.report.proofs.Lines.{fields_lines}
use Rattle.report.proofs.Fold.{Kept, kept_empty, kept_count, records_kept, lines_all, events_all, unused_all, conformant_all}
use Rattle.profile.specs.declared.config.TStdConfig.{TStdConfig}
use Rattle.profile.specs.Config.{streams_of}
use Rattle.profile.specs.Limits.{replay_limits}
use Rattle.profile.proofs.Within.{Within}
use Rattle.summary.specs.Violation.{system_pid, violation_of}
use Rattle.summary.specs.Summary.{Found, violations_of}
use Rattle.summary.specs.Keys.{keys_of_streams, system_keys}
use Rattle.summary.proofs.Keys.{has_left, has_right, stream_key, system_key, in_streams, streams_length}
use Rattle.demands.specs.State.{FoundHolds}
use Rattle.demands.specs.Accepted.{keys_in, Below, TimeWithin, LineBounded}
use Rattle.demands.proofs.Found.{each_append, each_drop}
use Rattle.demands.proofs.Violations.{zero_time, by_place, violations_bounded}

unused_bounded : (n : ℕ) → Each LineBounded (replicate n unused_line)
unfolding Each fields_of
unused_bounded zero = tt
unused_bounded (suc n) = (record { limit = omega arith; decode = zero_time; figure = omega arith }, unused_bounded n)

empty_bounded : Each LineBounded empty_report.violations
unfolding empty_report Each
empty_bounded = unused_bounded 64

-- nothing has been recorded
no_lines : lines_of empty_report ≡ []
unfolding empty_report
no_lines = refl

no_events : empty_report.violation_events ≡ 0
unfolding empty_report
no_events = refl

empty_full : length empty_report.violations ≡ 64
unfolding empty_report
empty_full = refl

violations_length : (c : TStdConfig) (fs : List Found) → length (violations_of c fs) ≡ length fs
unfolding violations_of
violations_length c [] = refl
violations_length c (f ∷ fs) = omega (arith, violations_length c fs)

module _ (c : TStdConfig) (within : Within replay_limits c) where
  pub keys_few : length (keys_in c) ≤ 51
  keys_few =
      rw (length-append (keys_of_streams (streams_of c)) (system_keys (system_pid c)))
      (omega (arith, streams_length (streams_of c), length-take c.stream_count c.streams, min-le_left c.stream_count (length c.streams), within.stream_count))

  pub arise : (fs : List Found) → Each (FoundHolds c) fs → all_in (keys_in c) (event_keys (violations_of c fs)) ≡ true
  unfolding all_in event_keys violations_of Each
  arise [] h = refl
  arise (f ∷ fs) h =
      both (has_key (keys_in c) (key_of (violation_of c f.chain f.event))) _
      (by_place c within (λ (v : TStdViolation). has_key (keys_in c) (key_of v) ≡ true) f h.0
      (λ k. has_left (keys_of_streams (streams_of c)) (system_keys (system_pid c)) _ (in_streams (streams_of c) f.chain _ k (stream_key _ f.event)))
      (has_right (keys_of_streams (streams_of c)) (system_keys (system_pid c)) _ (system_key (system_pid c) f.event)))
      (arise fs h.1)

  -- ---- the report of events within bounds, of which there are few
  module _ (fs : List Found) (h : Each (FoundHolds c) fs) (few : length fs ≤ most_events) where
    abbrev vs : List TStdViolation
    vs = violations_of c fs

    abbrev made : TStdReport
    made = record_all empty_report vs

    recorded : (accepts empty_report vs ≡ true) × Kept (keys_in c) made
    recorded = records_kept (keys_in c) (omega (arith, keys_few)) empty_report vs (kept_empty (keys_in c)) (arise fs h) (omega (arith, no_events, violations_length c fs))

    pub all_accepted : accepts empty_report vs ≡ true
    all_accepted = recorded.0

    pub made_kept : Kept (keys_in c) made
    made_kept = recorded.1

    pub made_few : made.violation_count ≤ 51
    made_few = omega (arith, kept_count (keys_in c) made made_kept, keys_few)

    pub made_events : made.violation_events ≡ length fs
    made_events = omega (arith, events_all empty_report vs all_accepted, no_events, violations_length c fs)

    pub made_conformant : conformant made ≡ eqb made.violation_events 0
    made_conformant = conformant_all vs all_accepted

    used_bounded : Each LineBounded (lines_of made)
    unfolding Each
    used_bounded =
        rw (lines_all empty_report vs all_accepted, no_lines)
        (fields_lines Below TimeWithin Below TimeWithin [] vs (violations_bounded c within fs h) tt)

    unused : drop made.violation_count made.violations ≡ drop made.violation_count empty_report.violations
    unused = unused_all empty_report vs made.violation_count empty_full all_accepted (omega arith)

    pub made_bounded : Each LineBounded made.violations
    made_bounded =
        subst (Each LineBounded) (take-append-drop made.violation_count made.violations)
        (each_append LineBounded (lines_of made) (drop made.violation_count made.violations) used_bounded
        (rw unused (each_drop LineBounded made.violation_count empty_report.violations empty_bounded)))
