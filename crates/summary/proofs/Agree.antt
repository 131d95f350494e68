-- The report made from the slots is the one that recording every event makes.
use mathlib.Core.Bool.{true}
use mathlib.Core.Path.{◌≡◌, refl, sym, ap, ◌∙◌}
use mathlib.Core.List.{List, [], ◌∷◌, ◌++◌, map}
use Prim.Native.Nat.{ℕ, suc, ◌+◌, ◌*◌, ◌≤◌, ◌<◌}
use native.Mathlib.Omega.{arith}
use lib.ListN.{length, drop, take-append-drop, length-map}
use lib.Seq.{length-take-le}
use Rattle.report.specs.declared.violation.TStdViolation.{TStdViolation}
use Rattle.report.specs.declared.ViolationLine.{ViolationLine}
use Rattle.report.specs.declared.TStdReport.{TStdReport}
use Rattle.report.specs.Report.{empty_report}
use Rattle.report.specs.Record.{record_line, record_lines, lines_of, record_all, most_events, Each, event_keys}
use Rattle.report.specs.Keys.{all_in}
use Rattle.report.proofs.Fold.{lines_all, events_all, unused_all, samples_all, seconds_all}
use Rattle.profile.specs.declared.config.TStdConfig.{TStdConfig}
use Rattle.events.specs.declared.Event.{Event}
use Rattle.events.specs.Event.{figure_of, decode_of}
use Rattle.events.specs.declared.Slots.{Slots}
use Rattle.events.specs.Slots.{noted, noted_all}
use Rattle.summary.specs.Violation.{violation_of, slot_of, slot_violation}
use Rattle.summary.specs.Summary.{Found, found, violations_of, empty_slots, noted_found, Legal, first_slots, violation_in, slot_violations, with_events, summary}
use Rattle.summary.specs.Keys.{possible_keys}
use Rattle.summary.proofs.Merge.{kind_few, slot_event, above_event}
use Rattle.summary.proofs.Order.{slots_few}
use Rattle.summary.proofs.Keys.{Recorded51, recorded_51, keys_51, possible_slots}
use Rattle.summary.proofs.Reached.{count_of, Reached, reached_empty, lines_in, stepped}

-- ---- the report of accepted events goes by their lines, but for the count

-- the lines in an empty report
abbrev table : List ViolationLine → ℕ → TStdReport
table ls n =
    record {
      violations = ls ++ drop (length ls) empty_report.violations;
      violation_count = length ls;
      violation_events = n;
      pcr_samples = empty_report.pcr_samples;
      modelled_seconds = empty_report.modelled_seconds;
    }

no_lines : lines_of empty_report ≡ []
unfolding empty_report
no_lines = refl

full_empty : length empty_report.violations ≡ 64
unfolding empty_report
full_empty = refl

module _ (c : TStdConfig) (whole : length c.streams ≡ 8) where
  of_lines : (vs : List TStdViolation) (n : ℕ) → Recorded51 c whole vs → with_events (record_all empty_report vs) n ≡ table (record_lines [] vs) n
  of_lines vs n k =
      let r = record_all empty_report vs in
      let lines : lines_of r ≡ record_lines [] vs = lines_all empty_report vs k.accepted ∙ ap (λ (ls : List ViolationLine). record_lines ls vs) no_lines in
      let count : r.violation_count ≡ length (record_lines [] vs) = sym (length-take-le r.violation_count r.violations (omega (arith, k.kept.full, k.kept.few))) ∙ ap length lines in
      let unused : drop r.violation_count r.violations ≡ drop r.violation_count empty_report.violations =
      unused_all empty_report vs r.violation_count full_empty k.accepted (omega arith) in
      let all : r.violations ≡ record_lines [] vs ++ drop (length (record_lines [] vs)) empty_report.violations =
      sym (take-append-drop r.violation_count r.violations) ∙ rw (unused, lines, count) in
      rw (all, count, samples_all empty_report vs, seconds_all empty_report vs)

-- ---- the lines after a list of events

module _ (c : TStdConfig) where
  -- what events leave: their count and their lines, from those that there were
  record After (fs : List Found) (s : Slots) (after : Slots) : Type 0 where
    lines : lines_in c after ≡ record_lines (lines_in c s) (violations_of c fs)
    counted : count_of after ≡ count_of s + length fs
    reached : Reached c after

  all_noted : (fs : List Found) (s : Slots) → Reached c s → Each Legal fs → count_of s + length fs ≤ most_events → After fs s (noted_found fs s)
  unfolding noted_found violations_of record_lines Each
  all_noted [] s r l m = record { lines = refl; counted = omega arith; reached = r }
  all_noted (f ∷ fs) s r l m =
      let e = f.event in
      let k = slot_of f.chain e in
      let high : k < 64 = omega (arith, kind_few e, l.0.chain) in
      let same : slot_violation c k (figure_of e) (decode_of e) ≡ violation_of c f.chain e = slot_event c f.chain e in
      let above = above_event c f.chain e l.0.figure in
      let step = stepped c s r k (omega arith) high (figure_of e) (decode_of e) (rw same above) (omega arith) in
      let rest = all_noted fs (noted k (figure_of e) (decode_of e) s) step.reached l.1 (omega (arith, step.counted)) in
      record {
        lines = rest.lines ∙ ap (λ (ls : List ViolationLine). record_lines ls (violations_of c fs)) (step.lines ∙ ap (record_line (lines_in c s)) same);
        counted = omega (arith, rest.counted, step.counted);
        reached = rest.reached;
      }

  violations_length : (fs : List Found) → length (violations_of c fs) ≡ length fs
  unfolding violations_of
  violations_length [] = refl
  violations_length (f ∷ fs) = ap suc (violations_length fs)

  empty_lines : lines_in c empty_slots ≡ []
  unfolding slot_violations first_slots record_lines
  empty_lines = refl

  -- what the slots of the events tell
  noted_empty : (fs : List Found) → Each Legal fs → length fs ≤ most_events → After fs empty_slots (noted_found fs empty_slots)
  noted_empty fs l m = all_noted fs empty_slots (reached_empty c) l (omega arith)

  slots_length : (s : Slots) → length (slot_violations c s) ≤ count_of s
  unfolding slot_violations
  slots_length s = rw (length-map (first_slots s.firsts (count_of s)) (violation_in c s)) (slots_few s.firsts (count_of s))

  slots_possible : length c.streams ≡ 8 → (s : Slots) → all_in (possible_keys c) (event_keys (slot_violations c s)) ≡ true
  unfolding slot_violations
  slots_possible whole s = possible_slots c whole s (first_slots s.firsts (count_of s))

  -- the slots' violations too make at most 51 lines
  pub summary_51 : (whole : length c.streams ≡ 8) (s : Slots) → count_of s ≤ most_events → Recorded51 c whole (slot_violations c s)
  summary_51 whole s m = recorded_51 c whole (slot_violations c s) (slots_possible whole s) (omega (arith, slots_length s))

  none_yet : {n m : ℕ} → n ≡ m → empty_report.violation_events + n ≡ m
  unfolding empty_report
  none_yet e = omega arith

  -- the report made from the slots of the events is the one that recording them all makes: lines, unused records, counts
  pub slots_report : length c.streams ≡ 8 → (fs : List Found) → Each Legal fs → length fs ≤ most_events → summary c (noted_found fs empty_slots) ≡ record_all empty_report (violations_of c fs)
  unfolding summary
  slots_report whole fs l m =
      let vs = violations_of c fs in
      let s = noted_found fs empty_slots in
      let a = noted_empty fs l m in
      let us = slot_violations c s in
      let count : count_of s ≡ length fs = omega (arith, a.counted) in
      let k = keys_51 c whole fs (omega (arith, violations_length fs)) in
      let lines : record_lines [] us ≡ record_lines [] vs = a.lines ∙ ap (λ (ls : List ViolationLine). record_lines ls vs) empty_lines in
      let events : (record_all empty_report vs).violation_events ≡ count_of s = events_all empty_report vs k.accepted ∙ none_yet (omega (arith, violations_length fs)) in
      of_lines c whole us (count_of s) (summary_51 whole s (omega (arith, count)))
      ∙ ap (λ (ls : List ViolationLine). table ls (count_of s)) lines
      ∙ sym (of_lines c whole vs (count_of s) k)
      ∙ ap (with_events (record_all empty_report vs)) (sym events)

-- ---- the events of a chain, as its steps note them

module _ (chain : ℕ) where
  pub noted_chain : (es : List Event) (s : Slots) → noted_all (1 + 6 * chain) es s ≡ noted_found (map (found chain) es) s
  unfolding noted_all noted_found
  noted_chain [] s = refl
  noted_chain (e ∷ es) s = noted_chain es (noted (slot_of chain e) (figure_of e) (decode_of e) s)

pub noted_append : (es fs : List Found) (s : Slots) → noted_found (es ++ fs) s ≡ noted_found fs (noted_found es s)
unfolding noted_found
noted_append [] fs s = refl
noted_append (e ∷ es) fs s = noted_append es fs (noted (slot_of e.chain e.event) (figure_of e.event) (decode_of e.event) s)
