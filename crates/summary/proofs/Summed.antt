-- The loop that records the slots' violations: after event `after` the report has those of the slots up to it.
use mathlib.Core.Path.{◌≡◌, refl, sym, ap, ◌∙◌}
use mathlib.Core.List.{[], ◌∷◌, map, map-append}
use Prim.Native.Nat.{ℕ, ◌+◌, ◌-◌, ◌≤◌, ◌<◌}
use native.Mathlib.Omega.{arith}
use lib.ListN.{get_or}
use Rattle.report.specs.declared.TStdReport.{TStdReport}
use Rattle.report.specs.Report.{empty_report}
use Rattle.report.specs.Record.{recorded, record_all}
use Rattle.report.proofs.Fold.{all_append}
use Rattle.profile.specs.declared.config.TStdConfig.{TStdConfig}
use Rattle.events.specs.declared.Slots.{Slots}
use Rattle.std.specs.Prelude.{None}
use Rattle.summary.specs.Next.{NextFirst, NextSlot}
use Rattle.summary.specs.Summary.{first_slots, violation_in, slot_violations, with_events, summary}
use Rattle.summary.proofs.Order.{slots_skipped, slots_next}

module _ (c : TStdConfig) (slots : Slots) where
  pub record Summed (report : TStdReport) (after : ℕ) : Type 0 where
    pub reported : report ≡ record_all empty_report (map (violation_in c slots) (first_slots slots.firsts after))
    pub counted : after ≤ slots.events

  pub sum_starts : Summed empty_report 0
  unfolding record_all first_slots
  sum_starts = record { reported = refl; counted = omega arith }

  module _ (report : TStdReport) (after : ℕ) (s : Summed report after) where
    module _ (k : ℕ) (f : NextFirst slots.firsts slots.events after k) where
      pub sum_next : Summed (recorded report (violation_in c slots k)).report (get_or slots.firsts k 0)
      unfolding record_all
      sum_next =
          let v = violation_in c slots in
          record {
            reported =
                rw (s.reported, slots_next slots.firsts after (get_or slots.firsts k 0) k f.behind f.slot f.between, map-append v (first_slots slots.firsts after) (k ∷ []))
                (sym (all_append empty_report (map v (first_slots slots.firsts after)) (v k ∷ [])));
            counted = f.counted;
          }

      pub sum_less : slots.events - get_or slots.firsts k 0 < slots.events - after
      sum_less = omega (arith, f.behind, f.counted)

    pub sum_ends : NextSlot slots.firsts slots.events after None → with_events report (slots.events) ≡ summary c slots
    unfolding summary slot_violations
    sum_ends none =
        let n = slots.events in
        let e : after + (n - after) ≡ n = omega (arith, s.counted) in
        let same : first_slots slots.firsts n ≡ first_slots slots.firsts after = ap (first_slots slots.firsts) (sym e) ∙ slots_skipped slots.firsts after (n - after) (λ j l w. none j l (omega arith)) in
        rw (s.reported, same)
