-- The report made from the slots: the violation of each slot that has events, in the order of their first events, and the count.
use Rattle.std.specs.Prelude.{ℕ, zero, suc, ◌<◌, cond, List, [], ◌∷◌, ◌++◌, map, get_or, drop}
use Rattle.std.specs.Float.{nan}
use Rattle.report.specs.declared.violation.TStdViolation.{TStdViolation}
use Rattle.report.specs.declared.TStdReport.{TStdReport}
use Rattle.report.specs.Report.{empty_report}
use Rattle.report.specs.Record.{record_all}
use Rattle.profile.specs.declared.config.TStdConfig.{TStdConfig}
use Rattle.profile.specs.Owner.{contains, first_index}
use Rattle.events.specs.declared.Event.{Event}
use Rattle.events.specs.Event.{figure_of, decode_of}
use Rattle.events.specs.declared.Slots.{Slots}
use Rattle.events.specs.Slots.{no_events, noted}
use Rattle.summary.specs.Violation.{violation_of, slot_of, slot_violation, SecondsAboveZero}

-- ---- an event with its chain

pub record Found : Type 0 where
  pub chain : ℕ
  pub event : Event

abbrev pub found : ℕ → Event → Found
found chain e = record { chain = chain; event = e }

unfoldable pub violations_of : TStdConfig → List Found → List TStdViolation
violations_of c [] = []
violations_of c (f ∷ fs) = violation_of c f.chain f.event ∷ violations_of c fs

-- the slots before any event, and after the events of a list
abbrev pub empty_slots : Slots
empty_slots = no_events

unfoldable pub noted_found : List Found → Slots → Slots
noted_found [] s = s
noted_found (f ∷ fs) s = noted_found fs (noted (slot_of f.chain f.event) (figure_of f.event) (decode_of f.event) s)

-- an event of one of the nine chains
pub record Legal (f : Found) : Type 0 where
  pub chain : f.chain < 9
  pub figure : SecondsAboveZero f.event

-- ---- the slots in order

-- the slot whose first event is event n, where there is one
unfoldable pub slot_first : List ℕ → ℕ → List ℕ
slot_first firsts n = cond (contains (drop 1 firsts) n) (suc (first_index (drop 1 firsts) n) ∷ []) []

-- the slots whose first events are among the events 1 to n, in the order of those
unfoldable pub first_slots : List ℕ → ℕ → List ℕ
first_slots firsts zero = []
first_slots firsts (suc n) = first_slots firsts n ++ slot_first firsts (suc n)

-- the largest figure of slot k with the decode time of its first event
abbrev pub violation_in : TStdConfig → Slots → ℕ → TStdViolation
violation_in c s k = slot_violation c k (get_or s.figures k nan) (get_or s.decode_times k nan)

unfoldable pub slot_violations : TStdConfig → Slots → List TStdViolation
slot_violations c s = map (violation_in c s) (first_slots s.firsts s.events)

abbrev pub with_events : TStdReport → ℕ → TStdReport
with_events r n = record { violations = r.violations; violation_count = r.violation_count; violation_events = n; pcr_samples = r.pcr_samples; modelled_seconds = r.modelled_seconds }

unfoldable pub summary : TStdConfig → Slots → TStdReport
summary c s = with_events (record_all empty_report (slot_violations c s)) s.events
