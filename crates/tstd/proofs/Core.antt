-- The replay behind its checks: pass 1 makes what pass 2 asks, their answer is the definition's, and what of the work is not cleared is as it was.
-- Assumes nothing.
use Rattle.std.proofs.Common.{◌≡◌, ℕ, suc, ◌+◌, ◌-◌, ◌*◌, ◌^◌, ◌<◌, ◌≤◌, Bool, true, false, cond, leb, List, ◌++◌, map, length, drop, sym, refl, ap, ◌∙◌, arith, length-drop, eq-eqb, ne_eqb}
use lib.Ieee.{Float, lt}
use Rattle.ieee.specs.Binary64.{◌⊖◌, 0f}
use Rattle.error.specs.declared.Refusal.{Refusal}
use Rattle.packet.specs.declared.TsPacketLayout.{TsPacketLayout}
use Rattle.std.specs.Prelude.{Option, Some, None, Result, Ok, Err}
use Rattle.std.specs.Option.{ok_or}
use Rattle.packet.specs.Layout.{layout_of}
use Rattle.packet.proofs.Layouts as layouts
use Rattle.recording.specs.Read.{Fact, parse_in, packets, facts_from, read_at, read_of, Read}
use Rattle.recording.proofs.Facts.{read_found, read_nothing, read_parts, facts_length}
use Rattle.recording.proofs.Bounds.{facts_fit}
use Rattle.arrival.specs.declared.IntervalsMut.{IntervalsMut}
use Rattle.arrival.specs.ArrivalClock.{build}
use Rattle.arrival.specs.Samples.{samples_of}
use Rattle.arrival.specs.Work.{holds, intervals_in}
use Rattle.arrival.proofs.Cursors.{room_holds}
use Rattle.arrival.proofs.Frame.{Keeps}
use Rattle.arrival.proofs.Within.{Counted}
use Rattle.arrival_clock.specs.Clock.{parses_from, pass_over, Answers}
use Rattle.arrival_clock.proofs.Clock.{build_keeps, build_refused, build_intervals, build_counted, build_room, build_bounded}
use Rattle.arrival_clock.proofs.Facts.{samples_read_lem}
use Rattle.events.specs.declared.Slots.{Slots}
use Rattle.events.specs.Slots.{noted_all}
use Rattle.report.specs.declared.TStdReport.{TStdReport}
use Rattle.answer.specs.declared.Answer.{Answer}
use Rattle.answer.specs.declared.Figures.{Figures}
use Rattle.answer.specs.Answer.{figures_of, accepted_answer, refused_answer}
use Rattle.profile.specs.declared.config.TStdConfig.{TStdConfig}
use Rattle.profile.specs.declared.limits.Limits.{Limits}
use Rattle.profile.specs.declared.work.WorkSize.{WorkSize}
use Rattle.profile.specs.Config.{streams_of}
use Rattle.profile.specs.Limits.{replay_limits, within_limits}
use Rattle.profile.specs.Work.{needed_of, covers, check_of}
use Rattle.profile.proofs.Within.{limits_within}
use Rattle.profile.proofs.Sizes.{Passes, fits_passes, covered_covers}
use Rattle.summary.specs.Summary.{summary}
use Rattle.model.specs.Chain.{tb_events}
use Rattle.model.specs.Replay.{Outcome, accepted, refused_with, streams_read, samples_read, report_of, with_clock, with_layout, with_check, replay}
use Rattle.demands.proofs.Refused.{refused_iff}
use Rattle.tstd.specs.declared.run.Ran.{Ran as RanState}
use Rattle.tstd.specs.Clear.{zeroed}
use Rattle.tstd.specs.Figures.{rows_from, system_rows}
use Rattle.tstd.specs.Rest.{from_packet, finished}
use Rattle.tstd.specs.Run.{Pass, clock_of, Ready, whole, RanTo, Finished}
use Rattle.tstd.specs.Core.{answer_for, keeps_work, outcome_of, left_of, answered, Replayed, Ended, Fitting, ReplayedAt, last_slots, report_in, accepted_of}
use Rattle.tstd.proofs.Rows.{rows_are}
use Rattle.tstd.proofs.Cleared.{zeroed_behind, zeroed_parts}
use Rattle.tstd.proofs.Sound.{report_lines}

-- ---- the answer behind pass 2, as the code makes it

module _ (c : TStdConfig) (r : RanState) where
  -- the slots with the system chain's transport buffer
  pub last_none : (sl : Slots) → c.system_count ≤ 0 → sl ≡ r.slots → sl ≡ last_slots c r
  unfolding last_slots
  last_none sl h e =
      let z : c.system_count ≡ 0 = omega arith in
      rw (eq-eqb c.system_count 0 z) e

  pub last_some : (sl : Slots) → 0 < c.system_count → sl ≡ noted_all 49 (tb_events r.system.tb) r.slots → sl ≡ last_slots c r
  unfolding last_slots
  last_some sl h e = rw (ne_eqb c.system_count 0 (λ z. omega arith)) e

  pub accepted_made : (samples : ℕ) (sl : Slots) (x : TStdReport) (seconds : Float) (fs : Figures) → sl ≡ last_slots c r → x ≡ summary c sl
      → seconds ≡ cond (lt r.times.first_time r.times.last_time) (r.times.last_time ⊖ r.times.first_time) 0f
      → fs ≡ figures_of (rows_from 0 (streams_of c) r.chains ++ system_rows c r.system)
      → ◌≡◌ {A = Answer} (record {
        outcome = Ok fs;
        report = record {
          violations = x.violations;
          violation_count = x.violation_count;
          violation_events = x.violation_events;
          pcr_samples = samples;
          modelled_seconds = seconds;
        };
      }) (accepted_of c r samples)
  unfolding accepted_of accepted_answer report_in
  accepted_made samples sl x seconds fs e f g h = rw (f, e, g, h) refl

-- ---- at the layout that is found

module _ (c : TStdConfig) (l : List ℕ) (y : TsPacketLayout) (times : List Float) (places : List ℕ) (fit : Fitting c l y times places) where
  abbrev read : Read
  read = read_of (streams_read c) l

  abbrev count : ℕ
  count = packets y l

  -- where the clock's floats begin: behind the chains' work
  abbrev from : ℕ
  from = 8 * c.queue_depth * c.stream_count

  known : layouts.Known y
  known = (layouts.found l y fit.found).known

  pub size_some : 188 ≤ y.packet_size
  size_some = (layouts.known_size known).0

  facts_are : read.facts ≡ facts_from y (streams_read c) l 0 count
  facts_are = ap (λ (r : Read). r.facts) (read_found (streams_read c) l y fit.found ∙ read_parts y (streams_read c) l)

  samples_are : samples_read c read ≡ samples_of c.pcr_pid (parses_from y l 0 count)
  samples_are = ap (λ (fs : List Fact). samples_of c.pcr_pid (map parse_in fs)) facts_are ∙ samples_read_lem c.pcr_pid y (streams_read c) l 0 count

  pub packets_few : 188 * count ≤ 2 ^ 24
  packets_few =
      let e : length (read_at y (streams_read c) l).facts ≡ count = ap (λ (r : Read). length r.facts) (read_parts y (streams_read c) l) ∙ facts_length y (streams_read c) l 0 count in
      omega (arith, facts_fit y (streams_read c) l (layouts.known_room known), fit.long)

  -- the work has the chains' part, and behind it room for the clock
  pub parts : from ≤ length times
  unfolding needed_of
  parts = omega (arith, fit.times_fit)

  clock_room : holds c.clock_depth (drop from times) places ≡ true
  unfolding needed_of
  clock_room =
      room_holds c.clock_depth (drop from times) places
      (record { of_times = rw (length-drop from times) (omega (arith, fit.times_fit)); of_places = omega (arith, fit.places_fit) })

  -- ---- behind pass 1: t and p are what the clock's floats and numbers then hold
  module _ {built : Result ℕ Refusal} {before after : IntervalsMut} (e-depth : before.depth ≡ c.clock_depth) (e-times : before.times.now ≡ drop from times) (e-places : before.places.now ≡ places)
      {t : List Float} {p : List ℕ} (e-t : t ≡ after.times.now) (e-p : p ≡ after.places.now)
      (is : Answers (pass_over c.pcr_pid before.depth before.times.now before.places.now (parses_from y l 0 count)) built before after) where
    shallow : before.depth ≤ 2 ^ 20
    shallow = omega (arith, fit.within.clock_depth.most)

    room : holds before.depth before.times.now before.places.now ≡ true
    room = rw (e-depth, e-times, e-places) clock_room

    short : 188 * count < 2 ^ 63
    short = omega (arith, packets_few)

    pub refused_at : {x : Refusal} → built ≡ Err x → with_layout c read (Some y) ≡ refused_with x
    unfolding with_layout with_clock
    refused_at {x} e =
        let b : build c.clock_depth (samples_read c read) ≡ Err x =
        rw (← e-depth, samples_are) (build_refused y l count c.pcr_pid is shallow room short e) in
        rw b refl

    kept : Keeps c.clock_depth (drop from times) places t p
    kept = rw (e-t, e-p) (rw (e-depth, e-times, e-places) at (build_keeps y l count c.pcr_pid is))

    -- what is not needed of the work is as it was; w are the chains' floats
    times_kept : (w : List Float) → length w ≡ from → zeroed 0f (needed_of c).times (w ++ t) ≡ zeroed 0f (needed_of c).times times
    unfolding needed_of
    times_kept w size = zeroed_parts 0f w t times from (3 * c.clock_depth) size kept.times_length parts kept.behind

    places_kept : zeroed 0 (needed_of c).places p ≡ zeroed 0 (needed_of c).places places
    unfolding needed_of
    places_kept = zeroed_behind 0 _ p places kept.places_length kept.places_behind

    pub clock_refused : {a : Result Answer Refusal} {x : Refusal} → built ≡ Err x → a ≡ Err x → (w : List Float) → length w ≡ from → ReplayedAt c l y times places a (w ++ t) p
    unfolding answered
    clock_refused e r w size = record { outcome = rw (refused_at e) r; times_are = times_kept w size; places_are = places_kept }

    module _ (n : ℕ) (e : built ≡ Ok n) where
      counted : Counted before.depth (length (samples_of c.pcr_pid (parses_from y l 0 count))) n
      counted = build_counted y l count c.pcr_pid is shallow room short n e

      pub some_intervals : 0 < n
      some_intervals = omega (arith, counted.two, counted.one_fewer)

      -- a sum of them is small
      pub intervals_few : n ≤ 3000
      intervals_few = omega (arith, counted.one_fewer, counted.within_depth, fit.within.clock_depth.most)

      module _ (work : List Float) (long : length work ≡ from) where
        abbrev pass : Pass
        pass = record { config = c; recording = l; layout = y; count = count; work = work; times = t; places = p; last = n - 1 }

        same_count : suc (n - 1) ≡ n
        same_count = omega (arith, some_intervals)

        pub ready : Ready pass
        ready =
            record {
              few = fit.within.stream_count;
              slots = fit.slots;
              some_depth = omega (arith, fit.within.queue_depth.least);
              depth_few = fit.within.queue_depth.most;
              parts = omega arith;
              room = rw (same_count, e-t, e-p) (build_room y l count c.pcr_pid is shallow room short n e);
              window = layouts.known_room known;
              size_few = (layouts.known_size known).1;
              whole = refl;
              long = fit.long;
              within = rw (same_count, e-t, e-p) (build_bounded y l count c.pcr_pid is shallow room short n e packets_few);
            }

        pub runs_at : with_layout c read (Some y) ≡ whole pass (n + 1)
        unfolding with_layout with_clock from_packet
        runs_at =
            let b : build c.clock_depth (samples_read c read) ≡ Ok (intervals_in t p 0 n) =
            rw (← e-depth, samples_are, e-t, e-p) (build_intervals y l count c.pcr_pid is shallow room short n e) in
            let s : length (samples_read c read) ≡ n + 1 = ap length samples_are ∙ sym counted.one_fewer in
            let z : count - 0 ≡ count = omega arith in
            rw (b, s, facts_are, same_count, z) refl

        -- ---- behind pass 2
        module _ {result : Result RanState Refusal} {work' : List Float} (to : RanTo pass result work') where
          pub queue_refused : {a : Result Answer Refusal} {x : Refusal} → result ≡ Err x → a ≡ Err x → ReplayedAt c l y times places a (work' ++ t) p
          unfolding answered
          queue_refused {a} {x} f p = record { outcome = rw (runs_at, to.refused x f (n + 1)) p; times_are = times_kept work' (to.outside.size ∙ long); places_are = places_kept }

          report_is : (ran : RanState) (f : Finished pass to.ready ran work') → report_in c ran (n + 1) ≡ report_of c (n + 1) f.state
          unfolding report_in report_of
          report_is ran f = rw (report_lines pass to.ready fit.within ran f.state f.reached f.at.system_tb f.at.slots, f.at.first, f.at.last) refl

          accepted_is : (ran : RanState) (f : Finished pass to.ready ran work') → Ok (accepted_of c ran (n + 1)) ≡ answered (finished c (clock_of pass) (n + 1) y l count f.state)
          unfolding accepted_of answered
          accepted_is ran f =
              rw (
                report_is ran f,
                rows_are c f.state ran.chains work' c.queue_depth _ ran.system f.at.chains f.at.system_tb f.at.system_branch,
              )
              refl

          pub passes_accepted : {ran : RanState} {a : Answer} → result ≡ Ok ran → a ≡ accepted_of c ran (n + 1) → ReplayedAt c l y times places (Ok a) (work' ++ t) p
          passes_accepted {ran} f r =
              let x = to.finishes ran f in
              record { outcome = ap Ok r ∙ accepted_is ran x ∙ ap answered (sym (runs_at ∙ x.outcome (n + 1))); times_are = times_kept work' (to.outside.size ∙ long); places_are = places_kept }

-- ---- the whole replay

pub checked_as : (limits : Limits) (c : TStdConfig) (lent : WorkSize) (n : ℕ) (r x : Result WorkSize Refusal) → limits ≡ replay_limits → r ≡ check_of limits c lent n → r ≡ x → check_of replay_limits c lent n ≡ x
checked_as limits c lent n r x e f g = rw (← e) (sym f ∙ g)

module _ {A : Type 0} (z : A) (n : ℕ) (l : List A) where
  left_whole : (o : Outcome) → keeps_work o ≡ true → l ≡ left_of z o n l
  left_whole o e = rw e refl

  left_zeroed : (o : Outcome) → keeps_work o ≡ false → zeroed z n l ≡ left_of z o n l
  left_zeroed o e = rw e refl

-- what stands for no value
pub refused_by : {A E : Type 0} (o : Option A) (r : Result A E) (x y : E) → r ≡ ok_or o x → r ≡ Err y → y ≡ x
refused_by None r x y e f = cc
refused_by (Some a) r x y e f = absurd (cc)

size_is : (c : TStdConfig) (l : List ℕ) → (read_of (streams_read c) l).size ≡ length l
size_is c l = by (layout_of l) refl
  where
    by : (d : Option TsPacketLayout) → layout_of l ≡ d → (read_of (streams_read c) l).size ≡ length l
    by (Some y) e = ap (λ (r : Read). r.size) (read_found (streams_read c) l y e ∙ read_parts y (streams_read c) l)
    by None e = ap (λ (r : Read). r.size) (read_nothing (streams_read c) l e)

module _ (l : List ℕ) (c : TStdConfig) (times : List Float) (places : List ℕ) (row_len : ℕ) where
  abbrev lent : WorkSize
  lent = record { times = length times; places = length places; row = row_len }

  abbrev outcome : Outcome
  outcome = outcome_of l c (length times) (length places) row_len

  checked : Result WorkSize Refusal
  checked = check_of replay_limits c lent (length l)

  outcome_checked : outcome ≡ with_check c (read_of (streams_read c) l) checked
  unfolding replay checked
  outcome_checked = ap (λ (n : ℕ). with_check c (read_of (streams_read c) l) (check_of replay_limits c lent n)) (size_is c l)

  -- numbers 1 to 3
  by_tests : (a b d : Bool) (x : Refusal)
      → cond a (cond b (cond d (Ok (needed_of c)) (Err Refusal.RecordingTooLong)) (Err Refusal.WorkTooShort)) (Err Refusal.OutsideLimits) ≡ Err x
      → keeps_work (refused_with x) ≡ true
  unfolding keeps_work
  by_tests true true true x e = let z : ◌≡◌ {A = ℕ} 0 1 = cc in absurd (omega arith)
  by_tests true true false x e = let z : x ≡ Refusal.RecordingTooLong = cc in rw z refl
  by_tests true false d x e = let z : x ≡ Refusal.WorkTooShort = cc in rw z refl
  by_tests false b d x e = let z : x ≡ Refusal.OutsideLimits = cc in rw z refl

  check_keeps : (x : Refusal) → checked ≡ Err x → keeps_work (refused_with x) ≡ true
  unfolding check_of checked
  check_keeps x e = by_tests (within_limits replay_limits c) (covers lent (needed_of c)) (leb (length l) replay_limits.longest_recording) x e

  refused_whole : {a : Result Answer Refusal} (x : Refusal) → outcome ≡ refused_with x → keeps_work (refused_with x) ≡ true → a ≡ Err x → Ended l c times places row_len a times places
  unfolding answered
  refused_whole x o k r =
      let kept : keeps_work outcome ≡ true = rw o k in
      record { outcome = rw o r; times_are = left_whole 0f _ times outcome kept; places_are = left_whole 0 _ places outcome kept }

  pub check_refused : {a : Result Answer Refusal} {x : Refusal} → check_of replay_limits c lent (length l) ≡ Err x → a ≡ Err x → Ended l c times places row_len a times places
  unfolding with_check checked
  check_refused {x} e r = refused_whole x (outcome_checked ∙ rw e refl) (check_keeps x e) r

  module _ {size : WorkSize} (passed : check_of replay_limits c lent (length l) ≡ Ok size) where
    pub passes : Passes replay_limits c lent (length l) size
    passes = fits_passes replay_limits c lent (length l) size passed

    -- what is cleared lies in the work
    pub times_fit : size.times ≤ length times
    times_fit = rw passes.needed passes.covered.times

    pub places_fit : size.places ≤ length places
    places_fit = rw passes.needed passes.covered.places

    -- number 4
    pub layout_refused : {a : Result Answer Refusal} → layout_of l ≡ None → a ≡ Err Refusal.NoPacketLayout → Ended l c times places row_len a times places
    unfolding with_check with_layout keeps_work checked
    layout_refused e r = refused_whole Refusal.NoPacketLayout (outcome_checked ∙ rw (passed, read_nothing (streams_read c) l e) refl) refl r

    module _ (y : TsPacketLayout) (found : layout_of l ≡ Some y) where
      pub fitting : length c.streams ≡ 8 → Fitting c l y times places
      fitting slots =
          record {
            within = limits_within replay_limits c passes.within;
            slots = slots;
            times_fit = passes.covered.times;
            places_fit = passes.covered.places;
            long = passes.length;
            found = found;
          }

      outcome_at : outcome ≡ with_layout c (read_of (streams_read c) l) (Some y)
      unfolding with_check checked
      outcome_at =
          let e : (read_of (streams_read c) l).layout ≡ Some y = ap (λ (r : Read). r.layout) (read_found (streams_read c) l y found ∙ read_parts y (streams_read c) l) in
          outcome_checked ∙ rw (passed, e) refl

      -- none of the numbers 1 to 4
      clears_by : (o : Outcome) → outcome ≡ o → keeps_work o ≡ false
      unfolding keeps_work
      clears_by (accepted r fs) e = refl
      clears_by (refused_with Refusal.OutsideLimits) e =
          let h : within_limits replay_limits c ≡ false = (refused_iff replay_limits c lent l Refusal.OutsideLimits).0 e in
          sym passes.within ∙ h
      clears_by (refused_with Refusal.WorkTooShort) e =
          let h = (refused_iff replay_limits c lent l Refusal.WorkTooShort).0 e in
          sym (covered_covers lent (needed_of c) passes.covered) ∙ h.uncovered
      clears_by (refused_with Refusal.RecordingTooLong) e =
          let h = (refused_iff replay_limits c lent l Refusal.RecordingTooLong).0 e in
          absurd (omega (arith, h.long, passes.length))
      clears_by (refused_with Refusal.NoPacketLayout) e =
          let h = (refused_iff replay_limits c lent l Refusal.NoPacketLayout).0 e in
          let n = h.none in
          let z : ◌≡◌ {A = ℕ} 0 1 = cc in
          absurd (omega arith)
      clears_by (refused_with Refusal.TooFewPcrs) e = refl
      clears_by (refused_with (Refusal.DiscontinuityBeforeRate n)) e = refl
      clears_by (refused_with (Refusal.RepeatedPcr n)) e = refl
      clears_by (refused_with (Refusal.ClockFull n)) e = refl
      clears_by (refused_with (Refusal.RateOutsideLimits n)) e = refl
      clears_by (refused_with (Refusal.QueueFull k pid)) e = refl

      pub replayed_found : {a : Result Answer Refusal} {times' times'' : List Float} {places' places'' : List ℕ} → ReplayedAt c l y times places a times' places'
          → times'' ≡ zeroed 0f size.times times' → places'' ≡ zeroed 0 size.places places' → Ended l c times places row_len a times'' places''
      replayed_found at t p =
          let kept = clears_by outcome refl in
          let n = passes.needed in
          record {
            outcome = at.outcome ∙ ap answered (sym outcome_at);
            times_are = t ∙ rw n at.times_are ∙ left_zeroed 0f _ times outcome kept;
            places_are = p ∙ rw n at.places_are ∙ left_zeroed 0 _ places outcome kept;
          }

-- a refusal takes the report as it was
module _ (before : TStdReport) where
  accepted_for : {a : Answer} (o : Outcome) → Ok a ≡ answered o → a ≡ answer_for before o
  unfolding answered answer_for
  accepted_for (accepted r fs) e = cc
  accepted_for (refused_with x) e = absurd (cc)

  refused_for : {x : Refusal} (o : Outcome) → Err x ≡ answered o → refused_answer before x ≡ answer_for before o
  unfolding answered answer_for
  refused_for (accepted r fs) e = absurd (cc)
  refused_for {x} (refused_with y) e =
      let same : x ≡ y = cc in
      ap (refused_answer before) same

  module _ {l : List ℕ} {c : TStdConfig} {times times' : List Float} {places places' : List ℕ} {row_len : ℕ} {r : Result Answer Refusal} (x : Ended l c times places row_len r times' places') where
    pub ended_accepted : {a : Answer} → r ≡ Ok a → Replayed l c times places row_len before a times' places'
    ended_accepted e = record { outcome = accepted_for _ (sym e ∙ x.outcome); times_are = x.times_are; places_are = x.places_are }

    pub ended_refused : {y : Refusal} {a : Answer} → r ≡ Err y → a ≡ refused_answer before y → Replayed l c times places row_len before a times' places'
    ended_refused e f = record { outcome = f ∙ refused_for _ (sym e ∙ x.outcome); times_are = x.times_are; places_are = x.places_are }
