-- The pass by turns of the loop: packets that change the start alone, one packet that is parsed, and the end. Assumes nothing.
use Rattle.std.specs.Prelude.{Result}
use Prim.Native.Nat.{ℕ, zero, suc, ◌+◌, ◌-◌, ◌*◌, ◌/◌, ◌≤◌, ◌<◌, min}
use mathlib.Core.Path.{◌≡◌, refl, sym, ◌∙◌}
use mathlib.Core.Bool.{Bool, true, false, cond}
use mathlib.Core.List.{List}
use native.Mathlib.Omega.{arith}
use lib.Dec.{leb}
use borrow.Author.Tests.{leb-true, leb-false}
use Rattle.error.specs.declared.Refusal.{Refusal}
use Rattle.packet.specs.declared.TsPacketLayout.{TsPacketLayout}
use Rattle.packet.specs.Packet.{parse_of}
use Rattle.recording.specs.Read.{packet_at}
use Rattle.arrival.specs.declared.ClockPass.{ClockPass}
use Rattle.arrival.specs.declared.IntervalsMut.{IntervalsMut}
use Rattle.arrival.specs.Work.{never}
use Rattle.arrival.specs.Pass.{no_packet, answer_of, Passing, passing_in, other_packet, pass_packet, pass_packets, SameSlices, Passes}
use Rattle.arrival.proofs.Passing.{other_passes}
use Rattle.arrival_clock.specs.Clock.{parses_from, pass_over, Answers}
use Rattle.arrival_clock.specs.Stretch.{NoFieldOn}

-- ---- the start
-- behind one packet, and behind n
abbrev next_start : ℕ → ℕ
next_start start = cond (leb start (never - 188)) (start + 188) start

abbrev start_behind : ℕ → ℕ → ℕ
start_behind start n = start + 188 * min n ((never - start) / 188)

start_none : (start : ℕ) → start_behind start 0 ≡ start
start_none start = omega arith

start_more : (start n : ℕ) → start_behind start (suc n) ≡ start_behind (next_start start) n
start_more start n = go (leb start (never - 188)) refl
  where
    go : (t : Bool) → leb start (never - 188) ≡ t → start_behind start (suc n) ≡ start_behind (cond t (start + 188) start) n
    go true e = omega (arith, leb-true start (never - 188) e)
    go false e = omega (arith, leb-false start (never - 188) e)

abbrev starts_at : ClockPass → ℕ → ClockPass
starts_at b start = record { start = start; pending_discontinuity = b.pending_discontinuity; build = b.build }

-- a packet that does not speak of the clock changes the start alone
moved_other : (b : ClockPass) → starts_at b (next_start b.start) ≡ other_packet b
unfolding other_packet
moved_other b = by (leb b.start (never - 188))
  where
    by : (t : Bool) → starts_at b (cond t (b.start + 188) b.start) ≡ cond t (starts_at b (b.start + 188)) b
    by true = refl
    by false = refl

-- ---- the loop: the packets that are left lead from here to where all packets lead from the start
module _ (pcrPid : ℕ) (before : IntervalsMut) (y : TsPacketLayout) (l : List ℕ) (count : ℕ) where
  pub record Leads (end : Passing) (k : ℕ) (pass : ClockPass) (now : IntervalsMut) : Type 0 where
    pub within : k ≤ count
    pub same : SameSlices before now
    pub ends : pass_packets pcrPid before.depth (passing_in pass now) (parses_from y l k (count - k)) ≡ end

  pub starts : {pass : ClockPass} → pass ≡ no_packet
      → Leads (pass_over pcrPid before.depth before.times.now before.places.now (parses_from y l 0 count)) 0 pass before
  starts e =
      let all : count - 0 ≡ count = omega arith in
      record { within = omega arith; same = record { same_times = refl; same_places = refl; same_depth = refl }; ends = rw (e, all) }

  module _ (end : Passing) {k : ℕ} {pass : ClockPass} {now : IntervalsMut} (here : Leads end k pass now) where
    -- to what the packet makes of the pass and the work
    next_to : k < count → {pass' : ClockPass} {now' : IntervalsMut} → SameSlices before now'
        → passing_in pass' now' ≡ pass_packet pcrPid before.depth (passing_in pass now) (parse_of (packet_at y l k)) → Leads end (k + 1) pass' now'
    unfolding pass_packets parses_from
    next_to more same to =
        let left : count - k ≡ suc (count - (k + 1)) = omega arith in
        let one : k + 1 ≡ suc k = omega arith in
        record { within = omega arith; same = same; ends = rw to (rw one (rw (left, one) at here.ends)) }

    pub next_leads : k < count → {w : List ℕ} → w ≡ packet_at y l k → {pass' : ClockPass} {now' : IntervalsMut}
        → Passes (pass_packet pcrPid now.depth (passing_in pass now) (parse_of w)) pass' now now' → Leads end (k + 1) pass' now'
    next_leads more window step =
        next_to more
        (record {
          same_times = step.written.same.same_times ∙ here.same.same_times;
          same_places = step.written.same.same_places ∙ here.same.same_places;
          same_depth = step.written.same.same_depth ∙ here.same.same_depth;
        })
        (rw (step.pass_is, step.written.times_are, step.written.places_are, here.same.same_depth, window) refl)

    pub all_passed : count ≤ k → {answer : Result ℕ Refusal} → answer ≡ answer_of now.depth pass.build → Answers end answer before now
    unfolding pass_packets parses_from
    all_passed done e =
        let none : count - k ≡ 0 = omega arith in
        let at_end : passing_in pass now ≡ end = rw none at here.ends in
        rw (sym at_end) (record { answer_is = rw here.same.same_depth at e; written = record { times_are = refl; places_are = refl; same = here.same } })

  others_from : (end : Passing) (n : ℕ) {k : ℕ} {pass : ClockPass} {now : IntervalsMut} → Leads end k pass now → k + n ≤ count
      → NoFieldOn pcrPid y l k (k + n) → Leads end (k + n) (starts_at pass (start_behind pass.start n)) now
  others_from end zero {k} {pass} here fits none =
      let e : k + 0 ≡ k = omega arith in
      rw (start_none pass.start, e) here
  others_from end (suc n) {k} {pass} {now} here fits none =
      let e : k + suc n ≡ k + 1 + n = omega arith in
      let other = other_passes before.depth pass now.times.now now.places.now pcrPid _ (none k (omega arith) (omega arith)) in
      let one : Leads end (k + 1) (starts_at pass (next_start pass.start)) now = next_to end here (omega arith) here.same (rw (moved_other pass) (sym other)) in
      rw (start_more pass.start n, e) (others_from end n one (omega arith) (λ i onward before. none i (omega arith) (omega arith)))

  -- packets without a field on the PCR PID, up to the next one
  pub others_lead : (end : Passing) {k : ℕ} {pass : ClockPass} {now : IntervalsMut} → Leads end k pass now
      → {next : ℕ} → k ≤ next → next ≤ count → NoFieldOn pcrPid y l k next
      → {start : ℕ} → start ≡ start_behind pass.start (next - k) → Leads end next (starts_at pass start) now
  others_lead end {k} here {next} onward within none e =
      let to : k + (next - k) ≡ next = omega arith in
      rw e (rw to at (others_from end (next - k) here (omega arith) (rw to none)))
