-- What a caller of `build` has: the answer is that of the clock of the packets' samples, an accepted clock stands in the work,
-- and the work is as it was elsewhere. Assumes nothing.
use Rattle.std.specs.Prelude.{Result, Ok, Err}
use Prim.Native.Nat.{ℕ, zero, suc, ◌*◌, ◌^◌, ◌≤◌, ◌<◌}
use mathlib.Core.Path.{◌≡◌, refl, sym, ap, ◌∙◌}
use mathlib.Core.Bool.{true}
use mathlib.Core.List.{List}
use lib.ListN.{length}
use lib.Ieee.{Float}
use Rattle.error.specs.declared.Refusal.{Refusal}
use Rattle.packet.specs.declared.TsPacket.{TsPacket}
use Rattle.packet.specs.declared.TsError.{TsError}
use Rattle.packet.specs.declared.TsPacketLayout.{TsPacketLayout}
use Rattle.arrival.specs.declared.IntervalsMut.{IntervalsMut}
use Rattle.arrival.specs.ArrivalClock.{build}
use Rattle.arrival.specs.Samples.{samples_of}
use Rattle.arrival.specs.Work.{holds, intervals_in}
use Rattle.arrival.specs.Bounds.{byte_limit, AllWithin}
use Rattle.arrival.specs.Pass.{no_packet}
use Rattle.arrival.proofs.Answers as answers
use Rattle.arrival.proofs.Frame.{Keeps, packets_keep}
use Rattle.arrival.proofs.Within.{Counted}
use Rattle.arrival_clock.specs.Clock.{parses_from, pass_over, Answers}

pub parses_length : (y : TsPacketLayout) (l : List ℕ) (k n : ℕ) → length (parses_from y l k n) ≡ n
unfolding parses_from
parses_length y l k zero = refl
parses_length y l k (suc n) = ap suc (parses_length y l (suc k) n)

module _ (y : TsPacketLayout) (l : List ℕ) (count pcrPid : ℕ) {before after : IntervalsMut} {answer : Result ℕ Refusal}
    (is : Answers (pass_over pcrPid before.depth before.times.now before.places.now (parses_from y l 0 count)) answer before after) where
  abbrev ps : List (Result TsPacket TsError)
  ps = parses_from y l 0 count

  abbrev depth : ℕ
  depth = before.depth

  abbrev times : List Float
  times = before.times.now

  abbrev places : List ℕ
  places = before.places.now

  -- lengths, the floats from 3 * depth on, and the numbers from 2 * depth on
  pub build_keeps : Keeps depth times places after.times.now after.places.now
  build_keeps = rw (is.written.times_are, is.written.places_are) (packets_keep depth pcrPid ps (record { pass = no_packet; times = times; places = places }))

  module _ (shallow : depth ≤ 2 ^ 20) (room : holds depth times places ≡ true) (short : 188 * count < 2 ^ 63) where
    shorter : 188 * length ps < 2 ^ 63
    shorter = rw (parses_length y l 0 count) short

    pub build_refused : {r : Refusal} → answer ≡ Err r → build depth (samples_of pcrPid ps) ≡ Err r
    build_refused e = answers.refused_is pcrPid depth times places ps shallow room shorter (sym is.answer_is ∙ e)

    module _ (n : ℕ) (e : answer ≡ Ok n) where
      pub build_intervals : build depth (samples_of pcrPid ps) ≡ Ok (intervals_in after.times.now after.places.now 0 n)
      build_intervals =
          rw (is.written.times_are, is.written.places_are) (answers.clock_is pcrPid depth times places ps shallow room shorter n (sym is.answer_is ∙ e))

      pub build_counted : Counted depth (length (samples_of pcrPid ps)) n
      build_counted = answers.clock_counted pcrPid depth times places ps shallow room shorter n (sym is.answer_is ∙ e)

      pub build_room : holds n after.times.now after.places.now ≡ true
      build_room =
          rw (is.written.times_are, is.written.places_are) (answers.clock_room pcrPid depth times places ps shallow room shorter n (sym is.answer_is ∙ e))

      pub build_bounded : 188 * count ≤ byte_limit → AllWithin (intervals_in after.times.now after.places.now 0 n)
      build_bounded limit =
          rw (is.written.times_are, is.written.places_are)
          (answers.clock_bounded pcrPid depth times places ps shallow room shorter n (sym is.answer_is ∙ e) (rw (parses_length y l 0 count) limit))
