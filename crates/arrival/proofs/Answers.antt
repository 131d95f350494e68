-- What a caller has once all packets are passed: the answer is that of `build`, and an accepted clock stands in the work, where
-- the cursor finds it, within bounds.
use Rattle.std.proofs.Common.{◌≡◌, ℕ, zero, suc, ◌+◌, ◌*◌, ◌^◌, ◌<◌, ◌≤◌, true, List, length, sym, refl, ap, ◌∙◌, arith, Result, Ok, Err}
use lib.Ieee.{Float}
use Rattle.error.specs.declared.Refusal.{Refusal}
use Rattle.packet.specs.declared.TsPacket.{TsPacket}
use Rattle.packet.specs.declared.TsError.{TsError}
use Rattle.arrival.specs.ArrivalClock.{Built, build}
use Rattle.arrival.specs.Samples.{samples_of}
use Rattle.arrival.specs.Work.{holds, intervals_in}
use Rattle.arrival.specs.Bounds.{byte_limit, AllWithin}
use Rattle.arrival.specs.Pass.{no_packet, answer_of, built_by, Passing, building_of, pass_packets}
use Rattle.arrival.proofs.Cursors.{holds_room, room_holds}
use Rattle.arrival.proofs.Packets.{pass_builds}
use Rattle.arrival.proofs.Frame.{packets_keep}
use Rattle.arrival.proofs.Within.{clock_within, Counted, build_counted}

intervals_length : (times : List Float) (places : List ℕ) (i n : ℕ) → length (intervals_in times places i n) ≡ n
unfolding intervals_in
intervals_length times places i zero = refl
intervals_length times places i (suc n) = ap suc (intervals_length times places (i + 1) n)

module _ (pcrPid depth : ℕ) (times : List Float) (places : List ℕ) (ps : List (Result TsPacket TsError))
    (shallow : depth ≤ 2 ^ 20) (room : holds depth times places ≡ true) (short : 188 * length ps < 2 ^ 63) where
  abbrev pub passed : Passing
  passed = pass_packets pcrPid depth (record { pass = no_packet; times = times; places = places }) ps

  abbrev built : Built
  built = build depth (samples_of pcrPid ps)

  pub refused_is : {r : Refusal} → answer_of depth passed.pass.build ≡ Err r → built ≡ Err r
  refused_is e = sym (pass_builds pcrPid depth times places ps shallow room short) ∙ ap (λ (a : Result ℕ Refusal). built_by a (building_of passed)) e

  module _ (n : ℕ) (e : answer_of depth passed.pass.build ≡ Ok n) where
    pub clock_is : built ≡ Ok (intervals_in passed.times passed.places 0 n)
    clock_is = sym (pass_builds pcrPid depth times places ps shallow room short) ∙ ap (λ (a : Result ℕ Refusal). built_by a (building_of passed)) e

    -- 2 to depth samples, and n intervals, one fewer
    pub clock_counted : Counted depth (length (samples_of pcrPid ps)) n
    clock_counted = rw (intervals_length passed.times passed.places 0 n) at (build_counted depth (samples_of pcrPid ps) _ clock_is)

    pub clock_room : holds n passed.times passed.places ≡ true
    clock_room =
        let k = packets_keep depth pcrPid ps (record { pass = no_packet; times = times; places = places }) in
        let r = holds_room depth times places room in
        let c = clock_counted in
        room_holds n passed.times passed.places
        (record { of_times = omega (arith, r.of_times, k.times_length, c.within_depth, c.one_fewer); of_places = omega (arith, r.of_places, k.places_length, c.within_depth, c.one_fewer) })

    pub clock_bounded : 188 * length ps ≤ byte_limit → AllWithin (intervals_in passed.times passed.places 0 n)
    clock_bounded l = rw clock_is at (clock_within pcrPid depth ps l)
