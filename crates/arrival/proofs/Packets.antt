-- The pass over packets takes their samples, and so builds the clock of document 01 in the work; it writes nowhere else.
use Rattle.std.proofs.Common.{◌≡◌, ℕ, ◌+◌, ◌-◌, ◌*◌, ◌^◌, ◌<◌, ◌≤◌, Bool, true, false, List, [], ◌∷◌, ◌++◌, length, sym, refl, ap, ◌∙◌, arith, length-append, le-leb, Option, Some, None, Result}
use lib.Ieee.{Float}
use Rattle.packet.specs.declared.ClockReference.{ClockReference}
use Rattle.packet.specs.declared.AdaptationField.{AdaptationField}
use Rattle.packet.specs.declared.TsPacket.{TsPacket}
use Rattle.packet.specs.declared.TsError.{TsError}
use Rattle.arrival.specs.declared.Sample.{Sample}
use Rattle.arrival.specs.ArrivalClock.{build}
use Rattle.arrival.specs.Samples.{field_on, Seen, seen_pcr, seen_in, samples_from, samples_of}
use Rattle.arrival.specs.Work.{holds, never}
use Rattle.arrival.specs.Pass.{no_packet, Building, take_sample, take_samples, built_in, Passing, building_of, pass_seen, pass_packet, pass_packets}
use Rattle.arrival.proofs.Build.{Low, samples_build}

-- ---- the samples of packets
seen_pcr_lem : (start : ℕ) (marked : Bool) (pcr : Option ClockReference) → Low (seen_pcr start marked pcr).sample × (length (seen_pcr start marked pcr).sample ≤ 1)
unfolding seen_pcr
seen_pcr_lem start marked None = (tt, omega arith)
seen_pcr_lem start marked (Some r) = ((omega arith, tt), omega arith)

seen_in_lem : (start : ℕ) (pending : Bool) (f : Option AdaptationField) → Low (seen_in start pending f).sample × (length (seen_in start pending f).sample ≤ 1)
unfolding seen_in
seen_in_lem start pending None = (tt, omega arith)
seen_in_lem start pending (Some f) = seen_pcr_lem start _ f.pcr

low_append : (xs ys : List Sample) → Low xs → Low ys → Low (xs ++ ys)
low_append [] ys h g = g
low_append (x ∷ xs) ys h g = (h.0, low_append xs ys h.1 g)

-- each has ticks of a raw PCR, and there are no more samples than packets
pub samples_low : (pcrPid start : ℕ) (pending : Bool) (ps : List (Result TsPacket TsError)) → Low (samples_from pcrPid start pending ps) × (length (samples_from pcrPid start pending ps) ≤ length ps)
unfolding samples_from
samples_low pcrPid start pending [] = (tt, omega arith)
samples_low pcrPid start pending (p ∷ ps) =
    let s = seen_in start pending (field_on pcrPid p) in
    let h = seen_in_lem start pending (field_on pcrPid p) in
    let r = samples_low pcrPid (start + 188) s.pending ps in
    (low_append s.sample _ h.0 r.0, omega (arith, h.1, r.1, length-append s.sample (samples_from pcrPid (start + 188) s.pending ps)))

module _ (pcrPid depth : ℕ) where
  take_append : (xs ys : List Sample) (w : Building) → take_samples depth w (xs ++ ys) ≡ take_samples depth (take_samples depth w xs) ys
  unfolding take_samples
  take_append [] ys w = refl
  take_append (x ∷ xs) ys w = take_append xs ys (take_sample depth w x)

  abbrev seen : Passing → Result TsPacket TsError → Seen
  seen w p = seen_in w.pass.start w.pass.pending_discontinuity (field_on pcrPid p)

  abbrev taken : Passing → Result TsPacket TsError → Building
  taken w p = take_samples depth (building_of w) (seen w p).sample

  abbrev passed : Passing → Result TsPacket TsError → Passing
  passed w p =
      record {
        pass = record { start = w.pass.start + 188; pending_discontinuity = (seen w p).pending; build = (taken w p).build };
        times = (taken w p).times;
        places = (taken w p).places;
      }

  pass_one : (w : Passing) (p : Result TsPacket TsError) → w.pass.start ≤ never - 188 → pass_packet pcrPid depth w p ≡ passed w p
  unfolding pass_packet pass_seen
  pass_one w p h = rw (le-leb w.pass.start (never - 188) h)

  pass_takes : (ps : List (Result TsPacket TsError)) (w : Passing) → w.pass.start + 188 * length ps ≤ never
      → building_of (pass_packets pcrPid depth w ps) ≡ take_samples depth (building_of w) (samples_from pcrPid w.pass.start w.pass.pending_discontinuity ps)
  unfolding pass_packets samples_from take_samples
  pass_takes [] w h = refl
  pass_takes (p ∷ ps) w h =
      ap (λ (x : Passing). building_of (pass_packets pcrPid depth x ps)) (pass_one w p (omega arith))
      ∙ pass_takes ps (passed w p) (omega arith)
      ∙ sym (take_append (seen w p).sample (samples_from pcrPid (w.pass.start + 188) (seen w p).pending ps) (building_of w))

  -- the pass builds the clock of the packets' samples
  pub pass_builds : (times : List Float) (places : List ℕ) (ps : List (Result TsPacket TsError)) → depth ≤ 2 ^ 20 → holds depth times places ≡ true → 188 * length ps < 2 ^ 63
      → built_in depth (building_of (pass_packets pcrPid depth (record { pass = no_packet; times = times; places = places }) ps)) ≡ build depth (samples_of pcrPid ps)
  pass_builds times places ps shallow h small =
      let l = samples_low pcrPid 0 false ps in
      ap (built_in depth) (pass_takes ps (record { pass = no_packet; times = times; places = places }) (omega arith))
      ∙ samples_build depth shallow times places h (samples_of pcrPid ps) l.0 (omega (arith, l.1))
