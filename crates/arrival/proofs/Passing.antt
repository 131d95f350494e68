-- Packets by what their bytes say: passing one that does not speak of the clock changes the start alone, and one on the PCR PID with a
-- field passes by that field.
use Rattle.std.proofs.Common.{◌≡◌, ℕ, ◌+◌, ◌-◌, Bool, true, false, cond, leb, List, [], refl, eq-eqb, ne_eqb, Option, Err, None, Some, Result, Ok}
use lib.Ieee.{Float}
use Rattle.packet.specs.declared.AdaptationField.{AdaptationField}
use Rattle.packet.specs.declared.TsPacket.{TsPacket}
use Rattle.packet.specs.declared.TsError.{TsError}
use Rattle.arrival.specs.declared.ClockPass.{ClockPass}
use Rattle.arrival.specs.Samples.{field_on, Seen, seen_in}
use Rattle.arrival.specs.Work.{never}
use Rattle.arrival.specs.declared.IntervalsMut.{IntervalsMut}
use Rattle.arrival.specs.Pass.{take_samples, Passing, pass_seen, other_packet, pass_field, pass_packet, Passes}

-- ---- which field
module _ (pcrPid : ℕ) {p : Result TsPacket TsError} where
  pub field_unparsed : {why : TsError} → p ≡ Err why → field_on pcrPid p ≡ None
  unfolding field_on
  field_unparsed e = rw e

  module _ {h : TsPacket} (e : p ≡ Ok h) where
    pub field_elsewhere : (h.pid ≡ pcrPid → ⊥) → field_on pcrPid p ≡ None
    unfolding field_on
    field_elsewhere n = rw (e, ne_eqb h.pid pcrPid n)

    pub field_here : {f : Option AdaptationField} → h.pid ≡ pcrPid → h.adaptation_field ≡ f → field_on pcrPid p ≡ f
    unfolding field_on
    field_here g k = rw (e, eq-eqb h.pid pcrPid g, k)

-- ---- a packet
module _ (depth : ℕ) (b : ClockPass) (times : List Float) (places : List ℕ) where
  abbrev w : Passing
  w = record { pass = b; times = times; places = places }

  other_passed : (seen : Seen) → seen ≡ record { pending = b.pending_discontinuity; sample = [] }
      → pass_seen depth w seen ≡ record { pass = other_packet b; times = times; places = places }
  unfolding pass_seen other_packet take_samples
  other_passed seen e = rw e (by (leb b.start (never - 188)))
    where
      by : (t : Bool)
          → cond t (record { pass = record { start = b.start + 188; pending_discontinuity = b.pending_discontinuity; build = b.build }; times = times; places = places }) w
          ≡ record { pass = cond t (record { start = b.start + 188; pending_discontinuity = b.pending_discontinuity; build = b.build }) b; times = times; places = places }
      by true = refl
      by false = refl

  -- one that does not speak of the clock
  pub other_passes : (pcrPid : ℕ) (p : Result TsPacket TsError) → field_on pcrPid p ≡ None
      → pass_packet pcrPid depth w p ≡ record { pass = other_packet b; times = times; places = places }
  unfolding pass_packet seen_in
  other_passes pcrPid p e = rw (e, other_passed _ refl) refl

  -- one on the PCR PID with a field
  pub field_passed : (pcrPid : ℕ) (p : Result TsPacket TsError) {f : AdaptationField} → field_on pcrPid p ≡ Some f
      → pass_packet pcrPid depth w p ≡ pass_field depth w f.discontinuity_indicator f.pcr
  unfolding pass_packet seen_in
  field_passed pcrPid p e = rw e refl

  pub field_passes : (pcrPid : ℕ) (p : Result TsPacket TsError) (r : ClockPass) (before after : IntervalsMut) {f : AdaptationField}
      → field_on pcrPid p ≡ Some f
      → Passes (pass_field depth w f.discontinuity_indicator f.pcr) r before after → Passes (pass_packet pcrPid depth w p) r before after
  field_passes pcrPid p r before after e g = rw (field_passed pcrPid p e) g
