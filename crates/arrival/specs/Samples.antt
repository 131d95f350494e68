-- The PCR samples of a recording (pass 1 of the Rust's `analyze_tstd`): the PCRs on the PCR PID with their positions and
-- discontinuity marks. Packets count as 188 bytes, those that did not parse too.
use Rattle.std.specs.Prelude.{ℕ, ◌+◌, ◌*◌, ◌%◌, ◌^◌, Bool, false, cond, ◌||◌, List, [], ◌∷◌, ◌++◌, ◌==◌, Option, Some, None, Result, Ok, Err}
use Rattle.packet.specs.declared.ClockReference.{ClockReference}
use Rattle.packet.specs.declared.AdaptationField.{AdaptationField}
use Rattle.packet.specs.declared.TsPacket.{TsPacket}
use Rattle.packet.specs.declared.TsError.{TsError}
use Rattle.arrival.specs.declared.Sample.{Sample}

-- program_clock_reference_base has 33 bits, program_clock_reference_extension nine
abbrev pub ticks_of : ClockReference → ℕ
ticks_of r = r.base % 2 ^ 33 * 300 + r.extension % 2 ^ 9

-- the adaptation field of a packet on the PCR PID
unfoldable pub field_on : ℕ → Result TsPacket TsError → Option AdaptationField
field_on pcrPid (Ok p) = cond (p.pid == pcrPid) p.adaptation_field None
field_on pcrPid (Err e) = None

-- a packet's sample, if it has one, and whether a discontinuity mark waits for the next
pub record Seen : Type 0 where
  pub pending : Bool
  pub sample : List Sample

-- the PCR is 10 bytes behind the packet's start: the byte with the last bit of its base
unfoldable pub seen_pcr : ℕ → Bool → Option ClockReference → Seen
seen_pcr start marked None = record { pending = marked; sample = [] }
seen_pcr start marked (Some r) =
    record { pending = false; sample = record { position = start + 10; ticks = ticks_of r; marked = marked } ∷ [] }

unfoldable pub seen_in : ℕ → Bool → Option AdaptationField → Seen
seen_in start pending None = record { pending = pending; sample = [] }
seen_in start pending (Some f) = seen_pcr start (pending || f.discontinuity_indicator) f.pcr

-- the packets from the one at a position on
unfoldable pub samples_from : ℕ → ℕ → Bool → List (Result TsPacket TsError) → List Sample
samples_from pcrPid start pending [] = []
samples_from pcrPid start pending (p ∷ ps) =
    (seen_in start pending (field_on pcrPid p)).sample
    ++ samples_from pcrPid (start + 188) (seen_in start pending (field_on pcrPid p)).pending ps

abbrev pub samples_of : ℕ → List (Result TsPacket TsError) → List Sample
samples_of pcrPid packets = samples_from pcrPid 0 false packets
