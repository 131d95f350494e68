-- The clock built sample by sample in lent work, and packet by packet: interval i is stored when its last sample comes.
-- A sample behind a refusal, or past the depth, is only counted.
use Rattle.std.specs.Prelude.{◌≡◌, ℕ, ◌+◌, ◌-◌, ◌*◌, ◌^◌, Bool, false, cond, ◌&&◌, ◌||◌, List, [], ◌∷◌, ◌==◌, nat_le, nat_lt, slice_set, Float, Option, Some, None, Result, Ok, Err, is_some}
use Rattle.ieee.specs.Binary64.{0f}
use Rattle.error.specs.declared.Refusal.{Refusal}
use Rattle.packet.specs.declared.ClockReference.{ClockReference}
use Rattle.packet.specs.declared.TsPacket.{TsPacket}
use Rattle.packet.specs.declared.TsError.{TsError}
use Rattle.arrival.specs.declared.RateInterval.{RateInterval}
use Rattle.arrival.specs.declared.IntervalsMut.{IntervalsMut}
use Rattle.arrival.specs.declared.Sample.{Sample}
use Rattle.arrival.specs.declared.Anchor.{Anchor}
use Rattle.arrival.specs.declared.Closed.{Closed}
use Rattle.arrival.specs.declared.ClockBuild.{ClockBuild}
use Rattle.arrival.specs.declared.ClockPass.{ClockPass}
use Rattle.arrival.specs.ArrivalClock.{Built, anchor_at, close}
use Rattle.arrival.specs.Samples.{Seen, field_on, seen_pcr, seen_in}
use Rattle.arrival.specs.Work.{holds, intervals_in, never}

-- before the first sample, and before the first packet
abbrev pub no_sample : ClockBuild
no_sample = record { samples = 0; anchor = record { position = 0; extended = 0; time = 0f; rate = 0f }; refusal = None }

abbrev pub no_packet : ClockPass
no_packet = record { start = 0; pending_discontinuity = false; build = no_sample }

-- the build, and the work that it stands in
pub record Building : Type 0 where
  pub build : ClockBuild
  pub times : List Float
  pub places : List ℕ

abbrev pub building_in : ClockBuild → IntervalsMut → Building
building_in b i = record { build = b; times = i.times.now; places = i.places.now }

-- an interval stored as number k
unfoldable pub store_times : List Float → ℕ → RateInterval → List Float
store_times times k i =
    slice_set (slice_set (slice_set times (3 * k) i.start_time) (3 * k + 1) i.rate) (3 * k + 2) i.pts_offset

unfoldable pub store_places : List ℕ → ℕ → RateInterval → List ℕ
store_places places k i = slice_set (slice_set places (2 * k) i.start_pos) (2 * k + 1) i.pcr_ref_90k

-- one sample more
abbrev pub counted_with : ClockBuild → Anchor → Option Refusal → ClockBuild
counted_with b a refusal = record { samples = b.samples + 1; anchor = a; refusal = refusal }

abbrev pub counted : Building → Anchor → Building
counted w a = record { build = counted_with w.build a w.build.refusal; times = w.times; places = w.places }

-- by what the sample gave: the interval is stored, or the refusal is kept
unfoldable pub closed_by : Building → Result Closed Refusal → Building
closed_by w (Ok c) =
    record {
      build = counted_with w.build c.anchor w.build.refusal;
      times = store_times w.times (w.build.samples - 1) c.interval;
      places = store_places w.places (w.build.samples - 1) c.interval;
    }
closed_by w (Err r) =
    record { build = counted_with w.build w.build.anchor (Some r); times = w.times; places = w.places }

-- the numbers stay within 64 bits
unfoldable pub in_range : ClockBuild → Sample → Bool
in_range b s = nat_lt s.ticks (2 ^ 63) && nat_lt b.samples (2 ^ 63) && nat_lt b.anchor.extended (2 ^ 63)

-- unchanged where a number does not fit, or the work is too short for as many intervals as the depth
unfoldable pub take_sample : ℕ → Building → Sample → Building
take_sample depth w s =
    cond (in_range w.build s && holds depth w.times w.places)
    (cond (w.build.samples == 0) (counted w (anchor_at s))
    (cond (is_some w.build.refusal || nat_le depth w.build.samples) (counted w w.build.anchor)
    (closed_by w (close w.build.samples w.build.anchor s))))
    w

unfoldable pub take_samples : ℕ → Building → List Sample → Building
take_samples depth w [] = w
take_samples depth w (s ∷ ss) = take_samples depth (take_sample depth w s) ss

-- the answer at the end: number 8 before 5 before the first of 6, 7 and 9; else how many intervals there are
abbrev pub unless_refused : Option Refusal → ℕ → Result ℕ Refusal
unless_refused None n = Ok n
unless_refused (Some r) n = Err r

unfoldable pub answer_of : ℕ → ClockBuild → Result ℕ Refusal
answer_of depth b =
    cond (nat_lt depth b.samples) (Err (Refusal.ClockFull depth))
    (cond (nat_lt b.samples 2) (Err Refusal.TooFewPcrs)
    (unless_refused b.refusal (b.samples - 1)))

-- what a building has come to: the intervals that stand in the work, or a refusal
abbrev pub built_by : Result ℕ Refusal → Building → Built
built_by (Ok n) w = Ok (intervals_in w.times w.places 0 n)
built_by (Err r) w = Err r

abbrev pub built_in : ℕ → Building → Built
built_in depth w = built_by (answer_of depth w.build) w

-- ---- packets
-- the pass, and the work that it stands in
pub record Passing : Type 0 where
  pub pass : ClockPass
  pub times : List Float
  pub places : List ℕ

abbrev pub passing_in : ClockPass → IntervalsMut → Passing
passing_in p i = record { pass = p; times = i.times.now; places = i.places.now }

abbrev pub building_of : Passing → Building
building_of w = record { build = w.pass.build; times = w.times; places = w.places }

-- a packet passed with what was seen in it; unchanged where the next packet would have no position
unfoldable pub pass_seen : ℕ → Passing → Seen → Passing
pass_seen depth w seen =
    let b = take_samples depth (building_of w) seen.sample in
    cond (nat_le w.pass.start (never - 188))
    (record {
      pass = record { start = w.pass.start + 188; pending_discontinuity = seen.pending; build = b.build };
      times = b.times;
      places = b.places;
    })
    w

-- a packet that does not speak of the clock
unfoldable pub other_packet : ClockPass → ClockPass
other_packet p =
    cond (nat_le p.start (never - 188))
    (record { start = p.start + 188; pending_discontinuity = p.pending_discontinuity; build = p.build })
    p

-- a packet on the PCR PID, by its adaptation field
abbrev pub pass_field : ℕ → Passing → Bool → Option ClockReference → Passing
pass_field depth w discontinuity pcr =
    pass_seen depth w (seen_pcr w.pass.start (w.pass.pending_discontinuity || discontinuity) pcr)

unfoldable pub pass_packet : ℕ → ℕ → Passing → Result TsPacket TsError → Passing
pass_packet pcrPid depth w p =
    pass_seen depth w (seen_in w.pass.start w.pass.pending_discontinuity (field_on pcrPid p))

unfoldable pub pass_packets : ℕ → ℕ → Passing → List (Result TsPacket TsError) → Passing
pass_packets pcrPid depth w [] = w
pass_packets pcrPid depth w (p ∷ ps) = pass_packets pcrPid depth (pass_packet pcrPid depth w p) ps

-- ---- what a contract says: the answer, and what the work then holds
-- the slices are the caller's own still
pub record SameSlices (before after : IntervalsMut) : Type 0 where
  pub same_times : after.times.ghost_name ≡ before.times.ghost_name
  pub same_places : after.places.ghost_name ≡ before.places.ghost_name
  pub same_depth : after.depth ≡ before.depth

pub record Written (times : List Float) (places : List ℕ) (before after : IntervalsMut) : Type 0 where
  pub times_are : after.times.now ≡ times
  pub places_are : after.places.now ≡ places
  pub same : SameSlices before after

pub record Builds (w : Building) (build : ClockBuild) (before after : IntervalsMut) : Type 0 where
  pub build_is : build ≡ w.build
  pub written : Written w.times w.places before after

pub record Passes (w : Passing) (pass : ClockPass) (before after : IntervalsMut) : Type 0 where
  pub pass_is : pass ≡ w.pass
  pub written : Written w.times w.places before after
