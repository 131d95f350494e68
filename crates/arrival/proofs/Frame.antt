-- The pass writes only where its intervals stand: the first 3 * depth floats, and the first 2 * depth numbers.
use Rattle.std.proofs.Common.{◌≡◌, ℕ, ◌+◌, ◌-◌, ◌*◌, ◌<◌, Bool, true, false, cond, ◌&&◌, ◌||◌, eqb, leb, List, [], ◌∷◌, length, drop, set, refl, ◌∙◌, arith, length-set, drop-set-lt, Result, Ok, Err, is_some}
use lib.Ieee.{Float}
use Rattle.error.specs.declared.Refusal.{Refusal}
use Rattle.packet.specs.declared.TsPacket.{TsPacket}
use Rattle.packet.specs.declared.TsError.{TsError}
use Rattle.arrival.specs.declared.Sample.{Sample}
use Rattle.arrival.specs.declared.Closed.{Closed}
use Rattle.arrival.specs.ArrivalClock.{anchor_at, close}
use Rattle.arrival.specs.Samples.{Seen, field_on, seen_in}
use Rattle.arrival.specs.Work.{holds, never}
use Rattle.arrival.specs.Pass.{Building, store_times, store_places, counted, closed_by, in_range, take_sample, take_samples, Passing, building_of, pass_seen, pass_packet, pass_packets}

-- two stores side by side
module _ {A : Type 0} (n : ℕ) (l : List A) (p : ℕ) (a b : A) where
  drop_pair : p + 1 < n → drop n (set (set l p a) (p + 1) b) ≡ drop n l
  drop_pair h = drop-set-lt n (set l p a) (p + 1) b h ∙ drop-set-lt n l p a (omega arith)

module _ (depth : ℕ) where
  -- w' has the work of w but where the intervals stand
  pub record Keeps (times : List Float) (places : List ℕ) (times' : List Float) (places' : List ℕ) : Type 0 where
    pub times_length : length times' ≡ length times
    pub places_length : length places' ≡ length places
    pub behind : drop (3 * depth) times' ≡ drop (3 * depth) times
    pub places_behind : drop (2 * depth) places' ≡ drop (2 * depth) places

  keeps_all : (times : List Float) (places : List ℕ) → Keeps times places times places
  keeps_all times places = record { times_length = refl; places_length = refl; behind = refl; places_behind = refl }

  keeps_on : {t u v : List Float} {p q r : List ℕ} → Keeps t p u q → Keeps u q v r → Keeps t p v r
  keeps_on a b =
      record {
        times_length = b.times_length ∙ a.times_length;
        places_length = b.places_length ∙ a.places_length;
        behind = b.behind ∙ a.behind;
        places_behind = b.places_behind ∙ a.places_behind;
      }

  abbrev KeepsWork : Building → Building → Type 0
  KeepsWork w v = Keeps w.times w.places v.times v.places

  closed_keeps : (w : Building) (x : Result Closed Refusal) → w.build.samples < depth → KeepsWork w (closed_by w x)
  unfolding closed_by store_times store_places
  closed_keeps w (Ok c) h =
      let at : ℕ = 3 * (w.build.samples - 1) in
      let end : ℕ = 3 * depth in
      record {
        times_length = simp length-set;
        places_length = simp length-set;
        behind =
            drop-set-lt end (set (set w.times at c.interval.start_time) (at + 1) c.interval.rate) (at + 2) c.interval.pts_offset (omega arith)
            ∙ drop_pair end w.times at c.interval.start_time c.interval.rate (omega arith);
        places_behind = drop_pair (2 * depth) w.places (2 * (w.build.samples - 1)) c.interval.start_pos c.interval.pcr_ref_90k (omega arith);
      }
  closed_keeps w (Err r) h = keeps_all w.times w.places

  sample_keeps : (w : Building) (s : Sample) → KeepsWork w (take_sample depth w s)
  unfolding take_sample
  sample_keeps w s =
      by (in_range w.build s && holds depth w.times w.places) (eqb w.build.samples 0) (is_some w.build.refusal || leb depth w.build.samples) refl
    where
      by : (t z r : Bool) → (is_some w.build.refusal || leb depth w.build.samples) ≡ r
          → KeepsWork w (cond t (cond z (counted w (anchor_at s)) (cond r (counted w w.build.anchor) (closed_by w (close w.build.samples w.build.anchor s)))) w)
      by true true r e = keeps_all w.times w.places
      by true false true e = keeps_all w.times w.places
      by true false false e = closed_keeps w _ (grind arith)
      by false z r e = keeps_all w.times w.places

  pub samples_keep : (ss : List Sample) (w : Building) → KeepsWork w (take_samples depth w ss)
  unfolding take_samples
  samples_keep [] w = keeps_all w.times w.places
  samples_keep (s ∷ ss) w = keeps_on (sample_keeps w s) (samples_keep ss (take_sample depth w s))

  seen_keeps : (w : Passing) (seen : Seen) → Keeps w.times w.places (pass_seen depth w seen).times (pass_seen depth w seen).places
  unfolding pass_seen
  seen_keeps w seen = by (leb w.pass.start (never - 188))
    where
      passed : Passing
      passed = record { pass = record { start = w.pass.start + 188; pending_discontinuity = seen.pending; build = (take_samples depth (building_of w) seen.sample).build }; times = (take_samples depth (building_of w) seen.sample).times; places = (take_samples depth (building_of w) seen.sample).places }

      by : (t : Bool) → Keeps w.times w.places (cond t passed w).times (cond t passed w).places
      by true = samples_keep seen.sample (building_of w)
      by false = keeps_all w.times w.places

  pub packets_keep : (pcrPid : ℕ) (ps : List (Result TsPacket TsError)) (w : Passing)
      → Keeps w.times w.places (pass_packets pcrPid depth w ps).times (pass_packets pcrPid depth w ps).places
  unfolding pass_packets pass_packet
  packets_keep pcrPid [] w = keeps_all w.times w.places
  packets_keep pcrPid (p ∷ ps) w =
      keeps_on (seen_keeps w (seen_in w.pass.start w.pass.pending_discontinuity (field_on pcrPid p))) (packets_keep pcrPid ps (pass_packet pcrPid depth w p))
