-- Under document 01's limits every interval of a built clock is within bounds, and so is the arrival time of every byte.
use Rattle.std.proofs.Common.{◌≡◌, ℕ, suc, ◌+◌, ◌-◌, ◌*◌, ◌^◌, ◌≤◌, Bool, true, false, cond, ◌||◌, T, eqb, ltb, leb, List, [], ◌∷◌, ◌++◌, length, refl, ap, arith, ltb-false, leb-false, leb-true, Result, Ok, Err, Option, Some, None}
use borrow.Author.Tests.{eqb-false}
use lib.Ieee.{Float, fin, binary64, of_bits, le, lt, fits}
use lib.Ieee.Fits.{add-fits, sub-fits, cond-fits}
use Rattle.ieee.specs.Binary64.{◌⊕◌, ◌⊖◌, ◌⊘◌, 0f, 1000f, 1000000000f}
use Rattle.ieee.specs.Interval.{In, plain, minus}
use Rattle.ieee.proofs.Interval.{closed_in, widen, widen_low}
use Rattle.ieee.proofs.Growth.{add_at, sub_at, widen_at}
use Rattle.ieee.proofs.Quotient.{div_paced}
use Rattle.ieee.proofs.Whole.{is_in}
use Rattle.error.specs.declared.Refusal.{Refusal}
use Rattle.packet.specs.declared.ClockReference.{ClockReference}
use Rattle.packet.specs.declared.AdaptationField.{AdaptationField}
use Rattle.packet.specs.declared.TsPacket.{TsPacket}
use Rattle.packet.specs.declared.TsError.{TsError}
use Rattle.arrival.specs.declared.RateInterval.{RateInterval}
use Rattle.arrival.specs.declared.Sample.{Sample}
use Rattle.arrival.specs.declared.Anchor.{Anchor}
use Rattle.arrival.specs.declared.Closed.{Closed}
use Rattle.arrival.specs.ArrivalClock.{float, anchor_at, interval_at, step_to, rate_to, stepped, restarted, close, Built, and_then, behind, build_from, build_all, build}
use Rattle.arrival.specs.Times.{advance_to, first, covering, time_of}
use Rattle.arrival.specs.Samples.{field_on, seen_pcr, seen_in, samples_from, samples_of}
use Rattle.arrival.specs.Bounds.{byte_limit, raw_limit, unit, units_of, arrival_limit, InOrder, IntervalWithin, AllWithin}
use Rattle.arrival.proofs.Rates.{float_is, rate_in, step_low, dt_within}

-- so many bytes at a rate within limits
bytes_within : (B : ℕ) {rate : Float} → B ≤ byte_limit → In (plain 1000) rate (plain 1000000000) → In (fin true 0 unit) (float B ⊘ rate) (fin false (units_of B) unit)
unfolding le lt
bytes_within B short r =
    widen_low (fin true 0 unit) (div_paced binary64 17 unit tt tt (is_in (float B) B 0 B (float_is B (omega arith)) (omega arith) (omega arith)) r (omega arith)) tt

-- ---- an anchor
record AnchorWithin (a : Anchor) : Type 0 where
  position_within : a.position ≤ byte_limit
  time_within : In (fin true 0 unit) a.time (fin false (units_of a.position) unit)
  time_fits : T (fits binary64 a.time)
  extended_within : a.extended * 2 ^ 14 ≤ raw_limit * 2 ^ 14 + 459000000 * a.position

-- a time later by the time of the bytes to the next sample
later : {x y : Float} (before B next : ℕ) → In (fin true 0 unit) x (fin false (units_of before) unit) → In (fin true 0 unit) y (fin false (units_of B) unit) → before + B ≤ next → next ≤ byte_limit
    → In (fin true 0 unit) (x ⊕ y) (fin false (units_of next) unit)
later before B next i j h l = widen_at 0 (units_of next) (add_at binary64 unit tt i j (omega arith) (omega arith)) (omega arith) (omega arith)

abbrev RateWithin : Float → Type 0
RateWithin r = In (plain 1000) r (plain 1000000000)

abbrev ClosedWithin : Sample → Result Closed Refusal → Type 0
ClosedWithin s (Ok c) =
    IntervalWithin c.interval × AnchorWithin c.anchor × RateWithin c.anchor.rate × (c.anchor.position ≡ s.position)
ClosedWithin s (Err r) = Unit {0}

interval_within : (a : Anchor) (r : Float) → AnchorWithin a → RateWithin r → IntervalWithin (interval_at a r)
interval_within a r w i =
    record {
      start_within = w.position_within;
      rate_within = i;
      time_within = w.time_within;
      time_fits = w.time_fits;
      extended = a.extended;
      extended_within = omega (arith, w.extended_within, w.position_within);
      offset_is = refl;
      reference_is = refl;
    }

module _ (n : ℕ) (a : Anchor) (s : Sample) (w : AnchorWithin a) (order : a.position ≤ s.position) (end : s.position ≤ byte_limit) (raw : s.ticks ≤ raw_limit) where
  marked_within : RateWithin a.rate → ClosedWithin s (Ok (record { interval = interval_at a a.rate; anchor = restarted a s }))
  marked_within r = (
    interval_within a a.rate w r,
    record {
      position_within = end;
      time_within = later a.position (s.position - a.position) s.position w.time_within (bytes_within (s.position - a.position) (omega arith) r) (omega arith) end;
      time_fits = add-fits binary64 _ _;
      extended_within = omega arith;
    },
    r,
    refl,
  )

  stepped_within : (step_to a s ≡ 0 → ⊥) → (lt (rate_to a s) 1000f || lt 1000000000f (rate_to a s)) ≡ false
      → ClosedWithin s (Ok (record { interval = interval_at a (rate_to a s); anchor = stepped a s }))
  stepped_within z t =
      let B = s.position - a.position in
      let d = step_to a s in
      let r = rate_in B d (omega arith) (omega (arith, z)) (omega arith) t in
      let l = step_low B d (omega arith) (omega (arith, z)) (omega arith) t in (
        interval_within a (rate_to a s) w r,
        record {
          position_within = end;
          time_within = later a.position B s.position w.time_within (dt_within B d (omega arith) (omega (arith, z)) (omega arith) t) (omega arith) end;
          time_fits = add-fits binary64 _ _;
          extended_within = omega (arith, l, w.extended_within);
        },
        r,
        refl,
      )

  close_within : ((n ≡ 1 → ⊥) → RateWithin a.rate) → ClosedWithin s (close n a s)
  unfolding close
  close_within known = by s.marked (eqb n 1) refl (eqb (step_to a s) 0) refl (lt (rate_to a s) 1000f || lt 1000000000f (rate_to a s)) refl
    where
      by : (m o : Bool) → eqb n 1 ≡ o → (z : Bool) → eqb (step_to a s) 0 ≡ z → (r : Bool) → (lt (rate_to a s) 1000f || lt 1000000000f (rate_to a s)) ≡ r
          → ClosedWithin s
          (cond m (cond o (Err (Refusal.DiscontinuityBeforeRate n)) (Ok (record { interval = interval_at a a.rate; anchor = restarted a s })))
          (cond z (Err (Refusal.RepeatedPcr n))
          (cond r (Err (Refusal.RateOutsideLimits n)) (Ok (record { interval = interval_at a (rate_to a s); anchor = stepped a s })))))
      by true true e z f r g = tt
      by true false e z f r g = marked_within (known (eqb-false n 1 e))
      by false o e true f r g = tt
      by false o e false f true g = tt
      by false o e false f false g = stepped_within (eqb-false (step_to a s) 0 f) g

-- ---- a clock
abbrev pub BuiltWithin : Built → Type 0
BuiltWithin (Ok is) = AllWithin is
BuiltWithin (Err r) = Unit {0}

then_within : (i : RateInterval) (b : Built) → IntervalWithin i → BuiltWithin b → BuiltWithin (and_then i b)
then_within i (Ok is) w h = (w, h)
then_within i (Err r) w h = tt

in_order_end : (before : ℕ) (ss : List Sample) → InOrder before ss → before ≤ byte_limit
in_order_end before [] o = o
in_order_end before (s ∷ ss) o = omega (arith, o.0, in_order_end s.position ss o.2)

behind_within : (s : Sample) (x : Result Closed Refusal) (rest : Anchor → Built) → ClosedWithin s x
    → ((a : Anchor) → AnchorWithin a → RateWithin a.rate → a.position ≡ s.position → BuiltWithin (rest a)) → BuiltWithin (behind x rest)
behind_within s (Ok c) rest w again = then_within c.interval (rest c.anchor) w.0 (again c.anchor w.1 w.2 w.3)
behind_within s (Err r) rest w again = tt

from_within : (ss : List Sample) (n : ℕ) (a : Anchor) → AnchorWithin a → ((n ≡ 1 → ⊥) → RateWithin a.rate) → InOrder a.position ss → BuiltWithin (build_from n a ss)
unfolding build_from
from_within [] n a w known o = tt
from_within (s ∷ ss) n a w known o =
    behind_within s (close n a s) (λ b. build_from (n + 1) b ss) (close_within n a s w o.0 (in_order_end s.position ss o.2) o.1 known)
    (λ b v r e. from_within ss (n + 1) b v (λ _. r) (rw e o.2))

first_within : (s : Sample) → s.position ≤ byte_limit → s.ticks ≤ raw_limit → AnchorWithin (anchor_at s)
unfolding of_bits fits le
first_within s h l =
    record {
      position_within = h;
      time_within = widen_at 0 (units_of s.position) (closed_in (fin true 0 unit) 0f (fin false 0 unit) tt) (omega arith) (omega arith);
      time_fits = tt;
      extended_within = omega arith;
    }

cond_within : (t : Bool) (x y : Built) → BuiltWithin x → BuiltWithin y → BuiltWithin (cond t x y)
cond_within true x y p q = p
cond_within false x y p q = q

pub build_within : (depth : ℕ) (ss : List Sample) → InOrder 0 ss → BuiltWithin (build depth ss)
unfolding build
build_within depth ss o = cond_within (ltb depth (length ss)) _ _ tt (cond_within (ltb (length ss) 2) _ _ tt (all ss o))
  where
    all : (ss : List Sample) → InOrder 0 ss → BuiltWithin (build_all ss)
    all [] o = tt
    all (s ∷ ss) o = from_within ss 1 (anchor_at s) (first_within s (in_order_end s.position ss o.2) o.1) (λ f. absurd (f refl)) o.2

-- ---- the samples of a recording
module _ (pcrPid : ℕ) where
  pcr_in_order : (before start : ℕ) (marked : Bool) (pcr : Option ClockReference) (rest : List Sample) → before ≤ start
      → ((b : ℕ) → b ≤ start + 188 → InOrder b rest) → InOrder before ((seen_pcr start marked pcr).sample ++ rest)
  unfolding seen_pcr
  pcr_in_order before start marked None rest h again = again before (omega arith)
  pcr_in_order before start marked (Some r) rest h again = (omega arith, omega arith, again (start + 10) (omega arith))

  seen_in_order : (before start : ℕ) (pending : Bool) (f : Option AdaptationField) (rest : List Sample) → before ≤ start
      → ((b : ℕ) → b ≤ start + 188 → InOrder b rest) → InOrder before ((seen_in start pending f).sample ++ rest)
  unfolding seen_in
  seen_in_order before start pending None rest h again = again before (omega arith)
  seen_in_order before start pending (Some f) rest h again =
      pcr_in_order before start _ f.pcr rest h again

  samples_in_order : (ps : List (Result TsPacket TsError)) (before start : ℕ) (pending : Bool) → before ≤ start → start + 188 * length ps ≤ byte_limit
      → InOrder before (samples_from pcrPid start pending ps)
  unfolding samples_from
  samples_in_order [] before start pending h l = omega arith
  samples_in_order (p ∷ ps) before start pending h l =
      seen_in_order before start pending (field_on pcrPid p) _ h (λ b g. samples_in_order ps b (start + 188) (seen_in start pending (field_on pcrPid p)).pending g (omega arith))

  -- the clock of a recording of 2 ^ 24 bytes at most
  pub clock_within : (depth : ℕ) (ps : List (Result TsPacket TsError)) → 188 * length ps ≤ byte_limit → BuiltWithin (build depth (samples_of pcrPid ps))
  clock_within depth ps l = build_within depth (samples_of pcrPid ps) (samples_in_order ps 0 0 false (omega arith) (omega arith))

-- ---- times
pub covering_within : (p : ℕ) (i : RateInterval) (is : List RateInterval) → AllWithin (i ∷ is) → IntervalWithin (covering p (i ∷ is))
unfolding advance_to
covering_within p i [] w = w.0
covering_within p i (j ∷ is) w = by (covering_within p j is w.1) (leb j.start_pos p)
  where
    by : IntervalWithin (covering p (j ∷ is)) → (t : Bool) → IntervalWithin (first (cond t (advance_to p (j ∷ is)) (i ∷ j ∷ is)))
    by again true = again
    by again false = w.0

module _ (i : RateInterval) (p : ℕ) (w : IntervalWithin i) (l : p ≤ byte_limit) where
  -- the arrival time of a byte of the recording, or of its end
  pub arrival_within : In (minus arrival_limit) (time_of i p) (plain arrival_limit)
  unfolding time_of le
  arrival_within = widen (minus arrival_limit) (plain arrival_limit) (by (leb i.start_pos p) refl) tt
    where
      by : (t : Bool) → leb i.start_pos p ≡ t
          → In (fin true (units_of byte_limit) unit)
          (cond t (i.start_time ⊕ float (p - i.start_pos) ⊘ i.rate) (i.start_time ⊖ float (i.start_pos - p) ⊘ i.rate))
          (fin false (units_of byte_limit) unit)
      by true e =
          let h = leb-true i.start_pos p e in
          widen_at (units_of byte_limit) (units_of byte_limit) (add_at binary64 unit tt w.time_within (bytes_within (p - i.start_pos) (omega arith) w.rate_within) (omega arith) (omega (arith, w.start_within))) (omega arith) (omega (arith, w.start_within))
      by false e =
          let h = leb-false i.start_pos p e in
          widen_at (units_of byte_limit) (units_of byte_limit) (sub_at binary64 unit tt w.time_within (bytes_within (i.start_pos - p) (omega (arith, w.start_within)) w.rate_within) (omega (arith, w.start_within)) (omega (arith, w.start_within))) (omega (arith, w.start_within)) (omega (arith, w.start_within))

  pub arrival_fits : T (fits binary64 (time_of i p))
  unfolding time_of
  arrival_fits = cond-fits binary64 (leb i.start_pos p) _ _ (add-fits binary64 _ _) (sub-fits binary64 _ _)

-- ---- how many intervals
abbrev Counts : ℕ → Built → Type 0
Counts n (Ok is) = length is ≡ n
Counts n (Err r) = Unit {0}

then_counts : (n : ℕ) (i : RateInterval) (b : Built) → Counts n b → Counts (suc n) (and_then i b)
then_counts n i (Ok is) e = ap suc e
then_counts n i (Err r) e = tt

behind_counts : (n : ℕ) (x : Result Closed Refusal) (rest : Anchor → Built) → ((a : Anchor) → Counts n (rest a)) → Counts (suc n) (behind x rest)
behind_counts n (Ok c) rest h = then_counts n c.interval (rest c.anchor) (h c.anchor)
behind_counts n (Err r) rest h = tt

from_counts : (ss : List Sample) (n : ℕ) (a : Anchor) → Counts (length ss) (build_from n a ss)
unfolding build_from
from_counts [] n a = refl
from_counts (s ∷ ss) n a = behind_counts (length ss) (close n a s) (λ b. build_from (n + 1) b ss) (λ b. from_counts ss (n + 1) b)

-- an accepted clock has from 2 to depth samples, and one interval fewer
pub record Counted (depth samples count : ℕ) : Type 0 where
  pub within_depth : samples ≤ depth
  pub two : 2 ≤ samples
  pub one_fewer : count + 1 ≡ samples

pub build_counted : (depth : ℕ) (ss : List Sample) (is : List RateInterval) → build depth ss ≡ Ok is → Counted depth (length ss) (length is)
unfolding build
build_counted depth ss is e = by (ltb depth (length ss)) refl (ltb (length ss) 2) refl ss refl e
  where
    unlike : {r : Refusal} → Err r ≡ Ok is → ⊥
    unlike q = let z : ◌≡◌ {A = ℕ} 0 1 = cc in omega arith

    by : (t : Bool) → ltb depth (length ss) ≡ t → (u : Bool) → ltb (length ss) 2 ≡ u → (xs : List Sample) → ss ≡ xs
        → cond t (Err (Refusal.ClockFull depth)) (cond u (Err Refusal.TooFewPcrs) (build_all xs)) ≡ Ok is
        → Counted depth (length ss) (length is)
    by true g u h xs o q = absurd (unlike q)
    by false g true h xs o q = absurd (unlike q)
    by false g false h [] o q = let z : length ss ≡ 0 = ap length o in absurd (omega (arith, ltb-false (length ss) 2 h))
    by false g false h (s ∷ xs) o q =
        let z : length ss ≡ suc (length xs) = ap length o in
        let c : length is ≡ length xs = rw q at (from_counts xs 1 (anchor_at s)) in
        record { within_depth = ltb-false depth (length ss) g; two = ltb-false (length ss) 2 h; one_fewer = omega arith }
