-- The FIFO's figures stay within bounds (specs/Bounds): `new` gives a bounded FIFO, and a push keeps it so. Assumes nothing.
use Rattle.std.proofs.Common.{◌≡◌, ℕ, ◌+◌, ◌*◌, ◌^◌, ◌<◌, ◌≤◌, Bool, true, false, T, ℤ, pos, negsuc, refl, inl, inr, ⊎_elim, zero-le, le_trans as nat-trans, le_refl as nat-refl, lt_of_le_of_lt, mul-le-mul_right, arith, lit<, lit≤}
use lib.Ieee.{Float, nan, inf, fin, binary64, of_bits, of_int, add, sub, mul, div, lt, le, eq, fits, up, down, to_unsigned}
use lib.Ieee.Fits.{add-fits, sub-fits, mul-fits, div-fits}
use lib.Ieee.Scale.{finite}
use Rattle.ieee.specs.MaxMin.{max_of}
use Rattle.ieee.specs.Interval.{In, plain, minus, zero_float}
use Rattle.ieee.specs.Progress.{Over}
use Rattle.ieee.proofs.Value.{val→le}
use Rattle.ieee.proofs.Order.{le_trans, lt_of_lt_of_le}
use Rattle.ieee.proofs.Interval.{in_finite, in_self, widen, widen_low, widen_high, closed_in, sub_in, mul_in, div_in}
use Rattle.ieee.proofs.MaxMin.{max_in, max_ge_l, max_ge_r}
use Rattle.ieee.proofs.Whole.{of_int_is, is_in, is_le, plain_is}
use Rattle.ieee.proofs.Truncation.{truncation_le}
use Rattle.ieee.proofs.Growth.{add_at, sub_at}
use Rattle.ieee.proofs.Progress.{progress, over_lt}
use Rattle.ieee.specs.Binary64.{0f, 8f}
use Rattle.fifo.specs.FluidFifo.{new, exit_start, exit_end, backlog_at_t1, never_busy, idle_before, busy_since, longest_before, fed, pushed}
use Rattle.fifo.specs.Bounds.{arrival_limit, byte_time, byte_limit, peak_limit, shortest_span, latest_end, longest_stretch, ArrivalTime, Arrival, Unused, Used, Bounded, Window}
use Rattle.fifo.specs.declared.FluidFifo.{FluidFifo}
use Rattle.ieee.proofs.MaxMin.{max_fits, max_keeps}
use Rattle.ieee.proofs.Quotient.{div_paced, sub_gap}
use Rattle.fifo.proofs.Stretch.{Stretch, at_first, after_gap, without_gap}

-- the bounds are whole numbers of 2^-14 s
abbrev grid : ℤ
grid = negsuc 13

abbrev early : Float
early = fin true (arrival_limit * 2 ^ 14) grid

-- a larger bound
higher : {lo x : Float} {e : ℤ} {a : ℕ} (b : ℕ) → In lo x (fin false a e) → a ≤ b → In lo x (fin false b e)
higher {lo} {x} {e} {a} b i h =
    record {
      low_finite = i.low_finite;
      high_finite = tt;
      low = i.low;
      high = le_trans x (fin false a e) (fin false b e) (in_finite i) tt tt i.high
          (val→le (fin false a e) (fin false b e) tt tt (omega (arith, mul-le-mul_right (down e) (mul-le-mul_right (up e) h))));
    }

-- the bounds as closed ones
pub latest_most : (n : ℕ) {lo x : Float} → n ≤ byte_limit → In lo x (latest_end n) → In lo x (plain 34818)
unfolding le
latest_most n h i = widen_high (plain 34818) (higher (arrival_limit * 2 ^ 14 + byte_time * byte_limit) i (omega arith)) tt

pub latest_recording : (n : ℕ) {lo x : Float} → n ≤ 2 ^ 24 → In lo x (latest_end n) → In lo x (plain 34816)
unfolding le
latest_recording n h i = widen_high (plain 34816) (higher (arrival_limit * 2 ^ 14 + byte_time * 2 ^ 24) i (omega arith)) tt

pub longest_recording : (n : ℕ) {lo x : Float} → n ≤ 2 ^ 24 → In lo x (longest_stretch n) → In lo x (plain 52224)
unfolding le
longest_recording n h i = widen_high (plain 52224) (higher (2 * arrival_limit * 2 ^ 14 + byte_time * 2 ^ 24) i (omega arith)) tt

pub peak_below : {n : ℕ} {f : FluidFifo} → Bounded n f → to_unsigned 64 f.peak < 2 ^ 44
peak_below b = lt_of_le_of_lt (truncation_le 64 peak_limit b.peak) (lit< tt)

-- an arrival's time against the latest end
arrived : (n : ℕ) {t : Float} → ArrivalTime t → In (minus arrival_limit) t (latest_end n)
unfolding le
arrived n i = higher (arrival_limit * 2 ^ 14 + byte_time * n) (widen_high (fin false (arrival_limit * 2 ^ 14) grid) i tt) (omega arith)

-- ---- the busy stretch
finite_some : (x : Float) → T (finite x) → eq x (inf true) ≡ false
unfolding eq
finite_some nan p = absurd p
finite_some (inf s) p = absurd p
finite_some (fin s m e) p = refl

-- a stretch from s to a, beside the longest so far
longer :
    (n : ℕ) {x a s : Float} → n ≤ byte_limit → In (plain 0) x (longest_stretch n) → In (minus arrival_limit) a (latest_end n) → ArrivalTime s →
    In (plain 0) (max_of x (sub binary64 a s)) (longest_stretch n)
unfolding le
longer n h i j k =
    max_keeps i
    (higher (2 * arrival_limit * 2 ^ 14 + byte_time * n)
    (sub_at binary64 grid tt (widen_low early j tt) (widen early (fin false (arrival_limit * 2 ^ 14) grid) k tt) (lit≤ tt) (omega arith)) (omega arith))

record Opened (n : ℕ) (f : FluidFifo) (t0 : Float) : Type 0 where
  since : ArrivalTime (busy_since f t0)
  since_fits : T (fits binary64 (busy_since f t0))
  before : In (plain 0) (longest_before f t0) (longest_stretch n)
  before_fits : T (fits binary64 (longest_before f t0))

opened_by :
    {n : ℕ} {f : FluidFifo} {t0 since before : Float} → Stretch f t0 since before → ArrivalTime since → T (fits binary64 since) →
    In (plain 0) before (longest_stretch n) → T (fits binary64 before) → Opened n f t0
opened_by s i p j q = record { since = rw s.since_is i; since_fits = rw s.since_is p; before = rw s.longest_is j; before_fits = rw s.longest_is q }

module _ (n : ℕ) (f : FluidFifo) (t0 : Float) (b : Bounded n f) (i : ArrivalTime t0) (p : T (fits binary64 t0)) where
  opened_used : Used n f → (g : Bool) → idle_before f t0 ≡ g → Opened n f t0
  opened_used u true e =
      opened_by (after_gap f t0 (finite_some f.busy_since (in_finite u.since)) e) i p (longer n b.few b.longest_busy u.done u.since)
      (max_fits binary64 f.longest_busy (sub binary64 f.virtual_done f.busy_since) b.longest_fits (sub-fits binary64 f.virtual_done f.busy_since))
  opened_used u false e =
      opened_by (without_gap f t0 (finite_some f.busy_since (in_finite u.since)) e) u.since b.since_fits b.longest_busy b.longest_fits

  first : f.busy_since ≡ inf true → never_busy f ≡ true
  unfolding eq
  first e = rw e

  opened : Opened n f t0
  opened =
      ⊎_elim (λ (u : Unused f). opened_by (at_first f t0 (first u.since)) i p b.longest_busy b.longest_fits)
      (λ (u : Used n f). opened_used u (idle_before f t0) refl) b.busy

-- ---- a new FIFO
pub new_bounded : (rateBps : ℕ) → 8000 ≤ rateBps → rateBps ≤ 1000000000 → Bounded 0 (new rateBps)
unfolding new of_bits le lt div fits
new_bounded rateBps h k =
    record {
      few = zero-le;
      rate = div_in binary64 (plain 1000) (plain 125000000)
          (is_in (of_int binary64 (pos rateBps)) rateBps 8000 1000000000 (of_int_is binary64 rateBps (nat-trans k (lit≤ tt))) h k) (closed_in (plain 8) 8f (plain 8) tt) tt;
      busy = inl (record { done = refl; since = refl });
      peak = closed_in (plain 0) 0f (plain peak_limit) tt;
      longest_busy = closed_in (plain 0) 0f (longest_stretch 0) tt;
      rate_fits = div-fits binary64 (of_int binary64 (pos rateBps)) 8f;
      done_fits = tt;
      since_fits = tt;
      peak_fits = tt;
      longest_fits = tt;
    }

-- ---- a push
module _ (n k : ℕ) (f : FluidFifo) (t0 t1 bytes : Float) (b : Bounded n f) (a : Arrival k t0 t1 bytes) (few : n + k ≤ byte_limit) where
  -- the bytes leave in so many seconds, by that time
  abbrev drain_time : Float
  drain_time = div binary64 bytes f.rate

  abbrev drained_at : Float
  drained_at = add binary64 (exit_start f t0) drain_time

  done_high : T (le f.virtual_done (latest_end n))
  unfolding le
  done_high = ⊎_elim (λ (u : Unused f). rw u.done tt) (λ (u : Used n f). u.done.high) b.busy

  done_self : T (le f.virtual_done f.virtual_done)
  unfolding le
  done_self = ⊎_elim (λ (u : Unused f). rw u.done tt) (λ (u : Used n f). in_self u.done) b.busy

  start_in : In (minus arrival_limit) (exit_start f t0) (latest_end n)
  unfolding exit_start
  start_in = max_in f.virtual_done done_high (arrived n a.start)

  start_fits : T (fits binary64 (exit_start f t0))
  unfolding exit_start
  start_fits = max_fits binary64 f.virtual_done t0 b.done_fits a.start_fits

  drain_in : In zero_float drain_time (fin false (byte_time * k) grid)
  unfolding lt
  drain_in = div_paced binary64 byte_time grid tt tt (is_in bytes k 0 k a.whole zero-le (nat-refl k)) b.rate (omega arith)

  drained_in : In (minus arrival_limit) drained_at (latest_end (n + k))
  unfolding le
  drained_in =
      widen_low (minus arrival_limit)
      (higher (arrival_limit * 2 ^ 14 + byte_time * (n + k))
      (add_at binary64 grid tt (widen_low early start_in tt) (widen_low (fin true 0 grid) drain_in tt) (lit≤ tt) (omega arith)) (omega arith)) tt

  t1_in : In (minus arrival_limit) t1 (latest_end (n + k))
  t1_in = arrived (n + k) a.end

  end_in : In (minus arrival_limit) (exit_end f t0 t1 bytes) (latest_end (n + k))
  unfolding exit_end
  end_in = max_in t1 t1_in.high drained_in

  end_fits : T (fits binary64 (exit_end f t0 t1 bytes))
  unfolding exit_end
  end_fits = max_fits binary64 t1 drained_at a.end_fits (add-fits binary64 (exit_start f t0) drain_time)

  drained_end : T (le drained_at (exit_end f t0 t1 bytes))
  unfolding exit_end
  drained_end = max_ge_r t1 drained_at (in_self a.end) (in_self drained_in)

  t1_end : T (le t1 (exit_end f t0 t1 bytes))
  unfolding exit_end
  t1_end = max_ge_l t1 drained_at (in_self a.end)

  done_start : T (le f.virtual_done (exit_start f t0))
  unfolding exit_start
  done_start = max_ge_l f.virtual_done t0 done_self

  t0_start : T (le t0 (exit_start f t0))
  unfolding exit_start
  t0_start = max_ge_r f.virtual_done t0 done_self (in_self a.start)

  -- one byte takes 8e-9 s at least, and a time's rounding is 2^-37 s at most
  drain_some : In (fin false 1025 (negsuc 36)) drain_time (plain 16779)
  unfolding div le lt
  drain_some = div_in binary64 (fin false 1025 (negsuc 36)) (plain 16779) (is_in bytes k 1 byte_limit a.whole a.some (omega arith)) b.rate tt

  start_most : In (minus 34818) (exit_start f t0) (plain 34818)
  unfolding le
  start_most = widen_low (minus 34818) (latest_most n b.few start_in) tt

  over : Over (exit_start f t0) shortest_span drained_at
  over = progress binary64 16 34818 16779 shortest_span start_most drain_some tt

  end_most : In (minus arrival_limit) (exit_end f t0 t1 bytes) (plain 34818)
  end_most = latest_most (n + k) few end_in

  span_in : In shortest_span (sub binary64 (exit_end f t0 t1 bytes) (exit_start f t0)) (plain 52226)
  unfolding sub le fits
  span_in =
      let w = sub_in binary64 (minus 69636) (plain 52226) end_most (latest_most n b.few start_in) tt in
      record {
        low_finite = tt;
        high_finite = tt;
        low = sub_gap binary64 shortest_span (exit_end f t0 t1 bytes) tt tt (in_finite start_in) (in_finite drained_in) (in_finite end_in) over drained_end;
        high = w.high;
      }

  start_end : T (lt (exit_start f t0) (exit_end f t0 t1 bytes))
  start_end =
      lt_of_lt_of_le (exit_start f t0) drained_at (exit_end f t0 t1 bytes) (in_finite start_in) (in_finite drained_in) (in_finite end_in)
      (over_lt 27 shortest_span (in_finite start_in) (in_finite drained_in) tt over) drained_end

  backlog_in : In (minus peak_limit) (backlog_at_t1 f t0 t1 bytes) (plain peak_limit)
  unfolding backlog_at_t1 sub mul le
  backlog_in = mul_in binary64 (minus peak_limit) (plain peak_limit) (sub_in binary64 (minus 34816) (plain 52226) end_most a.end tt) b.rate tt

  backlog_fits : T (fits binary64 (backlog_at_t1 f t0 t1 bytes))
  unfolding backlog_at_t1
  backlog_fits = mul-fits binary64 (sub binary64 (exit_end f t0 t1 bytes) t1) f.rate

  fed_bounded : Bounded (n + k) (fed f t0 t1 bytes)
  unfolding fed
  fed_bounded =
      let o = opened n f t0 b a.start a.start_fits in
      let up = higher (2 * arrival_limit * 2 ^ 14 + byte_time * (n + k)) o.before (omega arith) in
      record {
        few = few;
        rate = b.rate;
        busy = inr (record { done = end_in; since = o.since });
        peak = max_keeps b.peak backlog_in;
        longest_busy = longer (n + k) few up end_in o.since;
        rate_fits = b.rate_fits;
        done_fits = end_fits;
        since_fits = o.since_fits;
        peak_fits = max_fits binary64 f.peak (backlog_at_t1 f t0 t1 bytes) b.peak_fits backlog_fits;
        longest_fits = max_fits binary64 (longest_before f t0) (sub binary64 (exit_end f t0 t1 bytes) (busy_since f t0)) o.before_fits (sub-fits binary64 (exit_end f t0 t1 bytes) (busy_since f t0));
      }

  -- the bytes are more than 0.0
  some_bytes : le bytes 0f ≡ false
  unfolding of_bits
  some_bytes = go (le bytes 0f) (λ (h : T (le bytes 0f)). is_le bytes 0f k 0 a.whole (plain_is 0) h)
    where
      go : (c : Bool) → (T c → k ≤ 0) → c ≡ false
      go true h = absurd (no k (h tt) a.some)
        where
          no : (k : ℕ) → k ≤ 0 → 0 < k → ⊥
          no k h g = omega arith
      go false h = refl

  pushed_is : pushed f t0 t1 bytes ≡ record { fifo = fed f t0 t1 bytes; start = exit_start f t0; end = exit_end f t0 t1 bytes }
  unfolding pushed
  pushed_is = simp some_bytes

  fed_window : Window n k f t0 t1 (record { fifo = fed f t0 t1 bytes; start = exit_start f t0; end = exit_end f t0 t1 bytes })
  unfolding fed
  fed_window =
      record {
        start = start_in;
        start_fits = start_fits;
        end = end_in;
        end_fits = end_fits;
        span = span_in;
        in_order = start_end;
        after_done = done_start;
        after_t0 = t0_start;
        after_t1 = t1_end;
        done = refl;
      }

pub push_bounded :
    {n k : ℕ} (f : FluidFifo) {t0 t1 bytes : Float} → Bounded n f → Arrival k t0 t1 bytes → n + k ≤ byte_limit →
    Bounded (n + k) (pushed f t0 t1 bytes).fifo
push_bounded {n} {k} f {t0} {t1} {bytes} b a few = rw (pushed_is n k f t0 t1 bytes b a few) (fed_bounded n k f t0 t1 bytes b a few)

pub push_window :
    {n k : ℕ} (f : FluidFifo) {t0 t1 bytes : Float} → Bounded n f → Arrival k t0 t1 bytes → n + k ≤ byte_limit →
    Window n k f t0 t1 (pushed f t0 t1 bytes)
push_window {n} {k} f {t0} {t1} {bytes} b a few = rw (pushed_is n k f t0 t1 bytes b a few) (fed_window n k f t0 t1 bytes b a few)
