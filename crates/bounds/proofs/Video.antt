-- The video branch within bounds: a new one, one into which a run or a unit has come, one that has advanced, and its end. Assumes nothing.
use mathlib.Core.Bool.{Bool, cond, false, true, true≢false}
use mathlib.Core.List.{List, [], ◌++◌, ◌∷◌}
use mathlib.Core.Logic.{◌⊎◌, inl, inr}
use mathlib.Core.Path.{◌≡◌, refl, subst, sym}
use Prim.Native.Nat.{◌+◌, ◌<◌, ◌^◌, ◌≤◌, zero-le, ℕ}
use native.Mathlib.Nat.{add-le-add, le-add_right, le_refl, le_trans, lt_of_le_of_lt}
use native.Mathlib.Omega.{arith}
use lib.Dec.{T, lit<, lit≤}
use lib.Ieee.{Float, add, binary64, div, eq, fits, le, lt, of_bits, of_int}
use lib.Ieee.Fits.{add-fits, of_int-fits}
use lib.IntN.{pos}
use lib.ListN.{length, length-append}
use Rattle.ieee.specs.Binary64.{0f, 1e-6f, 1f, 2f, 8f, ◌⊕◌, ◌⊘◌, -∞}
use Rattle.ieee.specs.Interval.{In, minus, plain, zero_float}
use Rattle.ieee.specs.MaxMin.{max_of}
use Rattle.ieee.specs.Units.{neg_units, pos_units}
use Rattle.ieee.specs.Whole.{Is}
use Rattle.ieee.proofs.Growth.{widen_at}
use Rattle.ieee.proofs.Interval.{add_in, closed_in, div_in, widen}
use Rattle.ieee.proofs.MaxMin.{max_in}
use Rattle.ieee.proofs.Order.{truth}
use Rattle.ieee.proofs.Whole.{is_in, le_is, of_int_is, plain_is}
use Rattle.fifo.specs.Bounds.{ArrivalTime, Window, byte_limit as fifoLimit}
use Rattle.fifo.specs.declared.FluidFifo.{FluidFifo}
use Rattle.fifo.specs.declared.Pushed.{Pushed}
use Rattle.branch.specs.CumulativeIn.{push_run}
use Rattle.branch.specs.VideoBranch.{Leak, Video, VideoRates, advance, budget, drain_time, finish_video, on, push_video, pushed_leak, turns}
use Rattle.branch.specs.declared.AccessUnit.{AccessUnit}
use Rattle.branch.specs.declared.HeaderMark.{HeaderMark}
use Rattle.branch.specs.declared.Run.{Run}
use Rattle.bounds.specs.Events.{EventsIn, UpTo, busy_limit, delay_limit, earliest_time, latest_time}
use Rattle.bounds.specs.Main.{SizeIn}
use Rattle.bounds.specs.Marks.{MarkIs, Marked, no_marks}
use Rattle.bounds.specs.Runs.{RunIs, byte_limit, no_runs}
use Rattle.bounds.specs.Units.{UnitIs, no_units}
use Rattle.bounds.specs.Video.{AdvancedIn, LeakIn, RatesIn, Running, Unstarted, VideoBounded, VideoIn, ahead_limit, drain_limit, eb_peak_limit, last_limit, leak_time, loop_limit, new_video, proc_limit, transfer_limit, turn_limit}
use Rattle.bounds.proofs.Advance.{advance_keeps, calls_few}
use Rattle.bounds.proofs.Arrived.{inflow_append, whole_add}
use Rattle.bounds.proofs.Events.{events_append, events_when, units_append}
use Rattle.bounds.proofs.Leak.{leak_ends}
use Rattle.bounds.proofs.Loop.{turns_same}
use Rattle.bounds.proofs.Running.{Reach}
use Rattle.bounds.proofs.Settled.{units_append_run}
use Rattle.bounds.proofs.Transfer.{marked_append, marked_mono}
use Rattle.bounds.proofs.Windows.{run_some, window_run}
use Rattle.events.specs.declared.Event.TheVariants.{MbBusy}
use Rattle.events.specs.Event.{when}

-- ---- times before the end, and at the end
pub reach_advance : {n : ℕ} → n ≤ byte_limit → Reach n latest_time proc_limit
reach_advance h = record { few = h; aim = lit≤ tt; leak = lit≤ tt; most = lit≤ tt; found = lit≤ tt }

pub reach_drain : {n : ℕ} → n ≤ byte_limit → Reach n drain_limit last_limit
reach_drain h = record { few = h; aim = lit≤ tt; leak = lit≤ tt; most = lit≤ tt; found = lit≤ tt }

-- ---- the rates and sizes of a profile
pub size_of : (n : ℕ) → 1 ≤ n → n ≤ 2 ^ 30 → SizeIn (of_int binary64 (pos n))
size_of n h k = is_in (of_int binary64 (pos n)) n 1 (2 ^ 30) (of_int_is binary64 n (le_trans k (lit≤ tt))) h k

pub rates_of_lem : (rate mb eb : ℕ) → 8000 ≤ rate → rate ≤ 1000000000 → 1 ≤ mb → mb ≤ 2 ^ 30 → 1 ≤ eb → eb ≤ 2 ^ 30
    → RatesIn (record { rbx = of_int binary64 (pos rate) ⊘ 8f; mb_size = of_int binary64 (pos mb); eb_size = of_int binary64 (pos eb) })
unfolding of_bits div le lt eq
rates_of_lem rate mb eb h k m1 m2 e1 e2 =
    record {
      rbx = div_in binary64 (plain 1000) (plain (2 ^ 27)) (is_in (of_int binary64 (pos rate)) rate 8000 1000000000 (of_int_is binary64 rate (le_trans k (lit≤ tt))) h k) (closed_in (plain 8) 8f (plain 8) tt) tt;
      mb = size_of mb m1 m2;
      eb = size_of eb e1 e2;
      eb_fits = of_int-fits binary64 (pos eb);
    }

-- ---- a new branch
pub new_video_lem : VideoBounded 0 0 0 0 new_video
unfolding new_video of_bits pos_units neg_units le lt eq fits
new_video_lem =
    record {
      few = zero-le;
      units_few = zero-le;
      leak = inl
          (record {
            parts = record {
              inflow = record { count = 0; settled = plain_is 0; fit = tt; runs = no_runs zero-le };
              flow = record {
                marks = no_marks;
                few = zero-le;
                transferred = closed_in zero_float 0f (plain transfer_limit) tt;
                transferred_fits = tt;
                eb_finite = tt;
                eb_fits = tt;
                eb_low = zero-le;
                eb_high = tt;
                removed = closed_in (minus (2 ^ 32)) 0f (plain (2 ^ 32)) tt;
                removed_high = tt;
                removed_fits = tt;
                peak = closed_in zero_float 0f (plain eb_peak_limit) tt;
              };
              since = inl refl;
              longest = closed_in zero_float 0f (plain busy_limit) tt;
              peak = closed_in zero_float 0f (plain byte_limit) tt;
            };
            time = refl;
            transferred = refl;
          });
      queued = plain_is 0;
      removed = 0;
      required = plain_is 0;
      required_fits = tt;
      pending = no_units zero-le;
      counted = zero-le;
      delay = closed_in zero_float 0f (plain delay_limit) tt;
    }

-- ---- a run comes
module _ (n k : ℕ) (r : Run) (i : RunIs r k) (few : n + k ≤ byte_limit) (x : Float) (whole : Is x (n + k)) (fx : T (fits binary64 x)) (header : Bool) where
  mark_is : MarkIs (record { threshold = x; bytes = r.bytes }) n k
  mark_is = record { threshold = whole; bytes = i.bytes; fit = fx }

  marks_more : (ms : List HeaderMark) → Marked n ms 0 → (b : Bool) → Marked (n + k) (cond b (ms ++ (record { threshold = x; bytes = r.bytes } ∷ [])) ms) 0
  marks_more ms q true = marked_append k ms zero-le q mark_is
  marks_more ms q false = marked_mono (le-add_right n k) q

  marks_few : (ms : List HeaderMark) → length ms ≤ n → (b : Bool) → length (cond b (ms ++ (record { threshold = x; bytes = r.bytes } ∷ [])) ms) ≤ n + k
  marks_few ms h true = subst (λ (l : ℕ). l ≤ n + k) (sym (length-append ms (record { threshold = x; bytes = r.bytes } ∷ []))) (both (length ms) n k h i.positive)
    where
      both : (l n k : ℕ) → l ≤ n → 0 < k → l + 1 ≤ n + k
      both l n k h g = omega arith
  marks_few ms h false = le_trans h (le-add_right n k)

  push_is : (s : Leak) → push_run s.mb_in r ≡ record { runs = s.mb_in.runs ++ (r ∷ []); settled = s.mb_in.settled }
  unfolding push_run
  push_is s = simp (run_some i).1

  parts_more : (e : ℕ) (s : Leak) → LeakIn n e s → LeakIn (n + k) e (pushed_leak s r x header)
  unfolding pushed_leak
  parts_more e s q =
      record {
        inflow = rw (push_is s) (inflow_append k q.inflow i);
        flow = record {
          marks = marks_more s.flow.marks q.flow.marks header;
          few = marks_few s.flow.marks q.flow.few header;
          transferred = q.flow.transferred;
          transferred_fits = q.flow.transferred_fits;
          eb_finite = q.flow.eb_finite;
          eb_fits = q.flow.eb_fits;
          eb_low = q.flow.eb_low;
          eb_high = q.flow.eb_high;
          removed = q.flow.removed;
          removed_high = q.flow.removed_high;
          removed_fits = q.flow.removed_fits;
          peak = q.flow.peak;
        };
        since = q.since;
        longest = q.longest;
        peak = q.peak;
      }

  leak_more : (L e : ℕ) → L ≤ 2 ^ 18 → (s : Leak) → Unstarted n s ⊎ Running n L e s → Unstarted (n + k) (pushed_leak s r x header) ⊎ Running (n + k) L e (pushed_leak s r x header)
  unfolding pushed_leak
  leak_more L e w s (inl q) = inl (record { parts = parts_more 0 s q.parts; time = q.time; transferred = q.transferred })
  leak_more L e w s (inr q) =
      inr
      (record {
        parts = parts_more e s q.parts;
        time = q.time;
        time_fits = q.time_fits;
        ahead = rw (push_is s) (le_trans q.ahead (add-le-add (units_append_run (n + k) (lt_of_le_of_lt few (lit< tt)) s.proc_time (widen_at (2 ^ 18) (2 ^ 18) q.time (lit≤ tt) w) r k i n s.mb_in refl q.parts.inflow) (le_refl (ahead_limit e))));
      })

pub push_video_lem : {n q p a k : ℕ} (v : Video) (r : Run) (header : Bool) → VideoBounded n q p a v → RunIs r k → n + k ≤ byte_limit → VideoBounded (n + k) q p a (push_video v r header)
unfolding push_video
push_video_lem {n} {q} {p} {a} {k} v r header b i few =
    let x = whole_add v.queued r.bytes n k (le_trans few (lit≤ tt)) b.queued i.bytes in
    simp (run_some i).0
    (record {
      few = few;
      units_few = b.units_few;
      leak = leak_more n k r i few (v.queued ⊕ r.bytes) x (add-fits binary64 v.queued r.bytes) header proc_limit (a + v.units) (lit≤ tt) v.leak b.leak;
      queued = x;
      removed = b.removed;
      required = b.required;
      required_fits = b.required_fits;
      pending = b.pending;
      counted = b.counted;
      delay = b.delay;
    })

pub push_video_window : {m n q p a k : ℕ} {f : FluidFifo} {t0 t1 : Float} (v : Video) (w : Pushed) (bytes : Float) (header : Bool) → VideoBounded n q p a v → Window m k f t0 t1 w
    → m + k ≤ fifoLimit → Is bytes k → 0 < k → n + k ≤ byte_limit
    → VideoBounded (n + k) q p a (push_video v (record { t0 = w.start; t1 = w.end; bytes = bytes }) header)
push_video_window v w bytes header b o h i j few = push_video_lem v (record { t0 = w.start; t1 = w.end; bytes = bytes }) header b (window_run o h i j) few

-- no bytes leave the branch as it is
pub push_video_none : (v : Video) (r : Run) (header : Bool) → Is r.bytes 0 → push_video v r header ≡ v
unfolding push_video of_bits
push_video_none v r header i = simp (truth (le r.bytes (plain 0)) (le_is r.bytes (plain 0) 0 0 i (plain_is 0) zero-le))

-- ---- a unit comes
pub pend_video : {n q p a k : ℕ} (v : Video) (u : AccessUnit) → VideoBounded n q p a v → UnitIs u k → q + k ≤ byte_limit
    → VideoBounded n (q + k) (p + 1) a (record { leak = v.leak; queued = v.queued; eb_required = v.eb_required; pending = v.pending ++ (u ∷ []); max_delay = v.max_delay; units = v.units })
pend_video {n} {q} {p} {a} {k} v u b i few =
    record {
      few = b.few;
      units_few = few;
      leak = b.leak;
      queued = b.queued;
      removed = b.removed;
      required = b.required;
      required_fits = b.required_fits;
      pending = units_append k v.pending b.pending i;
      counted = subst (λ (l : ℕ). v.units + l ≤ p + 1) (sym (length-append v.pending (u ∷ []))) (one v.units (length v.pending) p b.counted);
      delay = b.delay;
    }
  where
    one : (u l p : ℕ) → u + l ≤ p → u + (l + 1) ≤ p + 1
    one u l p h = omega arith

-- ---- advance
-- up to an arrival
pub arrival_up_to : {t : Float} → ArrivalTime t → UpTo latest_time t
unfolding le lt eq
arrival_up_to i = widen (minus earliest_time) (plain latest_time) i tt

pub advance_video : {n q p a : ℕ} (r : VideoRates) (t : Float) (v : Video) → RatesIn r → UpTo latest_time t → T (fits binary64 t) → a + p + 1 ≤ turn_limit → VideoBounded n q p a v
    → AdvancedIn proc_limit n q p (a + 1) (advance r t v)
advance_video r t v g c f few b = advance_keeps (reach_advance b.few) (lit≤ tt) few r g t c f v b

-- the loop of a call ends by its own test: the budget of the definition is never used up, and a larger one changes nothing
module _ {n q p a : ℕ} (r : VideoRates) (t : Float) (v : Video) (g : RatesIn r) (c : UpTo latest_time t) (f : T (fits binary64 t)) (few : a + p + 1 ≤ turn_limit) (b : VideoBounded n q p a v)
    (e : eq v.leak.proc_time -∞ ≡ false) where
  ends_by : (k : ℕ) → loop_limit ≤ k → Unstarted n v.leak ⊎ Running n proc_limit (a + v.units) v.leak → (turns k r t (on v.leak)).more ≡ false
  unfolding eq
  ends_by k h (inl x) = absurd (true≢false (rw x.time at e))
  ends_by k h (inr x) = leak_ends (reach_advance b.few) r t g c f (calls_few v b few) k h v.leak x

  pub loop_ends : (turns budget r t (on v.leak)).more ≡ false
  loop_ends = ends_by budget (lit≤ tt) b.leak

  pub loop_same : (k : ℕ) → budget ≤ k → turns k r t (on v.leak) ≡ turns budget r t (on v.leak)
  loop_same k h = turns_same r t budget k (on v.leak) h loop_ends

-- ---- the end
pub wider : {n q p a : ℕ} {v : Video} → VideoBounded n q p a v → VideoIn last_limit n q p a v
wider {n} {q} {p} {a} {v} b =
    record {
      few = b.few;
      units_few = b.units_few;
      leak = go b.leak;
      queued = b.queued;
      removed = b.removed;
      required = b.required;
      required_fits = b.required_fits;
      pending = b.pending;
      counted = b.counted;
      delay = b.delay;
    }
  where
    go : Unstarted n v.leak ⊎ Running n proc_limit (a + v.units) v.leak → Unstarted n v.leak ⊎ Running n last_limit (a + v.units) v.leak
    go (inl x) = inl x
    go (inr x) = inr (record { parts = x.parts; time = widen_at earliest_time last_limit x.time (lit≤ tt) (lit≤ tt); time_fits = x.time_fits; ahead = x.ahead })

clock_high : {n q p a : ℕ} {v : Video} → VideoBounded n q p a v → T (le v.leak.proc_time (plain proc_limit))
unfolding le
clock_high {n} {q} {p} {a} {v} b = go b.leak
  where
    go : Unstarted n v.leak ⊎ Running n proc_limit (a + v.units) v.leak → T (le v.leak.proc_time (plain proc_limit))
    go (inl x) = rw x.time tt
    go (inr x) = x.time.high

pub drain_in : {n q p a : ℕ} (r : VideoRates) (v : Video) → RatesIn r → VideoBounded n q p a v → UpTo drain_limit (drain_time r v)
unfolding drain_time of_bits add div le lt eq
drain_in {n} r v g b =
    let m = max_in v.leak.proc_time (clock_high b) (closed_in zero_float 0f (plain proc_limit) tt) in
    let d = div_in binary64 zero_float (plain leak_time) (is_in v.queued n 0 (2 ^ 24) b.queued zero-le b.few) g.rbx tt in
    add_in binary64 (minus earliest_time) (plain drain_limit) (add_in binary64 zero_float (plain (proc_limit + leak_time)) m d tt) (closed_in zero_float 2f (plain 2) tt) tt

pub drain_fits : (r : VideoRates) (v : Video) → T (fits binary64 (drain_time r v))
unfolding drain_time
drain_fits r v = add-fits binary64 ((max_of v.leak.proc_time 0f) ⊕ (v.queued ⊘ r.rbx)) 2f

busy_in : {L n q p a : ℕ} {v : Video} → VideoIn L n q p a v → In zero_float v.leak.longest_busy (plain busy_limit)
busy_in {L} {n} {q} {p} {a} {v} b = go b.leak
  where
    go : Unstarted n v.leak ⊎ Running n L (a + v.units) v.leak → In zero_float v.leak.longest_busy (plain busy_limit)
    go (inl x) = x.parts.longest
    go (inr x) = x.parts.longest

busy_event : {L n q p a : ℕ} {v : Video} → VideoIn L n q p a v → EventsIn (when (lt (1f ⊕ 1e-6f) v.leak.longest_busy) (MbBusy v.leak.longest_busy))
busy_event {L} {n} {q} {p} {a} {v} b = events_when (lt (1f ⊕ 1e-6f) v.leak.longest_busy) (MbBusy v.leak.longest_busy) (λ (e : lt (1f ⊕ 1e-6f) v.leak.longest_busy ≡ true). busy_in b)

pub finish_video_lem : {n q p a : ℕ} (r : VideoRates) (v : Video) → RatesIn r → a + p + 1 ≤ turn_limit → VideoBounded n q p a v → AdvancedIn last_limit n q p (a + 1) (finish_video r v)
unfolding finish_video
finish_video_lem r v g few b =
    let d : UpTo drain_limit (drain_time r v) = drain_in r v g b in
    let x = advance_keeps (reach_drain b.few) (lit≤ tt) few r g (drain_time r v) d (drain_fits r v) v (wider b) in
    record { branch = x.branch; events = events_append x.events (busy_event x.branch) }
