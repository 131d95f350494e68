-- A packet goes through the transport buffer: the buffer stays within bounds, and so is what it delivers. Assumes nothing.
use Prim.Native.Nat.{ℕ, ◌+◌, ◌-◌, ◌<◌, ◌≤◌}
use native.Mathlib.Nat.{le_refl, le_trans, add-zero}
use native.Mathlib.Omega.{arith}
use borrow.Author.Tests.{eqb-true, eqb-false}
use mathlib.Core.Path.{◌≡◌, refl, subst, sym}
use mathlib.Core.Bool.{Bool, true, false, cond}
use lib.Dec.{T, eqb, lit≤}
use lib.Ieee.{Float, binary64, fits, eq, ne, le}
use Rattle.std.specs.Prelude.{Option, Some, None}
use Rattle.ieee.specs.Binary64.{0f, 188f, -∞}
use Rattle.ieee.specs.Interval.{minus, plain}
use Rattle.ieee.proofs.Interval.{in_finite, widen}
use Rattle.scanner.specs.declared.Runs.{Runs}
use Rattle.recording.proofs.Bounds.{RunsHold}
use Rattle.arrival.specs.declared.RateInterval.{RateInterval}
use Rattle.arrival.specs.Bounds.{IntervalWithin}
use Rattle.arrival.specs.Times.{decode_time}
use Rattle.arrival.proofs.DecodeTimes.{decode_within, decode_fits}
use Rattle.fifo.specs.declared.FluidFifo.{FluidFifo}
use Rattle.fifo.specs.FluidFifo.{pushed}
use Rattle.fifo.specs.Bounds.{ArrivalTime, Arrival, Bounded, byte_limit}
use Rattle.fifo.proofs.Bounds.{push_bounded, push_window}
use Rattle.branch.specs.declared.Run.{Run}
use Rattle.branch.specs.MainBranch.{open_of, stamp_of}
use Rattle.bounds.specs.Events.{UpTo, earliest_time, latest_time}
use Rattle.bounds.proofs.Leak.{finite_not_inf}
use Rattle.bounds.proofs.Windows.{window_run}
use Rattle.transport.specs.declared.Arrived.{Arrived}
use Rattle.transport.specs.Arrive.{float, frac, through, stamp_time, nothing, arrive}
use Rattle.model_bounds.specs.Times.{PacketTime}
use Rattle.model_bounds.proofs.Times.{float_is, is_188, frac_in, frac_fits, time_in}
use Rattle.model_bounds.proofs.Open.{RunIn, no_run, a_run, StampIn, no_stamp, a_stamp, DeliveredIn, zero_is}

-- a time at which bytes come
record At (t : Float) : Type 0 where
  within : ArrivalTime t
  fit : T (fits binary64 t)

arrival : {k : ℕ} (t0 t1 : Float) → At t0 → At t1 → 0 < k → k ≤ 188 → Arrival k t0 t1 (float k)
arrival {k} t0 t1 a b some few =
    record { start = a.within; start_fits = a.fit; end = b.within; end_fits = b.fit; whole = float_is k (le_trans few (lit≤ tt)); some = some }

-- ---- a run
record ThroughIn (n len : ℕ) (tb : FluidFifo) (run : Run) : Type 0 where
  tb_in : Bounded (n + len) tb
  run_in : RunIn run len

module _ {n : ℕ} (len : ℕ) (tb : FluidFifo) (t0 t1 : Float) (b : Bounded n tb) (p : At t0) (q : At t1) (small : len ≤ 188) (few : n + len ≤ byte_limit) where
  some_through : 0 < len
      → ThroughIn n len (pushed tb t0 t1 (float len)).fifo (record { t0 = (pushed tb t0 t1 (float len)).start; t1 = (pushed tb t0 t1 (float len)).end; bytes = float len })
  some_through some =
      let a = arrival t0 t1 p q some small in
      record { tb_in = push_bounded tb b a few; run_in = a_run (window_run (push_window tb b a few) few a.whole some) }

  none_through : len ≡ 0 → ThroughIn n len tb (record { t0 = 0f; t1 = 0f; bytes = 0f })
  none_through e =
      subst (λ (l : ℕ). ThroughIn n l tb (record { t0 = 0f; t1 = 0f; bytes = 0f })) (sym e)
      (record { tb_in = subst (λ (l : ℕ). Bounded l tb) (sym (add-zero n)) b; run_in = no_run refl })

  through_by : (z : Bool) → eqb len 0 ≡ z → ThroughIn n len (through tb t0 t1 len).tb (through tb t0 t1 len).run
  unfolding through
  through_by true z = simp z (none_through (eqb-true len 0 z))
  through_by false z = simp z (some_through (some len (eqb-false len 0 z)))
    where
      some : (n : ℕ) → (n ≡ 0 → ⊥) → 0 < n
      some n f = omega (arith, f)

  through_in : ThroughIn n len (through tb t0 t1 len).tb (through tb t0 t1 len).run
  through_in = through_by (eqb len 0) refl

-- ---- the stamp
stamped : (t first : Float) → UpTo latest_time t → T (fits binary64 t) → ArrivalTime first → StampIn (open_of (record { decode_time = t; bytes = 0f; first_input_time = first }))
unfolding open_of ne
stamped t first u f a =
    simp (finite_not_inf t (in_finite u)) (a_stamp (record { bytes = zero_is; decode = u; decode_fits = f; first_input = a }))

unstamped : (first : Float) → StampIn (open_of (record { decode_time = -∞; bytes = 0f; first_input_time = first }))
unfolding open_of ne eq
unstamped first = no_stamp

stamp_in_lem : (i : RateInterval) (s : Option ℕ) (first : Float) → IntervalWithin i → ArrivalTime first
    → StampIn (open_of (record { decode_time = stamp_time i s; bytes = 0f; first_input_time = first }))
unfolding le
stamp_in_lem i None first w a = unstamped first
stamp_in_lem i (Some raw) first w a =
    stamped (decode_time i raw) first (widen (minus earliest_time) (plain latest_time) (decode_within i raw w) tt) (decode_fits i raw w) a

-- ---- a packet
-- n bytes had come; at most 188 more have, and the runs delivered have no more
pub record ArrivedIn (n : ℕ) (x : Arrived) : Type 0 where
  pub bytes : ℕ
  pub few : bytes ≤ n + 188
  pub tb : Bounded bytes x.tb
  pub head : ℕ
  pub rest : ℕ
  pub body : ℕ
  pub few_delivered : head + rest + body ≤ 188
  pub delivered : DeliveredIn head rest body x.delivered

either : {n : ℕ} (z : Bool) {x y : Arrived} → ArrivedIn n x → ArrivedIn n y → ArrivedIn n (cond z x y)
either true p q = p
either false p q = q

nothing_in : DeliveredIn 0 0 0 nothing
unfolding stamp_of
nothing_in = record { stamp = unstamped 0f; head = no_run refl; rest = no_run refl; body = no_run refl }

module _ {n : ℕ} (tb : FluidFifo) (a : ℕ) (r : Runs) (t0 t1 : Float) (i : RateInterval) (w : IntervalWithin i) (p : PacketTime t0) (q : PacketTime t1) (b : Bounded n tb)
    (some : 1 ≤ a) (most : a ≤ 188) (runs : RunsHold r (188 - a)) (few : n + 188 ≤ byte_limit) where
  at : (k : ℕ) → k ≤ 188 → At (frac t0 t1 k)
  at k h = record { within = frac_in t0 t1 p.within q.within k h; fit = frac_fits t0 t1 p.within q.within k h }

  start : At t0
  start = record { within = time_in p; fit = p.fit }

  end : At t1
  end = record { within = time_in q; fit = q.fit }

  room : a + r.head + r.rest + r.body ≤ 188
  room = omega (arith, runs.fit)

  -- an empty payload goes in as 188 bytes
  whole_in : ArrivedIn n (record { tb = (pushed tb t0 t1 188f).fifo; delivered = nothing })
  whole_in =
      let x : Arrival 188 t0 t1 188f = record { start = start.within; start_fits = start.fit; end = end.within; end_fits = end.fit; whole = is_188; some = lit≤ tt } in
      record { bytes = n + 188; few = le_refl (n + 188); tb = push_bounded tb b x few; head = 0; rest = 0; body = 0; few_delivered = lit≤ tt; delivered = nothing_in }

  abbrev b1 : ℕ
  b1 = a + r.head

  abbrev b2 : ℕ
  b2 = b1 + r.rest

  abbrev header : FluidFifo
  header = (pushed tb t0 (frac t0 t1 a) (float a)).fifo

  abbrev head : FluidFifo
  head = (through header (frac t0 t1 a) (frac t0 t1 b1) r.head).tb

  abbrev rest : FluidFifo
  rest = (through head (frac t0 t1 b1) (frac t0 t1 b2) r.rest).tb

  abbrev body : FluidFifo
  body = (through rest (frac t0 t1 b2) (frac t0 t1 (b2 + r.body)) r.body).tb

  header_in : Bounded (n + a) header
  header_in = push_bounded tb b (arrival t0 (frac t0 t1 a) start (at a most) some most) (omega arith)

  head_in : ThroughIn (n + a) r.head head (through header (frac t0 t1 a) (frac t0 t1 b1) r.head).run
  head_in = through_in r.head header (frac t0 t1 a) (frac t0 t1 b1) header_in (at a most) (at b1 (omega (arith, room))) (omega (arith, room)) (omega (arith, room))

  rest_in : ThroughIn (n + a + r.head) r.rest rest (through head (frac t0 t1 b1) (frac t0 t1 b2) r.rest).run
  rest_in = through_in r.rest head (frac t0 t1 b1) (frac t0 t1 b2) head_in.tb_in (at b1 (omega (arith, room))) (at b2 (omega (arith, room))) (omega (arith, room)) (omega (arith, room))

  body_in : ThroughIn (n + a + r.head + r.rest) r.body body (through rest (frac t0 t1 b2) (frac t0 t1 (b2 + r.body)) r.body).run
  body_in = through_in r.body rest (frac t0 t1 b2) (frac t0 t1 (b2 + r.body)) rest_in.tb_in (at b2 (omega (arith, room))) (at (b2 + r.body) room) (omega (arith, room)) (omega (arith, room))

  parts_in : ArrivedIn n
      (record {
        tb = body;
        delivered = record {
          decode_time = stamp_time i r.decode_ts;
          first_input_time = frac t0 t1 a;
          head = (through header (frac t0 t1 a) (frac t0 t1 b1) r.head).run;
          rest = (through head (frac t0 t1 b1) (frac t0 t1 b2) r.rest).run;
          body = (through rest (frac t0 t1 b2) (frac t0 t1 (b2 + r.body)) r.body).run;
        };
      })
  unfolding stamp_of
  parts_in =
      record {
        bytes = n + a + r.head + r.rest + r.body;
        few = omega (arith, room);
        tb = body_in.tb_in;
        head = r.head;
        rest = r.rest;
        body = r.body;
        few_delivered = omega (arith, room);
        delivered = record { stamp = stamp_in_lem i r.decode_ts (frac t0 t1 a) w (at a most).within; head = head_in.run_in; rest = rest_in.run_in; body = body_in.run_in };
      }

  pub arrive_in_lem : ArrivedIn n (arrive tb a r t0 t1 (stamp_time i r.decode_ts))
  unfolding arrive
  arrive_in_lem = either (eqb a 188) whole_in parts_in
