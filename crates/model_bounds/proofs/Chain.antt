-- A chain of the replay stays within bounds: a new one, through every packet, and at the end, with the figures of its report. Assumes nothing.
use Prim.Native.Nat.{ℕ, suc, zero-le, ◌+◌, ◌-◌, ◌*◌, ◌^◌, ◌≤◌}
use native.Mathlib.Nat.{le_refl, le_trans, le-add_right, mul-le-mul_left}
use native.Mathlib.Omega.{arith}
use mathlib.Core.Path.{◌≡◌}
use mathlib.Core.Bool.{true, false}
use mathlib.Core.List.{List, ◌∷◌, ◌++◌}
use lib.Dec.{T, lit≤, lit<}
use lib.ListN.{length, length-append}
use lib.Ieee.{Float, binary64, fits, le, lt}
use Rattle.ieee.specs.Binary64.{◌⊕◌, 0f, 1f, 512f, 1e-6f}
use Rattle.ieee.specs.Interval.{plain}
use Rattle.ieee.proofs.Interval.{widen_high}
use Rattle.packet.specs.declared.TsPacket.{TsPacket}
use Rattle.packet.proofs.Parsed.{Parsed}
use Rattle.scanner.specs.declared.Runs.{Runs}
use Rattle.recording.proofs.Bounds.{RunsHold}
use Rattle.arrival.specs.declared.RateInterval.{RateInterval}
use Rattle.arrival.specs.Bounds.{IntervalWithin, AllWithin}
use Rattle.arrival.specs.Times.{arrival_at, covering}
use Rattle.arrival.proofs.Within.{covering_within}
use Rattle.fifo.specs.declared.FluidFifo.{FluidFifo}
use Rattle.fifo.specs.Bounds.{Bounded}
use Rattle.fifo.proofs.Bounds.{new_bounded, longest_recording, peak_below}
use Rattle.events.specs.declared.Event.{Event}
use Rattle.events.specs.declared.Event.TheVariants.{TbOverflow, TbBusy}
use Rattle.branch.specs.declared.Delivered.{Delivered}
use Rattle.branch.specs.MainBranch.{new_main}
use Rattle.branch.specs.VideoStep.{new_video}
use Rattle.bounds.specs.Events.{EventsIn, FewEvents, UpTo, latest_time}
use Rattle.bounds.specs.Runs.{longest_window}
use Rattle.bounds.specs.Video.{new_video as bounds-new}
use Rattle.bounds.proofs.Count.{AtMost, at_most_when, at_most_append}
use Rattle.bounds.proofs.Events.{events_append, events_when}
use Rattle.bounds.proofs.Main.{new_main_lem}
use Rattle.bounds.proofs.Video.{new_video_lem, rates_of_lem, size_of, arrival_up_to}
use Rattle.profile.specs.declared.model.TStdBranch.{TStdBranch}
use Rattle.profile.specs.declared.config.TStdStream.{TStdStream}
use Rattle.profile.proofs.Within.{StreamWithin, BranchWithin}
use Rattle.transport.specs.Arrive.{float, stamp_time, nothing, arrive}
use Rattle.model.specs.Chain.{Branch, main, video, Chain, new_chain, Stepped, step_branch, packet_step, tb_events, end_step, stats_of}
use Rattle.model_bounds.specs.Chain.{none_open, BranchHolds, ChainHolds, removed_units, PacketHolds, BranchEnded, ChainEnded, EndHolds, StatsBounded}
use Rattle.model_bounds.specs.Times.{PacketTime}
use Rattle.model_bounds.proofs.Arrive.{arrive_in_lem}
use Rattle.model_bounds.proofs.MainStep.{main_more, main_packet, main_end}
use Rattle.model_bounds.proofs.Open.{DeliveredIn, closed_few, few_more}
use Rattle.model_bounds.proofs.Times.{packet_time, time_in}
use Rattle.model_bounds.proofs.VideoStep.{video_more, video_packet, video_end}

-- ---- the transport buffer's events
pub tb_events_lem : {n : ℕ} {f : FluidFifo} → Bounded n f → n ≤ 2 ^ 24 → EventsIn (tb_events f)
unfolding tb_events le
tb_events_lem {n} {f} b h =
    events_append (events_when (lt (512f ⊕ 1f) f.peak) (TbOverflow f.peak) (λ e. b.peak))
    (events_when (lt (1f ⊕ 1e-6f) f.longest_busy) (TbBusy f.longest_busy) (λ e. widen_high (plain longest_window) (longest_recording n h b.longest_busy) tt))

pub tb_events_few : (f : FluidFifo) → AtMost 2 (tb_events f)
unfolding tb_events
tb_events_few f =
    at_most_append (at_most_when (lt (512f ⊕ 1f) f.peak) (TbOverflow f.peak)) (at_most_when (lt (1f ⊕ 1e-6f) f.longest_busy) (TbBusy f.longest_busy))

-- ---- a new chain
branch_new : (pid rx : ℕ) (b : TStdBranch) → BranchHolds b 0 (new_chain (record { pid = pid; model = record { rx_bps = rx; branch = b } })).branch
unfolding new_chain new_main new_video bounds-new
branch_new pid rx (TStdBranch.Main size) =
    record { bytes = 0; closed_bytes = 0; closed_units = 0; few = zero-le; bounded = new_main_lem; open_unit = none_open zero-le zero-le }
branch_new pid rx (TStdBranch.Video rbx mb eb) =
    record { bytes = 0; closed_bytes = 0; closed_units = 0; advances = 0; few = zero-le; few_advances = zero-le; bounded = new_video_lem; open_unit = none_open zero-le zero-le }

pub chain_new : (m : TStdStream) → StreamWithin m → ChainHolds m 0 (new_chain m)
unfolding new_chain
chain_new m w = record { bytes = 0; few = zero-le; tb = new_bounded m.model.rx_bps w.rx.least w.rx.most; branch = branch_new m.pid m.model.rx_bps m.model.branch }

-- ---- larger counts
branch_more : (b : TStdBranch) (k k' : ℕ) (x : Branch) → k ≤ k' → BranchHolds b k x → BranchHolds b k' x
branch_more (TStdBranch.Main size) k k' (main x) h m = main_more _ _ (188 * k') k' _ (mul-le-mul_left 188 h) h m
branch_more (TStdBranch.Main size) k k' (video x) h m = m
branch_more (TStdBranch.Video rbx mb eb) k k' (main x) h m = m
branch_more (TStdBranch.Video rbx mb eb) k k' (video x) h m = video_more (188 * k') k' k' (mul-le-mul_left 188 h) h h m

-- k counts the chain's packets, and may count others
pub chain_mono : (m : TStdStream) (k k' : ℕ) (c : Chain) → k ≤ k' → ChainHolds m k c → ChainHolds m k' c
chain_mono m k k' c h x =
    record { bytes = x.bytes; few = le_trans x.few (mul-le-mul_left 188 h); tb = x.tb; branch = branch_more m.model.branch k k' c.branch h x.branch }

-- ---- a packet
record StepHolds (b : TStdBranch) (k u : ℕ) (s : Stepped) : Type 0 where
  branch : BranchHolds b (suc k) s.branch
  events : EventsIn s.events
  few : FewEvents 1 u s.events (removed_units s.branch)

module _ {i j l : ℕ} (k depth : ℕ) (d : Delivered) (t : Float) (in_order : UpTo latest_time t) (fit : T (fits binary64 t)) (x : DeliveredIn i j l d) (sum : i + j + l ≤ 188) (short : 188 * suc k ≤ 2 ^ 24) where
  more : 188 * k + i + j + l ≤ 188 * suc k
  more = omega arith

  step_holds : (b : TStdBranch) (y : Branch) → BranchWithin b → BranchHolds b k y → StepHolds b k (removed_units y) (step_branch b depth d false t y)
  unfolding step_branch
  step_holds (TStdBranch.Main size) (main y) w h =
      let z = main_packet (float size) depth d t y (size_of size w.least w.most) x (le_trans more short) h in
      record { branch = main_more _ _ (188 * suc k) (suc k) _ more (le_refl (suc k)) z.holds; events = z.events; few = z.few }
  step_holds (TStdBranch.Main size) (video y) w h = absurd h
  step_holds (TStdBranch.Video rbx mb eb) (main y) w h = absurd h
  step_holds (TStdBranch.Video rbx mb eb) (video y) w h =
      let g = rates_of_lem rbx mb eb w.0.least w.0.most w.1.0.least w.1.0.most w.1.1.least w.1.1.most in
      let z = video_packet _ depth d t y g in_order fit (omega arith) x (le_trans more short) h in
      record { branch = video_more (188 * suc k) (suc k) (suc k) more (le_refl (suc k)) (omega arith) z.holds; events = z.events; few = z.few }

pub packet_holds : (m : TStdStream) (k depth : ℕ) (h : TsPacket) (r : Runs) (t0 t1 : Float) (i : RateInterval) (c : Chain) → StreamWithin m → 188 * suc k ≤ 2 ^ 24
    → 1 ≤ h.payload_start → h.payload_start ≤ 188 → RunsHold r (188 - h.payload_start) → PacketTime t0 → PacketTime t1 → IntervalWithin i
    → ChainHolds m k c → PacketHolds m k c (packet_step m depth h r t0 t1 i c)
unfolding packet_step
packet_holds m k depth h r t0 t1 i c w short some most runs p q v x =
    let a = arrive_in_lem c.tb h.payload_start r t0 t1 i v p q x.tb some most runs (room x.bytes k x.few short) in
    let s = step_holds k depth (arrive c.tb h.payload_start r t0 t1 (stamp_time i r.decode_ts)).delivered t0 (arrival_up_to (time_in p)) p.fit a.delivered a.few_delivered short
    m.model.branch c.branch w.branch x.branch in
    record {
      chain = record { bytes = a.bytes; few = all a.bytes x.bytes k a.few x.few; tb = a.tb; branch = s.branch };
      events = s.events;
      few = s.few;
    }
  where
    room : (n k : ℕ) → n ≤ 188 * k → 188 * suc k ≤ 2 ^ 24 → n + 188 ≤ 2 ^ 24 + 2 ^ 10
    room n k h g = omega arith

    all : (b n k : ℕ) → b ≤ n + 188 → n ≤ 188 * k → b ≤ 188 * suc k
    all b n k h g = omega arith

-- packet k of a recording, by a clock within bounds: its first byte is byte 188 k
pub packet_at_holds : (m : TStdStream) (k depth : ℕ) (h : TsPacket) (r : Runs) (first : RateInterval) (others : List RateInterval) (c : Chain) → StreamWithin m → 188 * suc k ≤ 2 ^ 24
    → Parsed h → RunsHold r (188 - h.payload_start) → AllWithin (first ∷ others) → ChainHolds m k c
    → PacketHolds m k c
    (packet_step m depth h r (arrival_at (first ∷ others) (188 * k)) (arrival_at (first ∷ others) (188 * k + 188)) (covering (188 * k + 188) (first ∷ others)) c)
packet_at_holds m k depth h r first others c w short parsed runs clock x =
    let start = covering_within (188 * k) first others clock in
    let end = covering_within (188 * k + 188) first others clock in
    packet_holds m k depth h r (arrival_at (first ∷ others) (188 * k)) (arrival_at (first ∷ others) (188 * k + 188)) (covering (188 * k + 188) (first ∷ others)) c w short
    (omega (arith, parsed.start_low)) parsed.start_high runs
    (packet_time (covering (188 * k) (first ∷ others)) (188 * k) start (omega arith)) (packet_time (covering (188 * k + 188) (first ∷ others)) (188 * k + 188) end (omega arith)) end x

-- ---- the end
record EndStepHolds (b : TStdBranch) (k u : ℕ) (s : Stepped) : Type 0 where
  branch : s.full ≡ false → BranchEnded b k s.branch
  events : EventsIn s.events
  few : FewEvents 2 u s.events (removed_units s.branch)

end_step_lem : (k depth : ℕ) (d : Delivered) (t : Float) → 188 * k ≤ 2 ^ 24 → (b : TStdBranch) (y : Branch) → BranchWithin b → BranchHolds b k y
    → EndStepHolds b k (removed_units y) (step_branch b depth d true t y)
unfolding step_branch
end_step_lem k depth d t short (TStdBranch.Main size) (main y) w h =
    let z = main_end (float size) depth d t y (size_of size w.least w.most) h in
    record { branch = z.figures; events = z.events; few = few_more 2 (lit≤ tt) z.few }
end_step_lem k depth d t short (TStdBranch.Main size) (video y) w h = absurd h
end_step_lem k depth d t short (TStdBranch.Video rbx mb eb) (main y) w h = absurd h
end_step_lem k depth d t short (TStdBranch.Video rbx mb eb) (video y) w h =
    let g = rates_of_lem rbx mb eb w.0.least w.0.most w.1.0.least w.1.0.most w.1.1.least w.1.1.most in
    let z = video_end _ depth d t y g (omega arith) h in
    record { branch = z.figures; events = z.events; few = z.few }

-- events before those of a branch
few_before : {a b u v : ℕ} {xs ys : List Event} → AtMost a xs → FewEvents b u ys v → FewEvents (a + b) u (xs ++ ys) v
few_before {a} {b} {u} {v} {xs} {ys} h f = record { few = rw length-append (both (length xs) (length ys) u v a b h.few f.few) }
  where
    both : (x y u v a b : ℕ) → x ≤ a → y + 3 * u ≤ 3 * v + b → x + y + 3 * u ≤ 3 * v + (a + b)
    both x y u v a b h f = omega arith

pub end_holds : (m : TStdStream) (k depth : ℕ) (c : Chain) → StreamWithin m → 188 * k ≤ 2 ^ 24 → ChainHolds m k c → EndHolds m k c (end_step m depth c)
unfolding end_step
end_holds m k depth c w short x =
    let s = end_step_lem k depth nothing 0f short m.model.branch c.branch w.branch x.branch in
    record {
      chain = λ e. record { bytes = x.bytes; few = x.few; tb = x.tb; branch = s.branch e };
      events = events_append (tb_events_lem x.tb (le_trans x.few short)) s.events;
      few = few_before (tb_events_few c.tb) s.few;
    }

-- ---- the figures
figures_of_lem : (m : TStdStream) (k : ℕ) (tb : FluidFifo) (y : Branch) (n : ℕ) → Bounded n tb → (b : TStdBranch) → BranchEnded b k y → StatsBounded k (stats_of m (record { tb = tb; branch = y }))
unfolding stats_of
figures_of_lem m k tb (main y) n t (TStdBranch.Main size) f =
    record { peak_tb = peak_below t; peak_main = f.peak.whole; peak_eb = lit< tt; access_units = f.units; max_delay = f.max_delay }
figures_of_lem m k tb (video y) n t (TStdBranch.Main size) f = absurd f
figures_of_lem m k tb (main y) n t (TStdBranch.Video rbx mb eb) f = absurd f
figures_of_lem m k tb (video y) n t (TStdBranch.Video rbx mb eb) f =
    record { peak_tb = peak_below t; peak_main = f.mb_peak.whole; peak_eb = f.eb_peak.whole; access_units = f.units; max_delay = f.max_delay }

pub stats_bounded : (m : TStdStream) (k : ℕ) (c : Chain) → ChainEnded m k c → StatsBounded k (stats_of m c)
stats_bounded m k c x = figures_of_lem m k c.tb c.branch x.bytes x.tb m.model.branch x.branch

-- the units that are removed, at any time and at the end
removed_by : (b : TStdBranch) (k : ℕ) (y : Branch) → BranchHolds b k y → removed_units y ≤ k
removed_by (TStdBranch.Main size) k (main y) h =
    le_trans (le_trans (le-add_right y.units (length y.pending)) h.bounded.counted) (closed_few h.open_unit)
removed_by (TStdBranch.Main size) k (video y) h = absurd h
removed_by (TStdBranch.Video rbx mb eb) k (main y) h = absurd h
removed_by (TStdBranch.Video rbx mb eb) k (video y) h =
    le_trans (le_trans (le-add_right y.branch.units (length y.branch.pending)) h.bounded.counted) (closed_few h.open_unit)

pub removed_few : (m : TStdStream) (k : ℕ) (c : Chain) → ChainHolds m k c → removed_units c.branch ≤ k
removed_few m k c x = removed_by m.model.branch k c.branch x.branch

removed_ended : (b : TStdBranch) (k : ℕ) (y : Branch) → BranchEnded b k y → removed_units y ≤ k
removed_ended (TStdBranch.Main size) k (main y) h = h.units
removed_ended (TStdBranch.Main size) k (video y) h = absurd h
removed_ended (TStdBranch.Video rbx mb eb) k (main y) h = absurd h
removed_ended (TStdBranch.Video rbx mb eb) k (video y) h = h.units

pub removed_few_ended : (m : TStdStream) (k : ℕ) (c : Chain) → ChainEnded m k c → removed_units c.branch ≤ k
removed_few_ended m k c x = removed_ended m.model.branch k c.branch x.branch
