-- A step of pass 2: the packet of a header, its arrival and its fact, and what the definition's step is.
use Rattle.std.proofs.Common.{◌≡◌, ℕ, suc, ◌+◌, ◌-◌, ◌*◌, ◌/◌, ◌^◌, ◌<◌, ◌≤◌, Bool, true, false, cond, leb, List, [], length, get_or, take, drop, refl, ap, ◌∙◌, mul-le-mul_left, div-mul-le_self, arith, length-take, get_or-take, le-ltb, lt-ltb}
use Rattle.packet.specs.declared.TsPacket.{TsPacket}
use Rattle.packet.specs.declared.TsError.{TsError}
use Rattle.std.specs.Prelude.{Some, Result, Ok, Err}
use Rattle.packet.specs.declared.TsPacketLayout.{TsPacketLayout}
use Rattle.packet.specs.Packet.{parse_of}
use Rattle.packet.specs.Layout.{window_of}
use Rattle.header.specs.declared.PacketHeader.{PacketHeader}
use Rattle.header.specs.Header.{header_of}
use Rattle.header.proofs.Headers.{Fails}
use Rattle.recording.specs.Read.{unparsed, packet_at, opens_at, fact_at, fact_by}
use Rattle.recording.proofs.Facts.{opens_by, fact_by_lem}
use Rattle.arrival.specs.declared.PacketArrival.{PacketArrival}
use Rattle.arrival.specs.Times.{arrival_at, covering}
use Rattle.arrival.specs.Work.{next_arrival}
use Rattle.arrival.proofs.Covering.{AtEnd, end_interval, next_arrives}
use Rattle.profile.specs.Config.{streams_of, unused_stream}
use Rattle.model.specs.Chain.{end_step}
use Rattle.model.specs.Replay.{State, running, stream_at, chain_at, streams_read, stepped, fact_step}
use Rattle.tstd.specs.Run.{Pass, stream_count, depth_of, clock_of, Ready, step_of}

-- the bytes that the loop takes from place `at` on are packet k's
pub window_is : (g : Pass) (k at : ℕ) → at ≡ g.layout.sync_offset + k * g.layout.packet_size
    → cond (leb (at + 188) (length g.recording)) (take 188 (drop at g.recording)) [] ≡ packet_at g.layout g.recording k
unfolding window_of
window_is g k at e =
    let f : at ≡ k * g.layout.packet_size + g.layout.sync_offset = omega arith in
    ap (λ (n : ℕ). cond (leb (n + 188) (length g.recording)) (take 188 (drop n g.recording)) []) f

-- ---- the packet of a header

pub record PacketIs (g : Pass) (k : ℕ) (h : PacketHeader) : Type 0 where
  pub packet : TsPacket
  pub parse : parse_of (packet_at g.layout g.recording k) ≡ Ok packet
  pub header : h ≡ record { pid = packet.pid; payload_unit_start = packet.payload_unit_start; payload_start = packet.payload_start }

module _ (g : Pass) (k : ℕ) (h : PacketHeader) where
  by_parse : (p : Result TsPacket TsError) → parse_of (packet_at g.layout g.recording k) ≡ p → header_of p ≡ Some h → PacketIs g k h
  unfolding header_of
  by_parse (Ok x) e f = record { packet = x; parse = e; header = cc }
  by_parse (Err x) e f = absurd (cc)

  pub packet_is : header_of (parse_of (packet_at g.layout g.recording k)) ≡ Some h → PacketIs g k h
  packet_is f = by_parse _ refl f

-- ---- its times

-- packet k comes from its first byte to its last, by the interval of its end
pub record Arrives (g : Pass) (ready : Ready g) (k : ℕ) (x : PacketArrival) : Type 0 where
  pub at : AtEnd g.times g.places g.last ready.room (suc k) x
  pub t0 : x.t0 ≡ arrival_at (clock_of g) (188 * k)
  pub t1 : x.t1 ≡ arrival_at (clock_of g) (188 * k + 188)
  pub interval : x.cursor.interval ≡ covering (188 * k + 188) (clock_of g)

module _ (g : Pass) (ready : Ready g) where
  -- 188 bytes each in a recording of 2^24 at most
  pub count_few : 188 * g.count ≤ 2 ^ 24
  count_few =
      let n = length g.recording in
      let d = g.layout.packet_size in
      let w = ready.window in
      let a : (n / d) * 188 ≤ (n / d) * d = mul-le-mul_left (n / d) (omega arith) in
      rw ready.whole (omega (arith, div-mul-le_self n d, ready.long))

  pub arrives : (k : ℕ) (x : PacketArrival) → k < g.count → AtEnd g.times g.places g.last ready.room k x → Arrives g ready k (next_arrival g.times g.places (suc g.last) x)
  arrives k x h at =
      let few = count_few in
      let p = next_arrives g.times g.places g.last ready.room k x (omega arith) at in
      let e : k + 1 ≡ suc k = omega arith in
      let f : 188 * suc k ≡ 188 * k + 188 = omega arith in
      let a : AtEnd g.times g.places g.last ready.room (suc k) (next_arrival g.times g.places (suc g.last) x) = rw e at p.0 in
      record {
        at = a;
        t0 = p.1;
        t1 = rw f at a.t1_is;
        interval = rw f at (end_interval g.times g.places g.last ready.room a);
      }

-- a packet's window has 188 bytes or none
window_few : (b : Bool) (xs : List ℕ) → length (cond b (take 188 xs) []) ≤ 188
window_few true xs = rw (length-take 188 xs) (omega arith)
window_few false xs = omega arith

pub packet_few : (y : TsPacketLayout) (l : List ℕ) (k : ℕ) → length (packet_at y l k) ≤ 188
unfolding window_of
packet_few y l k =
    let from = k * y.packet_size + y.sync_offset in
    window_few (leb (from + 188) (length l)) (drop from l)

-- ---- the definition's step

module _ (g : Pass) (k : ℕ) (s : State) where
  pub step_packet : k < g.count
      → step_of g k s ≡ fact_step g.config (clock_of g) (188 * k) (fact_at g.layout (streams_read g.config) g.recording k) s
  unfolding step_of
  step_packet h = rw (lt-ltb k g.count h)

  pub step_end : g.count ≤ k
      → step_of g k s ≡ stepped g.config (k - g.count) s (end_step (get_or (streams_of g.config) (k - g.count) unused_stream) (depth_of g) (chain_at g.config s (k - g.count)))
  unfolding step_of
  step_end h = rw (le-ltb k g.count h)

  -- an unparsed packet
  pub unparsed_fact : Fails (parse_of (packet_at g.layout g.recording k)) → fact_at g.layout (streams_read g.config) g.recording k ≡ unparsed
  unfolding fact_by
  unparsed_fact f = fact_by_lem g.layout g.recording k (streams_read g.config) _ f.is

  pub unparsed_opens : Fails (parse_of (packet_at g.layout g.recording k)) → (x : ℕ) → opens_at g.layout g.recording (suc k) x ≡ opens_at g.layout g.recording k x
  unparsed_opens f x = opens_by g.layout g.recording k _ x f.is

  pub step_unparsed : k < g.count → Fails (parse_of (packet_at g.layout g.recording k)) → step_of g k s ≡ running s
  unfolding fact_step
  step_unparsed h f = step_packet h ∙ rw (unparsed_fact f) refl

-- the end of stream i
pub step_end_at : (g : Pass) (i : ℕ) (s : State)
    → step_of g (g.count + i) s ≡ stepped g.config i s (end_step (get_or (streams_of g.config) i unused_stream) (depth_of g) (chain_at g.config s i))
step_end_at g i s =
    let e : g.count + i - g.count ≡ i = omega arith in
    step_end g (g.count + i) s (omega arith) ∙ rw e refl

-- the streams in use
pub streams_counted : (g : Pass) → Ready g → length (streams_of g.config) ≡ stream_count g
streams_counted g ready =
    let a = ready.few in
    length-take (stream_count g) g.config.streams ∙ rw ready.slots (omega arith)

pub stream_used : (g : Pass) (i : ℕ) → i < stream_count g → get_or (streams_of g.config) i unused_stream ≡ stream_at g.config i
stream_used g i h = get_or-take (stream_count g) g.config.streams i unused_stream h
