-- The conditions under which a replay is refused, number by number, and under which it is accepted.
use Rattle.std.specs.Prelude.{ℕ, suc, ◌+◌, ◌*◌, ◌≤◌, ◌<◌, ◌≡◌, true, false, ◌||◌, List, [], ◌∷◌, ◌++◌, length, get_or, Some, None, Ok}
use Rattle.std.specs.Float.Ieee.{lt}
use Rattle.ieee.specs.Binary64.{1000f, 1000000000f}
use Rattle.error.specs.declared.Refusal.{Refusal}
use Rattle.packet.specs.declared.TsPacketLayout.{TsPacketLayout}
use Rattle.packet.specs.Layout.{layout_of}
use Rattle.packet.specs.declared.TsPacket.{TsPacket}
use Rattle.scanner.specs.declared.Runs.{Runs}
use Rattle.recording.specs.Read.{Fact, parsed, Read, read_of}
use Rattle.arrival.specs.declared.RateInterval.{RateInterval}
use Rattle.arrival.specs.declared.Sample.{Sample}
use Rattle.arrival.specs.declared.Anchor.{Anchor}
use Rattle.arrival.specs.ArrivalClock.{anchor_at, step_to, rate_to, close, build}
use Rattle.arrival.specs.Times.{covering, arrival_at}
use Rattle.profile.specs.declared.config.TStdStream.{TStdStream}
use Rattle.profile.specs.declared.config.TStdConfig.{TStdConfig}
use Rattle.profile.specs.declared.owner.Owner.{Owner}
use Rattle.profile.specs.declared.limits.Limits.{Limits}
use Rattle.profile.specs.declared.work.WorkSize.{WorkSize}
use Rattle.profile.specs.Config.{streams_of, unused_stream}
use Rattle.profile.specs.Limits.{within_limits}
use Rattle.profile.specs.Owner.{owner_of}
use Rattle.profile.specs.Work.{needed_of, covers}
use Rattle.model.specs.Chain.{packet_step, end_step}
use Rattle.model.specs.Replay.{State, running, chain_at, stream_at, stepped, Outcome, accepted, started, ends_from, report_of, stream_stats, system_stats, fact_step, replay, samples_read, streams_read}

-- what the replay answers for a recording l, and what it reads of it
abbrev pub answer : Limits → TStdConfig → WorkSize → List ℕ → Outcome
answer limits c room l = replay limits c room (read_of (streams_read c) l)

abbrev pub read_in : TStdConfig → List ℕ → Read
read_in c l = read_of (streams_read c) l

abbrev pub samples_in : TStdConfig → List ℕ → List Sample
samples_in c l = samples_read c (read_in c l)

abbrev pub stream_of : TStdConfig → ℕ → TStdStream
stream_of c i = get_or (streams_of c) i unused_stream

-- ---- numbers 1 to 3
-- profile, work and row, and the recording's length are within their limits
pub record Fit (limits : Limits) (c : TStdConfig) (room : WorkSize) (l : List ℕ) : Type 0 where
  pub within : within_limits limits c ≡ true
  pub covered : covers room (needed_of c) ≡ true
  pub short : length l ≤ limits.longest_recording

-- ---- number 4
-- and there is a packet layout
pub record LaidOut (limits : Limits) (c : TStdConfig) (room : WorkSize) (l : List ℕ) : Type 0 where
  pub fit : Fit limits c room l
  pub layout : TsPacketLayout
  pub found : layout_of l ≡ Some layout

-- ---- numbers 8 and 5
-- and there are from 2 samples to as many as the clock depth
pub record Sampled (limits : Limits) (c : TStdConfig) (room : WorkSize) (l : List ℕ) : Type 0 where
  pub laid_out : LaidOut limits c room l
  pub two : 2 ≤ length (samples_in c l)
  pub within_depth : length (samples_in c l) ≤ c.clock_depth

-- ---- numbers 6, 7 and 9
-- each sample from number n on, counted from 0, closes the interval behind the anchor, up to sample m, which comes behind the anchor b
pub data Reaches : ℕ → Anchor → List Sample → ℕ → Anchor → Sample → Type 0 where
  here : {n : ℕ} {a : Anchor} {s : Sample} {ss : List Sample} → Reaches n a (s ∷ ss) n a s
  later : {n m : ℕ} {a b a' : Anchor} {s s' : Sample} {ss : List Sample} (i : RateInterval) → close n a s ≡ Ok (record { interval = i; anchor = a' })
      → Reaches (n + 1) a' ss m b s' → Reaches n a (s ∷ ss) m b s'

-- the same from the first sample on
pub data Comes : List Sample → ℕ → Anchor → Sample → Type 0 where
  comes : {s s' : Sample} {ss : List Sample} {m : ℕ} {b : Anchor} → Reaches 1 (anchor_at s) ss m b s' → Comes (s ∷ ss) m b s'

-- sample n, behind the anchor a: a mark before a rate, no step, or a rate below 1,000 or above 1,000,000,000 bytes/s
pub record MarkBeforeRate (n : ℕ) (s : Sample) : Type 0 where
  pub marked : s.marked ≡ true
  pub second : n ≡ 1

pub record NoStep (a : Anchor) (s : Sample) : Type 0 where
  pub unmarked : s.marked ≡ false
  pub none : step_to a s ≡ 0

pub record BadRate (a : Anchor) (s : Sample) : Type 0 where
  pub unmarked : s.marked ≡ false
  pub some : 0 < step_to a s
  pub outside : (lt (rate_to a s) 1000f || lt 1000000000f (rate_to a s)) ≡ true

-- there is a sample n for which this holds, and no sample before it is refused
pub record SampleIs (P : Anchor → Sample → Type 0) (ss : List Sample) (n : ℕ) : Type 0 where
  pub anchor : Anchor
  pub sample : Sample
  pub before : Comes ss n anchor sample
  pub holds : P anchor sample

-- ---- number 10
-- and the clock is built
pub record Clocked (limits : Limits) (c : TStdConfig) (room : WorkSize) (l : List ℕ) : Type 0 where
  pub laid_out : LaidOut limits c room l
  pub clock : List RateInterval
  pub built : build c.clock_depth (samples_in c l) ≡ Ok clock

-- the packets from number k on run, and meet no full queue, up to packet m, which is the first of the packets gs
pub data RunsTo (c : TStdConfig) (clock : List RateInterval) : ℕ → List Fact → State → ℕ → List Fact → State → Type 0 where
  there : {k : ℕ} {fs : List Fact} {s : State} → RunsTo c clock k fs s k fs s
  packet : {k m : ℕ} {f : Fact} {fs gs : List Fact} {s s' t : State} → fact_step c clock (188 * k) f s ≡ running s'
      → RunsTo c clock (suc k) fs s' m gs t → RunsTo c clock k (f ∷ fs) s m gs t

-- the ends of the streams from number i on meet no full queue, up to stream j, which is the first of the streams ns
pub data EndsTo (c : TStdConfig) : ℕ → List TStdStream → State → ℕ → List TStdStream → State → Type 0 where
  no_end : {i : ℕ} {ms : List TStdStream} {s : State} → EndsTo c i ms s i ms s
  an_end : {i j : ℕ} {m : TStdStream} {ms ns : List TStdStream} {s s' t : State} → stepped c i s (end_step m c.queue_depth (chain_at c s i)) ≡ running s'
      → EndsTo c (suc i) ms s' j ns t → EndsTo c i (m ∷ ms) s j ns t

-- packet k, which is stream i's, or behind the last packet the end of stream i, meets a full queue of that stream's chain
pub data Meets (c : TStdConfig) (clock : List RateInterval) (k : ℕ) : ℕ → List Fact → State → Type 0 where
  at_packet : {h : TsPacket} {r : Runs} {fs : List Fact} {s : State} (i : ℕ) → owner_of c h.pid ≡ Owner.Stream i
      → (packet_step (stream_at c i) c.queue_depth h r (arrival_at clock (188 * k)) (arrival_at clock (188 * k + 188)) (covering (188 * k + 188) clock) (chain_at c s i)).full ≡ true
      → Meets c clock k h.pid (parsed h r ∷ fs) s
  at_end : {i : ℕ} {m : TStdStream} {ms : List TStdStream} {s t : State} → EndsTo c 0 (streams_of c) s i (m ∷ ms) t
      → (end_step m c.queue_depth (chain_at c t i)).full ≡ true → Meets c clock k m.pid [] s

pub record FullQueue (c : TStdConfig) (clock : List RateInterval) (k : ℕ) (fs : List Fact) (s : State) (m pid : ℕ) : Type 0 where
  pub rest : List Fact
  pub state : State
  pub runs : RunsTo c clock k fs s m rest state
  pub meets : Meets c clock m pid rest state

-- ---- accepted
-- the report and the chains' figures of the last state
abbrev pub reported : TStdConfig → (samples : ℕ) → State → Outcome
reported c n s = accepted (report_of c n s) (stream_stats 0 (streams_of c) c s ++ system_stats c s)

-- the packets run to the last, and the ends too
pub record Ended (c : TStdConfig) (clock : List RateInterval) (k : ℕ) (fs : List Fact) (s : State) : Type 0 where
  pub count : ℕ
  pub last : State
  pub runs : RunsTo c clock k fs s count [] last
  pub final : State
  pub ends : ends_from c 0 (streams_of c) last ≡ running final

-- all of that from the first packet on
pub record Completed (limits : Limits) (c : TStdConfig) (room : WorkSize) (l : List ℕ) : Type 0 where
  pub clocked : Clocked limits c room l
  pub ended : Ended c clocked.clock 0 (read_in c l).facts (started c)

-- ---- each number's condition
pub record TooShort (limits : Limits) (c : TStdConfig) (room : WorkSize) : Type 0 where
  pub within : within_limits limits c ≡ true
  pub uncovered : covers room (needed_of c) ≡ false

pub record TooLong (limits : Limits) (c : TStdConfig) (room : WorkSize) (l : List ℕ) : Type 0 where
  pub within : within_limits limits c ≡ true
  pub covered : covers room (needed_of c) ≡ true
  pub long : limits.longest_recording < length l

pub record NoLayout (limits : Limits) (c : TStdConfig) (room : WorkSize) (l : List ℕ) : Type 0 where
  pub fit : Fit limits c room l
  pub none : layout_of l ≡ None

pub record TooFew (limits : Limits) (c : TStdConfig) (room : WorkSize) (l : List ℕ) : Type 0 where
  pub laid_out : LaidOut limits c room l
  pub few : length (samples_in c l) < 2

pub record MarkedAt (limits : Limits) (c : TStdConfig) (room : WorkSize) (l : List ℕ) (n : ℕ) : Type 0 where
  pub sampled : Sampled limits c room l
  pub sample : SampleIs (λ (a : Anchor) (s : Sample). MarkBeforeRate n s) (samples_in c l) n

pub record RepeatedAt (limits : Limits) (c : TStdConfig) (room : WorkSize) (l : List ℕ) (n : ℕ) : Type 0 where
  pub sampled : Sampled limits c room l
  pub sample : SampleIs NoStep (samples_in c l) n

-- the place is the clock depth
pub record ClockFullAt (limits : Limits) (c : TStdConfig) (room : WorkSize) (l : List ℕ) (n : ℕ) : Type 0 where
  pub laid_out : LaidOut limits c room l
  pub place : n ≡ c.clock_depth
  pub more : c.clock_depth < length (samples_in c l)

pub record RateAt (limits : Limits) (c : TStdConfig) (room : WorkSize) (l : List ℕ) (n : ℕ) : Type 0 where
  pub sampled : Sampled limits c room l
  pub sample : SampleIs BadRate (samples_in c l) n

-- at packet k, or at the end, where k is the packet count
pub record QueueFullAt (limits : Limits) (c : TStdConfig) (room : WorkSize) (l : List ℕ) (k pid : ℕ) : Type 0 where
  pub clocked : Clocked limits c room l
  pub queue : FullQueue c clocked.clock 0 (read_in c l).facts (started c) k pid

-- ---- all ten: the condition of a refusal
abbrev pub RefusedBy : Limits → TStdConfig → WorkSize → List ℕ → Refusal → Type 0
RefusedBy limits c room l Refusal.OutsideLimits = within_limits limits c ≡ false
RefusedBy limits c room l Refusal.WorkTooShort = TooShort limits c room
RefusedBy limits c room l Refusal.RecordingTooLong = TooLong limits c room l
RefusedBy limits c room l Refusal.NoPacketLayout = NoLayout limits c room l
RefusedBy limits c room l Refusal.TooFewPcrs = TooFew limits c room l
RefusedBy limits c room l (Refusal.DiscontinuityBeforeRate n) = MarkedAt limits c room l n
RefusedBy limits c room l (Refusal.RepeatedPcr n) = RepeatedAt limits c room l n
RefusedBy limits c room l (Refusal.ClockFull n) = ClockFullAt limits c room l n
RefusedBy limits c room l (Refusal.RateOutsideLimits n) = RateAt limits c room l n
RefusedBy limits c room l (Refusal.QueueFull k pid) = QueueFullAt limits c room l k pid
