-- Pass 2 as the loop of the code holds it: what does not change, and what the arrays, the work and the slots are behind k steps.
use Rattle.std.specs.Prelude.{◌≡◌, ℕ, suc, ◌+◌, ◌-◌, ◌*◌, ◌/◌, ◌^◌, ◌<◌, ◌≤◌, true, cond, List, length, nat_lt, slice_index_or, Float, Result, Ok, Err}
use Rattle.error.specs.declared.Refusal.{Refusal}
use Rattle.packet.specs.declared.TsPacketLayout.{TsPacketLayout}
use Rattle.scanner.specs.State.{scanner_of}
use Rattle.recording.specs.Read.{opens_at, fact_at}
use Rattle.arrival.specs.declared.RateInterval.{RateInterval}
use Rattle.arrival.specs.declared.Intervals.{Intervals}
use Rattle.arrival.specs.Work.{holds, intervals_in}
use Rattle.arrival.specs.Bounds.{AllWithin}
use Rattle.arrival.proofs.Covering.{AtEnd}
use Rattle.events.specs.declared.Slots.{Slots}
use Rattle.branch.specs.Queue.{SameOutside}
use Rattle.profile.specs.declared.config.TStdConfig.{TStdConfig}
use Rattle.profile.specs.declared.owner.Owner.{Owner}
use Rattle.profile.specs.Config.{streams_of, unused_stream}
use Rattle.profile.specs.Owner.{owner_of}
use Rattle.summary.specs.Summary.{empty_slots, noted_found}
use Rattle.model.specs.Chain.{end_step}
use Rattle.model.specs.Replay.{State, Ran, running, started, Outcome, refused_with, streams_read, stream_at, chain_at, stepped, fact_step}
use Rattle.tstd.specs.declared.times.Times.{Times}
use Rattle.tstd.specs.declared.front.SystemChain.{SystemChain}
use Rattle.tstd.specs.declared.run.Ran.{Ran as RanState}
use Rattle.tstd.specs.declared.chain.Chain.{Chain as ChainState}
use Rattle.tstd.specs.Chain.{unused_chain}
use Rattle.tstd.specs.InWork.{ChainIs}
use Rattle.tstd.specs.Rest.{finished, from_packet, from_end}

-- the profile, the recording with its layout and count of packets, the chains' work, and the clock as pass 1 left it
pub record Pass : Type 0 where
  pub config : TStdConfig
  pub recording : List ℕ
  pub layout : TsPacketLayout
  pub count : ℕ
  pub work : List Float
  pub times : List Float
  pub places : List ℕ
  -- the clock's intervals are one more
  pub last : ℕ

abbrev pub stream_count : Pass → ℕ
stream_count g = g.config.stream_count

abbrev pub depth_of : Pass → ℕ
depth_of g = g.config.queue_depth

-- the chains' work, which has a part for each stream
abbrev pub work_length : Pass → ℕ
work_length g = 8 * depth_of g * stream_count g

abbrev pub clock_of : Pass → List RateInterval
clock_of g = intervals_in g.times g.places 0 (suc g.last)

pub record Ready (g : Pass) : Type 0 where
  pub few : stream_count g ≤ 8
  pub slots : length g.config.streams ≡ 8
  pub some_depth : 0 < depth_of g
  pub depth_few : depth_of g ≤ 8192
  pub parts : work_length g ≤ length g.work
  pub room : holds (suc g.last) g.times g.places ≡ true
  pub window : g.layout.sync_offset + 188 ≤ g.layout.packet_size
  pub size_few : g.layout.packet_size ≤ 204
  pub whole : g.count ≡ length g.recording / g.layout.packet_size
  pub long : length g.recording ≤ 2 ^ 24
  pub within : AllWithin (clock_of g)

-- step k of the definition: packet k, or behind the packets the end of a stream
unfoldable pub step_of : Pass → ℕ → State → Ran
step_of g k s =
    cond (nat_lt k g.count) (fact_step g.config (clock_of g) (188 * k) (fact_at g.layout (streams_read g.config) g.recording k) s)
    (stepped g.config (k - g.count) s
    (end_step (slice_index_or (streams_of g.config) (k - g.count) unused_stream) (depth_of g) (chain_at g.config s (k - g.count))))

abbrev pub packets_left : Pass → ℕ → ℕ → State → Outcome
packets_left g samples k s = from_packet g.config (clock_of g) samples g.layout g.recording g.count k s

abbrev pub ends_left : Pass → ℕ → ℕ → State → Outcome
ends_left g samples i s = from_end g.config (clock_of g) samples g.layout g.recording g.count i s

-- pass 2 as a whole
abbrev pub whole : Pass → ℕ → Outcome
whole g samples = packets_left g samples 0 (started g.config)

-- the states that k steps of the definition reach from the first
pub data Reached (g : Pass) : ℕ → State → Type 0 where
  before_all : Reached g 0 (started g.config)
  one_more : {k : ℕ} {s s' : State} → k < g.count + stream_count g → Reached g k s → step_of g k s ≡ running s' → Reached g (suc k) s'

-- the chain of stream i
abbrev pub ChainAt : Pass → ℕ → List Float → List ChainState → State → ℕ → Type 0
ChainAt g k w cs s i =
    ChainIs w (stream_at g.config i) (8 * depth_of g * i) (depth_of g) k (slice_index_or cs i unused_chain) (chain_at g.config s i)

-- behind k steps the state is s
pub record At (g : Pass) (ready : Ready g) (k : ℕ) (w : List Float) (cs : List ChainState) (system : SystemChain) (times : Times) (sl : Slots) (s : State) : Type 0 where
  pub outside : SameOutside 0 (work_length g) g.work w
  pub size : length cs ≡ 8
  pub chains_size : length s.chains ≡ stream_count g
  pub chains : (i : ℕ) → i < stream_count g → ChainAt g k w cs s i
  -- a stream that takes the packets of its PID
  pub scanners : k ≤ g.count → (i : ℕ) → i < stream_count g → owner_of g.config (stream_at g.config i).pid ≡ Owner.Stream i
      → (slice_index_or cs i unused_chain).scanner ≡ scanner_of (opens_at g.layout g.recording k (stream_at g.config i).pid)
  pub system_tb : system.tb ≡ s.sys_tb
  pub system_branch : system.branch ≡ s.sys
  pub first : times.first_time ≡ s.first_time
  pub last : times.last_time ≡ s.last_time
  pub slots : sl ≡ noted_found s.events empty_slots
  pub arrival : k ≤ g.count → AtEnd g.times g.places g.last ready.room k times.arrival

-- ---- what pass 2 ensures

abbrev pub pass_of : TStdConfig → List ℕ → TsPacketLayout → ℕ → List Float → Intervals → Pass
pass_of c l y count w i =
    record { config = c; recording = l; layout = y; count = count; work = w; times = i.times.now; places = i.places.now; last = i.count - 1 }

-- number 10 with the packet, and the PID of the full chain
abbrev pub queue_full : TStdConfig → ℕ → ℕ → Refusal
queue_full c packet i = Refusal.QueueFull packet (stream_at c i).pid

-- behind the packets and the ends of i streams, r is the state that they reach
pub record Through (g : Pass) (ready : Ready g) (i : ℕ) (r : RanState) (w : List Float) : Type 0 where
  pub state : State
  pub reached : Reached g (g.count + i) state
  pub at : At g ready (g.count + i) w r.chains r.system r.times r.slots state
  pub left : (samples : ℕ) → whole g samples ≡ ends_left g samples i state

-- all steps were taken
pub record Finished (g : Pass) (ready : Ready g) (r : RanState) (w : List Float) : Type 0 where
  pub state : State
  pub reached : Reached g (g.count + stream_count g) state
  pub at : At g ready (g.count + stream_count g) w r.chains r.system r.times r.slots state
  pub outcome : (samples : ℕ) → whole g samples ≡ finished g.config (clock_of g) samples g.layout g.recording g.count state

pub record RanTo (g : Pass) (result : Result RanState Refusal) (w : List Float) : Type 0 where
  pub ready : Ready g
  pub outside : SameOutside 0 (work_length g) g.work w
  pub refused : (x : Refusal) → result ≡ Err x → (samples : ℕ) → whole g samples ≡ refused_with x
  pub finishes : (r : RanState) → result ≡ Ok r → Finished g ready r w

-- the ends of the streams, whatever the recording whose packets are through
pub record EndsTo (c : TStdConfig) (count : ℕ) (w : List Float) (r : RanState) (result : Result RanState Refusal) (w' : List Float) : Type 0 where
  pub ends : (l : List ℕ) (y : TsPacketLayout) (work : List Float) (clock : Intervals) (ready : Ready (pass_of c l y count work clock)) → Through (pass_of c l y count work clock) ready 0 r w
      → RanTo (pass_of c l y count work clock) result w'
