-- What a replay may know of a recording: its length, its layout, and of each whole packet either that it does not parse, or its header and
-- adaptation field with the runs of its payload. A replay's definition takes a Read and never the recording.
use Rattle.std.specs.Prelude.{ℕ, zero, suc, ◌/◌, List, [], ◌∷◌, Bool, cond, length, eqb, Option, Some, None, Result, Ok, Err}
use Rattle.pes.specs.StreamId.{member}
use Rattle.packet.specs.declared.TsPacket.{TsPacket}
use Rattle.packet.specs.declared.TsError.{TsError}
use Rattle.packet.specs.declared.TsPacketLayout.{TsPacketLayout}
use Rattle.packet.specs.Packet.{parse_of, payload_of}
use Rattle.packet.specs.Layout.{layout_of, window_of}
use Rattle.scanner.specs.declared.Runs.{Runs}
use Rattle.scanner.specs.Unit.{Open, none, next_open, runs_in, no_runs}

-- the streams of a profile, by their PIDs
pub record Streams : Type 0 where
  pub pids : List ℕ

unfoldable pub is_stream : Streams → ℕ → Bool
is_stream s x = member x s.pids

-- a packet's fact. A payload goes from payload_start to byte 188, so that its length follows; a PID that no stream has gets no runs
-- (not an Option of a pair: theorems go by the two names)
pub data Fact : Type 0 where
  unparsed : Fact
  parsed : TsPacket → Runs → Fact

-- the parse that a fact tells of; how a parse failed does not enter
abbrev pub parse_in : Fact → Result TsPacket TsError
parse_in unparsed = Err (TsError.BadSyncByte 0)
parse_in (parsed h r) = Ok h

-- the recording's length in bytes, its layout, and a fact for each whole packet, in their order
pub record Read : Type 0 where
  pub size : ℕ
  pub layout : Option TsPacketLayout
  pub facts : List Fact

-- the number of whole packets (with layout 204 a remainder of 188 bytes or more is none), and the 188 bytes of packet k
abbrev pub packets : TsPacketLayout → List ℕ → ℕ
packets y l = length l / y.packet_size

abbrev pub packet_at : TsPacketLayout → List ℕ → ℕ → List ℕ
packet_at y l k = window_of l y.packet_size y.sync_offset k

abbrev pub payload_in : List ℕ → TsPacket → List ℕ
payload_in w h = payload_of w h.payload_start

-- the open unit of PID x behind a packet: a parsed packet of that PID takes it on
abbrev pub open_behind : ℕ → Open → List ℕ → Result TsPacket TsError → Open
open_behind x o w (Ok h) = cond (eqb h.pid x) (next_open o h.payload_unit_start (payload_in w h)) o
open_behind x o w (Err e) = o

-- the fact of a packet, by the open units of the PIDs behind it
unfoldable pub fact_by : Streams → (ℕ → Open) → List ℕ → Result TsPacket TsError → Fact
fact_by s opens w (Ok h) = parsed h (cond (is_stream s h.pid) (runs_in (opens h.pid) (length (payload_in w h))) no_runs)
fact_by s opens w (Err e) = unparsed

module _ (y : TsPacketLayout) where
  -- the open unit of PID x behind the first k packets
  abbrev pub opens_at : List ℕ → ℕ → ℕ → Open
  opens_at l zero x = none
  opens_at l (suc k) x = open_behind x (opens_at l k x) (packet_at y l k) (parse_of (packet_at y l k))

  -- the fact of packet k, and those of n packets from it on
  abbrev pub fact_at : Streams → List ℕ → ℕ → Fact
  fact_at s l k = fact_by s (opens_at l (suc k)) (packet_at y l k) (parse_of (packet_at y l k))

  abbrev pub facts_from : Streams → List ℕ → ℕ → ℕ → List Fact
  facts_from s l k zero = []
  facts_from s l k (suc n) = fact_at s l k ∷ facts_from s l (suc k) n

  -- what is read of a recording at a given layout
  unfoldable pub read_at : Streams → List ℕ → Read
  read_at s l = record { size = length l; layout = Some y; facts = facts_from s l 0 (packets y l) }

-- the same at the layout that is found; without one there are no packets
unfoldable pub read_by : Option TsPacketLayout → Streams → List ℕ → Read
read_by (Some y) s l = read_at y s l
read_by None s l = record { size = length l; layout = None; facts = [] }

abbrev pub read_of : Streams → List ℕ → Read
read_of s l = read_by (layout_of l) s l

-- the state behind a list of facts
abbrev pub folded : {A : Type 0} → (A → Fact → A) → A → List Fact → A
folded step a [] = a
folded step a (f ∷ fs) = folded step (step a f) fs
