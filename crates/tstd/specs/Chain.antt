-- A stream's chain as the code holds it: before any packet, and behind a packet or the end of the stream.
use Rattle.std.specs.Prelude.{◌≡◌, ℕ, ◌-◌, ◌*◌, ◌<◌, Bool, cond, ◌&&◌, ◌||◌, List, length, nat_lt, slice_index_or, Float, ⊤, Result}
use Rattle.ieee.specs.Binary64.{◌⊘◌, 8f}
use Rattle.packet.specs.Packet.{payload_of}
use Rattle.header.specs.declared.PacketHeader.{PacketHeader}
use Rattle.scanner.specs.declared.PesScanner.{PesScanner}
use Rattle.scanner.specs.declared.Fed.{Fed}
use Rattle.scanner.specs.State.{idle, in_header, open_of, fed_of, unfed_runs}
use Rattle.arrival.specs.declared.PacketArrival.{PacketArrival}
use Rattle.fifo.specs.FluidFifo.{new}
use Rattle.events.specs.declared.Slots.{Slots}
use Rattle.events.specs.Slots.{noted_all}
use Rattle.branch.specs.declared.Delivered.{Delivered}
use Rattle.branch.specs.declared.QueueFull.{QueueFull}
use Rattle.branch.specs.declared.main_branch.MainModel.{MainModel}
use Rattle.branch.specs.declared.main_branch.MainBranch.{MainBranch}
use Rattle.branch.specs.declared.video_branch.VideoModel.{VideoModel}
use Rattle.branch.specs.declared.video_branch.VideoBranch.{VideoBranch}
use Rattle.branch.specs.MainInWork as main-work
use Rattle.branch.specs.VideoInWork as video-work
use Rattle.profile.specs.declared.model.TStdBranch.{TStdBranch}
use Rattle.profile.specs.declared.config.TStdStream.{TStdStream}
use Rattle.profile.specs.Config.{unused_stream}
use Rattle.transport.specs.declared.Arrived.{Arrived}
use Rattle.transport.specs.Arrive.{float, arrive_in}
use Rattle.transport.specs.Transport.{stamp_answer}
use Rattle.model.specs.Chain.{tb_events}
use Rattle.tstd.specs.declared.chain.Branch.{Branch}
use Rattle.tstd.specs.declared.chain.Chain.{Chain}

-- ---- before any packet

-- the models of a branch, whose part of the work begins at base
abbrev pub main_model : (size base depth : ℕ) → MainModel
main_model size base depth = record { buffer_size = float size; base = base; depth = depth }

abbrev pub video_model : (rbx mb eb base depth : ℕ) → VideoModel
video_model rbx mb eb base depth = record { rbx = float rbx ⊘ 8f; mb_size = float mb; eb_size = float eb; base = base; depth = depth }

unfoldable pub new_branch : TStdBranch → (base depth : ℕ) → Branch
new_branch (TStdBranch.Main size) base depth = Branch.Main (main_model size base depth) main-work.new_branch
new_branch (TStdBranch.Video rbx mb eb) base depth = Branch.Video (video_model rbx mb eb base depth) video-work.new_branch

abbrev pub new_chain : TStdStream → (base depth : ℕ) → Chain
new_chain s base depth = record { tb = new s.model.rx_bps; scanner = idle; branch = new_branch s.model.branch base depth }

abbrev pub unused_chain : Chain
unused_chain = new_chain unused_stream 0 0

-- the chains of the first n streams
pub record ChainsOf (streams : List TStdStream) (depth n : ℕ) (cs : List Chain) : Type 0 where
  pub size : length cs ≡ 8
  pub at : (i : ℕ) → i < n → slice_index_or cs i unused_chain ≡ new_chain (slice_index_or streams i unused_stream) (8 * depth * i) depth

-- ---- a packet, whose bytes are w

-- whether the scanner s is fed the payload: one that has bytes, where a header of a unit is in it or may be
unfoldable pub scans_in : PesScanner → PacketHeader → Bool
scans_in s h = nat_lt h.payload_start 188 && (h.payload_unit_start || in_header s)

-- the runs of the payload, and the scanner behind it
unfoldable pub scanned : PesScanner → List ℕ → PacketHeader → Fed
scanned s w h =
    cond (scans_in s h) (fed_of (open_of s) h.payload_unit_start (payload_of w h.payload_start))
    (record { runs = unfed_runs s (length w - h.payload_start); scanner = s })

-- the transport buffer behind it, and what it delivers
unfoldable pub arrived : Chain → List ℕ → PacketHeader → PacketArrival → Arrived
arrived c w h a =
    let r = (scanned c.scanner w h).runs in
    arrive_in c.tb h.payload_start r a.t0 a.t1 (stamp_answer a.cursor.interval r.decode_ts)

-- a step of a branch: d is delivered by a packet that arrives at t
abbrev pub StepOf : List Float → Branch → Delivered → Float → ℕ → Slots → Result ⊤ QueueFull → Branch → List Float → Slots → Type 0
StepOf w (Branch.Main m b) d t k s r y u s' = (b' : MainBranch) × (y ≡ Branch.Main m b') × main-work.StepOf w m b d t k s r b' u s'
StepOf w (Branch.Video m b) d t k s r y u s' = (b' : VideoBranch) × (y ≡ Branch.Video m b') × video-work.StepOf w m b d t k s r b' u s'

-- its end
abbrev pub FinishOf : List Float → Branch → ℕ → Slots → Result ⊤ QueueFull → Branch → List Float → Slots → Type 0
FinishOf w (Branch.Main m b) k s r y u s' = (b' : MainBranch) × (y ≡ Branch.Main m b') × main-work.FinishOf w m b k s r b' u s'
FinishOf w (Branch.Video m b) k s r y u s' = (b' : VideoBranch) × (y ≡ Branch.Video m b') × video-work.FinishOf w m b k s r b' u s'

-- a packet of the stream with the arrival a, in the work v
pub record PacketOf (v : List Float) (c : Chain) (w : List ℕ) (h : PacketHeader) (a : PacketArrival) (k : ℕ) (s : Slots) (r : Result ⊤ QueueFull) (c' : Chain) (u : List Float) (s' : Slots) : Type 0 where
  pub scanner : c'.scanner ≡ (scanned c.scanner w h).scanner
  pub tb : c'.tb ≡ (arrived c w h a).tb
  pub branch : StepOf v c.branch (arrived c w h a).delivered a.t0 k s r c'.branch u s'

-- the end of the stream: the transport buffer is looked at, and then the branch finished
pub record EndOf (v : List Float) (c : Chain) (k : ℕ) (s : Slots) (r : Result ⊤ QueueFull) (c' : Chain) (u : List Float) (s' : Slots) : Type 0 where
  pub scanner : c'.scanner ≡ c.scanner
  pub tb : c'.tb ≡ c.tb
  pub branch : FinishOf v c.branch k (noted_all k (tb_events c.tb) s) r c'.branch u s'
