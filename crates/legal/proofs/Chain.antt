-- One step of a chain, a packet or the end: the figures in seconds of its events are above zero, and the branch keeps what the next step asks. Assumes nothing.
use Prim.Native.Nat.{ℕ}
use mathlib.Core.Bool.{Bool, true, false}
use lib.Dec.{T}
use lib.Ieee.{Float, binary64, fits}
use Rattle.ieee.specs.Binary64.{◌⊘◌, 0f, 8f}
use Rattle.packet.specs.declared.TsPacket.{TsPacket}
use Rattle.scanner.specs.declared.Runs.{Runs}
use Rattle.arrival.specs.declared.RateInterval.{RateInterval}
use Rattle.branch.specs.declared.Delivered.{Delivered}
use Rattle.branch.specs.VideoBranch.{VideoRates}
use Rattle.profile.specs.declared.model.TStdBranch.{TStdBranch}
use Rattle.profile.specs.declared.config.TStdStream.{TStdStream}
use Rattle.transport.specs.Arrive.{float, stamp_time, nothing, arrive}
use Rattle.model.specs.Chain.{Branch, main, video, Chain, new_chain, Stepped, step_branch, ChainStep, packet_step, tb_events, end_step}
use Rattle.legal.specs.Legal.{BranchFits}
use Rattle.legal.proofs.Busy.{new_fits, video_step_fits}
use Rattle.legal.proofs.Events.{AllAbove, none_above, both_above, tb_above}
use Rattle.legal.proofs.MainEvents.{main_above}
use Rattle.legal.proofs.VideoEvents.{video_above}

new_by : (pid rx : ℕ) (b : TStdBranch) → BranchFits (new_chain (record { pid = pid; model = record { rx_bps = rx; branch = b } })).branch
unfolding new_chain
new_by pid rx (TStdBranch.Main size) = tt
new_by pid rx (TStdBranch.Video rbx mb eb) = new_fits

pub chain_new_fits : (m : TStdStream) → BranchFits (new_chain m).branch
chain_new_fits m = new_by m.pid m.model.rx_bps m.model.branch

record BranchLegal (s : Stepped) : Type 0 where
  events : AllAbove s.events
  busy : BranchFits s.branch

branch_legal : (m : TStdBranch) (depth : ℕ) (d : Delivered) (end : Bool) (t : Float) (b : Branch) → BranchFits b → BranchLegal (step_branch m depth d end t b)
unfolding step_branch
branch_legal (TStdBranch.Main size) depth d end t (main b) h = record { events = main_above (float size) depth d end t b; busy = tt }
branch_legal (TStdBranch.Main size) depth d end t (video b) h = record { events = none_above; busy = h }
branch_legal (TStdBranch.Video rbx mb eb) depth d end t (video b) h =
    let r : VideoRates = record { rbx = float rbx ⊘ 8f; mb_size = float mb; eb_size = float eb } in
    record { events = video_above r depth d end t b h; busy = video_step_fits r depth d end t b h }
branch_legal (TStdBranch.Video rbx mb eb) depth d end t (main b) h = record { events = none_above; busy = tt }

pub record ChainLegal (s : ChainStep) : Type 0 where
  pub events : AllAbove s.events
  pub busy : BranchFits s.chain.branch

pub packet_legal : (m : TStdStream) (depth : ℕ) (h : TsPacket) (r : Runs) (t0 t1 : Float) (i : RateInterval) (c : Chain) → BranchFits c.branch
    → ChainLegal (packet_step m depth h r t0 t1 i c)
unfolding packet_step
packet_legal m depth h r t0 t1 i c k =
    let d = (arrive c.tb h.payload_start r t0 t1 (stamp_time i r.decode_ts)).delivered in
    let x = branch_legal m.model.branch depth d false t0 c.branch k in
    record { events = x.events; busy = x.busy }

-- here the transport buffer is looked at
pub end_legal : (m : TStdStream) (depth : ℕ) (c : Chain) → T (fits binary64 c.tb.longest_busy) → BranchFits c.branch → ChainLegal (end_step m depth c)
unfolding end_step
end_legal m depth c f k =
    let x = branch_legal m.model.branch depth nothing true 0f c.branch k in
    record { events = both_above (tb_events c.tb) _ (tb_above c.tb f) x.events; busy = x.busy }
