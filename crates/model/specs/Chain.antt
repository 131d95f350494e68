-- A chain of the model: the transport buffer TBn and the branch behind it; one packet's step, and the end
-- (the loop over packets and the wrap-up of the Rust's `analyze_tstd`, for one stream).
use Rattle.std.specs.Prelude.{ℕ, Bool, true, false, List, [], ◌++◌, Float}
use Rattle.std.specs.Float.Ieee.{to_unsigned, lt}
use Rattle.ieee.specs.Binary64.{◌⊕◌, ◌⊘◌, 0f, 1f, 8f, 512f, 1e-6f}
use Rattle.packet.specs.declared.TsPacket.{TsPacket}
use Rattle.scanner.specs.declared.Runs.{Runs}
use Rattle.arrival.specs.declared.RateInterval.{RateInterval}
use Rattle.fifo.specs.declared.FluidFifo.{FluidFifo}
use Rattle.fifo.specs.FluidFifo.{new}
use Rattle.events.specs.declared.Event.{Event}
use Rattle.events.specs.declared.Event.TheVariants.{TbOverflow, TbBusy}
use Rattle.events.specs.Event.{when}
use Rattle.branch.specs.declared.Delivered.{Delivered}
use Rattle.branch.specs.MainBranch.{Main, new_main, main_step}
use Rattle.branch.specs.VideoStep.{VideoChain, new_video, video_step}
use Rattle.transport.specs.Arrive.{float, stamp_time, nothing, arrive}
use Rattle.report.specs.declared.TStdChainStats.{TStdChainStats}
use Rattle.profile.specs.declared.model.TStdBranch.{TStdBranch}
use Rattle.profile.specs.declared.config.TStdStream.{TStdStream}

pub data Branch : Type 0 where
  main : Main → Branch
  video : VideoChain → Branch

pub record Chain : Type 0 where
  pub tb : FluidFifo
  pub branch : Branch

abbrev new_branch : TStdBranch → Branch
new_branch (TStdBranch.Main size) = main new_main
new_branch (TStdBranch.Video rbx mb eb) = video new_video

unfoldable pub new_chain : TStdStream → Chain
new_chain s = record { tb = new s.model.rx_bps; branch = new_branch s.model.branch }

-- ---- one step of a branch: a packet that arrives at t, or the end
pub record Stepped : Type 0 where
  pub full : Bool
  pub branch : Branch
  pub events : List Event

unfoldable pub step_branch : TStdBranch → ℕ → Delivered → Bool → Float → Branch → Stepped
step_branch (TStdBranch.Main size) depth d end t (main b) =
    let x = main_step (float size) depth d end t b in
    record { full = x.full; branch = main x.branch; events = x.events }
step_branch (TStdBranch.Main size) depth d end t (video b) = record { full = false; branch = video b; events = [] }
step_branch (TStdBranch.Video rbx mb eb) depth d end t (video b) =
    let x = video_step (record { rbx = float rbx ⊘ 8f; mb_size = float mb; eb_size = float eb }) depth d end t b in
    record { full = x.full; branch = video x.chain; events = x.events }
step_branch (TStdBranch.Video rbx mb eb) depth d end t (main b) = record { full = false; branch = main b; events = [] }

pub record ChainStep : Type 0 where
  pub full : Bool
  pub chain : Chain
  pub events : List Event

-- a packet
unfoldable pub packet_step : TStdStream → ℕ → TsPacket → Runs → Float → Float → RateInterval → Chain → ChainStep
packet_step s depth h r t0 t1 i c =
    let y = arrive c.tb h.payload_start r t0 t1 (stamp_time i r.decode_ts) in
    let x = step_branch s.model.branch depth y.delivered false t0 c.branch in
    record { full = x.full; chain = record { tb = y.tb; branch = x.branch }; events = x.events }

-- the transport buffer's rules, looked at a single time when the packets are through
unfoldable pub tb_events : FluidFifo → List Event
tb_events tb =
    when (lt (512f ⊕ 1f) tb.peak) (TbOverflow tb.peak)
    ++ when (lt (1f ⊕ 1e-6f) tb.longest_busy) (TbBusy tb.longest_busy)

-- the end: the open unit is closed, the transport buffer looked at, then the branch finished
unfoldable pub end_step : TStdStream → ℕ → Chain → ChainStep
end_step s depth c =
    let x = step_branch s.model.branch depth nothing true 0f c.branch in
    record { full = x.full; chain = record { tb = c.tb; branch = x.branch }; events = tb_events c.tb ++ x.events }

-- ---- the chain's figures
abbrev pub whole : Float → ℕ
whole x = to_unsigned 64 x

unfoldable pub stats_of : TStdStream → Chain → TStdChainStats
stats_of s c = by c.branch
  where
    by : Branch → TStdChainStats
    by (main b) =
        record {
          pid = s.pid;
          peak_tb_bytes = whole c.tb.peak;
          peak_main_bytes = whole b.peak;
          peak_eb_bytes = 0;
          access_units = b.units;
          max_delay_seconds = b.max_delay;
        }
    by (video b) =
        record {
          pid = s.pid;
          peak_tb_bytes = whole c.tb.peak;
          peak_main_bytes = whole b.branch.leak.mb_peak;
          peak_eb_bytes = whole b.branch.leak.flow.eb_peak;
          access_units = b.branch.units;
          max_delay_seconds = b.branch.max_delay;
        }
