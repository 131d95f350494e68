-- A chain after k packets of its stream: its transport buffer and its branch are within their bounds, and so is the access unit
-- whose bytes still arrive. What a packet's step and the end then give, and the figures of a report.
use Rattle.std.specs.Prelude.{ℕ, suc, ◌+◌, ◌*◌, ◌<◌, ◌≤◌, ◌≡◌, false, Option, Some, None}
use Rattle.fifo.specs.Bounds.{Bounded}
use Rattle.branch.specs.declared.AccessUnit.{AccessUnit}
use Rattle.branch.specs.MainBranch.{Main}
use Rattle.branch.specs.VideoStep.{VideoChain}
use Rattle.bounds.specs.Events.{EventsIn, FewEvents}
use Rattle.bounds.specs.Figures.{Seconds, MainFigures, VideoFigures, bytes_limit}
use Rattle.bounds.specs.Main.{MainBounded}
use Rattle.bounds.specs.Units.{UnitIs}
use Rattle.bounds.specs.Video.{VideoBounded}
use Rattle.report.specs.declared.TStdChainStats.{TStdChainStats}
use Rattle.profile.specs.declared.model.TStdBranch.{TStdBranch}
use Rattle.profile.specs.declared.config.TStdStream.{TStdStream}
use Rattle.model.specs.Chain.{Branch, main, video, Chain, ChainStep}

-- of n bytes in k units at most, q bytes in p units are closed: the open unit has no more than the rest
pub data OpenIn (n k q p : ℕ) : Option AccessUnit → Type 0 where
  none_open : q ≤ n → p ≤ k → OpenIn n k q p None
  one_open : {u : AccessUnit} (b : ℕ) → UnitIs u b → q + b ≤ n → p + 1 ≤ k → OpenIn n k q p (Some u)

-- a main branch into which N bytes at most have come, in k units at most
pub record MainHolds (N k : ℕ) (b : Main) : Type 0 where
  pub bytes : ℕ
  pub closed_bytes : ℕ
  pub closed_units : ℕ
  pub few : bytes ≤ N
  pub bounded : MainBounded bytes closed_bytes closed_units b
  pub open_unit : OpenIn bytes k closed_bytes closed_units b.open_au

-- a video branch likewise, which has advanced a times at most
pub record VideoHolds (N k a : ℕ) (c : VideoChain) : Type 0 where
  pub bytes : ℕ
  pub closed_bytes : ℕ
  pub closed_units : ℕ
  pub advances : ℕ
  pub few : bytes ≤ N
  pub few_advances : advances ≤ a
  pub bounded : VideoBounded bytes closed_bytes closed_units advances c.branch
  pub open_unit : OpenIn bytes k closed_bytes closed_units c.open_au

-- the branch is of its model's kind; k packets of 188 bytes have come
abbrev pub BranchHolds : TStdBranch → ℕ → Branch → Type 0
BranchHolds (TStdBranch.Main size) k (main b) = MainHolds (188 * k) k b
BranchHolds (TStdBranch.Main size) k (video c) = ⊥
BranchHolds (TStdBranch.Video rbx mb eb) k (main b) = ⊥
BranchHolds (TStdBranch.Video rbx mb eb) k (video c) = VideoHolds (188 * k) k k c

pub record ChainHolds (m : TStdStream) (k : ℕ) (c : Chain) : Type 0 where
  pub bytes : ℕ
  pub few : bytes ≤ 188 * k
  pub tb : Bounded bytes c.tb
  pub branch : BranchHolds m.model.branch k c.branch

-- the access units that are removed so far
abbrev pub removed_units : Branch → ℕ
removed_units (main b) = b.units
removed_units (video c) = c.branch.units

-- what a packet's step gives
pub record PacketHolds (m : TStdStream) (k : ℕ) (c : Chain) (s : ChainStep) : Type 0 where
  pub chain : ChainHolds m (suc k) s.chain
  pub events : EventsIn s.events
  pub few : FewEvents 1 (removed_units c.branch) s.events (removed_units s.chain.branch)

-- ---- the end
abbrev pub BranchEnded : TStdBranch → ℕ → Branch → Type 0
BranchEnded (TStdBranch.Main size) k (main b) = MainFigures k b
BranchEnded (TStdBranch.Main size) k (video c) = ⊥
BranchEnded (TStdBranch.Video rbx mb eb) k (main b) = ⊥
BranchEnded (TStdBranch.Video rbx mb eb) k (video c) = VideoFigures k c.branch

pub record ChainEnded (m : TStdStream) (k : ℕ) (c : Chain) : Type 0 where
  pub bytes : ℕ
  pub few : bytes ≤ 188 * k
  pub tb : Bounded bytes c.tb
  pub branch : BranchEnded m.model.branch k c.branch

-- a full queue ends the replay, and the chain's figures are then in no report
pub record EndHolds (m : TStdStream) (k : ℕ) (c : Chain) (s : ChainStep) : Type 0 where
  pub chain : s.full ≡ false → ChainEnded m k s.chain
  pub events : EventsIn s.events
  pub few : FewEvents 4 (removed_units c.branch) s.events (removed_units s.chain.branch)

-- the figures of a chain with k access units at most
pub record StatsBounded (k : ℕ) (s : TStdChainStats) : Type 0 where
  pub peak_tb : s.peak_tb_bytes < bytes_limit
  pub peak_main : s.peak_main_bytes < bytes_limit
  pub peak_eb : s.peak_eb_bytes < bytes_limit
  pub access_units : s.access_units ≤ k
  pub max_delay : Seconds s.max_delay_seconds
