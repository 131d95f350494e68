-- What holds of the state of pass 2 as to its events: each is legal, and MBn's longest busy stretch, which becomes an event in the end, is a binary64.
use Rattle.std.specs.Prelude.{ℕ, T}
use Rattle.std.specs.Float.{binary64}
use Rattle.std.specs.Float.Ieee.{fits}
use Rattle.branch.specs.VideoBranch.{Leak}
use Rattle.report.specs.Record.{Each}
use Rattle.profile.specs.declared.config.TStdConfig.{TStdConfig}
use Rattle.summary.specs.Summary.{Legal}
use Rattle.model.specs.Chain.{Branch, main, video}
use Rattle.model.specs.Replay.{State, chain_at}
use Rattle.demands.specs.State.{StateHolds}

abbrev pub BusyFits : Leak → Type 0
BusyFits s = T (fits binary64 s.longest_busy)

-- a main branch has no such figure
abbrev pub BranchFits : Branch → Type 0
BranchFits (main b) = Unit
BranchFits (video c) = BusyFits c.branch.leak

pub record StateLegal (c : TStdConfig) (s : State) : Type 0 where
  pub events : Each Legal s.events
  pub busy : (i : ℕ) → BranchFits (chain_at c s i).branch

-- behind k packets and the ends of i streams
pub record Sound (c : TStdConfig) (k i : ℕ) (s : State) : Type 0 where
  pub holds : StateHolds c k i s
  pub legal : StateLegal c s
