-- What holds of the state of pass 2 behind k packets, and of the wrap-up behind the ends of i streams.
use Rattle.std.specs.Prelude.{ℕ, ◌+◌, ◌*◌, ◌<◌, ◌≤◌, ◌≡◌, ◌⊎◌, length, Float}
use Rattle.ieee.specs.Binary64.{ -∞, +∞}
use Rattle.fifo.specs.Bounds.{Bounded, ArrivalTime}
use Rattle.bounds.specs.Events.{EventIn}
use Rattle.bounds.specs.Sys.{SysBounded}
use Rattle.report.specs.Record.{Each}
use Rattle.profile.specs.declared.config.TStdConfig.{TStdConfig}
use Rattle.profile.specs.Config.{streams_of}
use Rattle.summary.specs.Summary.{Found}
use Rattle.model.specs.Replay.{State, chain_at}
use Rattle.model_bounds.specs.Chain.{ChainHolds, ChainEnded}
use Rattle.demands.specs.Refused.{stream_of}

-- an event is of a stream in use, or of the system chain
pub record FoundHolds (c : TStdConfig) (f : Found) : Type 0 where
  pub place : (f.chain < length (streams_of c)) ⊎ (f.chain ≡ 8)
  pub event : EventIn f.event

-- so many bytes have come into the system chain
pub record SystemHolds (k : ℕ) (s : State) : Type 0 where
  pub bytes : ℕ
  pub few : bytes ≤ 188 * k
  pub tb : Bounded bytes s.sys_tb
  pub branch : SysBounded bytes s.sys

-- no packet has parsed, or the arrivals of the first and the last byte
abbrev pub Times : Float → Float → Type 0
Times x y = ((x ≡ +∞) × (y ≡ -∞)) ⊎ (ArrivalTime x × ArrivalTime y)

-- a packet, or the end of a stream, gives so many events at most: three for each of 89,240 units, one to a packet of the longest recording, and four
abbrev pub step_events : ℕ
step_events = 267724

pub record StateHolds (c : TStdConfig) (k i : ℕ) (s : State) : Type 0 where
  pub count : length s.chains ≡ length (streams_of c)
  pub ended : (j : ℕ) → j < i → j < length (streams_of c) → ChainEnded (stream_of c j) k (chain_at c s j)
  pub going : (j : ℕ) → i ≤ j → j < length (streams_of c) → ChainHolds (stream_of c j) k (chain_at c s j)
  pub system : SystemHolds k s
  pub times : Times s.first_time s.last_time
  pub events : Each (FoundHolds c) s.events
  pub few : length s.events ≤ step_events * (k + i)
