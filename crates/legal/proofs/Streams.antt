-- A stream in use has a number that an event may tell as its chain. Assumes nothing.
use Prim.Native.Nat.{ℕ, ◌<◌}
use native.Mathlib.Omega.{arith}
use lib.ListN.{length}
use Rattle.profile.specs.declared.config.TStdConfig.{TStdConfig}
use Rattle.profile.specs.Config.{streams_of}
use Rattle.profile.specs.Limits.{replay_limits}
use Rattle.profile.proofs.Within.{Within}
use Rattle.demands.proofs.Ends.{counted}

module _ (c : TStdConfig) (within : Within replay_limits c) where
  -- a stream in use is one of chains 0 to 7
  pub stream_low : (i : ℕ) → i < length (streams_of c) → i < 9
  stream_low i h = omega (arith, counted c i h, within.stream_count)
