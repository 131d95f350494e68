-- The words that a caller writes for a configuration.
use Rattle.std.specs.Prelude.{ℕ, ◌-◌, ◌≤◌, ◌<◌, ◌≡◌, length, take, get_or, replicate}
use mathlib.Core.List.{List, [], ◌∷◌, ◌++◌, flat_map}
use Rattle.profile.specs.declared.model.TStdBranch.{TStdBranch}
use Rattle.profile.specs.declared.model.TStdBranch.TheVariants.{Main, Video}
use Rattle.profile.specs.declared.config.TStdStream.{TStdStream}
use Rattle.profile.specs.declared.config.TStdConfig.{TStdConfig}
use Rattle.profile.specs.Range.{max_streams, max_system_pids}
use Rattle.profile.specs.Config.{unused_stream}

unfoldable pub branch_words : TStdBranch → List ℕ
branch_words (Main size) = 0 ∷ size ∷ 0 ∷ 0 ∷ []
branch_words (Video rbx mb eb) = 1 ∷ rbx ∷ mb ∷ eb ∷ []

unfoldable pub stream_words : TStdStream → List ℕ
stream_words s = s.pid ∷ s.model.rx_bps ∷ branch_words s.model.branch

unfoldable pub profile_words : TStdConfig → List ℕ
profile_words c =
    (c.pcr_pid ∷ c.stream_count ∷ c.system_count ∷ c.queue_depth ∷ c.clock_depth ∷ [])
    ++ flat_map stream_words c.streams
    ++ c.system_pids

-- a configuration of 8 and 16 slots whose PIDs fit 16 bits, with counts within the slots and nothing in those past them
pub record Plain (c : TStdConfig) : Type 0 where
  pub slots : length c.streams ≡ max_streams
  pub system_slots : length c.system_pids ≡ max_system_pids
  pub streams : c.stream_count ≤ max_streams
  pub system : c.system_count ≤ max_system_pids
  pub pcr : c.pcr_pid < 65536
  pub pids : (i : ℕ) → i < c.stream_count → (get_or c.streams i unused_stream).pid < 65536
  pub system_pids : (i : ℕ) → i < c.system_count → get_or c.system_pids i 0 < 65536
  pub unused : c.streams ≡ take c.stream_count c.streams ++ replicate (max_streams - c.stream_count) unused_stream
  pub system_unused : c.system_pids ≡ take c.system_count c.system_pids ++ replicate (max_system_pids - c.system_count) 0
