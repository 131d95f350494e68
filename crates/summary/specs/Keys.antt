-- The keys that the violations of a configuration can have: six of each of the eight streams, and three of the system chain.
use Rattle.std.specs.Prelude.{ℕ, List, [], ◌∷◌, ◌++◌}
use Rattle.report.specs.declared.violation.Key.{Key}
use Rattle.profile.specs.declared.model.TStdBranch.{TStdBranch}
use Rattle.profile.specs.declared.model.TStdBranch.TheVariants.{Main, Video}
use Rattle.profile.specs.declared.config.TStdStream.{TStdStream}
use Rattle.profile.specs.declared.config.TStdConfig.{TStdConfig}
use Rattle.summary.specs.Violation.{system_pid}

abbrev pub key : ℕ → ℕ → Key
key kind pid = record { kind = kind; pid = pid }

-- the kinds of overflow and underflow go by the branch
abbrev pub overflow_kind : TStdBranch → ℕ
overflow_kind (Main size) = 2
overflow_kind (Video rbx mb eb) = 4

abbrev pub underflow_kind : TStdBranch → ℕ
underflow_kind (Main size) = 3
underflow_kind (Video rbx mb eb) = 6

unfoldable pub stream_keys : TStdStream → List Key
stream_keys s =
    key (overflow_kind s.model.branch) s.pid
    ∷ key (underflow_kind s.model.branch) s.pid
    ∷ key 7 s.pid
    ∷ key 0 s.pid
    ∷ key 1 s.pid
    ∷ key 5 s.pid
    ∷ []

abbrev pub system_keys : ℕ → List Key
system_keys pid = key 8 0 ∷ key 0 pid ∷ key 1 pid ∷ []

unfoldable pub keys_of_streams : List TStdStream → List Key
keys_of_streams [] = []
keys_of_streams (s ∷ ss) = stream_keys s ++ keys_of_streams ss

unfoldable pub possible_keys : TStdConfig → List Key
possible_keys c = keys_of_streams c.streams ++ system_keys (system_pid c)
