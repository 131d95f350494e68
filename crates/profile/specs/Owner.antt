-- Whose packets a PID carries (document 01): of the streams with that PID the first takes them, a PID in both lists is a
-- stream, one that is in neither is nobody's.
use Rattle.std.specs.Prelude.{ℕ, suc, Bool, false, cond, ◌||◌, List, [], ◌∷◌, map, take, eqb}
use Rattle.profile.specs.declared.config.TStdConfig.{TStdConfig}
use Rattle.profile.specs.declared.owner.Owner.{Owner}
use Rattle.profile.specs.declared.owner.Pids.{Pids}
use Rattle.profile.specs.Config.{pid_of, stream_pids, system_pids}

unfoldable pub contains : List ℕ → ℕ → Bool
contains [] pid = false
contains (p ∷ ps) pid = eqb p pid || contains ps pid

-- the index of the first entry that is pid, or the length
unfoldable pub first_index : List ℕ → ℕ → ℕ
first_index [] pid = 0
first_index (p ∷ ps) pid = cond (eqb p pid) 0 (suc (first_index ps pid))

-- by the lists of stream PIDs and of system PIDs
unfoldable pub owner_in : (streams system : List ℕ) → ℕ → Owner
owner_in streams system pid =
    cond (contains streams pid) (Owner.Stream (first_index streams pid))
    (cond (contains system pid) Owner.System Owner.Nobody)

abbrev pub owner_of : TStdConfig → ℕ → Owner
owner_of c pid = owner_in (stream_pids c) (system_pids c) pid

-- the PIDs of a configuration, slot by slot, and the owner by them
unfoldable pub pids_of : TStdConfig → Pids
pids_of c =
    record {
      streams = map pid_of c.streams;
      stream_count = c.stream_count;
      system = c.system_pids;
      system_count = c.system_count;
    }

abbrev pub owner_by : Pids → ℕ → Owner
owner_by p pid = owner_in (take p.stream_count p.streams) (take p.system_count p.system) pid
