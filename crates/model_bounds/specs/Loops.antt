-- That every loop of `leak_until` in a step of a video chain ends by its own test: the budget of its definition is not used up.
use Rattle.std.specs.Prelude.{ℕ, ◌≤◌, ◌≡◌, true, false, List, [], ◌∷◌, Float}
use Rattle.std.specs.Float.Ieee.{eq, le}
use Rattle.ieee.specs.Binary64.{◌⊘◌, 8f, -∞}
use Rattle.branch.specs.declared.AccessUnit.{AccessUnit}
use Rattle.branch.specs.VideoBranch.{VideoRates, Leak, Video, on, turns, budget, leak_until, remove_unit, drain_time}
use Rattle.branch.specs.VideoStep.{close_au}
use Rattle.profile.specs.declared.model.TStdBranch.{TStdBranch}
use Rattle.transport.specs.Arrive.{float}
use Rattle.model.specs.Chain.{Branch, main, video}

-- a call of `leak_until` that is not the first: its loop has ended, and more turns change nothing
pub record LoopEnds (r : VideoRates) (t : Float) (s : Leak) : Type 0 where
  pub ends : eq s.proc_time -∞ ≡ false → (turns budget r t (on s)).more ≡ false
  pub same : eq s.proc_time -∞ ≡ false → (k : ℕ) → budget ≤ k → turns k r t (on s) ≡ turns budget r t (on s)

-- the branch leaks up to a time
abbrev pub leaked_to : VideoRates → Float → Video → Video
leaked_to r t v =
    record { leak = leak_until r t v.leak; queued = v.queued; eb_required = v.eb_required; pending = v.pending; max_delay = v.max_delay; units = v.units }

-- the calls of `advance` up to a frontier: one up to the decode time of each unit that is due, then one up to the frontier
pub data LoopsEnd (r : VideoRates) (frontier : Float) : List AccessUnit → Video → Type 0 where
  frontier_last : {v : Video} → LoopEnds r frontier v.leak → LoopsEnd r frontier [] v
  not_due : {u : AccessUnit} {us : List AccessUnit} {v : Video} → le u.decode_time frontier ≡ false → LoopEnds r frontier v.leak → LoopsEnd r frontier (u ∷ us) v
  due : {u : AccessUnit} {us : List AccessUnit} {v : Video} → le u.decode_time frontier ≡ true → LoopEnds r u.decode_time v.leak
      → LoopsEnd r frontier us (remove_unit (leaked_to r u.decode_time v) u us) → LoopsEnd r frontier (u ∷ us) v

-- of a chain: a packet that arrives at t, and the end; a main branch has no such loop
abbrev rates_of : ℕ → ℕ → ℕ → VideoRates
rates_of rbx mb eb = record { rbx = float rbx ⊘ 8f; mb_size = float mb; eb_size = float eb }

abbrev pub PacketLoopsEnd : TStdBranch → Float → Branch → Type 0
PacketLoopsEnd (TStdBranch.Main size) t b = Unit {0}
PacketLoopsEnd (TStdBranch.Video rbx mb eb) t (main b) = Unit {0}
PacketLoopsEnd (TStdBranch.Video rbx mb eb) t (video c) = LoopsEnd (rates_of rbx mb eb) t c.branch.pending c.branch

abbrev pub EndLoopsEnd : TStdBranch → ℕ → Branch → Type 0
EndLoopsEnd (TStdBranch.Main size) depth b = Unit {0}
EndLoopsEnd (TStdBranch.Video rbx mb eb) depth (main b) = Unit {0}
EndLoopsEnd (TStdBranch.Video rbx mb eb) depth (video c) =
    let v = (close_au depth c).chain.branch in
    LoopsEnd (rates_of rbx mb eb) (drain_time (rates_of rbx mb eb) v) v.pending v
