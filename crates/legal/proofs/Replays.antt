-- Every event that a replay notes is legal, and they are few enough to be counted. Assumes nothing.
use Prim.Native.Nat.{ℕ, ◌*◌, ◌^◌, ◌≤◌}
use native.Mathlib.Omega.{arith}
use mathlib.Core.List.{List}
use lib.ListN.{length}
use Rattle.report.specs.Record.{Each, most_events}
use Rattle.profile.specs.declared.config.TStdConfig.{TStdConfig}
use Rattle.profile.specs.declared.work.WorkSize.{WorkSize}
use Rattle.profile.specs.Limits.{replay_limits}
use Rattle.summary.specs.Summary.{Legal}
use Rattle.model.specs.Replay.{system_events}
use Rattle.demands.specs.Refused.{Completed}
use Rattle.demands.proofs.Runs.{profile_within, read_fits, clock_holds}
use Rattle.legal.proofs.Sound.{sound_starts, sound_runs, sound_ends, sound_events}

-- every event of a replay that runs through all packets and ends
pub states_legal : (c : TStdConfig) (room : WorkSize) (l : List ℕ) (h : Completed replay_limits c room l)
    → Each Legal (system_events c h.ended.final) × (length (system_events c h.ended.final) ≤ most_events)
states_legal c room l h =
    let laid = h.clocked.laid_out in
    let w = profile_within c room l laid in
    let clock = h.clocked.clock in
    let ok = clock_holds c room l laid clock h.clocked.built in
    let r = sound_runs c w clock ok.all ok.some h.ended.runs (read_fits c room l laid) (sound_starts c w) in
    let fit : 188 * h.ended.count ≤ 2 ^ 24 = omega (arith, r.1.fit) in
    sound_events c w h.ended.count fit h.ended.final (sound_ends c w h.ended.count fit h.ended.last h.ended.final r.0 h.ended.ends)
