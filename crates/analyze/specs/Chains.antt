-- An accepted replay has one record of figures per chain: nine at most, and no more than the row has. Assumes nothing.
use Rattle.std.specs.Prelude.{ℕ, suc, ◌+◌, ◌≤◌, ◌≡◌, refl, Bool, true, false, cond, List, [], ◌∷◌, ◌++◌, length, eqb}
use Rattle.std.proofs.Common.{ap, arith, length-append, length-take}
use Rattle.report.specs.declared.TStdReport.{TStdReport}
use Rattle.report.specs.declared.TStdChainStats.{TStdChainStats}
use Rattle.profile.specs.declared.config.TStdStream.{TStdStream}
use Rattle.profile.specs.declared.config.TStdConfig.{TStdConfig}
use Rattle.profile.specs.declared.limits.Limits.{Limits}
use Rattle.profile.specs.declared.work.WorkSize.{WorkSize}
use Rattle.profile.specs.Config.{streams_of}
use Rattle.profile.specs.Work.{needed_of}
use Rattle.profile.proofs.Within.{limits_within}
use Rattle.profile.proofs.Sizes.{needed_most, covers_covered}
use Rattle.model.specs.Replay.{State, accepted, stream_stats, system_stats}
use Rattle.demands.specs.Refused.{answer, samples_in, Fit, reported}
use Rattle.demands.proofs.Refused.{accepted_iff}
use Rattle.analyze.specs.Answers.{chain_count}

stream_count : (ms : List TStdStream) (i : ℕ) (c : TStdConfig) (s : State) → length (stream_stats i ms c s) ≡ length ms
unfolding stream_stats
stream_count [] i c s = refl
stream_count (m ∷ ms) i c s = ap suc (stream_count ms (suc i) c s)

with_system : (n : ℕ) (t : Bool) (x : TStdChainStats) → n + length (cond t [] (x ∷ [])) ≡ cond t n (n + 1)
with_system n true x = omega arith
with_system n false x = refl

stats_count : (c : TStdConfig) (s : State) → length (stream_stats 0 (streams_of c) c s ++ system_stats c s) ≡ chain_count c
unfolding system_stats
stats_count c s = rw (length-append (stream_stats 0 (streams_of c) c s) (system_stats c s), stream_count (streams_of c) 0 c s) (with_system (length (streams_of c)) (eqb c.system_count 0) _)

no_more : (n k : ℕ) (t : Bool) → n ≤ k → cond t n (n + 1) ≤ cond t k (k + 1)
no_more n k true h = h
no_more n k false h = omega arith

chains_needed : (c : TStdConfig) → chain_count c ≤ (needed_of c).row
unfolding needed_of
chains_needed c = no_more (length (streams_of c)) c.stream_count (eqb c.system_count 0) (omega (arith, length-take c.stream_count c.streams))

-- the figures fs with a row of n records
pub record OnePerChain (c : TStdConfig) (n : ℕ) (fs : List TStdChainStats) : Type 0 where
  pub count : length fs ≡ chain_count c
  pub nine : length fs ≤ 9
  pub in_row : length fs ≤ n

module _ (limits : Limits) (c : TStdConfig) (room : WorkSize) (l : List ℕ) where
  by_fit : (fs : List TStdChainStats) → Fit limits c room l → length fs ≡ chain_count c → OnePerChain c room.row fs
  by_fit fs fit e =
      record {
        count = e;
        nine = omega (arith, e, chains_needed c, (needed_most limits c (limits_within limits c fit.within)).row);
        in_row = omega (arith, e, chains_needed c, (covers_covered room (needed_of c) fit.covered).row);
      }

  pub one_per_chain : (r : TStdReport) (fs : List TStdChainStats) → answer limits c room l ≡ accepted r fs → OnePerChain c room.row fs
  one_per_chain r fs is =
      let whole = (accepted_iff limits c room l r fs).0 is in
      let same : accepted r fs ≡ reported c (length (samples_in c l)) whole.0.ended.final = whole.1 in
      let stats : fs ≡ stream_stats 0 (streams_of c) c whole.0.ended.final ++ system_stats c whole.0.ended.final = cc in
      by_fit fs whole.0.clocked.laid_out.fit (rw stats (stats_count c whole.0.ended.final))
