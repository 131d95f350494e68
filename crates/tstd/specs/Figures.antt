-- The chains' figures as pass 2 holds them: a row per stream, by the kind of its branch, and one for the system chain.
use Rattle.std.specs.Prelude.{ℕ, suc, cond, List, [], ◌∷◌, ◌==◌, slice_index_or}
use Rattle.ieee.specs.Binary64.{0f}
use Rattle.profile.specs.declared.config.TStdConfig.{TStdConfig}
use Rattle.profile.specs.declared.config.TStdStream.{TStdStream}
use Rattle.report.specs.declared.TStdChainStats.{TStdChainStats}
use Rattle.summary.specs.Violation.{system_pid}
use Rattle.fifo.specs.declared.FluidFifo.{FluidFifo}
use Rattle.model.specs.Chain.{whole}
use Rattle.tstd.specs.declared.front.SystemChain.{SystemChain}
use Rattle.tstd.specs.declared.chain.Branch.{Branch}
use Rattle.tstd.specs.declared.chain.Chain.{Chain}
use Rattle.tstd.specs.Chain.{unused_chain}

unfoldable pub row_by : Branch → ℕ → FluidFifo → TStdChainStats
row_by (Branch.Main m b) p t =
    record {
      pid = p;
      peak_tb_bytes = whole t.peak;
      peak_main_bytes = whole b.peak;
      peak_eb_bytes = 0;
      access_units = b.units.access_units;
      max_delay_seconds = b.units.max_delay_seconds;
    }
row_by (Branch.Video m b) p t =
    record {
      pid = p;
      peak_tb_bytes = whole t.peak;
      peak_main_bytes = whole b.leak.mb_peak;
      peak_eb_bytes = whole b.leak.flow.eb_peak;
      access_units = b.units.access_units;
      max_delay_seconds = b.units.max_delay_seconds;
    }

abbrev pub stream_row : ℕ → Chain → TStdChainStats
stream_row p c = row_by c.branch p c.tb

-- the rows of the streams from stream i on
unfoldable pub rows_from : ℕ → List TStdStream → List Chain → List TStdChainStats
rows_from i [] cs = []
rows_from i (s ∷ ss) cs = stream_row s.pid (slice_index_or cs i unused_chain) ∷ rows_from (suc i) ss cs

unfoldable pub system_row : TStdConfig → SystemChain → TStdChainStats
system_row c s =
    record {
      pid = system_pid c;
      peak_tb_bytes = whole s.tb.peak;
      peak_main_bytes = whole s.branch.peak;
      peak_eb_bytes = 0;
      access_units = 0;
      max_delay_seconds = 0f;
    }

-- where there are system PIDs
unfoldable pub system_rows : TStdConfig → SystemChain → List TStdChainStats
system_rows c s = cond (c.system_count == 0) [] (system_row c s ∷ [])
