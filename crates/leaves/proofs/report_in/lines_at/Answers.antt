-- `lines_at` meets its contract: each line is `line_of` its place. Assumes nothing.
use Rattle.std.proofs.Common.{rules}
use Rattle.report.specs.Report.{unused_line}
use Rattle.leaves.specs.Record.{line_of, lines_at}
use Rattle.leaves.proofs.Made.{made}
use Rattle.leaves.proofs.report_in.lines_at.Goals as goal

pub returns : goal.returns
unfolding lines_at line_of
returns c = made _ (line_of c.args.words.now) _ (λ i y q k. search rules) _ unused_line 64 c.from_fn.ensures.items
