-- `chain_lines` meets its contract. Assumes nothing.
use mathlib.Core.Path.{◌≡◌, ap}
use lib.ListN.{length, length-map, take}
use native.Mathlib.Omega.{arith}
use Rattle.lines.specs.Text.{chain_line, chain_lines}
use Rattle.lines.proofs.Lines.{next_line, all_lines}
use Rattle.lines.proofs.text.Text.chain_lines.Goals as goal

pub loop-chain-preserved : goal.loop-chain-preserved
loop-chain-preserved c = next_line chain_line 132 _ _ c.loop-chain.invariant _ (omega arith) c.chain_line.ensures

pub returns : goal.returns
unfolding chain_lines
returns c =
    let all : length c.args.figures.rows ≡ 9 = grind (arith, length-map) in
    all_lines chain_line 132 _ _ c.loop-chain.invariant 9 c.args.figures.count c.args.figures.rows all (ap (λ n. take n c.args.figures.rows) c.min.ensures) (omega arith)
