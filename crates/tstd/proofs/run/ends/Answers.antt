-- `ends` meets its contract. The invariant: whatever the recording, the ends of i streams have been taken (`Through`). Assumes nothing.
use Rattle.std.proofs.Common.{◌∙◌, sym, arith}
use Rattle.tstd.specs.Chain.{unused_chain}
use Rattle.tstd.proofs.Rows.{get_d_any}
use Rattle.tstd.proofs.Ending.{end_through, end_refuses, ends_through}
use Rattle.tstd.proofs.run.ends.Goals as goal

pub loop-i-preserved : goal.loop-i-preserved
loop-i-preserved c l y work clock ready now =
    let m = c.loop-i.invariant l y work clock ready now in
    end_through _ ready _ _ _ m c.loop-i-test.true _ _ (get_d_any c.loop-i.chains c.loop-i.i _ unused_chain (omega (arith, m.at.size))) _ _ _ c.end.ensures (sym c.is_err.ensures.value ∙ c.if-is_err.false)

pub returns-then-is_err : goal.returns-then-is_err
returns-then-is_err c =
    record {
      ends = λ l y work clock ready now.
          (let m = c.loop-i.invariant l y work clock ready now in
          end_refuses _ ready _ _ _ m c.loop-i-test.true _ _ (get_d_any c.loop-i.chains c.loop-i.i _ unused_chain (omega (arith, m.at.size))) _ _ _ c.end.ensures (sym c.is_err.ensures.value ∙ c.if-is_err.true) _ c.queue_full.ensures);
    }

pub returns : goal.returns
returns c =
    record {
      ends = λ l y work clock ready now.
          ends_through _ ready _ _ _ (c.loop-i.invariant l y work clock ready now) (omega (arith, c.loop-i-test.false, c.loop-i.auto.i-end));
    }
