-- `branch::leak::Flow::header_bytes` meets its contract. Assumes nothing.
use Rattle.branch.proofs.HeaderMarks.{pass_more, pass_before, pass_within, pass_ends}
use Rattle.branch.proofs.Rings.{count_popped}
use native.Mathlib.Omega.{arith}
use mathlib.Core.Path.{ap, ◌∙◌}
use Rattle.branch.specs.VideoInWork.{mark_of, mark_at}
use Rattle.branch.proofs.leak.Flow.header_bytes.Goals as goal

pub loop-q-smaller : goal.loop-q-smaller
loop-q-smaller c = rw (c.pop.ensures, count_popped) (omega arith)

pub loop-q-preserved : goal.loop-q-preserved
unfolding mark_at
loop-q-preserved c =
    rw (c.pop.ensures, c.overlap-sum.ensures) (pass_more _ _ _ _ _ _ _ c.loop-q.invariant _ (c.from-m.ensures ∙ ap mark_of c.entry.ensures) (omega arith) c.if-m-end.false c.if-m-end-2.true)

pub returns-after-loop-q : goal.returns-after-loop-q
returns-after-loop-q c = pass_ends _ _ _ _ _ _ _ c.loop-q.invariant c.loop-q-test.false

pub returns-then-m-end : goal.returns-then-m-end
unfolding mark_at
returns-then-m-end c = pass_before _ _ _ _ _ _ _ c.loop-q.invariant _ (c.from-m.ensures ∙ ap mark_of c.entry.ensures) (omega arith) c.if-m-end.true

pub returns-else-m-end-2 : goal.returns-else-m-end-2
unfolding mark_at
returns-else-m-end-2 c =
    rw c.overlap-sum.ensures (pass_within _ _ _ _ _ _ _ c.loop-q.invariant _ (c.from-m.ensures ∙ ap mark_of c.entry.ensures) (omega arith) c.if-m-end.false c.if-m-end-2.false)
