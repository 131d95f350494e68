-- `branch::queue::Ring::push` meets its contract. Assumes nothing.
use mathlib.Core.Path.{refl, sym}
use mathlib.Core.Bool.{true≢false}
use native.Mathlib.Omega.{arith}
use borrow.Author.Tests.{eq-eqb, ne_eqb}
use Rattle.branch.specs.Queue.{pushed_def}
use Rattle.branch.proofs.Rings.{outside_refl, store_outside, store_read}
use Rattle.branch.proofs.queue.Ring.push.Goals as goal

pub returns-then-self-w : goal.returns-then-self-w
unfolding pushed_def
returns-then-self-w g c =
    record { result = simp (eq-eqb _ _ c.if-self-w.true); refused = λ f. (refl, refl); outside = outside_refl _ _ _; entry = λ f. absurd (true≢false f) }

pub returns : goal.returns
unfolding pushed_def
returns g c =
    let a = c.args in
    let p = c.offset-p in
    record {
      result = simp (ne_eqb _ _ c.if-self-w.false);
      refused = λ f. absurd (true≢false (sym f));
      outside = rw (← p.ensures.0, c.copy_from_slice.ensures.after) (store_outside a.work.now a.e p.result g.row.W (omega arith) (omega arith));
      entry = λ f. rw (← p.ensures.0, c.copy_from_slice.ensures.after) (store_read a.work.now a.e p.result g.row.W (omega arith) (omega arith));
    }
