-- `branch::leak::Leak::turns` meets its contract. Assumes nothing.
use Prim.Native.Nat.{◌+◌, ◌-◌}
use mathlib.Core.Path.{◌≡◌, sym, ◌∙◌}
use Rattle.branch.specs.VideoInWork.{leak_of}
use Rattle.branch.proofs.VideoTurns.{turns_start, turns_more, turns_done, turns_stop, turns_end}
use native.Mathlib.Omega.{arith}
use Rattle.branch.proofs.leak.Leak.turns.Goals as goal

pub loop-init : goal.loop-init
loop-init c = turns_start _ _ _ _ c.requires

pub loop-preserved : goal.loop-preserved
unfolding leak_of
loop-preserved c =
    let less : 33554436 - (c.loop.counter + 1) ≡ (33554436 - c.loop.counter) - 1 = omega arith in
    rw less (turns_more _ _ _ _ _ _ c.loop.invariant (omega arith) (sym c.is_some.ensures ∙ c.if-is_some.false) _ c.if-not-s-t.false c.turn-s.ensures)

pub returns-after-loop : goal.returns-after-loop
returns-after-loop c = turns_end _ _ _ _ _ _ c.loop.invariant (omega arith)

pub returns-then-not-s-t : goal.returns-then-not-s-t
unfolding leak_of
returns-then-not-s-t c =
    turns_done _ _ _ _ _ _ c.loop.invariant (omega arith) (sym c.is_some.ensures ∙ c.if-is_some.false) c.if-not-s-t.true

pub returns-then-is_some : goal.returns-then-is_some
returns-then-is_some c = turns_stop _ _ _ _ _ _ c.loop.invariant (sym c.is_some.ensures ∙ c.if-is_some.true)
