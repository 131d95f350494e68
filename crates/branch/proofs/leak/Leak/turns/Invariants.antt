-- `branch::leak::Leak::turns` meets its contract. Assumes nothing.
use Prim.Native.Nat.{◌-◌}
use Rattle.branch.specs.VideoInWork.{leak_of}
use Rattle.branch.proofs.VideoTurns.{Turning}
use Rattle.branch.proofs.leak.Leak.turns.Given as goal

abbrev pub invariant-loop : goal.invariant-loop
invariant-loop l = Turning l.work l.m l.t (leak_of l.work l.m l.initial.s.leak) (33554436 - l.counter) l.s
