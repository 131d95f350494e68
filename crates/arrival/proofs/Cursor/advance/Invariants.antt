-- `Cursor::advance` meets its contract. The loop's invariant: the search from here is the search from the start; the measure: how many intervals are left.
-- Assumes nothing.
use Rattle.std.proofs.Common.{◌≡◌, ◌-◌}
use Rattle.arrival.specs.Work.{advance}
use Rattle.arrival.proofs.Cursor.advance.Given as goal

abbrev pub invariant-loop-next : goal.invariant-loop-next
invariant-loop-next l = advance l.intervals.times.now l.intervals.places.now l.intervals.count l.initial.next l.pos ≡ advance l.intervals.times.now l.intervals.places.now l.intervals.count l.next l.pos

abbrev pub decreases-loop-next : goal.decreases-loop-next
decreases-loop-next l = l.intervals.count - 1 - l.next.index
