-- `arrival_clock::Recording::next_field_on` meets its contract: each packet without a field takes the search one packet on. Assumes nothing.
use Rattle.arrival_clock.proofs.Stretch.{search_on}
use Rattle.arrival_clock.proofs.Recording.next_field_on.Goals as goal

pub loop-next-preserved : goal.loop-next-preserved
loop-next-preserved c =
    search_on _ _ _ _ c.requires c.loop-next.invariant c.loop-next-test.true (c.has_field_at.ensures c.if-has_field_at.false)
