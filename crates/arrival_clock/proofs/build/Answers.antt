-- `arrival_clock::build` meets its contract. The loop's invariant: the packets that are left lead to where all lead from the start. Assumes nothing.
use native.Mathlib.Omega.{arith}
use Rattle.arrival_clock.proofs.Turns.{others_lead, next_leads, all_passed}
use Rattle.arrival_clock.proofs.build.Goals as goal

pub loop-k-preserved-then-k-count : goal.loop-k-preserved-then-k-count
loop-k-preserved-then-k-count c =
    let on = others_lead _ _ _ _ _ _ c.loop-k.invariant c.next_field_on-next.ensures.0 (omega (arith, c.if-k-count.true)) c.next_field_on-next.ensures.2 c.start_behind.ensures in
    next_leads _ _ _ _ _ _ on c.if-k-count.true c.window.ensures (rw c.parse-parsed.ensures at c.packet.ensures)

pub loop-k-preserved : goal.loop-k-preserved
loop-k-preserved c =
    others_lead _ _ _ _ _ _ c.loop-k.invariant c.next_field_on-next.ensures.0 (omega (arith, c.next_field_on-next.ensures.1, c.whole_packets-whole.ensures.0, c.loop-k.invariant.within)) c.next_field_on-next.ensures.2 c.start_behind.ensures

pub returns : goal.returns
returns c = all_passed _ _ _ _ _ _ c.loop-k.invariant c.loop-k-test.false c.answer.ensures
