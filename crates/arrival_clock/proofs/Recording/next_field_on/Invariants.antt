-- `arrival_clock::Recording::next_field_on` meets its contract. The invariant: no field before `next`, and its packet is looked for at its place.
-- Assumes nothing.
use Rattle.arrival_clock.proofs.Stretch.{Searched}
use Rattle.arrival_clock.proofs.Recording.next_field_on.Given as goal

abbrev pub invariant-loop-next : goal.invariant-loop-next
invariant-loop-next l = Searched l.pcr_pid l.self.layout l.self.bytes.now l.k l.next l.place
