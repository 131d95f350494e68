-- `Event::at` meets its contract. Place 4 is told here, so that another kind there is refused by the event that it gives.
use Rattle.std.proofs.Common.{refl}
use Rattle.events.specs.Event.{event_of}
use Rattle.events.proofs.Event.at.Goals as goal

pub returns-in-4 : goal.returns-in-4
unfolding event_of
returns-in-4 c = rw c.in-4.is refl
