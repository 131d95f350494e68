-- `Event::figure` meets its contract. The underflow is told here, so that its decode time in place of its missing bytes is refused by the figure.
use Rattle.std.proofs.Common.{refl}
use Rattle.events.specs.Event.{figure_of}
use Rattle.events.proofs.Event.figure.Goals as goal

pub returns-in-Underflow : goal.returns-in-Underflow
unfolding figure_of
returns-in-Underflow c = rw c.in-Underflow.is refl
