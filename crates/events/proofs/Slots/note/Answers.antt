-- `events::Slots::note` meets its contract. Assumes nothing.
use mathlib.Core.Path.{sym}
use native.Mathlib.Omega.{arith}
use Rattle.events.specs.Slots.{first_in_slot, later_in_slot}
use Rattle.events.proofs.Noted.{noted_first, noted_later}
use Rattle.events.proofs.Slots.note.Goals as goal

pub returns-then-self-k-eq0 : goal.returns-then-self-k-eq0
unfolding first_in_slot
returns-then-self-k-eq0 c =
    rw (c.figure.ensures, c.decode_time.ensures)
    (sym (noted_first _ _ _ _ c.if-k-eq0.false c.if-k-gt63.false (omega arith) c.if-self-k-eq0.true))

pub returns-else-self-k-eq0 : goal.returns-else-self-k-eq0
unfolding later_in_slot
returns-else-self-k-eq0 c =
    rw (c.max_num.ensures, c.figure-else-self-k-eq0.ensures)
    (sym (noted_later _ _ _ _ c.if-k-eq0.false c.if-k-gt63.false (omega arith) c.if-self-k-eq0.false))
