-- `accepted` meets its contract. Assumes nothing.
use Rattle.std.proofs.Common.{◌≡◌}
use Rattle.tstd.specs.Core.{last_slots}
use Rattle.tstd.proofs.Core.{last_none, last_some, accepted_made}
use Rattle.tstd.proofs.accepted.Goals as goal
use Rattle.tstd.proofs.accepted.Goals.{then-config-gt0, else-config-gt0}

pub returns : goal.returns
returns c =
    let a = c.args in
    let x = c.if-config-gt0 in
    let sl : x.slots ≡ last_slots a.config a.ran =
    elim x.branch [
      | then-config-gt0 w ↦ last_some a.config a.ran _ w.if-config-gt0.true (rw w.slots-is w.note_tb.ensures)
      | else-config-gt0 w ↦ last_none a.config a.ran _ w.if-config-gt0.false w.slots-is
    ] in
    accepted_made a.config a.ran a.samples x.slots _ _ _ sl c.report_of-report.ensures c.modelled_seconds.ensures c.figures-figures.ensures
