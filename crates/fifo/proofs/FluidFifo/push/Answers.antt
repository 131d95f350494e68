-- `FluidFifo::push` meets its contract: what the three ways through the busy-stretch bookkeeping leave. Assumes nothing.
use lib.Ieee.{of_bits}
use Rattle.fifo.specs.FluidFifo.{exit_start, exit_end, backlog_at_t1, fed, pushed}
use Rattle.fifo.proofs.Stretch.{Stretch, at_first, after_gap, without_gap}
use Rattle.fifo.proofs.FluidFifo.push.Goals as goal
use Rattle.fifo.proofs.FluidFifo.push.Goals.{then-since, else-since+then-idle, else-since+else-idle}

pub returns-then-bytes : goal.returns-then-bytes
unfolding pushed exit_start
returns-then-bytes c = simp c.if-bytes.true (rw c.max-start.ensures)

pub returns : goal.returns
unfolding pushed fed backlog_at_t1 exit_end exit_start of_bits
returns c =
    let f = c.args.self in
    let t0 = c.args.t0 in
    let m : Stretch f t0 c.if-since.since c.if-since.longest =
    elim c.if-since.branch [
      | then-since w ↦ rw (w.since-is, w.longest-is) (at_first f t0 w.if-since.true)
      | else-since+then-idle w ↦
          rw (w.since-is, w.longest-is, w.max-longest.ensures) (after_gap f t0 w.if-since.false w.if-idle.true)
      | else-since+else-idle w ↦
          rw (w.since-is, w.longest-is) (without_gap f t0 w.if-since.false w.if-idle.false)
    ] in
    simp c.if-bytes.false
    (rw (
      m.since_is,
      m.longest_is,
      c.max-2.ensures,
      c.max.ensures,
      c.max-end.ensures,
      c.max-start.ensures,
    ))
