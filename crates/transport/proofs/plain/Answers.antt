-- `transport::plain` meets its contract: content alone is one run. Assumes nothing.
use mathlib.Core.Path.{sym}
use Rattle.transport.specs.Transport.{byte_time}
use Rattle.transport.proofs.Ways.{content_delivery}
use Rattle.transport.proofs.plain.Goals as goal

pub returns : goal.returns
returns c =
    let a = c.args in
    rw (c.push_run-x.ensures, c.of_byte-end.ensures, c.nothing_delivered.ensures, c.requires.begin_value)
    (sym (content_delivery a.header a.payload_start a.body (byte_time a.time.t0 a.time.span) a.decode))
