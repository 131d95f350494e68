-- `PesScanner::feed` meets its contract: a unit whose content has begun. Assumes nothing.
use native.Mathlib.Omega.{arith}
use Rattle.scanner.proofs.Steps.{fed_past}
use Rattle.scanner.proofs.PesScanner.feed.Goals as goal

pub returns-then-s-ge-HEADER_LIMIT : goal.returns-then-s-ge-HEADER_LIMIT
returns-then-s-ge-HEADER_LIMIT c =
    let a = c.args in
    cc (fed_past c.begun-s.result a.self a.payload_unit_start a.payload.now c.begun-s.ensures (grind arith) c.if-s-ge-HEADER_LIMIT.true)
