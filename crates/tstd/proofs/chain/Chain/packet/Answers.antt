-- `packet` meets its contract. Assumes nothing.
use Rattle.std.proofs.Common.{◌≡◌, refl, ap}
use Rattle.transport.specs.declared.Arrived.{Arrived}
use Rattle.tstd.specs.Chain.{arrived}
use Rattle.tstd.proofs.chain.Chain.packet.Goals as goal

pub returns : goal.returns
unfolding arrived
returns c =
    let a = c.args in
    let is : c.arrive-arrived.result ≡ arrived a.self.now a.window.now a.header a.a = rw (c.arrive-arrived.ensures, c.scan-runs.ensures.runs) refl in
    record { scanner = c.scan-runs.ensures.scanner; tb = ap (λ (x : Arrived). x.tb) is; branch = rw is at c.step.ensures }
