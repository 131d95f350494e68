-- `TStdConfig::pids` meets its contract: std's `map` over the slots. Assumes nothing.
use borrow.Author.Rules.{rules}
use borrow.Author.Tests.{tests}
use mathlib.Core.Path.{◌≡◌, sym, ◌∙◌}
use native.Mathlib.Omega.{arith}
use lib.ListN.{length, length-map}
use Rattle.profile.specs.Owner.{pids_of}
use Rattle.profile.specs.Config.{pid_of, unused_stream}
use Rattle.profile.proofs.Copies.{map_by_index}
use Rattle.profile.proofs.config.TStdConfig.pids.Goals as goal

pub returns : goal.returns
unfolding pids_of
returns c =
    let whole : length c.args.self.streams ≡ 8 = grind (arith, length-map) in
    let items = c.map.ensures.items in
    let same = map_by_index pid_of unused_stream c.args.self.streams c.map.result (items.long ∙ sym whole) (λ i h. let at = items.at i unused_stream 0 (omega (arith, whole, h)) in search (rules, tests)) in
    rw same
