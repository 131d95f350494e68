-- `unparsed_from` meets its contract. The invariant: the i packets so far do not parse. Assumes nothing.
use Rattle.std.proofs.Common.{ℕ, ◌+◌, ◌*◌, ◌<◌}
use Rattle.tstd.specs.Skips.{IsUnparsed, window_at}
use Rattle.tstd.proofs.skip.Packets.unparsed_from.Given as goal

abbrev pub invariant-loop-i : goal.invariant-loop-i
invariant-loop-i l = (j : ℕ) → j < l.i → IsUnparsed (window_at l.self.bytes.now (l.at + l.self.size * j))
