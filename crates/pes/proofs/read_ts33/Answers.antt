-- `pes::read_ts33` meets its contract: the bytes' arithmetic is the stamp of H.222.0. Assumes nothing.
use borrow.Author.Rules.{rules}
use Rattle.syntax.proofs.Bytes.{Bytes}
use Rattle.syntax.proofs.TimeStamp.{timestamp_bytes}
use Rattle.pes.proofs.read_ts33.Goals as goal

pub returns : goal.returns
returns c =
    let h : Bytes c.args.bytes = search rules in
    cc (timestamp_bytes c.args.bytes h)
