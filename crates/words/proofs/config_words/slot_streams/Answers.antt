-- `slot_streams` meets its contract: a slot that does not fit ends the loop. Assumes nothing.
use native.Mathlib.Omega.{arith}
use Rattle.words.specs.Config.{slot_fits, slots_fit}
use Rattle.words.proofs.Profile.{and_no}
use Rattle.words.proofs.UpTo.{fails_at}
use Rattle.words.proofs.config_words.slot_streams.Goals as goal

pub returns-in_err-streams : goal.returns-in_err-streams
unfolding slots_fit
returns-in_err-streams c =
    rw c.from_residual.ensures (and_no _ (fails_at (slot_fits _) _ _ (omega arith) c.in_err-streams.ensures))
