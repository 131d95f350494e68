-- `slot_pids` meets its contract: a PID that does not fit ends the loop. Assumes nothing.
use native.Mathlib.Omega.{arith}
use Prim.Native.Nat.{ℕ}
use Rattle.std.proofs.Common.{below_more}
use Rattle.words.specs.Config.{system_fits, pid_fits, system_word}
use Rattle.words.proofs.Profile.{and_no}
use Rattle.words.proofs.UpTo.{filled_next, fails_at}
use Rattle.words.proofs.config_words.slot_pids.Goals as goal

pub returns-in_err-pids : goal.returns-in_err-pids
unfolding system_fits
returns-in_err-pids c =
    rw c.from_residual.ensures (and_no _ (fails_at (λ (k : ℕ). pid_fits (system_word c.args.words.now k)) _ _ (omega arith) c.in_err-pids.ensures))

pub loop-i-preserved : goal.loop-i-preserved
loop-i-preserved c =
    let pid = c.in_ok-pids.ensures in
    (rw pid.1 (filled_next _ _ 16 _ _ (omega arith) c.loop-i.invariant.0), below_more _ _ c.loop-i.invariant.1 pid.0)
