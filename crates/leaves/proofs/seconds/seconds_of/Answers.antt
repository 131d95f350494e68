-- `seconds_of` meets its contract: the test is `nan_bits`. Assumes nothing.
use Rattle.std.proofs.Common.{◌∙◌}
use lib.Ieee.{nan_bits}
use Rattle.leaves.proofs.FloatWord.{quiet_read, nan_read, number_read}
use Rattle.leaves.proofs.seconds.seconds_of.Goals as goal

pub returns-then-word : goal.returns-then-word
unfolding nan_bits
returns-then-word c = quiet_read ∙ nan_read _ c.if-word.true

pub float_from_bits-result : goal.float_from_bits-result
unfolding nan_bits
float_from_bits-result c = number_read c.args.word c.if-word.false
