-- `tstd_replay` meets its contract: the answer is told in words. Assumes nothing.
use Rattle.exports.proofs.tstd_replay.Goals as goal

pub returns : goal.returns
returns c =
    let a = c.answer-told.ensures in
    record { told = rw a.outcome at c.write_answer.ensures; times_are = a.times_are; places_are = a.places_are }
