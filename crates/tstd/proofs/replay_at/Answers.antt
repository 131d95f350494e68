-- `replay_at` meets its contract. Assumes nothing.
use Rattle.std.proofs.Common.{rules, refl, ap, ◌∙◌, Err, arith}
use Rattle.std.proofs.lemmas.Result.{err_from_is_err_and}
use Rattle.tstd.proofs.Core.{clock_refused, some_intervals, intervals_few, ready, queue_refused, passes_accepted}
use Rattle.tstd.proofs.replay_at.Goals as goal

pub returns-in_err-n : goal.returns-in_err-n
returns-in_err-n c =
    let e = err_from_is_err_and c.from_residual.result c.from_residual.ensures.1 in
    clock_refused _ _ _ _ _ c.requires refl c.split_at_mut-work.ensures.back refl (search rules) (search rules) c.build.ensures c.in_err-n.was (e.1 ∙ ap Err e.2) _ c.split_at_mut-work.ensures.front_len

pub run-requires : goal.run-requires
run-requires c = (
  some_intervals _ _ _ _ _ c.requires refl c.split_at_mut-work.ensures.back refl refl refl c.build.ensures _ c.in_ok-n.was,
  ready _ _ _ _ _ c.requires refl c.split_at_mut-work.ensures.back refl (search rules) (search rules) c.build.ensures _ c.in_ok-n.was _ c.split_at_mut-work.ensures.front_len,
)

pub overflow_add-n : goal.overflow_add-n
overflow_add-n c =
    omega (arith, intervals_few _ _ _ _ _ c.requires refl c.split_at_mut-work.ensures.back refl refl refl c.build.ensures _ c.in_ok-n.was)

pub returns-in_err-ran : goal.returns-in_err-ran
returns-in_err-ran c =
    let e = err_from_is_err_and c.from_residual-in_err-ran.result c.from_residual-in_err-ran.ensures.1 in
    queue_refused _ _ _ _ _ c.requires refl c.split_at_mut-work.ensures.back refl (search rules) (search rules) c.build.ensures _ c.in_ok-n.was _ c.split_at_mut-work.ensures.front_len c.run.ensures c.in_err-ran.was (e.1 ∙ ap Err e.2)

pub returns : goal.returns
returns c =
    passes_accepted _ _ _ _ _ c.requires refl c.split_at_mut-work.ensures.back refl (search rules) (search rules) c.build.ensures _ c.in_ok-n.was _ c.split_at_mut-work.ensures.front_len c.run.ensures c.in_ok-ran.was c.accepted.ensures
