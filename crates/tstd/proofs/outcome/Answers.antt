-- `outcome` meets its contract. Assumes nothing.
use Rattle.std.proofs.Common.{sym, ap, ◌∙◌, Err, arith, length-take}
use Rattle.std.specs.Result.{result_ok}
use Rattle.std.proofs.lemmas.Result.{err_from_is_err_and}
use lib.ListN.{length-map}
use Rattle.tstd.proofs.Core.{checked_as, fitting, times_fit, places_fit, check_refused, refused_by, layout_refused, replayed_found}
use Rattle.tstd.proofs.Cleared.{zeroed_filled}
use Rattle.tstd.proofs.outcome.Goals as goal

pub replay_at-answer-requires : goal.replay_at-answer-requires
replay_at-answer-requires c =
    fitting _ _ _ _ _ (checked_as _ _ _ _ _ _ c.replay.ensures c.check.ensures c.in_ok-needed.was) _ (sym c.detect_packet_layout.ensures ∙ (c.ok_or.ensures.ok_part ∙ ap result_ok c.in_ok-layout.was)) (grind (arith, length-map))

pub slice_bounds-fill-end-2 : goal.slice_bounds-fill-end-2
slice_bounds-fill-end-2 c =
    let fit = times_fit _ _ c.args.times.now c.args.places.now c.args.row_len (checked_as _ _ _ _ _ _ c.replay.ensures c.check.ensures c.in_ok-needed.was) in
    omega (arith, fit, length-take c.in_ok-needed.needed.times c.replay_at-answer.new.times)

pub slice_bounds-fill-end-4 : goal.slice_bounds-fill-end-4
slice_bounds-fill-end-4 c =
    let fit = places_fit _ _ c.args.times.now c.args.places.now c.args.row_len (checked_as _ _ _ _ _ _ c.replay.ensures c.check.ensures c.in_ok-needed.was) in
    omega (arith, fit, length-take c.in_ok-needed.needed.places c.replay_at-answer.new.places)

pub returns-in_err-needed : goal.returns-in_err-needed
returns-in_err-needed c =
    let e = err_from_is_err_and c.from_residual.result c.from_residual.ensures.1 in
    check_refused _ _ _ _ _ (checked_as _ _ _ _ _ _ c.replay.ensures c.check.ensures c.in_err-needed.was) (e.1 ∙ ap Err e.2)

pub returns-in_err-layout : goal.returns-in_err-layout
returns-in_err-layout c =
    let e = err_from_is_err_and c.from_residual-in_err-layout.result c.from_residual-in_err-layout.ensures.1 in
    layout_refused _ _ _ _ _ (checked_as _ _ _ _ _ _ c.replay.ensures c.check.ensures c.in_ok-needed.was) (sym c.detect_packet_layout.ensures ∙ (c.ok_or.ensures.ok_part ∙ ap result_ok c.in_err-layout.was)) (e.1 ∙ ap Err (e.2 ∙ refused_by _ _ _ _ c.ok_or.ensures.value c.in_err-layout.was))

pub returns : goal.returns
returns c =
    replayed_found _ _ _ _ _ (checked_as _ _ _ _ _ _ c.replay.ensures c.check.ensures c.in_ok-needed.was) _ (sym c.detect_packet_layout.ensures ∙ (c.ok_or.ensures.ok_part ∙ ap result_ok c.in_ok-layout.was)) c.replay_at-answer.ensures
    (zeroed_filled _ _ _ _ (c.fill.ensures.after (λ y e. cc)))
    (zeroed_filled _ _ _ _ (c.fill-2.ensures.after (λ y e. cc)))
