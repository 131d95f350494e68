-- `run` meets its contract. The invariant: behind k packets the chains, the work and the slots are the state that the definition reaches (`Looping`).
-- The measure: the packets left. Assumes nothing.
use Rattle.std.proofs.Common.{◌≡◌, ℕ, suc, ◌-◌, ◌<◌, sym, refl, ◌∙◌, inl, inr, arith}
use Rattle.tstd.specs.Chain.{unused_chain}
use Rattle.tstd.proofs.Rows.{get_d_any}
use Rattle.tstd.proofs.Looping.{loop_starts, system_again, stream_again, stream_refuses, skip_again, loop_ends, loop_as}
use Rattle.tstd.proofs.run.run.Goals as goal
use Rattle.tstd.proofs.run.run.Goals.{in-Stream-Some+else-is_err, in-System-default, in_default, in_default-via-in-Stream+in_default, in_default-via-in_default}

one_more : (n : ℕ) → 0 < n → n ≡ suc (n - 1)
one_more n h = omega arith

pub loop-k-init : goal.loop-k-init
loop-k-init c =
    let pre = c.requires in
    record { ready = pre.1; loop = loop_starts _ pre.1 _ _ _ _ c.chains-chains.ensures c.new_system-system.ensures _ (one_more _ pre.0) c.start-times.ensures c.new-slots.ensures }

pub loop-k-preserved : goal.loop-k-preserved
loop-k-preserved c =
    elim c.match-owner_of.branch [
      | in-Stream-Some+else-is_err w ↦
          let z = w.in-Stream-Some in
          loop_as w.times-is w.at-is w.k-is (stream_again _ c.loop-k.invariant.ready _ _ _ _ _ _ _ c.loop-k.invariant.loop c.loop-k-test.true _ _ _ c.window_at-window.ensures c.read-header.ensures _ c.pids.ensures _ (c.owner_of.ensures.owner _ c.owner_table.ensures) _ (one_more _ c.requires.0) c.next-times.ensures
          z.i z.is-0 z.header z.is-1 _ _ (get_d_any c.loop-k.chains z.i _ unused_chain (omega (arith, c.loop-k.invariant.loop.now.size, z.ensures.stream))) _ _ _ w.packet.ensures _ _ _ _ w.work-is w.chains-is w.system-is w.slots-is (sym w.is_err.ensures.value ∙ w.if-is_err.false))
      | in-System-default w ↦
          loop_as w.times-is w.at-is w.k-is (system_again _ c.loop-k.invariant.ready _ _ _ _ _ _ _ c.loop-k.invariant.loop c.loop-k-test.true _ _ _ c.window_at-window.ensures c.read-header.ensures _ c.pids.ensures _ (c.owner_of.ensures.owner _ c.owner_table.ensures) _ (one_more _ c.requires.0) c.next-times.ensures w.in-System-default.is-0 _ _ w.push_system-system.ensures.0 w.push_system-system.ensures.1 _ _ _ _ w.work-is w.chains-is w.system-is w.slots-is)
      | in_default w ↦
          elim w.in_default.branch [
            | in_default-via-in-Stream+in_default z ↦ loop_as w.times-is w.at-is w.k-is (skip_again _ c.loop-k.invariant.ready _ _ _ _ _ _ _ c.loop-k.invariant.loop c.loop-k-test.true _ _ _ c.window_at-window.ensures c.read-header.ensures _ c.pids.ensures _ (c.owner_of.ensures.owner _ c.owner_table.ensures) _ (one_more _ c.requires.0) c.next-times.ensures (inl z.in_default.is-1) _ c.owner_table.ensures w.skip-last.ensures _ _ _ _ w.work-is w.chains-is w.system-is w.slots-is)
            | in_default-via-in_default z ↦ loop_as w.times-is w.at-is w.k-is (skip_again _ c.loop-k.invariant.ready _ _ _ _ _ _ _ c.loop-k.invariant.loop c.loop-k-test.true _ _ _ c.window_at-window.ensures c.read-header.ensures _ c.pids.ensures _ (c.owner_of.ensures.owner _ c.owner_table.ensures) _ (one_more _ c.requires.0) c.next-times.ensures (inr z.in_default.is-0) _ c.owner_table.ensures w.skip-last.ensures _ _ _ _ w.work-is w.chains-is w.system-is w.slots-is)
          ]
    ]

pub returns-then-is_err : goal.returns-then-is_err
returns-then-is_err c =
    let z = c.in-Stream-Some in
    stream_refuses _ c.loop-k.invariant.ready _ _ _ _ _ _ _ c.loop-k.invariant.loop c.loop-k-test.true _ _ _ c.window_at-window.ensures c.read-header.ensures _ c.pids.ensures _ (c.owner_of.ensures.owner _ c.owner_table.ensures) _ (one_more _ c.requires.0) c.next-times.ensures
    z.i z.is-0 z.header z.is-1 _ _ (get_d_any c.loop-k.chains z.i _ unused_chain (omega (arith, c.loop-k.invariant.loop.now.size, z.ensures.stream))) _ _ _ c.packet.ensures _ refl (sym c.is_err.ensures.value ∙ c.if-is_err.true) _ c.queue_full.ensures

pub returns : goal.returns
returns c =
    c.ends.ensures.ends _ _ _ c.args.clock c.loop-k.invariant.ready (loop_ends _ c.loop-k.invariant.ready _ _ _ _ _ _ _ c.loop-k.invariant.loop c.loop-k-test.false _ refl refl refl refl)
