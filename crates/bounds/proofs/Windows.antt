-- The windows in which the transport buffer gives bytes are those of a branch's runs. Assumes nothing.
use mathlib.Core.Bool.{false, true}
use mathlib.Core.Path.{◌≡◌}
use Prim.Native.Nat.{◌+◌, ◌<◌, ◌≤◌, ℕ}
use native.Mathlib.Nat.{le-add_right, le_trans}
use lib.Ieee.{Float, eq, le, lt, of_bits}
use Rattle.ieee.specs.Binary64.{0f}
use Rattle.ieee.specs.Interval.{minus, plain}
use Rattle.ieee.specs.Whole.{Is}
use Rattle.ieee.proofs.Interval.{widen_low}
use Rattle.ieee.proofs.Order.{falsity, lt→nle, truth}
use Rattle.ieee.proofs.Whole.{is_finite, lt_is, plain_is}
use Rattle.fifo.proofs.Bounds.{latest_most}
use Rattle.fifo.specs.Bounds.{Window, byte_limit as fifoLimit}
use Rattle.fifo.specs.declared.FluidFifo.{FluidFifo}
use Rattle.fifo.specs.declared.Pushed.{Pushed}
use Rattle.branch.specs.declared.Run.{Run}
use Rattle.bounds.specs.Runs.{RunIs, WindowTime, window_limit}

-- the window in which the transport buffer gives k bytes
pub window_times : {m k : ℕ} {f : FluidFifo} {t0 t1 : Float} {p : Pushed} → Window m k f t0 t1 p → m + k ≤ fifoLimit → WindowTime p.start × WindowTime p.end
unfolding le lt eq
window_times {m} {k} w h = (widen_low (minus window_limit) (latest_most m (le_trans (le-add_right m k) h) w.start) tt, widen_low (minus window_limit) (latest_most (m + k) h w.end) tt)

pub window_run : {m k : ℕ} {f : FluidFifo} {t0 t1 bytes : Float} {p : Pushed} → Window m k f t0 t1 p → m + k ≤ fifoLimit → Is bytes k → 0 < k
    → RunIs (record { t0 = p.start; t1 = p.end; bytes = bytes }) k
window_run w h i o = record { bytes = i; positive = o; start = (window_times w h).0; start_fits = w.start_fits; end = (window_times w h).1; span = w.span }

pub run_some : {r : Run} {k : ℕ} → RunIs r k → (le r.bytes 0f ≡ false) × (lt 0f r.bytes ≡ true)
unfolding of_bits
run_some {r} {k} q =
    let h = lt_is (plain 0) r.bytes 0 k (plain_is 0) q.bytes q.positive in
    let p = is_finite r.bytes k q.bytes in
    (falsity (le r.bytes (plain 0)) (lt→nle r.bytes (plain 0) p tt h), truth (lt (plain 0) r.bytes) h)
