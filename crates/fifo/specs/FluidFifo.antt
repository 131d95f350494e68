-- The fluid FIFO by the steps of the Rust's `FluidFifo`: what `new` and `push` give.
-- A `busy_since` of -infinity is the Rust's `None`. A NaN goes through the same tests as a number.
use Rattle.std.specs.Prelude.{ℕ, Bool, cond, pos, Float}
use Rattle.std.specs.Float.{binary64}
use Rattle.std.specs.Float.Ieee.{of_int, lt, le, eq}
use Rattle.ieee.specs.Binary64.{◌⊕◌, ◌⊖◌, ◌⊗◌, ◌⊘◌, -∞, 0f, 8f, 1e-6f}
use Rattle.ieee.specs.MaxMin.{max_of}
use Rattle.fifo.specs.declared.FluidFifo.{FluidFifo}
use Rattle.fifo.specs.declared.Pushed.{Pushed}

-- TIME_EPS, 1e-6 s
abbrev pub time_eps : Float
time_eps = 1e-6f

-- a FIFO into which nothing has come
unfoldable pub new : ℕ → FluidFifo
new rateBps =
    record {
      rate = of_int binary64 (pos rateBps) ⊘ 8f;
      virtual_done = -∞;
      busy_since = -∞;
      peak = 0f;
      longest_busy = 0f;
    }

-- the window in which the bytes leave: not before what is queued has left, and not before they have come
unfoldable pub exit_start : FluidFifo → Float → Float
exit_start f t0 = max_of f.virtual_done t0

unfoldable pub exit_end : FluidFifo → Float → Float → Float → Float
exit_end f t0 t1 bytes = max_of t1 (exit_start f t0 ⊕ bytes ⊘ f.rate)

-- bytes in the FIFO at t1, when the last of them comes
unfoldable pub backlog_at_t1 : FluidFifo → Float → Float → Float → Float
backlog_at_t1 f t0 t1 bytes = (exit_end f t0 t1 bytes ⊖ t1) ⊗ f.rate

-- no bytes have come; the FIFO was empty before t0
abbrev pub never_busy : FluidFifo → Bool
never_busy f = eq f.busy_since -∞

abbrev pub idle_before : FluidFifo → Float → Bool
idle_before f t0 = lt f.virtual_done (t0 ⊖ time_eps)

-- the start of the busy stretch that has t0, and the longest of the stretches that an idle gap has closed
unfoldable pub busy_since : FluidFifo → Float → Float
busy_since f t0 = cond (never_busy f) t0 (cond (idle_before f t0) t0 f.busy_since)

unfoldable pub longest_before : FluidFifo → Float → Float
longest_before f t0 =
    cond (never_busy f)
    f.longest_busy
    (cond (idle_before f t0) (max_of f.longest_busy (f.virtual_done ⊖ f.busy_since)) f.longest_busy)

-- the FIFO after bytes that are more than 0.0
unfoldable pub fed : FluidFifo → Float → Float → Float → FluidFifo
fed f t0 t1 bytes =
    record {
      rate = f.rate;
      virtual_done = exit_end f t0 t1 bytes;
      busy_since = busy_since f t0;
      peak = max_of f.peak (backlog_at_t1 f t0 t1 bytes);
      longest_busy = max_of (longest_before f t0) (exit_end f t0 t1 bytes ⊖ busy_since f t0);
    }

unfoldable pub pushed : FluidFifo → Float → Float → Float → Pushed
pushed f t0 t1 bytes =
    cond (le bytes 0f)
    (record { fifo = f; start = exit_start f t0; end = exit_start f t0 })
    (record { fifo = fed f t0 t1 bytes; start = exit_start f t0; end = exit_end f t0 t1 bytes })
