-- Lists of events in which every figure in seconds is a binary64 above zero, as one over a second is: those of a unit's age, of a transport buffer and
-- of Bsys. Assumes nothing.
use mathlib.Core.Path.{◌≡◌}
use mathlib.Core.Bool.{true}
use mathlib.Core.List.{List, [], ◌++◌}
use lib.Dec.{T}
use lib.Ieee.{Float, binary64, fits, of_bits, add, lt}
use lib.Ieee.Fits.{sub-fits}
use Rattle.ieee.specs.Binary64.{◌⊕◌, ◌⊖◌, 1f, 512f, 1536f, 1e-6f}
use Rattle.ieee.proofs.Order.{to_t}
use Rattle.fifo.specs.declared.FluidFifo.{FluidFifo}
use Rattle.events.specs.declared.Event.{Event}
use Rattle.events.specs.declared.Event.TheVariants.{Overflow, Delay, TbOverflow, TbBusy, MbBusy}
use Rattle.events.specs.Event.{when}
use Rattle.branch.specs.declared.Run.{Run}
use Rattle.branch.specs.declared.AccessUnit.{AccessUnit}
use Rattle.branch.specs.declared.sys_branch.SysBranch.{SysBranch}
use Rattle.branch.specs.SysBranch.{sys_events, filled}
use Rattle.report.specs.Record.{Each}
use Rattle.summary.specs.Violation.{AboveZero, SecondsAboveZero}
use Rattle.summary.proofs.Lines.{above_threshold}
use Rattle.model.specs.Chain.{tb_events}
use Rattle.demands.proofs.Found.{each_append}
use Rattle.legal.proofs.Cases.{each_when}

abbrev pub AllAbove : List Event → Type 0
AllAbove es = Each SecondsAboveZero es

pub none_above : AllAbove []
unfolding Each
none_above = tt

pub both_above : (xs ys : List Event) → AllAbove xs → AllAbove ys → AllAbove (xs ++ ys)
both_above xs ys h k = each_append SecondsAboveZero xs ys h k

over_second : (x : Float) → T (fits binary64 x) → lt (1f ⊕ 1e-6f) x ≡ true → AboveZero x
unfolding of_bits add
over_second x f e = above_threshold (1f ⊕ 1e-6f) x tt (to_t e) f

-- the age of a unit is a difference
pub delay_above : (u : AccessUnit)
    → AllAbove (when (lt (1f ⊕ 1e-6f) (u.decode_time ⊖ u.first_input_time)) (Delay u.decode_time (u.decode_time ⊖ u.first_input_time)))
delay_above u =
    let age = u.decode_time ⊖ u.first_input_time in
    each_when SecondsAboveZero (lt (1f ⊕ 1e-6f) age) (Delay u.decode_time age) (over_second age (sub-fits binary64 u.decode_time u.first_input_time))

pub mb_busy_above : (x : Float) → T (fits binary64 x) → AllAbove (when (lt (1f ⊕ 1e-6f) x) (MbBusy x))
mb_busy_above x h = each_when SecondsAboveZero (lt (1f ⊕ 1e-6f) x) (MbBusy x) (over_second x h)

pub tb_above : (f : FluidFifo) → T (fits binary64 f.longest_busy) → AllAbove (tb_events f)
unfolding tb_events
tb_above f h =
    both_above (when (lt (512f ⊕ 1f) f.peak) (TbOverflow f.peak)) (when (lt (1f ⊕ 1e-6f) f.longest_busy) (TbBusy f.longest_busy))
    (each_when SecondsAboveZero (lt (512f ⊕ 1f) f.peak) (TbOverflow f.peak) (λ e. tt))
    (each_when SecondsAboveZero (lt (1f ⊕ 1e-6f) f.longest_busy) (TbBusy f.longest_busy) (over_second f.longest_busy h))

pub sys_above : (s : SysBranch) (r : Run) (rsys : Float) → AllAbove (sys_events s r rsys)
unfolding sys_events
sys_above s r rsys = each_when SecondsAboveZero (lt (1536f ⊕ 1f) (filled s r rsys)) (Overflow (filled s r rsys)) (λ e. tt)
