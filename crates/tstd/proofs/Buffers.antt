-- The transport buffer's two events, each noted where it was found. Assumes nothing.
use Rattle.std.proofs.Common.{◌≡◌, ℕ, sym, ap, ◌∙◌}
use lib.Ieee.{lt}
use Rattle.ieee.specs.Binary64.{◌⊕◌, 1f, 512f, 1e-6f}
use Rattle.fifo.specs.declared.FluidFifo.{FluidFifo}
use Rattle.events.specs.declared.Event.TheVariants.{TbOverflow, TbBusy}
use Rattle.events.specs.Event.{when}
use Rattle.events.specs.declared.Slots.{Slots}
use Rattle.events.specs.Slots.{noted_all}
use Rattle.events.proofs.Noted.{noted_all_append_lem}
use Rattle.model.specs.Chain.{tb_events}

pub tb_noted : (tb : FluidFifo) (k : ℕ) (s x y : Slots)
    → x ≡ noted_all k (when (lt (512f ⊕ 1f) tb.peak) (TbOverflow tb.peak)) s
    → y ≡ noted_all k (when (lt (1f ⊕ 1e-6f) tb.longest_busy) (TbBusy tb.longest_busy)) x
    → y ≡ noted_all k (tb_events tb) s
unfolding tb_events
tb_noted tb k s x y a b =
    let A = when (lt (512f ⊕ 1f) tb.peak) (TbOverflow tb.peak) in
    let B = when (lt (1f ⊕ 1e-6f) tb.longest_busy) (TbBusy tb.longest_busy) in
    b ∙ (ap (noted_all k B) a ∙ sym (noted_all_append_lem k A B s))
