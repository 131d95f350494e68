-- One step of a video chain, from what its parts give, and the branch before the first packet.
use Prim.Native.Nat.{ℕ, ◌+◌, ◌*◌, ◌≤◌, ◌<◌}
use mathlib.Core.Path.{◌≡◌, refl, sym, ap, ◌∙◌}
use mathlib.Core.Bool.{true, false}
use mathlib.Core.List.{List, []}
use native.Mathlib.Omega.{arith}
use lib.ListN.{length}
use borrow.Author.Tests.{ltb-true, leb-true, lt-ltb, le-leb}
use lib.Ieee.{Float, lt}
use Rattle.std.proofs.lemmas.Bool.{and_parts}
use Rattle.ieee.specs.Binary64.{◌⊕◌, ◌⊘◌, 0f, 1f, 2f, 1e-6f}
use Rattle.ieee.specs.MaxMin.{max_of}
use Rattle.events.specs.declared.Event.TheVariants.{MbBusy}
use Rattle.events.specs.Event.{when}
use Rattle.events.specs.declared.Slots.{Slots}
use Rattle.events.specs.Slots.{noted_all}
use Rattle.events.proofs.Noted.{noted_all_append_lem}
use Rattle.branch.specs.declared.Delivered.{Delivered}
use Rattle.branch.specs.declared.video_branch.VideoModel.{VideoModel}
use Rattle.branch.specs.declared.leak.VideoLayout.{VideoLayout}
use Rattle.branch.specs.declared.video_branch.VideoBranch.{VideoBranch}
use Rattle.branch.specs.declared.QueueFull.{QueueFull}
use Rattle.branch.specs.Queue.{entries, entries_from}
use Rattle.std.specs.Prelude.{Result, Ok, is_err, ⊤}
use Rattle.branch.specs.VideoBranch.{VideoRates, Video, advance, drain_time, finish_video}
use Rattle.branch.specs.VideoStep.{VideoChain, new_video, waiting, queued_to, close_au, deliver, packet_step, end_step, video_step}
use Rattle.branch.specs.VideoInWork.{rates_of, leak_of, flow_of, video_of, VideoLies, chain_of, Apart, VideoFedTo, AdvancedTo, layout_of, ready, SteppedTo, new_branch}
use Rattle.branch.proofs.UnitCounts.{close_twice}
use Rattle.branch.proofs.Rings.{ring_fits, lying_fits}

-- ---- the branch before the first packet

pub new_is : (w : List Float) (m : VideoLayout) → chain_of w m new_branch ≡ new_video
unfolding new_branch new_video chain_of video_of leak_of flow_of entries entries_from
new_is w m = refl

pub new_lies : (w : List Float) (p : VideoModel) → 0 < p.depth → p.base + 8 * p.depth ≤ length w → VideoLies w (layout_of p) new_branch
unfolding new_branch
new_lies w p d h =
    record {
      leak = record { runs = record { inside = d; some = omega arith; room = omega arith }; marks = record { inside = d; some = omega arith; room = omega arith } };
      pending = record { inside = d; some = omega arith; room = omega arith };
    }

-- the chain's figures are fields of the branch
pub figures_of_lem : (w : List Float) (m : VideoLayout) (b : VideoBranch)
    → (((video_of w m b).leak.mb_peak ≡ b.leak.mb_peak) × ((video_of w m b).leak.flow.eb_peak ≡ b.leak.flow.eb_peak)) × (((video_of w m b).units ≡ b.units.access_units) × ((video_of w m b).max_delay ≡ b.units.max_delay_seconds))
unfolding video_of leak_of flow_of
figures_of_lem w m b = ((refl, refl), (refl, refl))

-- ---- the parts of a step

module _ (w v : List Float) (m : VideoLayout) (b : VideoBranch) (k : ℕ) (s : Slots) (r : Result ⊤ QueueFull) (c : VideoBranch) where
  abbrev R : VideoRates
  R = rates_of m

  abbrev depth : ℕ
  depth = m.runs.depth

  abbrev C : VideoChain
  C = chain_of w m b

  -- at the end the open unit finds no place; r' is the error that is handed on
  pub end_refused : (r' : Result ⊤ QueueFull) → VideoFedTo w m b (close_au depth C) r c v → is_err r ≡ true → is_err r' ≡ true → SteppedTo w m k s (end_step R (close_au depth C)) r' c v s
  unfolding end_step noted_all
  end_refused r' h f f' =
      let e : (close_au depth C).full ≡ true = sym h.full ∙ f in
      simp e (record { lies = h.lies; outside = h.outside; full = f'; state = h.state; slots = refl })

  -- the end
  module _ (h : VideoFedTo w m b (close_au depth C) r c v) (f : is_err r ≡ false) (a : VideoBranch) (s' s'' : Slots) (until : Float)
      (e : until ≡ max_of c.leak.proc_time 0f ⊕ c.queued ⊘ m.rbx ⊕ 2f) (g : AdvancedTo v m k c.units.open_au s (advance R until (video_of v m c)) a s')
      (n : s'' ≡ noted_all k (when (lt (1f ⊕ 1e-6f) a.leak.longest_busy) (MbBusy a.leak.longest_busy)) s') where
    drained : until ≡ drain_time R (video_of v m c)
    unfolding drain_time video_of leak_of
    drained = e

    end_is : end_step R (close_au depth C)
        ≡ record { full = false; chain = record { branch = (finish_video R (video_of v m c)).branch; open_au = c.units.open_au }; events = (finish_video R (video_of v m c)).events }
    unfolding end_step chain_of
    end_is =
        let i : (close_au depth C).full ≡ false = sym h.full ∙ f in
        let j : (close_au depth C).chain ≡ chain_of v m c = sym h.state in
        simp (i, j)

    reached : video_of v m a ≡ (finish_video R (video_of v m c)).branch
    unfolding finish_video
    reached = g.state ∙ ap (λ (z : Float). (advance R z (video_of v m c)).branch) drained

    longest : a.leak.longest_busy ≡ (finish_video R (video_of v m c)).branch.leak.longest_busy
    unfolding video_of leak_of
    longest = ap (λ (z : Video). z.leak.longest_busy) reached

    noted : s'' ≡ noted_all k (finish_video R (video_of v m c)).events s
    unfolding finish_video
    noted =
        n
        ∙ (ap (λ (z : Float). noted_all k (when (lt (1f ⊕ 1e-6f) z) (MbBusy z)) s') longest
        ∙ (ap (noted_all k _) (g.slots ∙ ap (λ (z : Float). noted_all k (advance R z (video_of v m c)).events s) drained) ∙ sym (noted_all_append_lem k _ _ s)))

    pub end_reached : SteppedTo w m k s (end_step R (close_au depth C)) (Ok tt) a v s''
    unfolding chain_of
    end_reached = rw end_is (record { lies = g.lies; outside = h.outside; full = refl; state = rw (reached, g.open_au); slots = noted })

-- a packet
module _ (w u : List Float) (m : VideoLayout) (b a : VideoBranch) (d : Delivered) (t : Float) (k : ℕ) (s s' : Slots) (r : Result ⊤ QueueFull) (c : VideoBranch) where
  pub packet_delivered : AdvancedTo w m k b.units.open_au s (advance (rates_of m) t (video_of w m b)) a s' → VideoFedTo w m a (deliver m.runs.depth d (chain_of w m a)) r c u
      → SteppedTo w m k s (video_step (rates_of m) m.runs.depth d false t (chain_of w m b)) r c u s'
  unfolding video_step packet_step chain_of
  packet_delivered g y =
      let arrived : record { branch = video_of w m a; open_au = a.units.open_au } ≡ record { branch = (advance (rates_of m) t (video_of w m b)).branch; open_au = b.units.open_au } = rw (g.state, g.open_au) in
      record {
        lies = y.lies;
        outside = y.outside;
        full = y.full ∙ ap (λ (z : VideoChain). (deliver m.runs.depth d z).full) arrived;
        state = y.state ∙ ap (λ (z : VideoChain). (deliver m.runs.depth d z).chain) arrived;
        slots = g.slots;
      }

-- ---- a caller that closes first, and then steps to the end

module _ (depth : ℕ) (c : VideoChain) where
  close_again : (close_au depth c).full ≡ false → close_au depth (close_au depth c).chain ≡ close_au depth c
  unfolding close_au
  close_again f = ap (queued_to c) (close_twice depth (waiting c) f)

module _ (r : VideoRates) (depth : ℕ) (d : Delivered) (t : Float) (c : VideoChain) where
  pub closed_full : (close_au depth c).full ≡ true → video_step r depth d true t c ≡ record { full = true; chain = (close_au depth c).chain; events = [] }
  unfolding video_step end_step
  closed_full f = simp f

  pub closed_again : (close_au depth c).full ≡ false → video_step r depth d true t (close_au depth c).chain ≡ video_step r depth d true t c
  unfolding video_step
  closed_again f = ap (end_step r) (close_again depth c f)

-- ---- the test of a step

pub record Ready (w : List Float) (p : VideoModel) (b : VideoBranch) (k : ℕ) : Type 0 where
  pub room : p.base + 8 * p.depth ≤ length w
  pub lies : VideoLies w (layout_of p) b
  pub units : b.units.access_units < 9223372036854775808
  pub slot : k < 64

pub ready_is : (w : List Float) (p : VideoModel) (b : VideoBranch) (k : ℕ) → ready (length w) p b k ≡ true → Ready w p b k
unfolding ready
ready_is w p b k h =
    let q1 = and_parts _ _ h in
    let q2 = and_parts _ _ q1.0 in
    let q3 = and_parts _ _ q2.0 in
    let q4 = and_parts _ _ q3.0 in
    let q5 = and_parts _ _ q4.0 in
    let room = leb-true _ _ q5.0 in
    let m = layout_of p in
    record {
      room = room;
      lies = record {
        leak = record { runs = ring_fits 3 w m.runs b.leak.mb_in.runs (omega arith) q5.1; marks = ring_fits 2 w m.marks b.leak.flow.marks (omega arith) q3.1 };
        pending = ring_fits 3 w m.units b.units.pending (omega arith) q4.1;
      };
      units = ltb-true _ _ q2.1;
      slot = ltb-true _ _ q1.1;
    }

pub layout_apart : (p : VideoModel) → Apart (layout_of p)
layout_apart p = record { units = omega arith; marks = omega arith; units_depth = refl; marks_depth = refl }

-- the other way: what a caller shows before a step
pub lies_ready : (w : List Float) (p : VideoModel) (b : VideoBranch) (k : ℕ) → Ready w p b k → ready (length w) p b k ≡ true
unfolding ready
lies_ready w p b k r =
    let l = r.lies.leak in
    let q = r.lies.pending in
    simp (
      le-leb (p.base + 8 * p.depth) (length w) r.room,
      lying_fits l.runs,
      lying_fits q,
      lying_fits l.marks,
      lt-ltb b.units.access_units 9223372036854775808 r.units,
      lt-ltb k 64 r.slot,
    )
