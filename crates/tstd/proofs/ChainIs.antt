-- A chain of the definition as pass 2 holds it: the new one, a step of it, what a change elsewhere in the work leaves, and its figures.
use Rattle.std.proofs.Common.{◌≡◌, ℕ, suc, ◌+◌, ◌*◌, ◌^◌, ◌<◌, ◌≤◌, true, false, ◌⊎◌, List, length, refl, ◌∙◌, inl, inr, ⊎_elim, arith}
use Rattle.std.specs.Prelude.{⊤, Result, is_err}
use lib.Ieee.{Float}
use Rattle.ieee.specs.Binary64.{0f}
use Rattle.fifo.specs.declared.FluidFifo.{FluidFifo}
use Rattle.events.specs.declared.Slots.{Slots}
use Rattle.events.specs.Slots.{noted_all}
use Rattle.branch.specs.declared.Delivered.{Delivered}
use Rattle.branch.specs.declared.QueueFull.{QueueFull}
use Rattle.branch.specs.declared.main_branch.MainModel.{MainModel}
use Rattle.branch.specs.declared.main_branch.MainBranch.{MainBranch}
use Rattle.branch.specs.declared.video_branch.VideoModel.{VideoModel}
use Rattle.branch.specs.declared.video_branch.VideoBranch.{VideoBranch}
use Rattle.branch.specs.Queue.{SameOutside, floats_at}
use Rattle.branch.specs.InflowInWork.{run_of}
use Rattle.branch.specs.MainBranch.{Step as MainStep, new_main, main_step}
use Rattle.branch.specs.VideoStep.{VideoStep, new_video, video_step}
use Rattle.branch.specs.MainInWork.{runs_place, units_place, unit_of, main_of, BranchLies}
use Rattle.branch.specs.MainInWork as main-work
use Rattle.branch.specs.VideoInWork.{mark_at, flow_of, leak_of, video_of, VideoLies, chain_of, layout_of, rates_of}
use Rattle.branch.specs.VideoInWork as video-work
use Rattle.branch.specs.UnitsInWork.{unit_at}
use Rattle.branch.proofs.Rings.{kept, lies_kept, floats_local, outside_wider}
use Rattle.branch.proofs.HeaderMarks.{mark_local}
use Rattle.branch.proofs.MainSteps as main-laws
use Rattle.branch.proofs.VideoSteps as video-laws
use Rattle.branch.proofs.Counts as main-counts
use Rattle.branch.proofs.VideoCounts as video-counts
use Rattle.profile.specs.declared.model.TStdBranch.{TStdBranch}
use Rattle.profile.specs.declared.config.TStdStream.{TStdStream}
use Rattle.transport.specs.Arrive.{nothing}
use Rattle.model.specs.Chain as definition
use Rattle.model.specs.Chain.{main, video, Stepped, step_branch, stats_of}
use Rattle.tstd.specs.declared.chain.Branch.{Branch}
use Rattle.tstd.specs.declared.chain.Chain.{Chain}
use Rattle.tstd.specs.Chain.{main_model, video_model, new_branch, new_chain, StepOf, FinishOf}
use Rattle.tstd.specs.Figures.{row_by, stream_row}
use Rattle.tstd.specs.InWork.{BranchIs, main_is, video_is, ChainIs}

-- ---- the new chain

module _ (w : List Float) (base depth : ℕ) (d : 0 < depth) (room : base + 8 * depth ≤ length w) where
  new_by : (s : TStdStream) (m : TStdBranch) → s.model.branch ≡ m → BranchIs w base depth 0 m (new_branch m base depth) (definition.new_chain s).branch
  unfolding new_branch definition.new_chain new_main new_video
  new_by s (TStdBranch.Main size) e =
      let p = main_model size base depth in
      let is = main-laws.new_is w p in
      rw (e, ← is) (main_is size main-work.new_branch (main-laws.new_lies w p d (omega arith)) (rw is (omega arith)))
  new_by s (TStdBranch.Video rbx mb eb) e =
      let p = video_model rbx mb eb base depth in
      let is = video-laws.new_is w (layout_of p) in
      rw (e, ← is) (video_is rbx mb eb video-work.new_branch (video-laws.new_lies w p d room) (rw is (omega arith)))

  pub new_is : (s : TStdStream) → ChainIs w s base depth 0 (new_chain s base depth) (definition.new_chain s)
  unfolding definition.new_chain
  new_is s = record { tb = refl; branch = new_by s s.model.branch refl; room = room }

-- ---- a step

-- a step to st: r is what the code says, u the work, sl' the slots and b the branch after it
pub record StepIs (w u : List Float) (m : TStdBranch) (base depth k slot : ℕ) (sl sl' : Slots) (st : Stepped) (r : Result ⊤ QueueFull) (b : Branch) : Type 0 where
  pub full : is_err r ≡ st.full
  pub slots : sl' ≡ noted_all slot st.events sl
  pub outside : SameOutside base (base + 8 * depth) w u
  pub branch : BranchIs u base depth (suc k) m b st.branch

module _ (w u : List Float) (base depth k slot : ℕ) (sl sl' : Slots) (r : Result ⊤ QueueFull) (room : base + 8 * depth ≤ length w) (hs : slot < 64) (hk : k < 2 ^ 62) where
  -- by what the branch ensures, a step or the end, and the count of its units
  main_to : (size : ℕ) (b' : MainBranch) (x : MainStep) → main-work.SteppedTo w (main_model size base depth) slot sl x r b' u sl'
      → main-counts.units_in x.branch ≤ suc k → StepIs w u (TStdBranch.Main size) base depth k slot sl sl' (record { full = x.full; branch = main x.branch; events = x.events }) r (Branch.Main (main_model size base depth) b')
  main_to size b' x a n =
      record {
        full = a.full;
        slots = a.slots;
        outside = outside_wider (omega arith) (omega arith) a.outside;
        branch = rw (← a.state) (main_is size b' a.lies (rw a.state n));
      }

  video_to : (rbx mb eb : ℕ) (b' : VideoBranch) (x : VideoStep) → video-work.SteppedTo w (layout_of (video_model rbx mb eb base depth)) slot sl x r b' u sl'
      → video-counts.units_in x.chain.branch ≤ suc k → StepIs w u (TStdBranch.Video rbx mb eb) base depth k slot sl sl' (record { full = x.full; branch = video x.chain; events = x.events }) r (Branch.Video (video_model rbx mb eb base depth) b')
  video_to rbx mb eb b' x a n =
      record {
        full = a.full;
        slots = a.slots;
        outside = outside_wider (omega arith) (omega arith) a.outside;
        branch = rw (← a.state) (video_is rbx mb eb b' a.lies (rw a.state n));
      }

  main_ready : (size : ℕ) (b : MainBranch) → BranchLies w (main_model size base depth) b → main-counts.units_in (main_of w (main_model size base depth) b) ≤ k
      → main-work.ready (length w) (main_model size base depth) b slot ≡ true
  unfolding main_of
  main_ready size b l n = main-laws.lies_ready w (main_model size base depth) b slot (record { lies = l; units = omega arith; slots = hs })

  video_ready : (rbx mb eb : ℕ) (b : VideoBranch) → VideoLies w (layout_of (video_model rbx mb eb base depth)) b → video-counts.units_in (chain_of w (layout_of (video_model rbx mb eb base depth)) b).branch ≤ k
      → video-work.ready (length w) (video_model rbx mb eb base depth) b slot ≡ true
  unfolding chain_of video_of
  video_ready rbx mb eb b l n = video-laws.lies_ready w (video_model rbx mb eb base depth) b slot (record { room = room; lies = l; units = omega arith; slot = hs })

  module _ (b' : Branch) where
    pub branch_steps : (d : Delivered) (t : Float) {m : TStdBranch} {b : Branch} {y : definition.Branch} → BranchIs w base depth k m b y → StepOf w b d t slot sl r b' u sl'
        → StepIs w u m base depth k slot sl sl' (step_branch m depth d false t y) r b'
    unfolding step_branch
    branch_steps d t (main_is size b l n) q =
        let c = main-counts.step_counts (main_model size base depth).buffer_size depth d false t (main_of w (main_model size base depth) b) in
        rw q.1 (main_to size q.0 _ (q.2.steps (main_ready size b l n)) (omega arith))
    branch_steps d t (video_is rbx mb eb b l n) q =
        let p = video_model rbx mb eb base depth in
        let c = video-counts.step_counts (rates_of (layout_of p)) depth d false t (chain_of w (layout_of p) b) in
        rw q.1 (video_to rbx mb eb q.0 _ (q.2.steps (video_ready rbx mb eb b l n)) (omega arith))

    pub branch_ends : {m : TStdBranch} {b : Branch} {y : definition.Branch} → BranchIs w base depth k m b y → FinishOf w b slot sl r b' u sl' → StepIs w u m base depth k slot sl sl' (step_branch m depth nothing true 0f y) r b'
    unfolding step_branch main_step video_step
    branch_ends (main_is size b l n) q =
        let c = main-counts.step_counts (main_model size base depth).buffer_size depth nothing true 0f (main_of w (main_model size base depth) b) in
        rw q.1 (main_to size q.0 _ (q.2.ends (main_ready size b l n)) (omega arith))
    branch_ends (video_is rbx mb eb b l n) q =
        let p = video_model rbx mb eb base depth in
        let c = video-counts.step_counts (rates_of (layout_of p)) depth nothing true 0f (chain_of w (layout_of p) b) in
        rw q.1 (video_to rbx mb eb q.0 _ (q.2.ends (video_ready rbx mb eb b l n)) (omega arith))

-- ---- a change of the work elsewhere, and a larger count

module _ {lo hi : ℕ} {w u : List Float} (o : SameOutside lo hi w u) where
  main_kept : (p : MainModel) (b : MainBranch) → BranchLies w p b → (p.base + 8 * p.depth ≤ lo) ⊎ (hi ≤ p.base) → main_of u p b ≡ main_of w p b
  unfolding main_of unit_at
  main_kept p b l h =
      rw (
        kept 3 (λ z i. run_of (floats_at 3 z i)) (floats_local 3 run_of) (runs_place p) b.inflow.runs l.runs o (⊎_elim (λ x. inl (omega arith)) (λ x. inr (omega arith)) h),
        kept 3 (λ z i. unit_of (floats_at 3 z i)) (floats_local 3 unit_of) (units_place p) b.units.pending l.pending o (⊎_elim (λ x. inl (omega arith)) (λ x. inr (omega arith)) h),
      )

  video_kept : (p : VideoModel) (b : VideoBranch) → VideoLies w (layout_of p) b → (p.base + 8 * p.depth ≤ lo) ⊎ (hi ≤ p.base) → chain_of u (layout_of p) b ≡ chain_of w (layout_of p) b
  unfolding chain_of video_of leak_of flow_of unit_at
  video_kept p b l h =
      let m = layout_of p in
      rw (
        kept 3 (λ z i. run_of (floats_at 3 z i)) (floats_local 3 run_of) m.runs b.leak.mb_in.runs l.leak.runs o (⊎_elim (λ x. inl (omega arith)) (λ x. inr (omega arith)) h),
        kept 2 mark_at mark_local m.marks b.leak.flow.marks l.leak.marks o (⊎_elim (λ x. inl (omega arith)) (λ x. inr (omega arith)) h),
        kept 3 (λ z i. unit_of (floats_at 3 z i)) (floats_local 3 unit_of) m.units b.units.pending l.pending o (⊎_elim (λ x. inl (omega arith)) (λ x. inr (omega arith)) h),
      )

  branch_kept : {base depth k : ℕ} {m : TStdBranch} {b : Branch} {y : definition.Branch} → BranchIs w base depth k m b y → (base + 8 * depth ≤ lo) ⊎ (hi ≤ base) → BranchIs u base depth k m b y
  branch_kept {base} {depth} (main_is size b l n) h =
      let e = main_kept (main_model size base depth) b l h in
      rw (← e) (main_is size b (record { runs = lies_kept o l.runs; pending = lies_kept o l.pending }) (rw e n))
  branch_kept {base} {depth} (video_is rbx mb eb b l n) h =
      let e = video_kept (video_model rbx mb eb base depth) b l h in
      rw (← e) (video_is rbx mb eb b (record { leak = record { runs = lies_kept o l.leak.runs; marks = lies_kept o l.leak.marks }; pending = lies_kept o l.pending }) (rw e n))

branch_more : {w : List Float} {base depth k k' : ℕ} {m : TStdBranch} {b : Branch} {y : definition.Branch} → k ≤ k' → BranchIs w base depth k m b y → BranchIs w base depth k' m b y
branch_more h (main_is size b l n) = main_is size b l (omega arith)
branch_more h (video_is rbx mb eb b l n) = video_is rbx mb eb b l (omega arith)

module _ {w : List Float} {s : TStdStream} {base depth k : ℕ} {c : Chain} {x : definition.Chain} (a : ChainIs w s base depth k c x) where
  pub chain_kept : {lo hi : ℕ} {u : List Float} → SameOutside lo hi w u → (base + 8 * depth ≤ lo) ⊎ (hi ≤ base) → ChainIs u s base depth k c x
  chain_kept o h = record { tb = a.tb; branch = branch_kept o a.branch h; room = rw o.size a.room }

  pub chain_more : {k' : ℕ} → k ≤ k' → ChainIs w s base depth k' c x
  chain_more h = record { tb = a.tb; branch = branch_more h a.branch; room = a.room }

-- ---- the chain's figures

stats_by : (s : TStdStream) (t : FluidFifo) {w : List Float} {base depth k : ℕ} {m : TStdBranch} {b : Branch} {y : definition.Branch} → BranchIs w base depth k m b y
    → row_by b s.pid t ≡ stats_of s (record { tb = t; branch = y })
unfolding row_by stats_of chain_of
stats_by s t {w} {base} {depth} (main_is size b l n) =
    let f = main-laws.figures_of_lem w (main_model size base depth) b in
    rw (f.0, f.1.0, f.1.1) refl
stats_by s t {w} {base} {depth} (video_is rbx mb eb b l n) =
    let f = video-laws.figures_of_lem w (layout_of (video_model rbx mb eb base depth)) b in
    rw (f.0.0, f.0.1, f.1.0, f.1.1) refl

pub row_is : {w : List Float} {s : TStdStream} {base depth k : ℕ} {c : Chain} {x : definition.Chain} → ChainIs w s base depth k c x → stream_row s.pid c ≡ stats_of s x
row_is {s = s} {c = c} a = stats_by s c.tb a.branch ∙ rw a.tb refl
