-- Every loop of `leak_until` in a video chain's step ends by its own test, so that the budget of its definition never shows. Assumes nothing.
use Prim.Native.Nat.{ℕ, suc, ◌+◌, ◌*◌, ◌^◌, ◌≤◌}
use native.Mathlib.Omega.{arith}
use mathlib.Core.Path.{◌≡◌, refl, subst}
use mathlib.Core.Bool.{Bool, true, false, true≢false}
use mathlib.Core.List.{List, [], ◌∷◌}
use mathlib.Core.Logic.{◌⊎◌, inl, inr}
use lib.Dec.{T, lit≤}
use lib.ListN.{length}
use lib.Ieee.{Float, binary64, fits, eq, le}
use Rattle.ieee.specs.Binary64.{ -∞}
use Rattle.branch.specs.declared.AccessUnit.{AccessUnit}
use Rattle.branch.specs.VideoBranch.{VideoRates, Video, on, turns, budget, remove_unit, drain_time}
use Rattle.branch.specs.VideoStep.{close_au}
use Rattle.bounds.specs.Events.{UpTo, latest_time}
use Rattle.bounds.specs.Units.{Units, a_unit}
use Rattle.bounds.specs.Video.{RatesIn, Running, Unstarted, VideoIn, turn_limit, loop_limit}
use Rattle.bounds.proofs.Advance.{calls_few, decode_in, after_removal}
use Rattle.bounds.proofs.Leak.{leak_ends}
use Rattle.bounds.proofs.Loop.{turns_same}
use Rattle.bounds.proofs.Running.{Reach}
use Rattle.bounds.proofs.Video.{reach_advance, reach_drain, rates_of_lem, arrival_up_to, wider, drain_in, drain_fits}
use Rattle.profile.specs.declared.model.TStdBranch.{TStdBranch}
use Rattle.profile.specs.declared.config.TStdStream.{TStdStream}
use Rattle.profile.proofs.Within.{StreamWithin, BranchWithin}
use Rattle.model.specs.Chain.{Branch, main, video, Chain}
use Rattle.model_bounds.specs.Chain.{BranchHolds, ChainHolds}
use Rattle.model_bounds.specs.Loops.{LoopEnds, LoopsEnd, frontier_last, not_due, due, leaked_to, PacketLoopsEnd, EndLoopsEnd}
use Rattle.model_bounds.specs.Times.{PacketTime}
use Rattle.model_bounds.proofs.Times.{time_in}
use Rattle.model_bounds.proofs.VideoStep.{room, video_closed}

-- ---- the calls of `advance`
module _ {L n q p a A : ℕ} (w : Reach n A L) (latest : latest_time ≤ A) (calls : a + p + 1 ≤ turn_limit) (r : VideoRates) (g : RatesIn r) where
  call_ends : (t : Float) → UpTo A t → T (fits binary64 t) → (v : Video) → VideoIn L n q p a v → LoopEnds r t v.leak
  unfolding eq
  call_ends t c f v b = record { ends = ended budget (lit≤ tt) b.leak; same = λ e k h. turns_same r t budget k (on v.leak) h (ended budget (lit≤ tt) b.leak e) }
    where
      ended : (k : ℕ) → loop_limit ≤ k → Unstarted n v.leak ⊎ Running n L (a + v.units) v.leak → eq v.leak.proc_time -∞ ≡ false → (turns k r t (on v.leak)).more ≡ false
      ended k h (inl x) e = absurd (true≢false (rw x.time at e))
      ended k h (inr x) e = leak_ends w r t g c f (calls_few v b calls) k h v.leak x

  unit_ends : (t : Float) → UpTo A t → T (fits binary64 t) → (u : AccessUnit) (us : List AccessUnit) (v : Video) (b : VideoIn L n q p a v)
      → ((x : Video) → x.pending ≡ us → VideoIn L n q p a x → LoopsEnd r t us x) → Units q (u ∷ us) b.removed → v.units + length (u ∷ us) ≤ p
      → (z : Bool) → le u.decode_time t ≡ z → LoopsEnd r t (u ∷ us) v
  unfolding remove_unit
  unit_ends t c f u us v b rest (a_unit k i l) many true z =
      due z (call_ends u.decode_time (decode_in w latest calls r g u us v b k i l many) i.decode_fits v b)
      (rest (remove_unit (leaked_to r u.decode_time v) u us) refl (after_removal w latest calls r g u us v b k i l many))
  unit_ends t c f u us v b rest (a_unit k i l) many false z = not_due z (call_ends t c f v b)

  calls_end : (t : Float) → UpTo A t → T (fits binary64 t) → (us : List AccessUnit) (v : Video) → v.pending ≡ us → VideoIn L n q p a v → LoopsEnd r t us v
  calls_end t c f [] v e b = frontier_last (call_ends t c f v b)
  calls_end t c f (u ∷ us) v e b =
      unit_ends t c f u us v b (λ (x : Video). calls_end t c f us x) (subst (λ (y : List AccessUnit). Units q y b.removed) e b.pending)
      (subst (λ (y : List AccessUnit). v.units + length y ≤ p) e b.counted) (le u.decode_time t) refl

-- ---- of a chain
packet_by : (b : TStdBranch) (k : ℕ) (t : Float) (y : Branch) → BranchWithin b → 188 * suc k ≤ 2 ^ 24 → PacketTime t → BranchHolds b k y → PacketLoopsEnd b t y
packet_by (TStdBranch.Main size) k t y w short p h = tt
packet_by (TStdBranch.Video rbx mb eb) k t (main y) w short p h = absurd h
packet_by (TStdBranch.Video rbx mb eb) k t (video y) w short p h =
    let g = rates_of_lem rbx mb eb w.0.least w.0.most w.1.0.least w.1.0.most w.1.1.least w.1.1.most in
    calls_end (reach_advance h.bounded.few) (lit≤ tt) (room h (omega arith)) _ g t (arrival_up_to (time_in p)) p.fit y.branch.pending y.branch refl h.bounded

pub packet_loops_end : (m : TStdStream) (k : ℕ) (t : Float) (c : Chain) → StreamWithin m → 188 * suc k ≤ 2 ^ 24 → PacketTime t → ChainHolds m k c
    → PacketLoopsEnd m.model.branch t c.branch
packet_loops_end m k t c w short p x = packet_by m.model.branch k t c.branch w.branch short p x.branch

end_by : (b : TStdBranch) (k depth : ℕ) (y : Branch) → BranchWithin b → 188 * k ≤ 2 ^ 24 → BranchHolds b k y → EndLoopsEnd b depth y
end_by (TStdBranch.Main size) k depth y w short h = tt
end_by (TStdBranch.Video rbx mb eb) k depth (main y) w short h = absurd h
end_by (TStdBranch.Video rbx mb eb) k depth (video y) w short h =
    let g = rates_of_lem rbx mb eb w.0.least w.0.most w.1.0.least w.1.0.most w.1.1.least w.1.1.most in
    let z = (video_closed depth y (record { holds = h; same = refl })).holds in
    let v = (close_au depth y).chain.branch in
    calls_end (reach_drain z.bounded.few) (lit≤ tt) (room z (omega arith)) _ g (drain_time _ v) (drain_in _ v g z.bounded) (drain_fits _ v) v.pending v refl (wider z.bounded)

pub end_loops_end : (m : TStdStream) (k depth : ℕ) (c : Chain) → StreamWithin m → 188 * k ≤ 2 ^ 24 → ChainHolds m k c → EndLoopsEnd m.model.branch depth c.branch
end_loops_end m k depth c w short x = end_by m.model.branch k depth c.branch w.branch short x.branch
