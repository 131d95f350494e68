-- The video branch with its open unit within bounds: a unit is closed and another opened, runs come, and so one packet's step and the end.
-- Assumes nothing.
use Prim.Native.Nat.{ℕ, suc, zero-le, ◌+◌, ◌≤◌}
use native.Mathlib.Nat.{le_trans, le_refl, add-le-add, le-add_right}
use native.Mathlib.Omega.{arith}
use mathlib.Core.Path.{◌≡◌, refl, ◌∙◌, subst, sym}
use mathlib.Core.Bool.{Bool, true, false, cond, true≢false, ◌&&◌, ◌||◌}
use mathlib.Core.List.{[]}
use lib.Dec.{T, eqb}
use lib.ListN.{length}
use lib.Ieee.{Float, binary64, fits, le, of_bits}
use Rattle.std.specs.Prelude.{Option}
use Rattle.ieee.specs.Binary64.{0f, ◌⊕◌}
use Rattle.ieee.specs.Whole.{Is}
use Rattle.branch.specs.declared.AccessUnit.{AccessUnit}
use Rattle.branch.specs.declared.Delivered.{Delivered}
use Rattle.branch.specs.declared.Run.{Run}
use Rattle.branch.specs.CumulativeIn.{run_refused}
use Rattle.branch.specs.Units.{Waiting, grown, stamp_of}
use Rattle.branch.specs.VideoBranch.{Video, VideoRates, advance, finish_video, push_video, pushed_leak}
use Rattle.branch.specs.VideoStep.{VideoChain, VideoFed, VideoStep, fed, refused, and_then, waiting, with_waiting, close_au, open_unit, add_run, deliver, packet_step, end_step, video_step}
use Rattle.bounds.specs.Events.{EventsIn, FewEvents, UpTo, latest_time, no_events}
use Rattle.bounds.specs.Figures.{VideoFigures}
use Rattle.bounds.specs.Runs.{RunIs, byte_limit}
use Rattle.bounds.specs.Video.{RatesIn, VideoBounded, turn_limit}
use Rattle.bounds.proofs.Count.{advance_few, finish_video_few}
use Rattle.bounds.proofs.Figures.{video_figures}
use Rattle.bounds.proofs.Video.{push_video_lem, pend_video, advance_video, finish_video_lem}
use Rattle.bounds.proofs.Windows.{run_some}
use Rattle.model_bounds.specs.Chain.{OpenIn, VideoHolds}
use Rattle.model_bounds.proofs.Open.{RunIn, no_run, a_run, StampIn, DeliveredIn, open_more, open_grows, closed_few, no_events_few, zero_is}
use Rattle.model_bounds.proofs.Steps.{TakesUnits, UnitsIn, units_closed, units_opened, Kept, kept_more, delivered}

-- a chain within bounds that has removed u units
abbrev pub VideoKept : ℕ → ℕ → ℕ → ℕ → VideoChain → Type 0
VideoKept u N k a = Kept (λ (c : VideoChain). c.branch.units) (λ N k. VideoHolds N k a) u N k

pub video_more : {N k a : ℕ} {c : VideoChain} (N' k' a' : ℕ) → N ≤ N' → k ≤ k' → a ≤ a' → VideoHolds N k a c → VideoHolds N' k' a' c
video_more N' k' a' h g f m =
    record {
      bytes = m.bytes;
      closed_bytes = m.closed_bytes;
      closed_units = m.closed_units;
      advances = m.advances;
      few = le_trans m.few h;
      few_advances = le_trans m.few_advances f;
      bounded = m.bounded;
      open_unit = open_more m.bytes k' (le_refl m.bytes) g m.open_unit;
    }

chain_more : (a N k N' k' : ℕ) (c : VideoChain) → N ≤ N' → k ≤ k' → VideoHolds N k a c → VideoHolds N' k' a c
chain_more a N k N' k' c h g m = video_more N' k' a h g (le_refl a) m

-- ---- the open unit is closed, and another opened
takes : {n : ℕ} (c : VideoChain) (b : ℕ) → TakesUnits n (λ q p x. VideoBounded n q p b (with_waiting c x).branch)
takes c b =
    record {
      any_open = λ x o m. m;
      pended = λ x w j o i few m. pend_video (with_waiting c x).branch w m i (le_trans few m.few);
    }

module _ {u N k a : ℕ} (c : VideoChain) (m : VideoKept u N k a c) where
  -- its units
  units_in : UnitsIn m.holds.bytes (λ q p x. VideoBounded m.holds.bytes q p m.holds.advances (with_waiting c x).branch) u k (waiting c)
  units_in =
      record {
        closed_bytes = m.holds.closed_bytes;
        closed_units = m.holds.closed_units;
        bounded = m.holds.bounded;
        open_unit = m.holds.open_unit;
        same = m.same;
      }

  -- the chain with other units
  with_units : {h : ℕ} {x : Waiting} → UnitsIn m.holds.bytes (λ q p x. VideoBounded m.holds.bytes q p m.holds.advances (with_waiting c x).branch) u h x
      → VideoKept u N h a (with_waiting c x)
  with_units w =
      record {
        holds = record {
          bytes = m.holds.bytes;
          closed_bytes = w.closed_bytes;
          closed_units = w.closed_units;
          advances = m.holds.advances;
          few = m.holds.few;
          few_advances = m.holds.few_advances;
          bounded = w.bounded;
          open_unit = w.open_unit;
        };
        same = w.same;
      }

pub video_closed : {u N k a : ℕ} (depth : ℕ) (c : VideoChain) → VideoKept u N k a c → VideoKept u N k a (close_au depth c).chain
unfolding close_au
video_closed depth c m = with_units c m (units_closed (takes c m.holds.advances) depth (waiting c) (units_in c m))

video_opened : {u N k a : ℕ} (depth : ℕ) (o : Option AccessUnit) (c : VideoChain) → StampIn o → VideoKept u N k a c → VideoKept u N (suc k) a (open_unit depth o c).chain
unfolding open_unit
video_opened depth o c s m = with_units c m (units_opened (takes c m.holds.advances) depth o (waiting c) s (units_in c m))

-- ---- a run comes
push_units : (v : Video) (r : Run) (header : Bool) → (push_video v r header).units ≡ v.units
unfolding push_video
push_units v r header = go (le r.bytes 0f)
  where
    go : (t : Bool) → (cond t v (record { leak = pushed_leak v.leak r (v.queued ⊕ r.bytes) header; queued = v.queued ⊕ r.bytes; eb_required = v.eb_required; pending = v.pending; max_delay = v.max_delay; units = v.units })).units ≡ v.units
    go true = refl
    go false = refl

-- what a run of j bytes adds to the open unit
added : (header : Bool) (r : Run) (j : ℕ) {n k q p : ℕ} {o : Option AccessUnit} → Is r.bytes j → n + j ≤ byte_limit → OpenIn n k q p o → OpenIn (n + j) k q p (grown (cond header 0f r.bytes) o)
added true r j i few o = open_grows 0f 0 j zero_is zero-le few o
added false r j i few o = open_grows r.bytes j j i (le_refl j) few o

module _ {u N k a j : ℕ} (header : Bool) (r : Run) (i : RunIs r j) (few : N + j ≤ byte_limit) (c : VideoChain) (m : VideoKept u N k a c) where
  enough : m.holds.bytes + j ≤ byte_limit
  enough = both m.holds.bytes N j byte_limit m.holds.few few
    where
      both : (n N j l : ℕ) → n ≤ N → N + j ≤ l → n + j ≤ l
      both n N j l h g = omega arith

  run_kept : (t : Bool)
      → VideoKept u (N + j) k a (cond t (refused c) (fed (record { branch = push_video c.branch r header; open_au = grown (cond header 0f r.bytes) c.open_au }))).chain
  run_kept true = kept_more (chain_more a) (N + j) k (le-add_right N j) (le_refl k) m
  run_kept false =
      record {
        holds = record {
          bytes = m.holds.bytes + j;
          closed_bytes = m.holds.closed_bytes;
          closed_units = m.holds.closed_units;
          advances = m.holds.advances;
          few = add-le-add m.holds.few (le_refl j);
          few_advances = m.holds.few_advances;
          bounded = push_video_lem c.branch r header m.holds.bounded i enough;
          open_unit = added header r j i.bytes enough m.holds.open_unit;
        };
        same = push_units c.branch r header ∙ m.same;
      }

video_run : {u N k a j : ℕ} (depth : ℕ) (header : Bool) (r : Run) (c : VideoChain) → RunIn r j → N + j ≤ byte_limit → VideoKept u N k a c → VideoKept u (N + j) k a (add_run depth header r c).chain
unfolding add_run of_bits le
video_run {u} {N} {k} {a} depth header r c (no_run e) few m = rw e (kept_more (chain_more a) (N + 0) k (le-add_right N 0) (le_refl k) m)
video_run depth header r c (a_run i) few m =
    simp (run_some i).0 (run_kept header r i few c m (run_refused depth c.branch.leak.mb_in r || (header && eqb (length c.branch.leak.flow.marks) depth)))

-- ---- what a packet delivers
pub video_delivered : {u N k a i j l : ℕ} (depth : ℕ) (d : Delivered) (c : VideoChain) → DeliveredIn i j l d → N + i + j + l ≤ byte_limit → VideoKept u N k a c
    → VideoKept u (N + i + j + l) (suc k) a (deliver depth d c).chain
unfolding deliver and_then
video_delivered {a = a} depth d c x few m =
    delivered (chain_more a) (λ (f : VideoFed). f.full) (λ (f : VideoFed). f.chain) _ _ _ (open_unit depth (stamp_of d) c) (add_run depth true d.head) (add_run depth true d.rest) (add_run depth false d.body) few
    (video_opened depth (stamp_of d) c x.stamp m) (λ y less o. video_run depth true d.head y x.head less o)
    (λ y less o. video_run depth true d.rest y x.rest less o) (λ y less o. video_run depth false d.body y x.body less o)

-- ---- a packet
-- the counts of a chain of k packets leave room for one more call
pub room : {N k a : ℕ} {c : VideoChain} (m : VideoHolds N k a c) → k + a + 1 ≤ turn_limit → m.advances + m.closed_units + 1 ≤ turn_limit
room {N} {k} {a} m h = less m.advances m.closed_units k a turn_limit m.few_advances (closed_few m.open_unit) h
  where
    less : (b p k a l : ℕ) → b ≤ a → p ≤ k → k + a + 1 ≤ l → b + p + 1 ≤ l
    less b p k a l h g f = omega arith

pub record VideoStepHolds (u N k a : ℕ) (s : VideoStep) : Type 0 where
  pub holds : VideoHolds N k a s.chain
  pub events : EventsIn s.events
  pub few : FewEvents 1 u s.events s.chain.branch.units

pub video_packet : {N k a i j l : ℕ} (r : VideoRates) (depth : ℕ) (d : Delivered) (t : Float) (c : VideoChain) → RatesIn r → UpTo latest_time t → T (fits binary64 t) → k + a + 1 ≤ turn_limit
    → DeliveredIn i j l d → N + i + j + l ≤ byte_limit → VideoHolds N k a c → VideoStepHolds c.branch.units (N + i + j + l) (suc k) (a + 1) (video_step r depth d false t c)
unfolding video_step packet_step
video_packet {N} {k} {a} r depth d t c g up ft calls x few m =
    let v = advance_video r t c.branch g up ft (room m calls) m.bounded in
    let y : VideoKept (advance r t c.branch).branch.units N k (a + 1) (record { branch = (advance r t c.branch).branch; open_au = c.open_au }) =
    record {
      holds = record {
        bytes = m.bytes;
        closed_bytes = m.closed_bytes;
        closed_units = m.closed_units;
        advances = m.advances + 1;
        few = m.few;
        few_advances = add-le-add m.few_advances (le_refl 1);
        bounded = v.branch;
        open_unit = m.open_unit;
      };
      same = refl;
    } in
    let z = video_delivered depth d (record { branch = (advance r t c.branch).branch; open_au = c.open_au }) x few y in
    record {
      holds = z.holds;
      events = v.events;
      few = subst (FewEvents 1 c.branch.units (advance r t c.branch).events) (sym z.same) (advance_few r t c.branch);
    }

-- ---- the end
pub record VideoEndHolds (u k : ℕ) (s : VideoStep) : Type 0 where
  pub figures : s.full ≡ false → VideoFigures k s.chain.branch
  pub events : EventsIn s.events
  pub few : FewEvents 2 u s.events s.chain.branch.units

figures_more : {p k : ℕ} {v : Video} → p ≤ k → VideoFigures p v → VideoFigures k v
figures_more h f = record { mb_peak = f.mb_peak; eb_peak = f.eb_peak; max_delay = f.max_delay; units = le_trans f.units h }

end_by : {u N k a : ℕ} (r : VideoRates) (f : VideoFed) → RatesIn r → k + a + 1 ≤ turn_limit → VideoKept u N k a f.chain → (z : Bool) → f.full ≡ z → VideoEndHolds u k (end_step r f)
unfolding end_step
end_by {u} r f g calls m true z =
    simp z
    (record {
      figures = λ e. absurd (true≢false e);
      events = no_events;
      few = subst (FewEvents 2 u []) (sym m.same) (no_events_few 2 u);
    })
end_by r f g calls m false z =
    let v = finish_video_lem r f.chain.branch g (room m.holds calls) m.holds.bounded in
    simp z
    (record {
      figures = λ e. figures_more (closed_few m.holds.open_unit) (video_figures v.branch);
      events = v.events;
      few = subst (λ (w : ℕ). FewEvents 2 w (finish_video r f.chain.branch).events (finish_video r f.chain.branch).branch.units) m.same (finish_video_few r f.chain.branch);
    })

pub video_end : {N k a : ℕ} (r : VideoRates) (depth : ℕ) (d : Delivered) (t : Float) (c : VideoChain) → RatesIn r → k + a + 1 ≤ turn_limit → VideoHolds N k a c
    → VideoEndHolds c.branch.units k (video_step r depth d true t c)
unfolding video_step
video_end r depth d t c g calls m =
    end_by r (close_au depth c) g calls (video_closed depth c (record { holds = m; same = refl })) (close_au depth c).full refl
