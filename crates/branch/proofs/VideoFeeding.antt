-- What a packet delivers to a video branch, in terms of the lists in the three rings.
use Prim.Native.Nat.{ℕ, ◌+◌, ◌*◌, ◌≤◌, ◌<◌}
use mathlib.Core.Path.{◌≡◌, refl, sym, ap, subst, ◌∙◌}
use mathlib.Core.Bool.{Bool, true, false, cond, ◌||◌, true≢false}
use mathlib.Core.List.{List, [], ◌∷◌, ◌++◌}
use mathlib.Core.Logic.{◌⊎◌, ◌≢◌, inl, inr}
use native.Mathlib.Omega.{arith}
use lib.ListN.{length}
use lib.Dec.{eqb}
use borrow.Author.Tests.{eq-eqb, ne_eqb}
use lib.Ieee.{Float, le}
use Rattle.ieee.specs.Binary64.{◌⊕◌, 0f}
use Rattle.branch.specs.declared.AccessUnit.{AccessUnit}
use Rattle.branch.specs.declared.Run.{Run}
use Rattle.branch.specs.declared.inflow.CumulativeIn.{CumulativeIn}
use Rattle.std.specs.Prelude.{Result, Ok, Err, is_err, is_ok, IsErr, ⊤, Option}
use Rattle.branch.specs.declared.queue.Ring.{Ring}
use Rattle.branch.specs.declared.leak.VideoLayout.{VideoLayout}
use Rattle.branch.specs.declared.video_branch.VideoBranch.{VideoBranch}
use Rattle.branch.specs.declared.leak.Leak.{Leak as LeakState}
use Rattle.branch.specs.declared.QueueFull.{QueueFull}
use Rattle.branch.specs.declared.units.Units.{Units}
use Rattle.branch.specs.Queue.{SameOutside, floats_at, entries, PushedTo}
use Rattle.branch.specs.CumulativeIn.{Inflow, run_refused}
use Rattle.branch.specs.InflowInWork.{run_of, inflow_of, RunPushedTo}
use Rattle.branch.specs.Units.{Queued, close_units, open_units}
use Rattle.branch.specs.UnitsInWork.{unit_at, waiting_of, grown_units, UnitsTo}
use Rattle.branch.specs.VideoBranch.{pushed_leak, push_video}
use Rattle.branch.specs.VideoStep.{VideoChain, VideoFed, refused, fed, and_then, waiting, with_waiting, queued_to, close_au, open_unit, add_run}
use Rattle.branch.specs.VideoInWork.{mark_of, mark_at, flow_of, leak_of, LeakLies, video_of, VideoLies, chain_of, Apart, VideoFedTo, queued_run, QueuedTo, marked_leak, marked_run, MarkedTo}
use Rattle.branch.proofs.Rings.{kept, count_entries, floats_local, lies_kept, outside_refl, outside_then, outside_wider, push_adds, push_lies, push_outside, push_refused}
use Rattle.branch.proofs.HeaderMarks.{mark_local}
use Rattle.branch.proofs.UnitQueues.{units_kept}

-- ---- a change of the work elsewhere

leak_kept : {lo hi : ℕ} (w v : List Float) (m : VideoLayout) (l : LeakState) → LeakLies w m l → SameOutside lo hi w v → (m.runs.base + 3 * m.runs.depth ≤ lo) ⊎ (hi ≤ m.runs.base)
    → (m.marks.base + 2 * m.marks.depth ≤ lo) ⊎ (hi ≤ m.marks.base) → leak_of v m l ≡ leak_of w m l
unfolding leak_of flow_of
leak_kept w v m l a o h k =
    rw (kept 3 (λ u i. run_of (floats_at 3 u i)) (floats_local 3 run_of) m.runs l.mb_in.runs a.runs o h, kept 2 mark_at mark_local m.marks l.flow.marks a.marks o k)

-- ---- a branch that is left as it is

module _ (w : List Float) (m : VideoLayout) (b : VideoBranch) (x : VideoFed) (l : VideoLies w m b) where
  pub fed_same : x ≡ fed (chain_of w m b) → VideoFedTo w m b x (Ok tt) b w
  fed_same e = rw e (record { lies = l; outside = outside_refl _ _ w; full = refl; state = refl; units = refl })

  pub fed_refused : (f : QueueFull) → x ≡ refused (chain_of w m b) → VideoFedTo w m b x (Err f) b w
  fed_refused f e = rw e (record { lies = l; outside = outside_refl _ _ w; full = refl; state = refl; units = refl })

-- ---- the units of a branch

abbrev pub with_units : VideoBranch → Units → VideoBranch
with_units b u = record { leak = b.leak; units = u; queued = b.queued; eb_required = b.eb_required }

module _ (w v : List Float) (m : VideoLayout) (b : VideoBranch) (l : VideoLies w m b) (a : Apart m) (x : Queued) (r : Result ⊤ QueueFull) (u : Units)
    (h : UnitsTo w m.units b.units x r u v) where
  abbrev C : VideoChain
  C = chain_of w m b

  units_state : chain_of v m (with_units b u) ≡ with_waiting C x.units
  unfolding chain_of video_of waiting_of
  units_state = rw (leak_kept w v m b.leak l.leak h.outside (inl a.units) (inr a.marks)) (ap (with_waiting C) h.state)

  units_fed : VideoFedTo w m b (queued_to C x) r (with_units b u) v
  units_fed =
      let i = a.units in
      let j = a.marks in
      let o = h.outside in
      record {
        lies = record { leak = record { runs = lies_kept o l.leak.runs; marks = lies_kept o l.leak.marks }; pending = h.lies };
        outside = outside_wider (omega arith) (omega arith) o;
        full = h.full;
        state = units_state;
        units = h.count;
      }

-- the branch's units are those of its chain, and its rings have places for the same count of entries
module _ (w v : List Float) (m : VideoLayout) (b : VideoBranch) (l : VideoLies w m b) (a : Apart m) (r : Result ⊤ QueueFull) (u : Units) where
  pub units_closed : UnitsTo w m.units b.units (close_units m.units.depth (waiting_of w m.units b.units)) r u v
      → VideoFedTo w m b (close_au m.runs.depth (chain_of w m b)) r (with_units b u) v
  unfolding close_au chain_of video_of waiting_of
  units_closed h = subst (λ (z : ℕ). VideoFedTo w m b (queued_to (chain_of w m b) (close_units z (waiting (chain_of w m b)))) r (with_units b u) v) a.units_depth (units_fed w v m b l a _ r u h)

  pub units_opened : (o : Option AccessUnit) → UnitsTo w m.units b.units (open_units m.units.depth o (waiting_of w m.units b.units)) r u v
      → VideoFedTo w m b (open_unit m.runs.depth o (chain_of w m b)) r (with_units b u) v
  unfolding open_unit chain_of video_of waiting_of
  units_opened o h = subst (λ (z : ℕ). VideoFedTo w m b (queued_to (chain_of w m b) (open_units z o (waiting (chain_of w m b)))) r (with_units b u) v) a.units_depth (units_fed w v m b l a _ r u h)

-- ---- one after the other

module _ (w v : List Float) (m : VideoLayout) (b b' : VideoBranch) (x : VideoFed) (g : VideoChain → VideoFed) (r : Result ⊤ QueueFull) (h : VideoFedTo w m b x r b' v) where
  -- r' is the error that is handed on
  pub fed_stops : (r' : Result ⊤ QueueFull) → is_err r ≡ true → is_err r' ≡ true → VideoFedTo w m b (and_then x g) r' b' v
  unfolding and_then
  fed_stops r' f f' =
      let e : and_then x g ≡ x = rw (sym h.full ∙ f) in
      rw e (record { lies = h.lies; outside = h.outside; full = f' ∙ (sym f ∙ h.full); state = h.state; units = h.units })

  pub fed_then : (u : List Float) (r' : Result ⊤ QueueFull) (c : VideoBranch) → is_err r ≡ false → VideoFedTo v m b' (g (chain_of v m b')) r' c u → VideoFedTo w m b (and_then x g) r' c u
  unfolding and_then
  fed_then u r' c f k =
      let e : and_then x g ≡ g (chain_of v m b') = rw (sym h.full ∙ f) (ap g (sym h.state)) in
      rw e (record { lies = k.lies; outside = outside_then h.outside k.outside; full = k.full; state = k.state; units = k.units ∙ h.units })

-- ---- a run

module _ (w v : List Float) (m : VideoLayout) (b : VideoBranch) (run : Run) (metric : Float) (l : VideoLies w m b) (a : Apart m) (r : Result ⊤ QueueFull) (i : CumulativeIn)
    (p : RunPushedTo w m.runs b.leak.mb_in run r i v) where
  abbrev with_runs : Units → Float → VideoBranch
  with_runs u queued =
      record {
        leak = record {
          mb_in = i;
          flow = b.leak.flow;
          busy_since = b.leak.busy_since;
          longest_busy = b.leak.longest_busy;
          mb_peak = b.leak.mb_peak;
          proc_time = b.leak.proc_time;
        };
        units = u;
        queued = queued;
        eb_required = b.eb_required;
      }

  marks_same : entries 2 mark_at v m.marks b.leak.flow.marks ≡ entries 2 mark_at w m.marks b.leak.flow.marks
  marks_same = let u = a.units in let k = a.marks in kept 2 mark_at mark_local m.marks b.leak.flow.marks l.leak.marks p.outside (inr (omega arith))

  units_same : entries 3 unit_at v m.units b.units.pending ≡ entries 3 unit_at w m.units b.units.pending
  units_same = units_kept v m.units b.units.pending l.pending p.outside (inr a.units)

  pub run_queued : r ≡ Ok tt → QueuedTo w m b run metric (Ok tt) (with_runs (grown_units b.units metric) (b.queued ⊕ run.bytes)) v
  unfolding chain_of video_of leak_of flow_of queued_run pushed_leak
  run_queued f =
      let t : is_err r ≡ false = ap is_err f in
      record {
        lies = record { leak = record { runs = p.lies; marks = lies_kept p.outside l.leak.marks }; pending = lies_kept p.outside l.pending };
        outside = p.outside;
        units = refl;
        marks = refl;
        full = sym t ∙ p.full;
        state = rw (p.taken t, marks_same, units_same);
      }

  pub run_refused_lem : (q : QueueFull) (r' : Result ⊤ QueueFull) → r ≡ Err q → IsErr r' → QueuedTo w m b run metric r' (with_runs b.units b.queued) v
  run_refused_lem q r' f g =
      let t : is_err r ≡ true = ap is_err f in
      let k = p.refused t in
      rw (k.0, k.1) (record { lies = l; outside = outside_refl _ _ w; units = refl; marks = refl; full = g ∙ (sym t ∙ p.full); state = rw g refl })

-- ---- a mark

ok_of : (r : Result ⊤ QueueFull) → is_err r ≡ false → is_ok r ≡ true
ok_of (Ok a) f = refl
ok_of (Err e) f = absurd (true≢false f)

module _ (w v : List Float) (m : VideoLayout) (b : VideoBranch) (bytes : Float) (l : VideoLies w m b) (a : Apart m) (r : Result ⊤ QueueFull) (q : Ring)
    (p : PushedTo 2 w m.marks b.leak.flow.marks (b.queued ∷ (bytes ∷ [])) r q v) where
  room_by : (c : Bool) → is_err r ≡ c → b.leak.flow.marks.count < m.marks.depth → is_err r ≡ false
  room_by true f h = absurd (true≢false (sym (push_refused l.leak.marks p f).1 ∙ ne_eqb b.leak.flow.marks.count m.marks.depth (λ e. omega arith)))
  room_by false f h = f

  mark_finds_room : b.leak.flow.marks.count < m.marks.depth → is_err r ≡ false
  mark_finds_room h = room_by (is_err r) refl h

  pub mark_ok : b.leak.flow.marks.count < m.marks.depth → is_ok r ≡ true
  mark_ok h = ok_of r (mark_finds_room h)

  marks_added : is_err r ≡ false → entries 2 mark_at v m.marks q ≡ entries 2 mark_at w m.marks b.leak.flow.marks ++ (record { threshold = b.queued; bytes = bytes } ∷ [])
  unfolding mark_at
  marks_added f = push_adds l.leak.marks p f mark_of (floats_local 2 mark_of)

  pub run_marked : b.leak.flow.marks.count < m.marks.depth → MarkedTo w m b bytes
      (record {
        leak = record {
          mb_in = b.leak.mb_in;
          flow = record {
            marks = q;
            transferred = b.leak.flow.transferred;
            eb_in = b.leak.flow.eb_in;
            eb_removed = b.leak.flow.eb_removed;
            eb_peak = b.leak.flow.eb_peak;
          };
          busy_since = b.leak.busy_since;
          longest_busy = b.leak.longest_busy;
          mb_peak = b.leak.mb_peak;
          proc_time = b.leak.proc_time;
        };
        units = b.units;
        queued = b.queued;
        eb_required = b.eb_required;
      })
      v
  unfolding chain_of video_of leak_of flow_of marked_run marked_leak
  run_marked h =
      let f = mark_finds_room h in
      let o = push_outside l.leak.marks p in
      let x = a.units in
      let y = a.marks in
      let runs = kept 3 (λ u i. run_of (floats_at 3 u i)) (floats_local 3 run_of) m.runs b.leak.mb_in.runs l.leak.runs o (inl (omega arith)) in
      record {
        lies = record { leak = record { runs = lies_kept o l.leak.runs; marks = push_lies l.leak.marks p }; pending = lies_kept o l.pending };
        outside = o;
        units = refl;
        state = rw (runs, marks_added f, units_kept v m.units b.units.pending l.pending o (inl y));
      }

-- ---- the runs of a packet

or_true : (x : Bool) → x || true ≡ true
or_true true = refl
or_true false = refl

module _ (d : ℕ) (r : Run) (c : VideoChain) where
  pub run_none : (header : Bool) → le r.bytes 0f ≡ true → add_run d header r c ≡ fed c
  unfolding add_run
  run_none header h = simp h

  module _ (h : le r.bytes 0f ≡ false) where
    run_full : (header : Bool) → run_refused d c.branch.leak.mb_in r ≡ true → add_run d header r c ≡ refused c
    unfolding add_run
    run_full header e = simp (h, e)

    mark_full : eqb (length c.branch.leak.flow.marks) d ≡ true → add_run d true r c ≡ refused c
    unfolding add_run
    mark_full e = simp (h, e, or_true)

    content_added : run_refused d c.branch.leak.mb_in r ≡ false → add_run d false r c ≡ fed (queued_run c r r.bytes)
    unfolding add_run queued_run push_video
    content_added e = simp (h, e)

    header_added : run_refused d c.branch.leak.mb_in r ≡ false → eqb (length c.branch.leak.flow.marks) d ≡ false → add_run d true r c ≡ fed (marked_run (queued_run c r 0f) r.bytes)
    unfolding add_run queued_run push_video pushed_leak marked_run marked_leak
    header_added e f = simp (h, e, f)

module _ (w v : List Float) (m : VideoLayout) (b : VideoBranch) (run : Run) (a : Apart m) (h : le run.bytes 0f ≡ false) where
  abbrev c : VideoChain
  c = chain_of w m b

  inflow_is : c.branch.leak.mb_in ≡ inflow_of w m.runs b.leak.mb_in
  unfolding chain_of video_of leak_of
  inflow_is = refl

  marks_count : length c.branch.leak.flow.marks ≡ b.leak.flow.marks.count
  unfolding chain_of video_of leak_of flow_of
  marks_count = count_entries 2 mark_at w m.marks b.leak.flow.marks

  module _ (metric : Float) (r : Result ⊤ QueueFull) (b' : VideoBranch) (q : QueuedTo w m b run metric r b' v) where
    refused_is : (x : Bool) → is_err r ≡ x → run_refused m.runs.depth c.branch.leak.mb_in run ≡ x
    refused_is x f = ap (λ (i : Inflow). run_refused m.runs.depth i run) inflow_is ∙ (sym q.full ∙ f)

    wider : SameOutside m.runs.base (m.marks.base + 2 * m.marks.depth) w v
    wider = let x = a.units in let y = a.marks in outside_wider (omega arith) (omega arith) q.outside

    -- r' is the error that is handed on
    pub fed_full : (header : Bool) (r' : Result ⊤ QueueFull) → is_err r ≡ true → is_err r' ≡ true → VideoFedTo w m b (add_run m.runs.depth header run c) r' b' v
    fed_full header r' f f' =
        rw (run_full m.runs.depth run c h header (refused_is true f))
        (record { lies = q.lies; outside = wider; full = f'; state = q.state ∙ rw f; units = q.units })

    fed_content : is_err r ≡ false → metric ≡ run.bytes → VideoFedTo w m b (add_run m.runs.depth false run c) r b' v
    fed_content f e =
        rw (content_added m.runs.depth run c h (refused_is false f))
        (record { lies = q.lies; outside = wider; full = f; state = q.state ∙ (ap (λ (z : Bool). cond z c (queued_run c run metric)) f ∙ ap (queued_run c run) e); units = q.units })

    content_by_lem : (x : Bool) → is_err r ≡ x → metric ≡ run.bytes → VideoFedTo w m b (add_run m.runs.depth false run c) r b' v
    content_by_lem true f e = fed_full false r f f
    content_by_lem false f e = fed_content f e

    pub content_fed : metric ≡ run.bytes → VideoFedTo w m b (add_run m.runs.depth false run c) r b' v
    content_fed e = content_by_lem (is_err r) refl e

  pub mark_refused : (f : QueueFull) → VideoLies w m b → b.leak.flow.marks.count ≡ m.marks.depth → VideoFedTo w m b (add_run m.runs.depth true run c) (Err f) b w
  mark_refused f l e = fed_refused w m b _ l f (mark_full m.runs.depth run c h (eq-eqb _ _ (marks_count ∙ (e ∙ a.marks_depth))))

  pub header_fed : (u : List Float) (r : Result ⊤ QueueFull) (b' b'' : VideoBranch) → b.leak.flow.marks.count ≢ m.marks.depth → QueuedTo w m b run 0f r b' v → is_err r ≡ false → MarkedTo v m b' run.bytes b'' u
      → VideoFedTo w m b (add_run m.runs.depth true run c) (Ok tt) b'' u
  header_fed u r b' b'' n q f k =
      let x = a.units in
      let y = a.marks in
      let s : chain_of v m b' ≡ queued_run c run 0f = q.state ∙ rw f in
      rw (header_added m.runs.depth run c h (refused_is 0f r b' q false f) (ne_eqb _ _ (λ e. n (sym marks_count ∙ (e ∙ sym a.marks_depth)))))
      (record {
        lies = k.lies;
        outside = outside_then (wider 0f r b' q) (outside_wider (omega arith) (omega arith) k.outside);
        full = refl;
        state = k.state ∙ ap (λ (z : VideoChain). marked_run z run.bytes) s;
        units = ap (λ (z : Units). z.access_units) k.units ∙ q.units;
      })
