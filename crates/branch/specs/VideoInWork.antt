-- The video branch with its queues as rings in the work: its state as lists and floats, that the rings lie in the work, and what the
-- functions over it give.
use Rattle.std.specs.Prelude.{ℕ, ◌+◌, ◌*◌, ◌≤◌, ◌≡◌, Bool, true, false, not, cond, ◌&&◌, Option, Some, None, List, [], ◌∷◌, ◌++◌, get_or, length, ltb, leb, Float, ⊤, Result, Ok, is_err}
use Rattle.std.specs.Float.{nan}
use Rattle.std.specs.Option.{is_some}
use Rattle.std.specs.Float.Ieee.{lt, eq}
use Rattle.ieee.specs.Binary64.{◌⊕◌, ◌⊖◌, 0f, 1f, -∞}
use Rattle.ieee.specs.MaxMin.{max_of}
use Rattle.events.specs.declared.Event.TheVariants.{Overflow}
use Rattle.events.specs.Event.{when}
use Rattle.events.specs.declared.Slots.{Slots}
use Rattle.events.specs.Slots.{noted_all}
use Rattle.branch.specs.declared.Run.{Run}
use Rattle.branch.specs.declared.AccessUnit.{AccessUnit}
use Rattle.branch.specs.declared.Delivered.{Delivered}
use Rattle.branch.specs.declared.HeaderMark.{HeaderMark}
use Rattle.branch.specs.declared.queue.Place.{Place}
use Rattle.branch.specs.declared.queue.Ring.{Ring}
use Rattle.branch.specs.declared.video_branch.VideoModel.{VideoModel}
use Rattle.branch.specs.declared.leak.VideoLayout.{VideoLayout}
use Rattle.branch.specs.declared.leak.Flow.{Flow}
use Rattle.branch.specs.declared.leak.Headers.{Headers}
use Rattle.branch.specs.declared.leak.Leak.{Leak as LeakState}
use Rattle.branch.specs.declared.leak.Looked.{Looked}
use Rattle.branch.specs.declared.leak.Turned.{Turned as TurnState}
use Rattle.branch.specs.declared.video_branch.VideoBranch.{VideoBranch}
use Rattle.branch.specs.declared.QueueFull.{QueueFull}
use Rattle.branch.specs.Queue.{Lies, fits, SameOutside, entries, floats_at, pop_def}
use Rattle.branch.specs.InflowInWork.{inflow_of}
use Rattle.branch.specs.CumulativeIn.{Inflow, settle, arrived_by, run_refused}
use Rattle.branch.specs.Units.{grown}
unfoldable pub use Rattle.branch.specs.UnitsInWork.{unit_at}
use Rattle.branch.specs.UnitsInWork.{no_entries, no_units, removed_units}
use Rattle.branch.specs.VideoStep.{VideoChain, VideoFed, close_au, VideoStep, video_step, end_step}
use Rattle.branch.specs.VideoBranch.{VideoRates, Transfer, header_bytes, marks_left, transfer, Leak, Turned, since_seen, longest_seen, looked, mb_fullness, leak_until, leak_events, Video, Advanced, remove_unit, remove_events, pushed_leak}

-- an entry's floats are the threshold and the bytes
abbrev pub mark_of : List Float → HeaderMark
mark_of e = record { threshold = get_or e 0 nan; bytes = get_or e 1 nan }

abbrev pub floats_of_mark : HeaderMark → List Float
floats_of_mark m = m.threshold ∷ (m.bytes ∷ [])

unfoldable pub mark_at : List Float → ℕ → HeaderMark
mark_at w p = mark_of (floats_at 2 w p)

abbrev pub rates_of : VideoLayout → VideoRates
rates_of m = record { rbx = m.rbx; mb_size = m.mb_size; eb_size = m.eb_size }

unfoldable pub flow_of : List Float → Place → Flow → Transfer
flow_of w p f =
    record {
      marks = entries 2 mark_at w p f.marks;
      transferred = f.transferred;
      eb_in = f.eb_in;
      eb_removed = f.eb_removed;
      eb_peak = f.eb_peak;
    }

unfoldable pub leak_of : List Float → VideoLayout → LeakState → Leak
leak_of w m l =
    record {
      mb_in = inflow_of w m.runs l.mb_in;
      flow = flow_of w m.marks l.flow;
      busy_since = l.busy_since;
      longest_busy = l.longest_busy;
      mb_peak = l.mb_peak;
      proc_time = l.proc_time;
    }

-- the header bytes of a transfer, and the marks behind it
pub record HeadersBy (w : List Float) (p : Place) (q : Ring) (start end : Float) (r : Headers) : Type 0 where
  pub lies : Lies 2 w p r.marks
  pub left : entries 2 mark_at w p r.marks ≡ marks_left (entries 2 mark_at w p q) end
  pub sum : r.bytes ≡ header_bytes (entries 2 mark_at w p q) start end 0f

pub record Transferred (w : List Float) (p : Place) (f : Flow) (bytes : Float) (r : Flow) : Type 0 where
  pub lies : Lies 2 w p r.marks
  pub state : flow_of w p r ≡ transfer (flow_of w p f) bytes

-- the two rings of the leak lie in the work
pub record LeakLies (w : List Float) (m : VideoLayout) (l : LeakState) : Type 0 where
  pub runs : Lies 3 w m.runs l.mb_in.runs
  pub marks : Lies 2 w m.marks l.flow.marks

-- the leak r is s
pub record LeakIs (w : List Float) (m : VideoLayout) (r : LeakState) (s : Leak) : Type 0 where
  pub lies : LeakLies w m r
  pub state : leak_of w m r ≡ s

-- MBn's fullness is seen at the leak's time
unfoldable pub seen_state : LeakState → Float → LeakState
seen_state l fullness =
    record {
      mb_in = l.mb_in;
      flow = l.flow;
      busy_since = since_seen l.busy_since (lt 1f fullness) l.proc_time;
      longest_busy = longest_seen l.longest_busy l.busy_since (lt 1f fullness) l.proc_time;
      mb_peak = max_of l.mb_peak fullness;
      proc_time = l.proc_time;
    }

pub record LooksBy (w : List Float) (m : VideoLayout) (l : LeakState) (r : Looked) : Type 0 where
  pub leak : LeakIs w m r.leak (looked (leak_of w m l))
  pub available : r.available ≡ mb_fullness (leak_of w m l) l.proc_time

-- the runs up to t are settled, and total has arrived by then
pub record SettledAt (i : Inflow) (t total : Float) : Type 0 where
  pub inflow : settle i t ≡ i
  pub arrived : total ≡ arrived_by i t

-- a turn r is x; where it breaks off, the runs are settled at t
pub record TurnIs (w : List Float) (m : VideoLayout) (t : Float) (r : TurnState) (x : Turned) : Type 0 where
  pub more : not (is_some r.total) ≡ x.more
  pub leak : LeakIs w m r.leak x.leak
  pub seen : (total : Float) → r.total ≡ Some total → SettledAt (leak_of w m r.leak).mb_in t total

-- turns up to t: the leak behind them
pub record TurnsEnd (w : List Float) (m : VideoLayout) (t : Float) (r : TurnState) (s : Leak) : Type 0 where
  pub leak : LeakIs w m r.leak s
  pub seen : (total : Float) → r.total ≡ Some total → SettledAt (leak_of w m r.leak).mb_in t total

-- the leak with the runs up to t settled
unfoldable pub settled_leak : Leak → Float → Leak
settled_leak s t =
    record { mb_in = settle s.mb_in t; flow = s.flow; busy_since = s.busy_since; longest_busy = s.longest_busy; mb_peak = s.mb_peak; proc_time = s.proc_time }

pub record ReachedBy (w : List Float) (m : VideoLayout) (t : Float) (l r : LeakState) (total : Float) : Type 0 where
  pub leak : LeakIs w m r (settled_leak (leak_of w m l) t)
  pub arrived : total ≡ arrived_by (leak_of w m l).mb_in t

-- the closing of a leak whose runs are settled, where total has arrived by t
unfoldable pub closed_state : LeakState → Float → Float → LeakState
closed_state l total t =
    record {
      mb_in = l.mb_in;
      flow = l.flow;
      busy_since = l.busy_since;
      longest_busy = cond (eq l.busy_since -∞) l.longest_busy (max_of l.longest_busy (t ⊖ l.busy_since));
      mb_peak = max_of l.mb_peak (total ⊖ l.flow.transferred);
      proc_time = max_of l.proc_time t;
    }

pub record ClosedBy (m : VideoLayout) (l : LeakState) (total t : Float) (k : ℕ) (before after : Slots) (r : LeakState) : Type 0 where
  pub leak : r ≡ closed_state l total t
  pub events : after ≡ noted_all k (when (lt (m.mb_size ⊕ 1f) (total ⊖ l.flow.transferred)) (Overflow (total ⊖ l.flow.transferred))) before

-- the leak up to t, with its events in the slots from k on
pub record LeaksTo (w : List Float) (m : VideoLayout) (t : Float) (k : ℕ) (before after : Slots) (s : Leak) (r : LeakState) : Type 0 where
  pub leak : LeakIs w m r (leak_until (rates_of m) t s)
  pub events : after ≡ noted_all k (leak_events (rates_of m) t s) before

-- ---- the branch

unfoldable pub video_of : List Float → VideoLayout → VideoBranch → Video
video_of w m b =
    record {
      leak = leak_of w m b.leak;
      queued = b.queued;
      eb_required = b.eb_required;
      pending = entries 3 unit_at w m.units b.units.pending;
      max_delay = b.units.max_delay_seconds;
      units = b.units.access_units;
    }

-- the three rings lie in the work
pub record VideoLies (w : List Float) (m : VideoLayout) (b : VideoBranch) : Type 0 where
  pub leak : LeakLies w m b.leak
  pub pending : Lies 3 w m.units b.units.pending

-- how far the leak goes on: to the decode time of the unit that is due, and else to the frontier
abbrev pub until : Option AccessUnit → Float → Float
until (Some u) frontier = u.decode_time
until None frontier = frontier

-- the removal of the first pending unit
pub record RemovedBy (m : VideoLayout) (b : VideoBranch) (u : AccessUnit) (k : ℕ) (before after : Slots) (r : VideoBranch) : Type 0 where
  pub lies : (w : List Float) → LeakLies w m b.leak → LeakLies w m r.leak
  pub units : r.units ≡ removed_units m.units.depth b.units u
  pub state : (w : List Float) → video_of w m r ≡ remove_unit (video_of w m b) u (entries 3 unit_at w m.units (pop_def m.units.depth b.units.pending))
  pub events : (w : List Float) → after ≡ noted_all k (remove_events (video_of w m b) u) before

-- a branch that comes to x, with the events of x in the slots; its open unit stays
pub record AdvancedTo (w : List Float) (m : VideoLayout) (k : ℕ) (u : Option AccessUnit) (before : Slots) (x : Advanced) (r : VideoBranch) (after : Slots) : Type 0 where
  pub lies : VideoLies w m r
  pub open_au : r.units.open_au ≡ u
  pub state : video_of w m r ≡ x.branch
  pub slots : after ≡ noted_all k x.events before

-- ---- what a packet delivers

-- the branch with the unit whose bytes still arrive
unfoldable pub chain_of : List Float → VideoLayout → VideoBranch → VideoChain
chain_of w m b = record { branch = video_of w m b; open_au = b.units.open_au }

-- the rings stand one behind the other, with places for the same count of entries
pub record Apart (m : VideoLayout) : Type 0 where
  pub units : m.runs.base + 3 * m.runs.depth ≤ m.units.base
  pub marks : m.units.base + 3 * m.units.depth ≤ m.marks.base
  pub units_depth : m.units.depth ≡ m.runs.depth
  pub marks_depth : m.marks.depth ≡ m.runs.depth

-- a branch that is fed, and comes to x; v is the work after it
pub record VideoFedTo (w : List Float) (m : VideoLayout) (b : VideoBranch) (x : VideoFed) (r : Result ⊤ QueueFull) (b' : VideoBranch) (v : List Float) : Type 0 where
  pub lies : VideoLies v m b'
  pub outside : SameOutside m.runs.base (m.marks.base + 2 * m.marks.depth) w v
  pub full : is_err r ≡ x.full
  pub state : chain_of v m b' ≡ x.chain
  pub units : b'.units.access_units ≡ b.units.access_units

-- a run in MBn, without its mark; metric is what it adds to the open unit
unfoldable pub queued_run : VideoChain → Run → Float → VideoChain
queued_run c run metric =
    record {
      branch = record {
        leak = pushed_leak c.branch.leak run (c.branch.queued ⊕ run.bytes) false;
        queued = c.branch.queued ⊕ run.bytes;
        eb_required = c.branch.eb_required;
        pending = c.branch.pending;
        max_delay = c.branch.max_delay;
        units = c.branch.units;
      };
      open_au = grown metric c.open_au;
    }

pub record QueuedTo (w : List Float) (m : VideoLayout) (b : VideoBranch) (run : Run) (metric : Float) (r : Result ⊤ QueueFull) (b' : VideoBranch) (v : List Float) : Type 0 where
  pub lies : VideoLies v m b'
  pub outside : SameOutside m.runs.base (m.runs.base + 3 * m.runs.depth) w v
  pub units : b'.units.access_units ≡ b.units.access_units
  pub marks : b'.leak.flow.marks ≡ b.leak.flow.marks
  pub full : is_err r ≡ run_refused m.runs.depth (inflow_of w m.runs b.leak.mb_in) run
  pub state : chain_of v m b' ≡ cond (is_err r) (chain_of w m b) (queued_run (chain_of w m b) run metric)

-- header bytes that end where the queue then ends
unfoldable pub marked_leak : Leak → HeaderMark → Leak
marked_leak s mark =
    record {
      mb_in = s.mb_in;
      flow = record {
        marks = s.flow.marks ++ (mark ∷ []);
        transferred = s.flow.transferred;
        eb_in = s.flow.eb_in;
        eb_removed = s.flow.eb_removed;
        eb_peak = s.flow.eb_peak;
      };
      busy_since = s.busy_since;
      longest_busy = s.longest_busy;
      mb_peak = s.mb_peak;
      proc_time = s.proc_time;
    }

unfoldable pub marked_run : VideoChain → Float → VideoChain
marked_run c bytes =
    record {
      branch = record {
        leak = marked_leak c.branch.leak (record { threshold = c.branch.queued; bytes = bytes });
        queued = c.branch.queued;
        eb_required = c.branch.eb_required;
        pending = c.branch.pending;
        max_delay = c.branch.max_delay;
        units = c.branch.units;
      };
      open_au = c.open_au;
    }

pub record MarkedTo (w : List Float) (m : VideoLayout) (b : VideoBranch) (bytes : Float) (r : VideoBranch) (v : List Float) : Type 0 where
  pub lies : VideoLies v m r
  pub outside : SameOutside m.marks.base (m.marks.base + 2 * m.marks.depth) w v
  pub units : r.units ≡ b.units
  pub state : chain_of v m r ≡ marked_run (chain_of w m b) bytes

-- ---- one step of the chain

-- the three rings of a model: runs, pending units and header marks, of depth entries each
abbrev pub layout_of : VideoModel → VideoLayout
layout_of p =
    record {
      rbx = p.rbx;
      mb_size = p.mb_size;
      eb_size = p.eb_size;
      runs = record { base = p.base; depth = p.depth };
      units = record { base = p.base + 3 * p.depth; depth = p.depth };
      marks = record { base = p.base + 6 * p.depth; depth = p.depth };
    }

-- the test of a step: the rings lie in a work of len floats, the count of units has room, and the chain has slots
unfoldable pub ready : ℕ → VideoModel → VideoBranch → ℕ → Bool
ready len p b k =
    ((((leb (p.base + 8 * p.depth) len && fits b.leak.mb_in.runs p.depth) && fits b.units.pending p.depth) && fits b.leak.flow.marks p.depth)
    && ltb b.units.access_units 9223372036854775808)
    && ltb k 64

-- a step to x: the rings still lie in the work, and only the chain's part of it is written
pub record SteppedTo (w : List Float) (m : VideoLayout) (k : ℕ) (s : Slots) (x : VideoStep) (r : Result ⊤ QueueFull) (b' : VideoBranch) (v : List Float) (s' : Slots) : Type 0 where
  pub lies : VideoLies v m b'
  pub outside : SameOutside m.runs.base (m.marks.base + 2 * m.marks.depth) w v
  pub full : is_err r ≡ x.full
  pub state : chain_of v m b' ≡ x.chain
  pub slots : s' ≡ noted_all k x.events s

pub record Unchanged (w : List Float) (b : VideoBranch) (s : Slots) (r : Result ⊤ QueueFull) (b' : VideoBranch) (v : List Float) (s' : Slots) : Type 0 where
  pub result : r ≡ Ok tt
  pub branch : b' ≡ b
  pub work : v ≡ w
  pub slots : s' ≡ s

-- what a step ensures
pub record StepOf (w : List Float) (p : VideoModel) (b : VideoBranch) (d : Delivered) (t : Float) (k : ℕ) (s : Slots) (r : Result ⊤ QueueFull) (b' : VideoBranch) (v : List Float) (s' : Slots) : Type 0 where
  pub steps : ready (length w) p b k ≡ true → SteppedTo w (layout_of p) k s (video_step (rates_of (layout_of p)) p.depth d false t (chain_of w (layout_of p) b)) r b' v s'
  pub otherwise : ready (length w) p b k ≡ false → Unchanged w b s r b' v s'

-- what the end of the stream ensures
pub record FinishOf (w : List Float) (p : VideoModel) (b : VideoBranch) (k : ℕ) (s : Slots) (r : Result ⊤ QueueFull) (b' : VideoBranch) (v : List Float) (s' : Slots) : Type 0 where
  pub ends : ready (length w) p b k ≡ true → SteppedTo w (layout_of p) k s (end_step (rates_of (layout_of p)) (close_au p.depth (chain_of w (layout_of p) b))) r b' v s'
  pub otherwise : ready (length w) p b k ≡ false → Unchanged w b s r b' v s'

-- what a close ensures: it needs no slots, so the test is that of slot 0
pub record CloseOf (w : List Float) (p : VideoModel) (b : VideoBranch) (r : Result ⊤ QueueFull) (b' : VideoBranch) (v : List Float) : Type 0 where
  pub closes : ready (length w) p b 0 ≡ true → VideoFedTo w (layout_of p) b (close_au p.depth (chain_of w (layout_of p) b)) r b' v
  pub otherwise : ready (length w) p b 0 ≡ false → (r ≡ Ok tt) × ((b' ≡ b) × (v ≡ w))

-- the branch before the first packet
unfoldable pub new_branch : VideoBranch
new_branch =
    record {
      leak = record {
        mb_in = record { runs = no_entries; settled = 0f };
        flow = record { marks = no_entries; transferred = 0f; eb_in = 0f; eb_removed = 0f; eb_peak = 0f };
        busy_since = -∞;
        longest_busy = 0f;
        mb_peak = 0f;
        proc_time = -∞;
      };
      units = no_units;
      queued = 0f;
      eb_required = 0f;
    }
