-- `VideoBranch`: the multiplexing buffer MBn leaks into the elementary stream buffer EBn at Rbxn, and PES headers are dropped on the way
-- (H.222.0, 2.4.2.3, leak method). Access units are removed from EBn at their decode times.
use Rattle.std.specs.Prelude.{ℕ, zero, suc, ◌+◌, ◌^◌, Bool, true, false, cond, Option, Some, None, List, [], ◌∷◌, ◌++◌, Float}
use Rattle.std.specs.Float.Ieee.{lt, le, eq}
use Rattle.ieee.specs.Binary64.{◌⊕◌, ◌⊖◌, ◌⊗◌, ◌⊘◌, -∞, 0f, 1f, 2f, 1e-6f}
use Rattle.ieee.specs.MaxMin.{max_of, min_of}
use Rattle.branch.specs.declared.Run.{Run}
use Rattle.branch.specs.declared.AccessUnit.{AccessUnit}
use Rattle.branch.specs.declared.HeaderMark.{HeaderMark}
use Rattle.events.specs.declared.Event.{Event}
use Rattle.events.specs.declared.Event.TheVariants.{Overflow, MbBusy}
use Rattle.events.specs.Event.{when}
use Rattle.branch.specs.Units.{unit_events}
use Rattle.branch.specs.CumulativeIn.{Inflow, settle, arrived_by, push_run, time_of_cumulative}

-- Rbxn in bytes a second, MBSn and EBSn in bytes
pub record VideoRates : Type 0 where
  pub rbx : Float
  pub mb_size : Float
  pub eb_size : Float

-- ---- transfer: bytes leave MBn; those that the marks name as header bytes are dropped, the others enter EBn
pub record Transfer : Type 0 where
  pub marks : List HeaderMark
  pub transferred : Float
  pub eb_in : Float
  pub eb_removed : Float
  pub eb_peak : Float

-- the bytes of a mark between start and end
unfoldable pub overlap : HeaderMark → Float → Float → Float
overlap m start end = max_of (min_of end m.threshold ⊖ max_of start (m.threshold ⊖ m.bytes)) 0f

-- the sum h with the marked bytes between start and end, and the marks that are left
unfoldable pub header_bytes : List HeaderMark → Float → Float → Float → Float
header_bytes [] start end h = h
header_bytes (m ∷ ms) start end h =
    cond (le end (m.threshold ⊖ m.bytes)) h
    (cond (le m.threshold end) (header_bytes ms start end (h ⊕ overlap m start end)) (h ⊕ overlap m start end))

unfoldable pub marks_left : List HeaderMark → Float → List HeaderMark
marks_left [] end = []
marks_left (m ∷ ms) end =
    cond (le end (m.threshold ⊖ m.bytes)) (m ∷ ms)
    (cond (le m.threshold end) (marks_left ms end) (m ∷ ms))

-- what is in EBn, counted from the start, after so many more bytes
unfoldable pub eb_in_after : Transfer → Float → Float
eb_in_after s bytes = s.eb_in ⊕ (bytes ⊖ header_bytes s.marks s.transferred (s.transferred ⊕ bytes) 0f)

unfoldable pub moved : Transfer → Float → Transfer
moved s bytes =
    record {
      marks = marks_left s.marks (s.transferred ⊕ bytes);
      transferred = s.transferred ⊕ bytes;
      eb_in = eb_in_after s bytes;
      eb_removed = s.eb_removed;
      eb_peak = max_of s.eb_peak (eb_in_after s bytes ⊖ s.eb_removed);
    }

unfoldable pub transfer : Transfer → Float → Transfer
transfer s bytes = cond (le bytes 0f) s (moved s bytes)

-- ---- the leak
-- MBn's busy stretch began at busy_since, which is -∞ while there is none; proc_time is -∞ before the first call
pub record Leak : Type 0 where
  pub mb_in : Inflow
  pub flow : Transfer
  pub busy_since : Float
  pub longest_busy : Float
  pub mb_peak : Float
  pub proc_time : Float

-- MBn's fullness at a time
unfoldable pub mb_fullness : Leak → Float → Float
mb_fullness s t = arrived_by s.mb_in t ⊖ s.flow.transferred

-- the room in EBn
unfoldable pub eb_room : VideoRates → Transfer → Float
eb_room r f = r.eb_size ⊖ (f.eb_in ⊖ f.eb_removed)

-- a fullness is seen now: a stretch begins where MBn holds more than a byte, and else ends
unfoldable pub since_seen : Float → Bool → Float → Float
since_seen since over now = cond over (cond (eq since -∞) now since) -∞

unfoldable pub longest_seen : Float → Float → Bool → Float → Float
longest_seen longest since over now = cond over longest (cond (eq since -∞) longest (max_of longest (now ⊖ since)))

-- a turn begins: MBn is looked at
unfoldable pub looked : Leak → Leak
looked s =
    record {
      mb_in = settle s.mb_in s.proc_time;
      flow = s.flow;
      busy_since = since_seen s.busy_since (lt 1f (mb_fullness s s.proc_time)) s.proc_time;
      longest_busy = longest_seen s.longest_busy s.busy_since (lt 1f (mb_fullness s s.proc_time)) s.proc_time;
      mb_peak = max_of s.mb_peak (mb_fullness s s.proc_time);
      proc_time = s.proc_time;
    }

-- EBn is full: all that arrives up to t stays in MBn
unfoldable pub stalled : Leak → Float → Leak
stalled s t =
    record {
      mb_in = settle s.mb_in t;
      flow = s.flow;
      busy_since = cond (eq s.busy_since -∞) (cond (lt 1f (mb_fullness s t)) s.proc_time -∞) s.busy_since;
      longest_busy = s.longest_busy;
      mb_peak = max_of s.mb_peak (mb_fullness s t);
      proc_time = t;
    }

-- runs up to t are settled, so many bytes leave, and the leak has come to a time
unfoldable pub gone : Leak → Float → Float → Float → Leak
gone s t bytes time =
    record {
      mb_in = settle s.mb_in t;
      flow = transfer s.flow bytes;
      busy_since = s.busy_since;
      longest_busy = s.longest_busy;
      mb_peak = s.mb_peak;
      proc_time = time;
    }

-- what a turn gives: whether the loop goes on, and the leak
pub record Turned : Type 0 where
  pub more : Bool
  pub leak : Leak

abbrev pub on : Leak → Turned
on s = record { more = true; leak = s }

abbrev pub break : Leak → Turned
break s = record { more = false; leak = s }

-- the leak keeps pace: what arrives up to t leaves, or as much as EBn has room for
unfoldable pub arriving : Leak → Float → Float → Float
arriving s t available = mb_fullness s t ⊖ available

unfoldable pub pace_take : Leak → Float → Float → Float → Float
pace_take s t available room = min_of (arriving s t available) (max_of room 0f)

-- EBn filled up on the way: the leak goes on from the time of that byte
unfoldable pub filled : Leak → Float → Float → Option Float → Turned
filled s t bytes (Some tt) = on (gone s t bytes (max_of tt s.proc_time))
filled s t bytes None = break (gone s t bytes t)

unfoldable pub paced : Leak → Float → Float → Float → Turned
paced s t available room =
    cond (lt (pace_take s t available room ⊕ 1f) (arriving s t available))
    (filled s t (max_of (pace_take s t available room) 0f)
    (time_of_cumulative (settle s.mb_in t) (transfer s.flow (max_of (pace_take s t available room) 0f)).transferred))
    (break (gone s t (max_of (pace_take s t available room) 0f) t))

-- bytes wait: they leave at the rate up to t, or all of them, or as many as EBn has room for
unfoldable pub backlog_take : VideoRates → Leak → Float → Float → Float → Float
backlog_take r s t available room = min_of (min_of (r.rbx ⊗ (t ⊖ s.proc_time)) available) room

unfoldable pub backlogged : VideoRates → Leak → Float → Float → Float → Leak
backlogged r s t available room =
    record {
      mb_in = s.mb_in;
      flow = transfer s.flow (backlog_take r s t available room);
      busy_since = s.busy_since;
      longest_busy = s.longest_busy;
      mb_peak = s.mb_peak;
      proc_time = s.proc_time ⊕ max_of (backlog_take r s t available room ⊘ r.rbx) 1e-6f;
    }

unfoldable pub step : VideoRates → Float → Leak → Float → Float → Turned
step r t s available room =
    cond (le room 1f) (break (stalled s t))
    (cond (le available 1f) (paced s t available room) (on (backlogged r s t available room)))

-- the loop's test, and one turn
unfoldable pub turn : VideoRates → Float → Leak → Turned
turn r t s =
    cond (lt s.proc_time (t ⊖ 1e-6f))
    (step r t (looked s) (mb_fullness s s.proc_time) (eb_room r s.flow))
    (break s)

-- turns, at most n of them, while the loop goes on
unfoldable pub turns : ℕ → VideoRates → Float → Turned → Turned
turns zero r t s = s
turns (suc n) r t s = cond s.more (turns n r t (turn r t s.leak)) s

-- the loop ends by its own test well before these are used up (a theorem says so)
abbrev pub budget : ℕ
budget = 2 ^ 25 + 4

-- behind the loop
unfoldable pub closed : Leak → Float → Leak
closed s t =
    record {
      mb_in = settle s.mb_in t;
      flow = s.flow;
      busy_since = s.busy_since;
      longest_busy = cond (eq s.busy_since -∞) s.longest_busy (max_of s.longest_busy (t ⊖ s.busy_since));
      mb_peak = max_of s.mb_peak (mb_fullness s t);
      proc_time = max_of s.proc_time t;
    }

unfoldable pub started : Leak → Float → Leak
started s t =
    record { mb_in = s.mb_in; flow = s.flow; busy_since = s.busy_since; longest_busy = s.longest_busy; mb_peak = s.mb_peak; proc_time = t }

-- the leak behind the loop of `leak_until`
unfoldable pub ran : VideoRates → Float → Leak → Leak
ran r t s = (turns budget r t (on s)).leak

-- the first call only sets the clock
unfoldable pub leak_until : VideoRates → Float → Leak → Leak
leak_until r t s = cond (eq s.proc_time -∞) (started s t) (closed (ran r t s) t)

unfoldable pub leak_events : VideoRates → Float → Leak → List Event
leak_events r t s =
    cond (eq s.proc_time -∞) []
    (when (lt (r.mb_size ⊕ 1f) (mb_fullness (ran r t s) t)) (Overflow (mb_fullness (ran r t s) t)))

-- ---- the branch
pub record Video : Type 0 where
  pub leak : Leak
  pub queued : Float
  pub eb_required : Float
  pub pending : List AccessUnit
  -- the chain's figures
  pub max_delay : Float
  pub units : ℕ

pub record Advanced : Type 0 where
  pub branch : Video
  pub events : List Event

abbrev after : List Event → Advanced → Advanced
after es a = record { branch = a.branch; events = es ++ a.events }

abbrev leaked : VideoRates → Float → Video → Video
leaked r t v =
    record { leak = leak_until r t v.leak; queued = v.queued; eb_required = v.eb_required; pending = v.pending; max_delay = v.max_delay; units = v.units }

-- the removal of one unit from EBn
module _ (v : Video) (u : AccessUnit) where
  abbrev required : Float
  required = v.eb_required ⊕ u.bytes

  abbrev age : Float
  age = u.decode_time ⊖ u.first_input_time

  unfoldable pub with_removed : Leak → Leak
  with_removed s =
      record {
        mb_in = s.mb_in;
        flow = record {
          marks = s.flow.marks;
          transferred = s.flow.transferred;
          eb_in = s.flow.eb_in;
          eb_removed = min_of required s.flow.eb_in;
          eb_peak = s.flow.eb_peak;
        };
        busy_since = s.busy_since;
        longest_busy = s.longest_busy;
        mb_peak = s.mb_peak;
        proc_time = s.proc_time;
      }

  unfoldable pub remove_unit : List AccessUnit → Video
  remove_unit rest =
      record {
        leak = with_removed v.leak;
        queued = v.queued;
        eb_required = required;
        pending = rest;
        max_delay = max_of v.max_delay age;
        units = v.units + 1;
      }

  unfoldable pub remove_events : List Event
  remove_events = unit_events v.leak.flow.eb_in required u

-- the leak up to the frontier, each unit with a decode time up to it removed on the way, in queue order
unfoldable pub advance_from : VideoRates → Float → List AccessUnit → Video → Advanced
advance_from r frontier [] v = record { branch = leaked r frontier v; events = leak_events r frontier v.leak }
advance_from r frontier (u ∷ us) v =
    cond (le u.decode_time frontier)
    (after (leak_events r u.decode_time v.leak ++ remove_events (leaked r u.decode_time v) u)
    (advance_from r frontier us (remove_unit (leaked r u.decode_time v) u us)))
    (record { branch = leaked r frontier v; events = leak_events r frontier v.leak })

unfoldable pub advance : VideoRates → Float → Video → Advanced
advance r frontier v = advance_from r frontier v.pending v

-- the end: the leak runs long enough to move everything queued
unfoldable pub drain_time : VideoRates → Video → Float
drain_time r v = max_of v.leak.proc_time 0f ⊕ v.queued ⊘ r.rbx ⊕ 2f

unfoldable pub finish_video : VideoRates → Video → Advanced
finish_video r v =
    record {
      branch = (advance r (drain_time r v) v).branch;
      events =
          (advance r (drain_time r v) v).events
          ++ when (lt (1f ⊕ 1e-6f) (advance r (drain_time r v) v).branch.leak.longest_busy) (MbBusy (advance r (drain_time r v) v).branch.leak.longest_busy);
    }

-- a run enters MBn; header bytes are marked where the queue then ends
unfoldable pub pushed_leak : Leak → Run → Float → Bool → Leak
pushed_leak s run queued header =
    record {
      mb_in = push_run s.mb_in run;
      flow = record {
        marks = cond header (s.flow.marks ++ (record { threshold = queued; bytes = run.bytes } ∷ [])) s.flow.marks;
        transferred = s.flow.transferred;
        eb_in = s.flow.eb_in;
        eb_removed = s.flow.eb_removed;
        eb_peak = s.flow.eb_peak;
      };
      busy_since = s.busy_since;
      longest_busy = s.longest_busy;
      mb_peak = s.mb_peak;
      proc_time = s.proc_time;
    }

unfoldable pub push_video : Video → Run → Bool → Video
push_video v run header =
    cond (le run.bytes 0f) v
    (record {
      leak = pushed_leak v.leak run (v.queued ⊕ run.bytes) header;
      queued = v.queued ⊕ run.bytes;
      eb_required = v.eb_required;
      pending = v.pending;
      max_delay = v.max_delay;
      units = v.units;
    })
