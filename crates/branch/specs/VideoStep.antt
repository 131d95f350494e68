-- One step of a video chain: a packet that arrives, or the end. The queues are lists here; depth is how many entries each may have.
use Rattle.std.specs.Prelude.{ℕ, Bool, true, false, cond, ◌&&◌, ◌||◌, List, [], length, eqb, Float, Option, None}
use Rattle.std.specs.Float.Ieee.{le}
use Rattle.ieee.specs.Binary64.{0f, -∞}
use Rattle.events.specs.declared.Event.{Event}
use Rattle.branch.specs.declared.AccessUnit.{AccessUnit}
use Rattle.branch.specs.declared.Run.{Run}
use Rattle.branch.specs.declared.Delivered.{Delivered}
use Rattle.branch.specs.CumulativeIn.{run_refused}
use Rattle.branch.specs.Units.{grown, stamp_of, Waiting, Queued, close_units, open_units}
use Rattle.branch.specs.VideoBranch.{VideoRates, Video, Advanced, advance, finish_video, push_video}

-- the branch, and the unit whose bytes still arrive
pub record VideoChain : Type 0 where
  pub branch : Video
  pub open_au : Option AccessUnit

unfoldable pub new_video : VideoChain
new_video =
    record {
      branch = record {
        leak = record {
          mb_in = record { runs = []; settled = 0f };
          flow = record { marks = []; transferred = 0f; eb_in = 0f; eb_removed = 0f; eb_peak = 0f };
          busy_since = -∞;
          longest_busy = 0f;
          mb_peak = 0f;
          proc_time = -∞;
        };
        queued = 0f;
        eb_required = 0f;
        pending = [];
        max_delay = 0f;
        units = 0;
      };
      open_au = None;
    }

-- ---- what a packet delivers

-- a push to a queue of depth entries is refused, and leaves the chain as it is
pub record VideoFed : Type 0 where
  pub full : Bool
  pub chain : VideoChain

abbrev pub refused : VideoChain → VideoFed
refused c = record { full = true; chain = c }

abbrev pub fed : VideoChain → VideoFed
fed c = record { full = false; chain = c }

-- a refusal ends the step
unfoldable pub and_then : VideoFed → (VideoChain → VideoFed) → VideoFed
and_then f g = cond f.full f (g f.chain)

-- the units of a chain
abbrev pub waiting : VideoChain → Waiting
waiting c = record { pending = c.branch.pending; open_au = c.open_au; units = c.branch.units; max_delay = c.branch.max_delay }

abbrev pub with_waiting : VideoChain → Waiting → VideoChain
with_waiting c x =
    record {
      branch = record { leak = c.branch.leak; queued = c.branch.queued; eb_required = c.branch.eb_required; pending = x.pending; max_delay = x.max_delay; units = x.units };
      open_au = x.open_au;
    }

abbrev pub queued_to : VideoChain → Queued → VideoFed
queued_to c q = record { full = q.full; chain = with_waiting c q.units }

-- the open unit becomes a pending one
unfoldable pub close_au : ℕ → VideoChain → VideoFed
close_au depth c = queued_to c (close_units depth (waiting c))

-- a stamp closes the open unit, and opens the next
unfoldable pub open_unit : ℕ → Option AccessUnit → VideoChain → VideoFed
open_unit depth o c = queued_to c (open_units depth o (waiting c))

-- a run, where there are bytes: content is the open unit's too, header bytes add nothing to it
unfoldable pub add_run : ℕ → Bool → Run → VideoChain → VideoFed
add_run depth header r c =
    cond (le r.bytes 0f) (fed c)
    (cond (run_refused depth c.branch.leak.mb_in r || (header && eqb (length c.branch.leak.flow.marks) depth)) (refused c)
    (fed (record { branch = push_video c.branch r header; open_au = grown (cond header 0f r.bytes) c.open_au })))

-- the header bytes up to the stamp's end, those behind, and the content
unfoldable pub deliver : ℕ → Delivered → VideoChain → VideoFed
deliver depth d c =
    and_then (open_unit depth (stamp_of d) c) (λ n. and_then (add_run depth true d.head n) (λ o. and_then (add_run depth true d.rest o) (add_run depth false d.body)))

-- ---- a packet that arrives at t, or the end

pub record VideoStep : Type 0 where
  pub full : Bool
  pub chain : VideoChain
  pub events : List Event

unfoldable pub packet_step : ℕ → Delivered → Option AccessUnit → Advanced → VideoStep
packet_step depth d o a =
    record {
      full = (deliver depth d (record { branch = a.branch; open_au = o })).full;
      chain = (deliver depth d (record { branch = a.branch; open_au = o })).chain;
      events = a.events;
    }

unfoldable pub end_step : VideoRates → VideoFed → VideoStep
end_step r f =
    cond f.full (record { full = true; chain = f.chain; events = [] })
    (record { full = false; chain = record { branch = (finish_video r f.chain.branch).branch; open_au = f.chain.open_au }; events = (finish_video r f.chain.branch).events })

unfoldable pub video_step : VideoRates → ℕ → Delivered → Bool → Float → VideoChain → VideoStep
video_step r depth d end t c = cond end (end_step r (close_au depth c)) (packet_step depth d c.open_au (advance r t c.branch))
