-- The removals of `advance`, one after the other, from what its parts give.
use Prim.Native.Nat.{ℕ, ◌+◌, ◌≤◌, ◌<◌}
use mathlib.Core.Path.{◌≡◌, refl, sym, ap, ◌∙◌}
use mathlib.Core.Bool.{Bool, true, false}
use mathlib.Core.List.{List, [], ◌∷◌, ◌++◌}
use native.Mathlib.Omega.{arith}
use lib.Ieee.{Float, le}
use Rattle.ieee.specs.Binary64.{◌⊕◌}
use Rattle.ieee.specs.MaxMin.{min_of}
use Rattle.events.specs.declared.Slots.{Slots}
use Rattle.events.specs.Slots.{noted_all}
use Rattle.events.proofs.Noted.{noted_all_append_lem}
use Rattle.branch.specs.declared.AccessUnit.{AccessUnit}
use Rattle.branch.specs.declared.leak.VideoLayout.{VideoLayout}
use Rattle.branch.specs.declared.units.Units.{Units}
use Rattle.branch.specs.declared.video_branch.VideoBranch.{VideoBranch}
use Rattle.branch.specs.declared.leak.Leak.{Leak as LeakState}
use Rattle.std.specs.Prelude.{Option, Some, None}
use Rattle.std.proofs.lemmas.Option.{none-some, cond_some}
use Rattle.branch.specs.Queue.{place_of, entries, pop_def}
use Rattle.branch.specs.VideoBranch.{VideoRates, leak_until, leak_events, Video, Advanced, with_removed, remove_unit, remove_events, advance_from, advance}
use Rattle.branch.specs.VideoInWork.{rates_of, flow_of, leak_of, LeaksTo, video_of, VideoLies, until, RemovedBy, AdvancedTo}
use Rattle.branch.specs.Units.{due_now, unit_events}
use Rattle.branch.specs.UnitsInWork.{unit_at, DueOf, removed_units}
use Rattle.branch.proofs.Rings.{popped, lies_popped, count_popped}

-- the leak up to a time, in the branch
abbrev pub leaked : VideoRates → Float → Video → Video
leaked r t v =
    record { leak = leak_until r t v.leak; queued = v.queued; eb_required = v.eb_required; pending = v.pending; max_delay = v.max_delay; units = v.units }

-- ---- the definition, by its test

advance_none : (r : VideoRates) (f : Float) (us : List AccessUnit) (v : Video) → due_now us f ≡ None
    → advance_from r f us v ≡ record { branch = leaked r f v; events = leak_events r f v.leak }
unfolding due_now advance_from
advance_none r f [] v h = refl
advance_none r f (u ∷ us) v h = none_by (le u.decode_time f) refl
  where
    none_by : (b : Bool) → le u.decode_time f ≡ b → advance_from r f (u ∷ us) v ≡ record { branch = leaked r f v; events = leak_events r f v.leak }
    none_by true e = absurd (none-some u (sym h ∙ simp e))
    none_by false e = simp e

advance_next : (r : VideoRates) (f : Float) (u : AccessUnit) (us : List AccessUnit) (v : Video) → le u.decode_time f ≡ true
    → advance_from r f (u ∷ us) v
    ≡ record {
      branch = (advance_from r f us (remove_unit (leaked r u.decode_time v) u us)).branch;
      events = (leak_events r u.decode_time v.leak ++ remove_events (leaked r u.decode_time v) u) ++ (advance_from r f us (remove_unit (leaked r u.decode_time v) u us)).events;
    }
unfolding advance_from
advance_next r f u us v h = simp h

pending_is : (v : Video) (u : AccessUnit) (us : List AccessUnit) → (remove_unit v u us).pending ≡ us
unfolding remove_unit
pending_is v u us = refl

-- ---- the removal of a unit

pub removed_by : (m : VideoLayout) (b : VideoBranch) (u : AccessUnit) (k : ℕ) (before after : Slots) (x : Float) (q : Units) → x ≡ min_of (b.eb_required ⊕ u.bytes) b.leak.flow.eb_in
    → q ≡ removed_units m.units.depth b.units u → after ≡ noted_all k (unit_events b.leak.flow.eb_in (b.eb_required ⊕ u.bytes) u) before
    → RemovedBy m b u k before after
    (record {
      leak = record {
        mb_in = b.leak.mb_in;
        flow = record {
          marks = b.leak.flow.marks;
          transferred = b.leak.flow.transferred;
          eb_in = b.leak.flow.eb_in;
          eb_removed = x;
          eb_peak = b.leak.flow.eb_peak;
        };
        busy_since = b.leak.busy_since;
        longest_busy = b.leak.longest_busy;
        mb_peak = b.leak.mb_peak;
        proc_time = b.leak.proc_time;
      };
      units = q;
      queued = b.queued;
      eb_required = b.eb_required ⊕ u.bytes;
    })
unfolding video_of leak_of flow_of remove_unit with_removed remove_events
removed_by m b u k before after x q e f g =
    record {
      lies = λ w l. record { runs = l.runs; marks = l.marks };
      units = f;
      state = λ w. rw (e, f);
      events = λ w. g;
    }

-- ---- one turn of the loop

-- the branch r, with the slots s', comes to what b comes to from the slots s
pub record Advancing (w : List Float) (m : VideoLayout) (f : Float) (k : ℕ) (b : VideoBranch) (s : Slots) (r : VideoBranch) (s' : Slots) : Type 0 where
  pub lies : VideoLies w m r
  pub open_au : r.units.open_au ≡ b.units.open_au
  pub bound : r.units.access_units + r.units.pending.count ≤ 18446744073709551615
  pub state : (advance (rates_of m) f (video_of w m r)).branch ≡ (advance (rates_of m) f (video_of w m b)).branch
  pub slots : noted_all k (advance (rates_of m) f (video_of w m r)).events s' ≡ noted_all k (advance (rates_of m) f (video_of w m b)).events s

pub advance_starts : (w : List Float) (m : VideoLayout) (f : Float) (k : ℕ) (b : VideoBranch) (s : Slots) → VideoLies w m b → b.units.access_units + b.units.pending.count ≤ 18446744073709551615
    → Advancing w m f k b s b s
advance_starts w m f k b s v h = record { lies = v; open_au = refl; bound = h; state = refl; slots = refl }

module _ (w : List Float) (m : VideoLayout) (f : Float) (k : ℕ) (b : VideoBranch) (s s' : Slots) (d : Option AccessUnit) (to : Float) (l : LeakState) (v : VideoLies w m b)
    (e : DueOf w m.units b.units.pending f d) (t : to ≡ until d f) (g : LeaksTo w m to k s s' (leak_of w m b.leak) l) where
  abbrev R : VideoRates
  R = rates_of m

  abbrev us : List AccessUnit
  us = entries 3 unit_at w m.units b.units.pending

  -- the branch behind the leak
  abbrev next : VideoBranch
  next = record { leak = l; units = b.units; queued = b.queued; eb_required = b.eb_required }

  at : video_of w m next ≡ leaked R to (video_of w m b)
  unfolding video_of
  at = rw g.leak.state

  lies : VideoLies w m next
  lies = record { leak = g.leak.lies; pending = v.pending }

  -- nothing is due
  module _ (h : d ≡ None) where
    to_end : to ≡ f
    to_end = t ∙ rw h

    whole : advance R f (video_of w m b) ≡ record { branch = leaked R f (video_of w m b); events = leak_events R f (leak_of w m b.leak) }
    unfolding advance video_of
    whole = advance_none R f us (video_of w m b) (sym e.test ∙ h)

    pub advance_ends : {b' : VideoBranch} {s0 : Slots} → Advancing w m f k b' s0 b s → AdvancedTo w m k b'.units.open_au s0 (advance R f (video_of w m b')) next s'
    advance_ends inv =
        record {
          lies = lies;
          open_au = inv.open_au;
          state = at ∙ (ap (λ (z : Float). leaked R z (video_of w m b)) to_end ∙ (sym (ap (λ (x : Advanced). x.branch) whole) ∙ inv.state));
          slots =
              g.events
              ∙ (ap (λ (z : Float). noted_all k (leak_events R z (leak_of w m b.leak)) s) to_end ∙ (sym (ap (λ (x : Advanced). noted_all k x.events s) whole) ∙ inv.slots));
        }

  -- the first unit is due
  module _ (u : AccessUnit) (h : d ≡ Some u) (r : VideoBranch) (s'' : Slots) (x : RemovedBy m next u k s' s'' r) where
    abbrev rest : List AccessUnit
    rest = entries 3 unit_at w m.units (pop_def m.units.depth b.units.pending)

    some : 0 < b.units.pending.count
    some = e.some u h

    due : to ≡ u.decode_time
    due = t ∙ rw h

    abbrev head : AccessUnit
    head = unit_at w (place_of 3 m.units b.units.pending 0)

    by_head : us ≡ head ∷ rest
    by_head = popped 3 unit_at w m.units b.units.pending v.pending some

    found : (le head.decode_time f ≡ true) × (head ≡ u)
    unfolding due_now
    found = cond_some (le head.decode_time f) head u (ap (λ (z : List AccessUnit). due_now z f) (sym by_head) ∙ (sym e.test ∙ h))

    first : us ≡ u ∷ rest
    first = by_head ∙ rw found.1

    test : le u.decode_time f ≡ true
    test = sym (ap (λ (z : AccessUnit). le z.decode_time f) found.1) ∙ found.0

    -- what stands behind the removal
    abbrev behind : Video
    behind = remove_unit (leaked R u.decode_time (video_of w m b)) u rest

    came : video_of w m r ≡ behind
    came = x.state w ∙ ap (λ (z : Video). remove_unit z u rest) (at ∙ rw due)

    onward : advance R f (video_of w m r) ≡ advance_from R f rest behind
    unfolding advance
    onward = rw came (rw (pending_is (leaked R u.decode_time (video_of w m b)) u rest))

    whole' : advance R f (video_of w m b)
        ≡ record {
          branch = (advance_from R f rest behind).branch;
          events = (leak_events R u.decode_time (leak_of w m b.leak) ++ remove_events (leaked R u.decode_time (video_of w m b)) u) ++ (advance_from R f rest behind).events;
        }
    unfolding advance video_of
    whole' = ap (λ (z : List AccessUnit). advance_from R f z (video_of w m b)) first ∙ advance_next R f u rest (video_of w m b) test

    leak_slots : s' ≡ noted_all k (leak_events R u.decode_time (leak_of w m b.leak)) s
    leak_slots = g.events ∙ rw due

    slots : s'' ≡ noted_all k (leak_events R u.decode_time (leak_of w m b.leak) ++ remove_events (leaked R u.decode_time (video_of w m b)) u) s
    slots =
        x.events w
        ∙ (ap (λ (z : Video). noted_all k (remove_events z u) s') (at ∙ rw due)
        ∙ (ap (noted_all k (remove_events (leaked R u.decode_time (video_of w m b)) u)) leak_slots ∙ sym (noted_all_append_lem k _ _ s)))

    pub advance_less : r.units.pending.count < b.units.pending.count
    advance_less = rw x.units (omega (arith, count_popped m.units.depth b.units.pending, some))

    pub advance_more : {b' : VideoBranch} {s0 : Slots} → Advancing w m f k b' s0 b s → Advancing w m f k b' s0 r s''
    advance_more inv =
        let n : (pop_def m.units.depth b.units.pending).count + 1 ≡ b.units.pending.count = omega (arith, count_popped m.units.depth b.units.pending, some) in
        record {
          lies = record { leak = x.lies w lies.leak; pending = rw x.units (lies_popped w m.units b.units.pending v.pending some) };
          open_au = ap (λ (z : Units). z.open_au) x.units ∙ inv.open_au;
          bound = rw x.units (omega (arith, inv.bound));
          state = ap (λ (z : Advanced). z.branch) onward ∙ (sym (ap (λ (z : Advanced). z.branch) whole') ∙ inv.state);
          slots =
              ap (λ (z : Advanced). noted_all k z.events s'') onward
              ∙ (ap (noted_all k (advance_from R f rest behind).events) slots
              ∙ (sym (noted_all_append_lem k _ _ s) ∙ (sym (ap (λ (z : Advanced). noted_all k z.events s) whole') ∙ inv.slots)));
        }
