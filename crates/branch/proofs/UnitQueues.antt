-- What becomes of the units of a branch, in terms of the list in their ring.
use Prim.Native.Nat.{ℕ, ◌+◌, ◌*◌, ◌≤◌, ◌<◌}
use mathlib.Core.Path.{◌≡◌, refl, sym, ap, ◌∙◌}
use mathlib.Core.Bool.{true, false, cond}
use mathlib.Core.List.{List, [], ◌∷◌, ◌++◌}
use mathlib.Core.Logic.{◌⊎◌}
use lib.Dec.{eqb}
use lib.Ieee.{Float, lt, le}
use Rattle.ieee.specs.Binary64.{◌⊕◌, ◌⊖◌, 1f, 1e-6f}
use Rattle.events.specs.declared.Event.TheVariants.{Underflow, Delay}
use Rattle.events.specs.Event.{when}
use Rattle.events.specs.declared.Slots.{Slots}
use Rattle.events.specs.Slots.{noted_all}
use Rattle.events.proofs.Noted.{noted_all_append_lem}
use Rattle.std.specs.Prelude.{⊤, Option, Some, None, Result, Ok, Err, is_err, IsErr}
use Rattle.std.proofs.lemmas.Option.{none-some}
use Rattle.branch.specs.declared.AccessUnit.{AccessUnit}
use Rattle.branch.specs.declared.Delivered.{Delivered}
use Rattle.branch.specs.declared.QueueFull.{QueueFull}
use Rattle.branch.specs.declared.queue.Place.{Place}
use Rattle.branch.specs.declared.queue.Ring.{Ring}
use Rattle.branch.specs.declared.units.Units.{Units}
use Rattle.branch.specs.Queue.{Lies, SameOutside, place_of, floats_at, entries, PushedTo}
use Rattle.branch.specs.Units.{stamp_of, grown, Waiting, Queued, with_open, close_by, close_units, open_units, due_now, unit_events}
use Rattle.branch.specs.UnitsInWork.{unit_of, floats_of_unit, unit_at, waiting_of, UnitsTo, FirstOf, DueOf}
use Rattle.branch.proofs.Rings.{some_is, kept, popped, count_entries, no_entries_lem, floats_local, outside_refl, push_room, push_refused, push_adds, push_lies, push_outside}

-- ---- the events of a removal

pub noted_removal : (k : ℕ) (arrived required : Float) (u : AccessUnit) (s s' s'' : Slots) → s' ≡ noted_all k (when (lt (arrived ⊕ 1f) required) (Underflow u.decode_time (required ⊖ arrived))) s
    → s'' ≡ noted_all k (when (lt (1f ⊕ 1e-6f) (u.decode_time ⊖ u.first_input_time)) (Delay u.decode_time (u.decode_time ⊖ u.first_input_time))) s' → s'' ≡ noted_all k (unit_events arrived required u) s
noted_removal k arrived required u s s' s'' e e' =
    e' ∙ (ap (noted_all k _) e ∙ sym (noted_all_append_lem k _ _ s))

-- ---- the pending units, where the work changes elsewhere

pub units_kept : {lo hi : ℕ} {w : List Float} (v : List Float) (p : Place) (q : Ring) → Lies 3 w p q → SameOutside lo hi w v → (p.base + 3 * p.depth ≤ lo) ⊎ (hi ≤ p.base) → entries 3 unit_at v p q ≡ entries 3 unit_at w p q
unfolding unit_at
units_kept {lo} {hi} {w} v p q l o h = kept 3 (λ u i. unit_of (floats_at 3 u i)) (floats_local 3 unit_of) p q l o h

-- ---- the first unit

module _ (w : List Float) (p : Place) (q : Ring) where
  pub first_none : q.count ≡ 0 → FirstOf w p q None
  first_none n = record { none = λ e. no_entries_lem 3 unit_at w p q n; some = λ u e. absurd (none-some u e) }

  pub first_some : (e : List Float) → Lies 3 w p q → 0 < q.count → e ≡ floats_at 3 w (place_of 3 p q 0) → FirstOf w p q (Some (unit_of e))
  unfolding unit_at
  first_some e l h f =
      record {
        none = λ x. absurd (none-some (unit_of e) (sym x));
        some = λ u x. (h, popped 3 unit_at w p q l h ∙ rw (sym (some_is x), f) refl);
      }

  module _ (f : Float) (r : Option AccessUnit) (m : FirstOf w p q r) where
    pub due_none : r ≡ None → DueOf w p q f None
    unfolding due_now
    due_none e = record { test = rw (m.none e) refl; some = λ x y. absurd (none-some x y) }

    module _ (u : AccessUnit) (e : r ≡ Some u) where
      pub due_first : le u.decode_time f ≡ true → DueOf w p q f (Some u)
      unfolding due_now
      due_first t = record { test = rw (m.some u e).1 (simp t); some = λ x z. (m.some u e).0 }

      pub due_later : le u.decode_time f ≡ false → DueOf w p q f None
      unfolding due_now
      due_later t = record { test = rw (m.some u e).1 (simp t); some = λ x z. absurd (none-some x z) }

-- ---- the open unit

module _ (bytes : Float) where
  pub grown_some : (o : Option AccessUnit) (u : AccessUnit) → o ≡ Some u → grown bytes o ≡ Some (record { decode_time = u.decode_time; bytes = u.bytes ⊕ bytes; first_input_time = u.first_input_time })
  unfolding grown
  grown_some o u e = simp e

  pub grown_none : (o : Option AccessUnit) → ((u : AccessUnit) → o ≡ Some u → ⊥) → grown bytes o ≡ o
  unfolding grown
  grown_none None h = refl
  grown_none (Some u) h = absurd (h u refl)

-- units that are left as they are
pub units_same : (w : List Float) (p : Place) (u : Units) (x : Queued) → Lies 3 w p u.pending → x ≡ record { full = false; units = waiting_of w p u } → UnitsTo w p u x (Ok tt) u w
units_same w p u x l e = rw e (record { lies = l; outside = outside_refl _ _ w; full = refl; state = refl; count = refl })

-- the push of a unit, with its reading by name
added : {w v : List Float} {p : Place} {q o : Ring} {e : List Float} {r : Result ⊤ QueueFull} → Lies 3 w p q → PushedTo 3 w p q e r o v → is_err r ≡ false → entries 3 unit_at v p o ≡ entries 3 unit_at w p q ++ (unit_of e ∷ [])
unfolding unit_at
added l m f = push_adds l m f unit_of (floats_local 3 unit_of)

module _ (w : List Float) (p : Place) (u : Units) where
  pub close_none : u.open_au ≡ None → close_units p.depth (waiting_of w p u) ≡ record { full = false; units = waiting_of w p u }
  unfolding close_units close_by waiting_of
  close_none e = simp e

  close_unit : (a : AccessUnit) → u.open_au ≡ Some a →
      close_units p.depth (waiting_of w p u)
      ≡ cond (eqb u.pending.count p.depth) (record { full = true; units = waiting_of w p u })
      (record { full = false; units = with_open (waiting_of w p u) (entries 3 unit_at w p u.pending ++ (a ∷ [])) None })
  unfolding close_units close_by waiting_of
  close_unit a e = simp (e, count_entries 3 unit_at w p u.pending)

module _ (w v : List Float) (p : Place) (u : Units) (l : Lies 3 w p u.pending) (a : AccessUnit) (isOpen : u.open_au ≡ Some a) (r : Result ⊤ QueueFull) (q : Ring)
    (m : PushedTo 3 w p u.pending (floats_of_unit a) r q v) where
  pub close_full : (e : QueueFull) (r' : Result ⊤ QueueFull) → r ≡ Err e → IsErr r' →
      UnitsTo w p u (close_units p.depth (waiting_of w p u)) r' (record { pending = q; open_au = u.open_au; access_units = u.access_units; max_delay_seconds = u.max_delay_seconds }) v
  close_full e r' f g =
      let k = push_refused l m (ap is_err f) in
      rw (k.0.0, k.0.1, close_unit w p u a isOpen, k.1) (record { lies = l; outside = outside_refl _ _ w; full = g; state = refl; count = refl })

  pub close_pushed : r ≡ Ok tt →
      UnitsTo w p u (close_units p.depth (waiting_of w p u)) (Ok tt) (record { pending = q; open_au = None; access_units = u.access_units; max_delay_seconds = u.max_delay_seconds }) v
  unfolding waiting_of
  close_pushed f =
      let g : is_err r ≡ false = ap is_err f in
      let e : close_units p.depth (waiting_of w p u) ≡ record { full = false; units = with_open (waiting_of w p u) (entries 3 unit_at w p u.pending ++ (a ∷ [])) None } =
      close_unit w p u a isOpen ∙ rw (push_room l m g) in
      rw e (record { lies = push_lies l m; outside = push_outside l m; full = refl; state = rw (added l m g); count = refl })

-- ---- a stamp

module _ (d : Delivered) (depth : ℕ) (x : Waiting) where
  pub stamp_none : stamp_of d ≡ None → open_units depth (stamp_of d) x ≡ record { full = false; units = x }
  unfolding open_units
  stamp_none e = simp e

  module _ (a : AccessUnit) (isStamp : stamp_of d ≡ Some a) where
    stamp_full : (close_units depth x).full ≡ true → open_units depth (stamp_of d) x ≡ close_units depth x
    unfolding open_units
    stamp_full f = simp (isStamp, f)

    stamp_next : (close_units depth x).full ≡ false →
        open_units depth (stamp_of d) x ≡ record { full = false; units = with_open (close_units depth x).units (close_units depth x).units.pending (Some a) }
    unfolding open_units
    stamp_next f = simp (isStamp, f)

module _ (w v : List Float) (p : Place) (u o : Units) (d : Delivered) (a : AccessUnit) (isStamp : stamp_of d ≡ Some a) (r : Result ⊤ QueueFull)
    (m : UnitsTo w p u (close_units p.depth (waiting_of w p u)) r o v) where
  pub open_refused : (e : QueueFull) (r' : Result ⊤ QueueFull) → r ≡ Err e → IsErr r' → UnitsTo w p u (open_units p.depth (stamp_of d) (waiting_of w p u)) r' o v
  open_refused e r' f g =
      let full : (close_units p.depth (waiting_of w p u)).full ≡ true = sym m.full ∙ ap is_err f in
      rw (stamp_full d p.depth (waiting_of w p u) a isStamp full) (record { lies = m.lies; outside = m.outside; full = g ∙ sym full; state = m.state; count = m.count })

  pub open_next : r ≡ Ok tt → UnitsTo w p u (open_units p.depth (stamp_of d) (waiting_of w p u)) (Ok tt) (record { pending = o.pending; open_au = Some a; access_units = o.access_units; max_delay_seconds = o.max_delay_seconds }) v
  unfolding waiting_of
  open_next f =
      rw (stamp_next d p.depth (waiting_of w p u) a isStamp (sym m.full ∙ ap is_err f))
      (record {
        lies = m.lies;
        outside = m.outside;
        full = refl;
        state = rw (← m.state) refl;
        count = m.count;
      })
