-- The slots that events leave: each number at most the count, no two alike; and the lines of such slots after one event more.
use mathlib.Core.Path.{◌≡◌, refl, sym, ap, ◌∙◌}
use mathlib.Core.Bool.{Bool, true, false}
use mathlib.Core.List.{List, [], map}
use Prim.Native.Nat.{ℕ, suc, ◌+◌, ◌≤◌, ◌<◌}
use native.Mathlib.Numerals.{add-one}
use native.Mathlib.Omega.{arith}
use lib.ListN.{length, get_or, length-set, get_or-replicate}
use lib.Seq.{get_or-set_same, get_or-set_other}
use lib.Dec.{eqb}
use lib.Ieee.{Float, nan}
use borrow.Author.Tests.{eqb-true, eqb-false}
use Rattle.ieee.specs.MaxMin.{max_num}
use Rattle.report.specs.declared.ViolationLine.{ViolationLine}
use Rattle.report.specs.Record.{record_line, record_lines, most_events}
use Rattle.profile.specs.declared.config.TStdConfig.{TStdConfig}
use Rattle.events.specs.declared.Slots.{Slots}
use Rattle.events.specs.Slots.{first_in_slot, later_in_slot, noted}
use Rattle.events.proofs.Noted.{noted_first, noted_later}
use Rattle.summary.specs.Violation.{slot_violation}
use Rattle.summary.specs.Summary.{empty_slots, first_slots, violation_in, slot_violations}
use Rattle.summary.specs.Next.{FirstSlot, NoSlot}
use Rattle.summary.proofs.Merge.{AboveZeroIn, slot_key, same_slot_merges, above_merged}
use Rattle.summary.proofs.Order.{SameAt, slot_there, slot_none, same_slots, same_on_slots}
use Rattle.summary.proofs.Lines.{lines_to, line_there, line_none, lines_merged}

abbrev pub count_of : Slots → ℕ
count_of s = s.events

abbrev pub first_of : Slots → ℕ → ℕ
first_of s k = get_or s.firsts k 0

pub record Reached (c : TStdConfig) (s : Slots) : Type 0 where
  pub size : length s.firsts ≡ 64
  pub width : length s.figures ≡ 64
  pub times : length s.decode_times ≡ 64
  pub counted : (j : ℕ) → 0 < j → j < 64 → first_of s j ≤ count_of s
  pub apart : (i j : ℕ) → 0 < i → i < 64 → 0 < j → j < 64 → 0 < first_of s i → first_of s i ≡ first_of s j → i ≡ j
  pub above : (j : ℕ) → 0 < j → j < 64 → 0 < first_of s j → AboveZeroIn (violation_in c s j)

-- the lines of the slots' violations
abbrev pub lines_in : TStdConfig → Slots → List ViolationLine
lines_in c s = record_lines [] (slot_violations c s)

pub reached_empty : (c : TStdConfig) → Reached c empty_slots
reached_empty c =
    let none : (j : ℕ) → j < 64 → first_of empty_slots j ≡ 0 = λ j h. get_or-replicate 64 j 0 0 h in
    record {
      size = refl;
      width = refl;
      times = refl;
      counted = λ j l h. omega (arith, none j h);
      apart = λ i j l h m k p e. absurd (omega (arith, none i h));
      above = λ j l h p. absurd (omega (arith, none j h));
    }

-- the slot j is k or it is not
by_slot : (j k : ℕ) {P : Type 0} → (j ≡ k → P) → ((j ≡ k → ⊥) → P) → P
by_slot j k {P} p q = go (eqb j k) refl
  where
    go : (b : Bool) → eqb j k ≡ b → P
    go true e = p (eqb-true j k e)
    go false e = q (eqb-false j k e)

-- one event in slot k
module _ (c : TStdConfig) (s : Slots) (r : Reached c s) (k : ℕ) (low : 0 < k) (high : k < 64) (x t : Float) (above-v : AboveZeroIn (slot_violation c k x t)) where
  abbrev n : ℕ
  n = count_of s

  -- ---- slot k has no event yet
  module _ (new : first_of s k ≡ 0) where
    abbrev first : Slots
    first = first_in_slot k x t (n + 1) s

    counted_first : count_of first ≡ n + 1
    unfolding first_in_slot
    counted_first = refl

    at_slot : first_of first k ≡ n + 1
    unfolding first_in_slot
    at_slot = get_or-set_same s.firsts k (n + 1) 0 (omega (arith, r.size))

    at_other : (j : ℕ) → (j ≡ k → ⊥) → first_of first j ≡ first_of s j
    unfolding first_in_slot
    at_other j ne = get_or-set_other s.firsts k j (n + 1) 0 ne

    long : length first.firsts ≡ length s.firsts
    unfolding first_in_slot
    long = length-set s.firsts k (n + 1)

    wide : length first.figures ≡ 64
    unfolding first_in_slot
    wide = length-set s.figures k x ∙ r.width

    times_first : length first.decode_times ≡ 64
    unfolding first_in_slot
    times_first = length-set s.decode_times k t ∙ r.times

    figures_at : violation_in c first k ≡ slot_violation c k x t
    unfolding first_in_slot
    figures_at = rw (get_or-set_same s.figures k x nan (omega (arith, r.width)), get_or-set_same s.decode_times k t nan (omega (arith, r.times)))

    figures_other : (j : ℕ) → (j ≡ k → ⊥) → violation_in c first j ≡ violation_in c s j
    unfolding first_in_slot
    figures_other j ne = rw (get_or-set_other s.figures k j x nan ne, get_or-set_other s.decode_times k j t nan ne)

    reached_first : Reached c first
    reached_first =
        record {
          size = long ∙ r.size;
          width = wide;
          times = times_first;
          counted = λ j l h. by_slot j k (λ e. rw e (omega (arith, at_slot, counted_first))) (λ ne. omega (arith, at_other j ne, counted_first, r.counted j l h));
          apart = λ i j l h m g p e.
              by_slot i k (λ a. by_slot j k (λ b. a ∙ sym b) (λ b. absurd (let w : first_of first i ≡ n + 1 = rw a at_slot in omega (arith, at_other j b, r.counted j m g))))
              (λ a. by_slot j k (λ b. absurd (let w : first_of first j ≡ n + 1 = rw b at_slot in omega (arith, at_other i a, r.counted i l h)))
              (λ b. r.apart i j l h m g (omega (arith, at_other i a)) (sym (at_other i a) ∙ e ∙ at_other j b)));
          above = λ j l h p. by_slot j k (λ e. rw (e, figures_at) above-v) (λ ne. rw (figures_other j ne) (r.above j l h (omega (arith, at_other j ne))));
        }

    same_first : (m : ℕ) → 0 < m → m ≤ n → SameAt s.firsts first.firsts m
    same_first m l h =
        record {
          forth = λ j g w q. by_slot j k (λ e. absurd (let z : first_of s j ≡ 0 = rw e new in omega arith)) (λ ne. at_other j ne ∙ q);
          back = λ j g w q. by_slot j k (λ e. absurd (let z : first_of first j ≡ n + 1 = rw e at_slot in omega arith)) (λ ne. sym (at_other j ne) ∙ q);
        }

    slot_first_lem : FirstSlot first.firsts (suc n) k
    slot_first_lem =
        record {
          low = low;
          high = omega (arith, long, r.size);
          at = at_slot ∙ add-one n;
          first = λ j l h q. let ne : j ≡ k → ⊥ = omega arith in let w : j < 64 = omega arith in omega (arith, at_other j ne, r.counted j l w);
        }

    lines_first : lines_in c first ≡ record_line (lines_in c s) (slot_violation c k x t)
    unfolding slot_violations
    lines_first =
        let f = violation_in c first in
        let old : first_slots first.firsts n ≡ first_slots s.firsts n = same_slots s.firsts first.firsts long n same_first in
        let kept : map f (first_slots s.firsts n) ≡ map (violation_in c s) (first_slots s.firsts n) =
        same_on_slots f (violation_in c s) s.firsts n (λ j l h p q. figures_other j (λ e. let z : first_of s j ≡ 0 = rw e new in omega arith)) in
        ap (lines_to first.firsts f) (counted_first ∙ add-one n)
        ∙ line_there first.firsts f n k (slot_there first.firsts (suc n) k slot_first_lem)
        ∙ rw (old, kept, figures_at)

  -- ---- slot k has a figure already
  module _ (used : 0 < first_of s k) where
    abbrev later : Slots
    later = later_in_slot k x (n + 1) s

    abbrev figure : Float
    figure = get_or s.figures k nan

    later_counted : count_of later ≡ n + 1
    unfolding later_in_slot
    later_counted = refl

    -- the first numbers and the decode times stay
    later_firsts : later.firsts ≡ s.firsts
    unfolding later_in_slot
    later_firsts = refl

    later_times : later.decode_times ≡ s.decode_times
    unfolding later_in_slot
    later_times = refl

    later_wide : length later.figures ≡ 64
    unfolding later_in_slot
    later_wide = length-set s.figures k (max_num figure x) ∙ r.width

    later_figure : violation_in c later k ≡ slot_violation c k (max_num figure x) (get_or s.decode_times k nan)
    unfolding later_in_slot
    later_figure = rw (get_or-set_same s.figures k (max_num figure x) nan (omega (arith, r.width)))

    later_other : (j : ℕ) → (j ≡ k → ⊥) → violation_in c later j ≡ violation_in c s j
    unfolding later_in_slot
    later_other j ne = rw (get_or-set_other s.figures k j (max_num figure x) nan ne)

    reached_later : Reached c later
    reached_later =
        record {
          size = rw later_firsts r.size;
          width = later_wide;
          times = rw later_times r.times;
          counted = λ j l h. rw later_firsts (omega (arith, later_counted, r.counted j l h));
          apart = rw later_firsts r.apart;
          above = λ j l h p.
              by_slot j k
              (λ e. rw (e, later_figure) (above_merged c k figure (get_or s.decode_times k nan) x t (r.above k low high used) above-v))
              (λ ne. rw (later_other j ne) (r.above j l h (rw later_firsts at p)));
        }

    no_slot : NoSlot s.firsts (suc n)
    no_slot j l h q = omega (arith, r.counted j l (omega (arith, r.size)))

    lines_later : lines_in c later ≡ record_line (lines_in c s) (slot_violation c k x t)
    unfolding slot_violations
    lines_later =
        let f = violation_in c later in
        let g = violation_in c s in
        let u = get_or s.decode_times k nan in
        ap (lines_to later.firsts f) (later_counted ∙ add-one n)
        ∙ rw later_firsts (line_none s.firsts f n (slot_none s.firsts (suc n) no_slot))
        ∙ lines_merged s.firsts g f k (slot_violation c k x t) low (omega (arith, r.size)) used
        (λ j l h e. r.apart j k l (omega (arith, r.size)) low high (omega arith) e)
        (slot_key c k figure u x t)
        (later_figure ∙ sym (same_slot_merges c k figure u x t))
        (λ j l h ne. later_other j ne)
        (λ j l h p. r.above j l (omega (arith, r.size)) p) above-v n (r.counted k low high)

  -- ---- either way
  module _ (counts : n < most_events) where
    -- what one event leaves: the count goes up, and the lines are those with its violation recorded
    pub record Stepped (after : Slots) : Type 0 where
      pub reached : Reached c after
      pub counted : count_of after ≡ n + 1
      pub lines : lines_in c after ≡ record_line (lines_in c s) (slot_violation c k x t)

    by_use : (b : Bool) → eqb (first_of s k) 0 ≡ b → Stepped (noted k x t s)
    by_use true e =
        let new : first_of s k ≡ 0 = eqb-true (first_of s k) 0 e in
        rw (noted_first k x t s (omega arith) (omega arith) counts new)
        (record { reached = reached_first new; counted = counted_first new; lines = lines_first new })
    by_use false e =
        let used : first_of s k ≡ 0 → ⊥ = eqb-false (first_of s k) 0 e in
        let some : 0 < first_of s k = omega arith in
        rw (noted_later k x t s (omega arith) (omega arith) counts used)
        (record { reached = reached_later some; counted = later_counted some; lines = lines_later some })

    pub stepped : Stepped (noted k x t s)
    stepped = by_use (eqb (first_of s k) 0) refl
