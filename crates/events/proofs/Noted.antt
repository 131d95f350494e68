-- Laws of the slots: what one event does by the tests that led to it, and the events of two lists one after the other.
use Prim.Native.Nat.{ℕ, ◌+◌, ◌≤◌, ◌<◌, min}
use mathlib.Core.Path.{◌≡◌, refl, sym, ◌∙◌}
use mathlib.Core.Bool.{Bool, true, false}
use mathlib.Core.List.{List, [], ◌∷◌, ◌++◌}
use native.Mathlib.Nat.{min-eq_left, le-min}
use native.Mathlib.Omega.{arith}
use Rattle.std.specs.Prelude.{ltb}
use lib.ListN.{get_or}
use lib.Ieee.{Float}
use borrow.Author.Tests.{lt-ltb, ltb-true, ltb-false, le-ltb, eq-eqb, ne_eqb}
use Rattle.events.specs.declared.Event.{Event}
use Rattle.events.specs.Event.{when, kind_of, figure_of, decode_of}
use Rattle.events.specs.declared.Slots.{Slots}
use Rattle.events.specs.Slots.{writable, first_in_slot, later_in_slot, noted, noted_all}

-- the events of two lists
pub noted_all_append_lem : (k : ℕ) (es fs : List Event) (s : Slots) → noted_all k (es ++ fs) s ≡ noted_all k fs (noted_all k es s)
unfolding noted_all
noted_all_append_lem k [] fs s = refl
noted_all_append_lem k (e ∷ es) fs s = noted_all_append_lem k es fs (noted (k + kind_of e) (figure_of e) (decode_of e) s)

module _ (k : ℕ) (figure decode : Float) (s : Slots) where
  -- no such slot, or no count left
  pub noted_none : k ≡ 0 → noted k figure decode s ≡ s
  unfolding noted writable
  noted_none e = simp (le-ltb 0 k (omega arith))

  pub noted_past : 63 < k → noted k figure decode s ≡ s
  unfolding noted writable
  noted_past h = simp (lt-ltb 0 k (omega arith), le-ltb k 64 h)

  module _ (low : k ≡ 0 → ⊥) (high : k ≤ 63) where
    pub noted_end : 18446744073709551615 ≤ s.events → noted k figure decode s ≡ s
    unfolding noted writable
    noted_end h = simp (lt-ltb 0 k (omega arith), lt-ltb k 64 (omega arith), le-ltb s.events 18446744073709551615 h)

    module _ (counts : s.events < 18446744073709551615) where
      pub noted_first : get_or s.firsts k 0 ≡ 0 → noted k figure decode s ≡ first_in_slot k figure decode (s.events + 1) s
      unfolding noted writable
      noted_first z =
          simp (lt-ltb 0 k (omega arith), lt-ltb k 64 (omega arith), lt-ltb s.events 18446744073709551615 counts, eq-eqb (get_or s.firsts k 0) 0 z)

      pub noted_later : (get_or s.firsts k 0 ≡ 0 → ⊥) → noted k figure decode s ≡ later_in_slot k figure (s.events + 1) s
      unfolding noted writable
      noted_later z =
          simp (lt-ltb 0 k (omega arith), lt-ltb k 64 (omega arith), lt-ltb s.events 18446744073709551615 counts, ne_eqb (get_or s.firsts k 0) 0 z)

-- the number of a slot, held to the end of its type
noted_capped : (n : ℕ) (figure decode : Float) (s : Slots) → noted (min n 18446744073709551615) figure decode s ≡ noted n figure decode s
noted_capped n figure decode s = by_low (ltb n 64) refl
  where
    by_low : (b : Bool) → ltb n 64 ≡ b → noted (min n 18446744073709551615) figure decode s ≡ noted n figure decode s
    by_low true e = let h = ltb-true n 64 e in let z : min n 18446744073709551615 ≡ n = min-eq_left (omega arith) in rw z
    by_low false e =
        let h = ltb-false n 64 e in
        let l : 64 ≤ min n 18446744073709551615 = le-min h (omega arith) in
        noted_past (min n 18446744073709551615) figure decode s (omega arith) ∙ sym (noted_past n figure decode s (omega arith))

-- an event that was found, in the slot of its kind
pub noted_when_lem : (k m : ℕ) (e : Event) (s : Slots) → m ≡ min (k + kind_of e) 18446744073709551615 → noted m (figure_of e) (decode_of e) s ≡ noted_all k (when true e) s
unfolding noted_all
noted_when_lem k m e s h = rw h (noted_capped (k + kind_of e) (figure_of e) (decode_of e) s)
