-- Header marks in a ring of the work, and the turns of `header_bytes` in terms of the list of them.
use Prim.Native.Nat.{◌≤◌, ◌<◌}
use mathlib.Core.Path.{◌≡◌, refl, sym, ◌∙◌}
use mathlib.Core.Bool.{true, false}
use mathlib.Core.List.{List, [], ◌∷◌}
use native.Mathlib.Omega.{arith}
use lib.Ieee.{Float, le}
use Rattle.ieee.specs.Binary64.{◌⊕◌, ◌⊖◌, 0f}
use Rattle.branch.specs.declared.HeaderMark.{HeaderMark}
use Rattle.branch.specs.declared.queue.Place.{Place}
use Rattle.branch.specs.declared.queue.Ring.{Ring}
use Rattle.branch.specs.Queue.{Lies, place_of, entries, pop_def}
use Rattle.branch.specs.VideoBranch.{overlap, header_bytes, marks_left}
use Rattle.branch.specs.VideoInWork.{mark_of, mark_at, HeadersBy}
use Rattle.branch.proofs.Rings.{Local, floats_local, popped, lies_popped, no_entries_lem}

-- ---- a mark in the work

pub mark_local : Local 2 mark_at
unfolding mark_at
mark_local = floats_local 2 mark_of

-- ---- the turns of `header_bytes`

abbrev marks_of : List Float → Place → Ring → List HeaderMark
marks_of w p q = entries 2 mark_at w p q

-- the marks o are passed up to q, and their bytes are s so far
pub record Passing (w : List Float) (p : Place) (start end : Float) (o q : Ring) (s : Float) : Type 0 where
  pub lies : Lies 2 w p q
  pub left : marks_left (entries 2 mark_at w p q) end ≡ marks_left (entries 2 mark_at w p o) end
  pub sum : header_bytes (entries 2 mark_at w p q) start end s ≡ header_bytes (entries 2 mark_at w p o) start end 0f

pub pass_starts : (w : List Float) (p : Place) (start end : Float) (q : Ring) → Lies 2 w p q → Passing w p start end q q 0f
pass_starts w p start end q l = record { lies = l; left = refl; sum = refl }

module _ (w : List Float) (p : Place) (start end : Float) (o q : Ring) (s : Float) (inv : Passing w p start end o q s) where
  module _ (m : HeaderMark) (i : m ≡ mark_at w (place_of 2 p q 0)) (h : 0 < q.count) where
    first : marks_of w p q ≡ m ∷ marks_of w p (pop_def p.depth q)
    first = popped 2 mark_at w p q inv.lies h ∙ rw i

    pub pass_more : le end (m.threshold ⊖ m.bytes) ≡ false → le m.threshold end ≡ true → Passing w p start end o (pop_def p.depth q) (s ⊕ overlap m start end)
    unfolding header_bytes marks_left
    pass_more e f =
        record {
          lies = lies_popped w p q inv.lies h;
          left = simp (first, e, f) at inv.left;
          sum = simp (first, e, f) at inv.sum;
        }

    pub pass_before : le end (m.threshold ⊖ m.bytes) ≡ true → HeadersBy w p o start end (record { marks = q; bytes = s })
    unfolding header_bytes marks_left
    pass_before e =
        let l : marks_left (marks_of w p q) end ≡ marks_of w p q = rw first (simp e) in
        let b : header_bytes (marks_of w p q) start end s ≡ s = rw first (simp e) in
        record { lies = inv.lies; left = sym l ∙ inv.left; sum = sym b ∙ inv.sum }

    pub pass_within : le end (m.threshold ⊖ m.bytes) ≡ false → le m.threshold end ≡ false → HeadersBy w p o start end (record { marks = q; bytes = s ⊕ overlap m start end })
    unfolding header_bytes marks_left
    pass_within e f =
        let l : marks_left (marks_of w p q) end ≡ marks_of w p q = rw first (simp (e, f)) in
        let b : header_bytes (marks_of w p q) start end s ≡ s ⊕ overlap m start end = rw first (simp (e, f)) in
        record { lies = inv.lies; left = sym l ∙ inv.left; sum = sym b ∙ inv.sum }

  pub pass_ends : q.count ≤ 0 → HeadersBy w p o start end (record { marks = q; bytes = s })
  unfolding header_bytes marks_left
  pass_ends h =
      let n : q.count ≡ 0 = omega arith in
      let z : marks_of w p q ≡ [] = no_entries_lem 2 mark_at w p q n in
      let l : marks_left (marks_of w p q) end ≡ marks_of w p q = rw z in
      let b : header_bytes (marks_of w p q) start end s ≡ s = rw z in
      record { lies = inv.lies; left = sym l ∙ inv.left; sum = sym b ∙ inv.sum }
