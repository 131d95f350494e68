-- A loop that stores the words of each element of a list, one element after the other. Assumes nothing.
use Prim.Native.Nat.{ℕ, suc, ◌+◌, ◌*◌, ◌≤◌, ◌<◌}
use mathlib.Core.Path.{◌≡◌, refl, sym, ap, ◌∙◌}
use mathlib.Core.List.{List, [], ◌∷◌, ◌++◌, flat_map, append-nil, append_assoc}
use borrow.Rule.Slice.PartMut.{put_mid}
use native.Mathlib.Nat.{add-zero, mul-zero, mul-suc, add_assoc}
use native.Mathlib.Omega.{arith}
use native.Mathlib.Numerals.{add-one}
use lib.ListN.{length, take, drop, get_or, set, length-append, length-drop, take-append-drop}
use lib.Seq.{sets, length-take-le, take-suc, take_at, drop-append-add, drop-drop}

module _ {A : Type 0} (f : A → List ℕ) where
  flat_append : (xs ys : List A) → flat_map f (xs ++ ys) ≡ flat_map f xs ++ flat_map f ys
  unfolding flat_map
  flat_append [] ys = refl
  flat_append (x ∷ xs) ys = rw (flat_append xs ys, append_assoc (f x) (flat_map f xs) (flat_map f ys))

  flat_one : (x : A) → flat_map f (x ∷ []) ≡ f x
  unfolding flat_map
  flat_one x = append-nil (f x)

  flat_next : (l : List A) (i : ℕ) (d : A) → i < length l → flat_map f (take (i + 1) l) ≡ flat_map f (take i l) ++ f (get_or l i d)
  flat_next l i d h = rw (add-one, take-suc l i d h, flat_append (take i l) (get_or l i d ∷ []), flat_one)

  pub flat_length : (w : ℕ) → ((a : A) → length (f a) ≡ w) → (l : List A) → length (flat_map f l) ≡ w * length l
  unfolding flat_map
  flat_length w sized [] = sym (mul-zero w)
  flat_length w sized (x ∷ l) =
      let more = flat_length w sized l in
      omega (arith, length-append (f x) (flat_map f l), sized x, more, mul-suc w (length l))

-- the words of the first i elements of l stand from base on, w words each; the others are as they were before
pub record Written {A : Type 0} (f : A → List ℕ) (w base : ℕ) (l : List A) (before ws : List ℕ) (i : ℕ) : Type 0 where
  pub size : length ws ≡ length before
  pub done : ws ≡ take base before ++ flat_map f (take i l) ++ drop (base + w * i) before

module _ {A : Type 0} (f : A → List ℕ) (w base : ℕ) (sized : (a : A) → length (f a) ≡ w) (l : List A) (before : List ℕ) where
  pub written_none : Written f w base l before before 0
  unfolding flat_map
  written_none =
      record {
        size = refl;
        done = sym (rw (mul-zero w, add-zero base, append-nil (take base before)) (take-append-drop base before));
      }

  module _ (ws : List ℕ) (i : ℕ) (d : A) (h : i < length l) (room : base + w * i + w ≤ length before) (p : Written f w base l before ws i) where
    abbrev front : List ℕ
    front = take base before ++ flat_map f (take i l)

    abbrev at : ℕ
    at = base + w * i

    front_length : length front ≡ at
    front_length =
        length-append (take base before) (flat_map f (take i l))
        ∙ rw (length-take-le base before (omega arith), flat_length f w sized (take i l), length-take-le i l (omega arith))

    front_kept : take at ws ≡ front
    front_kept = rw p.done (take_at front (drop at before) at front_length)

    pub written_next : (at′ k : ℕ) (v : List ℕ) → at′ ≡ at → k ≡ w → v ≡ f (get_or l i d) → Written f w base l before (put_mid at′ k ws v) (i + 1)
    written_next at′ k v e n is =
        let next : base + w * (i + 1) ≡ at + w = rw (add-one i, mul-suc w i) (sym (add_assoc base (w * i) w)) in
        let behind : drop w (drop at ws) ≡ drop (at + w) before =
        drop-drop w at ws
        ∙ rw p.done
        (ap (λ (n : ℕ). drop (n + w) (front ++ drop at before)) (sym front_length)
        ∙ drop-append-add front (drop at before) w
        ∙ drop-drop w at before) in
        let front_size : length (take at ws) ≡ at = length-take-le at ws (omega (arith, p.size)) in
        let size : length (f (get_or l i d)) ≡ w = sized (get_or l i d) in
        record {
          size = rw (e, n, is) (simp (length-append, length-drop) (omega (arith, p.size)));
          done =
              rw (e, n, is, front_kept, behind, next, flat_next f l i d h, ← append_assoc (take base before) (flat_map f (take i l)) (f (get_or l i d)))
              (sym (append_assoc front (f (get_or l i d)) (drop (at + w) before)));
        }

-- ---- stores at the words behind a place
module _ (l : List ℕ) (at : ℕ) where
  one : at + 1 ≡ suc at
  one = omega arith

  two : at + 2 ≡ suc (suc at)
  two = omega arith

  three : at + 3 ≡ suc (suc (suc at))
  three = omega arith

  four : at + 4 ≡ suc (suc (suc (suc at)))
  four = omega arith

  pub sets_five : (a b c d e : ℕ) → set (set (set (set (set l at a) (at + 1) b) (at + 2) c) (at + 3) d) (at + 4) e ≡ sets l at (a ∷ b ∷ c ∷ d ∷ e ∷ [])
  sets_five a b c d e = rw (one, two, three, four)
