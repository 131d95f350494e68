-- Laws of `Written` and `Appends`: two texts written one behind the other are one text, and a text written from the start of a list
-- fills it. Assumes nothing.
use mathlib.Core.Path.{◌≡◌, refl, sym, ap, ◌∙◌, subst}
use mathlib.Core.List.{List, [], ◌∷◌, ◌++◌}
use Prim.Native.Nat.{ℕ, suc, ◌+◌, ◌≤◌, ◌<◌, min}
use native.Mathlib.Nat.{add-zero, add-suc, suc-add, min-eq_left, lt_of_not-le}
use native.Mathlib.Decide.{dec_le}
use native.Mathlib.Omega.{arith}
use lib.ListN.{length, take, drop, get_or, set, length-append, length-set}
use lib.Seq.{sets, length-sets, set_out, drop-nil, take-suc, take_all, take-append_seam}
use native.Mathlib.Numerals.{add-one}
use Rattle.lines.specs.declared.text.Text.{Text}
use Rattle.lines.specs.Written.{Written, filled, Appends}

sets_append : (l : List ℕ) (i : ℕ) (a b : List ℕ) → sets l i (a ++ b) ≡ sets (sets l i a) (i + length a) b
sets_append l i [] b = ap (λ (k : ℕ). sets l k b) (sym (add-zero i))
sets_append l i (x ∷ a) b =
    sets_append (set l i x) (suc i) a b ∙ ap (λ (k : ℕ). sets (sets (set l i x) (suc i) a) k b) (suc-add i (length a) ∙ sym (add-suc i (length a)))

-- from the end on nothing is stored
sets_past : (l : List ℕ) (i : ℕ) (a : List ℕ) → length l ≤ i → sets l i a ≡ l
sets_past l i [] h = refl
sets_past l i (x ∷ a) h = sets_past (set l i x) (suc i) a (simp length-set (omega arith)) ∙ set_out l i x h

-- a place past the end, or the end itself
sets_place_by : (l : List ℕ) (i : ℕ) (a : List ℕ) → Dec (i ≤ length l) → sets l (min i (length l)) a ≡ sets l i a
sets_place_by l i a (yes h) = ap (λ (k : ℕ). sets l k a) (min-eq_left h)
sets_place_by l i a (no n) = let h : length l < i = lt_of_not-le n in sets_past l (min i (length l)) a (omega arith) ∙ sym (sets_past l i a (omega arith))

sets_place : (l : List ℕ) (i : ℕ) (a : List ℕ) → sets l (min i (length l)) a ≡ sets l i a
sets_place l i a = sets_place_by l i a (dec_le _ _)

sets_cons : (x : ℕ) (xs : List ℕ) (i : ℕ) (a : List ℕ) → sets (x ∷ xs) (suc i) a ≡ x ∷ sets xs i a
sets_cons x xs i [] = refl
sets_cons x xs i (b ∷ a) = sets_cons x (set xs i b) (suc i) a

from_start : (l t : List ℕ) → sets l 0 t ≡ take (length l) t ++ drop (length t) l
from_start [] t = sets_past [] 0 t (omega arith) ∙ sym (drop-nil (length t))
from_start (x ∷ xs) [] = refl
from_start (x ∷ xs) (b ∷ t) = sets_cons b xs 0 t ∙ ap (λ (l : List ℕ). b ∷ l) (from_start xs t)

fills : {most next : ℕ} (t out after : List ℕ) → Written most t out 0 after next → (next ≡ min (length t) (length out)) × (after ≡ filled out t) × (length t ≤ most)
unfolding filled
fills t out after w = (omega (arith, w.place), w.bytes ∙ from_start out t, w.short)

-- the text is all there where it has room
pub whole : (t out : List ℕ) → length t ≤ length out → take (length t) (filled out t) ≡ t
unfolding filled
whole t out h = rw (take_all (length out) t h) (take-append_seam t (drop (length t) out))

-- one text behind the other
module _ {m at next₁ : ℕ} {a out out₁ : List ℕ} (v : Written m a out at out₁ next₁) where
  kept_length : length out₁ ≡ length out
  kept_length = ap length v.bytes ∙ length-sets out at a

  written_behind : {n next₂ : ℕ} {b out₂ : List ℕ} → Written n b out₁ next₁ out₂ next₂ → Written (m + n) (a ++ b) out at out₂ next₂
  written_behind {b = b} w =
      record {
        short = simp length-append (omega (arith, v.short, w.short));
        bytes =
            w.bytes
            ∙ ap (λ (k : ℕ). sets out₁ k b) (v.place ∙ ap (λ (n : ℕ). min (at + length a) n) (sym kept_length))
            ∙ sets_place out₁ (at + length a) b
            ∙ ap (λ (l : List ℕ). sets l (at + length a) b) v.bytes
            ∙ sym (sets_append out at a b);
        place = simp length-append (omega (arith, v.place, w.place, kept_length));
      }

-- ---- of the memory that a text holds
pub nothing : (x : Text) → Appends 0 [] x x
nothing x = record { written = record { short = omega arith; bytes = refl; place = omega (arith, x.within) }; same_reference = refl }

module _ {m : ℕ} {a : List ℕ} {x y : Text} (v : Appends m a x y) where
  -- another bound, and the same text told otherwise
  pub no_longer : (n : ℕ) → length a ≤ n → Appends n a x y
  no_longer n h = record { written = record { short = h; bytes = v.written.bytes; place = v.written.place }; same_reference = v.same_reference }

  pub same_text : {b : List ℕ} → a ≡ b → Appends m b x y
  same_text e = subst (λ (t : List ℕ). Appends m t x y) e v

  pub behind : {n : ℕ} {b : List ℕ} {z : Text} → Appends n b y z → Appends (m + n) (a ++ b) x z
  behind w = record { written = written_behind v.written w.written; same_reference = w.same_reference ∙ v.same_reference }

-- what is left where the memory comes back, when it was written from its start on
pub left : {most : ℕ} {t after : List ℕ} {x y : Text} → x.at ≡ 0 → Appends most t x y → after ≡ y.out.now
    → (y.at ≡ min (length t) (length x.out.now)) × (after ≡ filled x.out.now t) × (length t ≤ most)
left {most} {t} {x = x} {y = y} start v back =
    let w = fills t x.out.now y.out.now (subst (λ (i : ℕ). Written most t x.out.now i y.out.now y.at) start v.written) in
    (w.0, back ∙ w.1, w.2)

-- a text byte by byte
module _ (text : List ℕ) (i : ℕ) {x y : Text} (v : Appends i (take i text) x y) where
  pub next_byte : {z : Text} → i < length text → Appends 1 (get_or text i 0 ∷ []) y z → Appends (i + 1) (take (i + 1) text) x z
  next_byte h w = same_text (behind v w) (sym (ap (λ (k : ℕ). take k text) (add-one i) ∙ take-suc text i 0 h))

  pub whole_text : i ≡ length text → Appends (length text) text x y
  whole_text e = no_longer (same_text v (take_all i text (omega arith))) (length text) (omega arith)
