-- Content does not enter the runs: two units alike but for content have the same runs, and stay alike as payloads come that are alike
-- but for content. And content is known without the bytes to come. Assumes nothing.
use mathlib.Core.Path.{◌≡◌, refl, sym, ◌∙◌, ap, ap₂, subst}
use mathlib.Core.Bool.{Bool, true, false, ◌&&◌}
use mathlib.Core.List.{List, ◌++◌, append_assoc}
use mathlib.Core.Logic.{◌⊎◌, inl, inr}
use Prim.Native.Nat.{ℕ, ◌+◌, ◌-◌, ◌<◌, ◌≤◌}
use native.Mathlib.Omega.{arith}
use lib.Dec.{ltb, leb}
use lib.ListN.{length, get_or, length-append, get_or-append, get_or-eq_default}
use borrow.Author.Tests.{le-leb, lt-leb}
use Rattle.scanner.specs.Unit.{content_begin, runs_of, Open, none, unit, runs_in, starts, next, next_open, onward, content_of}
use Rattle.std.proofs.lemmas.Bool.{cases_lt}
use Rattle.scanner.proofs.Kept.{byte_past}
use Rattle.scanner.proofs.Cuts.{Parts, parts, before_more, before_less}

-- Two open units alike but for content: the first has the bytes r yet to come.
unfoldable pub Match : Open → Open → List ℕ → Type 0
Match none none r = Unit {0}
Match none (unit v) r = ⊥
Match (unit u) none r = ⊥
Match (unit u) (unit v) r = (length u ≡ length v) × ((i : ℕ) → i < length u → i < content_begin (u ++ r) → get_or u i 0 ≡ get_or v i 0)

-- Two units of one length that agree before the content of the whole have the same runs.
unit_runs : (u v r : List ℕ) (size : ℕ) → length u ≡ length v
    → ((i : ℕ) → i < length u → i < content_begin (u ++ r) → get_or u i 0 ≡ get_or v i 0) → runs_of u size ≡ runs_of v size
unfolding runs_of
unit_runs u v r size len same = rw (len, p.stamp_end, p.content_begin, p.stamp)
  where
    all : (i : ℕ) → i < content_begin u → get_or u i 0 ≡ get_or v i 0
    all i h = go (cases_lt i (length u))
      where
        go : (i < length u) ⊎ (length u ≤ i) → get_or u i 0 ≡ get_or v i 0
        go (inl k) = same i k (before_more u r i k h)
        go (inr k) =
            let k' : length v ≤ i = omega arith in
            get_or-eq_default u 0 k ∙ sym (get_or-eq_default v 0 k')

    p : Parts u v
    p = parts u v all

-- The runs don't tell them apart.
pub match_runs : (o q : Open) (r : List ℕ) (size : ℕ) → Match o q r → runs_in o size ≡ runs_in q size
unfolding Match
match_runs none none r size m = refl
match_runs none (unit v) r size m = absurd m
match_runs (unit u) none r size m = absurd m
match_runs (unit u) (unit v) r size m = unit_runs u v r size m.0 m.1

more_same : (u v a b r : List ℕ) → length u ≡ length v → length a ≡ length b
    → ((i : ℕ) → i < length u → i < content_begin (u ++ (a ++ r)) → get_or u i 0 ≡ get_or v i 0)
    → ((i : ℕ) → i < length a → content_of (unit (u ++ a)) r (length a) i ≡ false → get_or a i 0 ≡ get_or b i 0)
    → (i : ℕ) → i < length (u ++ a) → i < content_begin ((u ++ a) ++ r) → get_or (u ++ a) i 0 ≡ get_or (v ++ b) i 0
more_same u v a b r lenu lena old new i h k = go (cases_lt i (length u))
  where
    l : length (u ++ a) ≡ length u + length a
    l = length-append u a

    go : (i < length u) ⊎ (length u ≤ i) → get_or (u ++ a) i 0 ≡ get_or (v ++ b) i 0
    go (inl j) =
        let j' : i < length v = omega arith in
        get_or-append u a 0 i j ∙ old i j (rw append_assoc at k) ∙ sym (get_or-append v b 0 i j')
    go (inr j) =
        let j' : length v ≤ i = omega arith in
        byte_past u a i j
        ∙ new (i - length u) (omega (arith, l)) (lt-leb (content_begin ((u ++ a) ++ r)) (length (u ++ a) - length a + (i - length u)) (omega (arith, l)))
        ∙ ap (λ (n : ℕ). get_or b (i - n) 0) lenu
        ∙ sym (byte_past v b i j')

-- They stay so as one payload more comes, alike but for content.
pub match_next : (o q : Open) (start : Bool) (a b r : List ℕ) → length a ≡ length b → Match o q (onward start a r)
    → ((i : ℕ) → i < length a → content_of (next o start a) r (length a) i ≡ false → get_or a i 0 ≡ get_or b i 0)
    → Match (next o start a) (next q start b) r
unfolding Match
match_next o q true a b r len m same = (len, λ i h k. same i h (lt-leb (content_begin (a ++ r)) (length a - length a + i) (omega arith)))
match_next none none false a b r len m same = tt
match_next none (unit v) false a b r len m same = absurd m
match_next (unit u) none false a b r len m same = absurd m
match_next (unit u) (unit v) false a b r len m same =
    (length-append u a ∙ ap₂ (λ (x y : ℕ). x + y) m.0 len ∙ sym (length-append v b), more_same u v a b r m.0 len m.1 same)

pub match_open : (o q : Open) (bit : Bool) (a b r : List ℕ) → length a ≡ length b → Match o q (onward (starts bit a) a r)
    → ((i : ℕ) → i < length a → content_of (next_open o bit a) r (length a) i ≡ false → get_or a i 0 ≡ get_or b i 0)
    → Match (next_open o bit a) (next_open q bit b) r
match_open o q bit a b r len m same =
    subst (λ (t : Bool). Match (next_open o bit a) (next q t b) r) (ap (λ (n : ℕ). bit && ltb 0 n) len)
    (match_next o q (starts bit a) a b r len m same)

-- Content is known without the bytes to come.
pub no_lookahead : (u r : List ℕ) (size i : ℕ) → size ≤ length u → i < size
    → content_of (unit u) r size i ≡ leb (content_begin u) (length u - size + i)
no_lookahead u r size i h k = go (cases_lt (length u - size + i) (content_begin u))
  where
    inside : length u - size + i < length u
    inside = omega arith

    go : (length u - size + i < content_begin u) ⊎ (content_begin u ≤ length u - size + i)
        → content_of (unit u) r size i ≡ leb (content_begin u) (length u - size + i)
    go (inl j) = lt-leb _ _ (before_more u r (length u - size + i) inside j) ∙ sym (lt-leb _ _ j)
    go (inr j) = le-leb _ _ (far (cases_lt (length u - size + i) (content_begin (u ++ r)))) ∙ sym (le-leb _ _ j)
      where
        far : (length u - size + i < content_begin (u ++ r)) ⊎ (content_begin (u ++ r) ≤ length u - size + i) → content_begin (u ++ r) ≤ length u - size + i
        far (inl m) = absurd (let z = before_less u r (length u - size + i) inside m in omega arith)
        far (inr m) = m
