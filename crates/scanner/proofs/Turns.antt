-- The outer loop of the Rust's scanner behind the stamp's run, and the cuts' runs in the same cases.
-- Assumes nothing.
use Rattle.std.specs.Prelude.{Option, None}
use mathlib.Core.Path.{◌≡◌, refl, sym, ◌∙◌, ap}
use mathlib.Core.List.{List, [], ◌∷◌, ◌++◌}
use mathlib.Core.Logic.{◌⊎◌, inl, inr}
use Prim.Native.Nat.{ℕ, zero, suc, ◌+◌, ◌-◌, ◌<◌, ◌≤◌, min}
use native.Mathlib.Nat.{add-zero}
use native.Mathlib.Omega.{arith}
use lib.ListN.{length, drop, length-drop}
use lib.Seq.{drop-length}
use borrow.Author.Tests.{lt-ltb, le-ltb, le-leb}
use Rattle.scanner.specs.Unit.{cut}
use Rattle.scanner.specs.ByteScanner.{ByteScanner, ByteFed, turns}
use Rattle.scanner.specs.Classified.{ClassifiedRun, header_run, payload_run, some_run}
use Rattle.std.proofs.lemmas.Bool.{cases_lt}
use Rattle.scanner.proofs.Collect.{sized_at}

-- The outer loop: nothing is left; content is left; or q bytes of the header are pending.
pub turns_nil : (k : ℕ) (s : ByteScanner) (pos : ℕ) → turns k s pos [] ≡ record { scanner = s; runs = [] }
unfolding turns
turns_nil zero s pos = refl
turns_nil (suc k) s pos = refl

no_run : (r : ClassifiedRun) → r.len ≡ 0 → some_run r ≡ []
no_run r e = rw e

pub one_run : (r : ClassifiedRun) → 0 < r.len → some_run r ≡ r ∷ []
one_run r h = rw (lt-ltb 0 r.len h)

payload_turns : (k : ℕ) (p : List ℕ) (pos : ℕ) (buf : List ℕ) → length p ≤ k
    → turns k (sized_at 0 buf) pos p ≡ record { scanner = sized_at 0 buf; runs = some_run (payload_run pos (length p)) }
unfolding turns
payload_turns k [] pos buf h = turns_nil k (sized_at 0 buf) pos
payload_turns zero (b ∷ p) pos buf h = absurd (omega arith)
payload_turns (suc k) (b ∷ p) pos buf h =
    rw (turns_nil k (sized_at 0 buf) (pos + suc (length p)), one_run (payload_run pos (suc (length p))) (omega arith))

-- the runs and the state at p with q bytes of the header pending
abbrev pub pending_at : ℕ → ℕ → List ℕ → ℕ → ByteFed
pending_at q pos buf l =
    record {
      scanner = sized_at (q - l) buf;
      runs = some_run (header_run pos (min q l) None) ++ some_run (payload_run (pos + min q l) (l - min q l));
    }

none_pending : (q pos l : ℕ) (buf : List ℕ) → q ≡ 0 → record { scanner = sized_at q buf; runs = some_run (payload_run pos l) } ≡ pending_at q pos buf l
none_pending q pos l buf e =
    let a : min 0 l ≡ 0 = omega arith in
    let d : 0 - l ≡ 0 = omega arith in
    let c : l - 0 ≡ l = omega arith in
    rw (e, a, d, c, add-zero pos)

-- the header goes on behind the payload, or ends in it
module _ (k q pos : ℕ) (p buf : List ℕ) (pos-q : 0 < q) where
  abbrev rests : ByteFed
  rests = turns k (sized_at (q - min q (length p)) buf) (pos + min q (length p)) (drop (min q (length p)) p)

  abbrev goal : Type 0
  goal = record { scanner = rests.scanner; runs = header_run pos (min q (length p)) None ∷ rests.runs } ≡ pending_at q pos buf (length p)

  goes_on : 0 < length p → length p ≤ q → goal
  goes_on h l =
      let m : min q (length p) ≡ length p = omega arith in
      let z : length p - length p ≡ 0 = omega arith in
      rw (
        m,
        drop-length p,
        turns_nil k (sized_at (q - length p) buf) (pos + length p),
        z,
        one_run (header_run pos (length p) None) h,
      )

  ends_in : q < length p → length p - q ≤ k → goal
  ends_in l h =
      let m : min q (length p) ≡ q = omega arith in
      let z : q - q ≡ 0 = omega arith in
      let d : q - length p ≡ 0 = omega arith in
      let n : length (drop q p) ≡ length p - q = length-drop q p in
      rw (
        m,
        z,
        payload_turns k (drop q p) (pos + q) buf (omega arith),
        n,
        d,
        one_run (header_run pos q None) pos-q,
      )

some_pending : (k : ℕ) (p : List ℕ) (q pos : ℕ) (buf : List ℕ) → length p ≤ k → 0 < q
    → turns k (sized_at q buf) pos p ≡ pending_at q pos buf (length p)
unfolding turns
some_pending k [] q pos buf h j =
    let m : min q 0 ≡ 0 = omega arith in
    let z : q - 0 ≡ q = omega arith in
    turns_nil k (sized_at q buf) pos ∙ rw (m, z)
some_pending zero (b ∷ p) q pos buf h j = absurd (omega arith)
some_pending (suc k) (b ∷ p) q pos buf h j = rw (lt-ltb 0 q j) (go (cases_lt q (length (b ∷ p))))
  where
    go : (q < length (b ∷ p)) ⊎ (length (b ∷ p) ≤ q) → goal k q pos (b ∷ p) buf j
    go (inl l) = ends_in k q pos (b ∷ p) buf j l (omega arith)
    go (inr l) = goes_on k q pos (b ∷ p) buf j (omega arith) l

pub pending_turns : (k : ℕ) (p : List ℕ) (q pos : ℕ) (buf : List ℕ) → length p ≤ k
    → turns k (sized_at q buf) pos p ≡ pending_at q pos buf (length p)
pending_turns k p q pos buf h = go (cases_lt 0 q)
  where
    go : (0 < q) ⊎ (q ≤ 0) → turns k (sized_at q buf) pos p ≡ pending_at q pos buf (length p)
    go (inl j) = some_pending k p q pos buf h j
    go (inr j) =
        let e : q ≡ 0 = omega arith in
        ap (λ (x : ℕ). turns k (sized_at x buf) pos p) e
        ∙ payload_turns k p pos buf h
        ∙ none_pending 0 pos (length p) buf refl
        ∙ ap (λ (x : ℕ). pending_at x pos buf (length p)) (sym e)

rest_from : (size d e : ℕ) → d ≤ size → min size (d + e) - d ≡ min e (size - d)
rest_from size d e h = omega arith

body_from : (size d e : ℕ) → d ≤ size → size - min size (d + e) ≡ size - d - min e (size - d)
body_from size d e h = omega arith

-- The two cuts' runs at a payload that reaches the stamp's end, and at one behind it.
module _ (n size s t : ℕ) (x : Option ℕ) (o : s ≤ t) where
  pub reach_cut : n < s → s ≤ n + size
      → cut n size s t x
      ≡ record {
        head = s - n;
        decode_ts = x;
        rest = min (t - s) (size - (s - n));
        body = size - (s - n) - min (t - s) (size - (s - n));
      }
  unfolding cut
  reach_cut h k =
      let a : min size (s - n) ≡ s - n = omega arith in
      let b : t - n ≡ s - n + (t - s) = omega arith in
      let c : s - n ≤ size = omega arith in
      rw (a, b, rest_from size (s - n) (t - s) c, body_from size (s - n) (t - s) c, lt-ltb n s h, le-leb s (n + size) k)

  pub behind_cut : s ≤ n → cut n size s t x ≡ record { head = 0; decode_ts = None; rest = min (t - n) size; body = size - min (t - n) size }
  unfolding cut
  behind_cut h =
      let a : min size (s - n) ≡ 0 = omega arith in
      let b : min size (t - n) ≡ min (t - n) size = omega arith in
      let c : min (t - n) size - 0 ≡ min (t - n) size = omega arith in
      rw (a, b, c, le-ltb n s h)
