-- The Rust's scanner, byte by byte, gives the runs of the two cuts: for a payload from each state, and for every sequence of payloads
-- in which no start bit stands on an empty one. Assumes nothing.
use Rattle.std.specs.Prelude.{None}
use mathlib.Core.Path.{◌≡◌, refl, sym, ◌∙◌, ap}
use mathlib.Core.Bool.{Bool, true, false, cond}
use mathlib.Core.List.{List, [], ◌∷◌, ◌++◌, map, append-nil}
use mathlib.Core.Logic.{◌⊎◌, inl, inr}
use Prim.Native.Nat.{ℕ, zero, suc, ◌+◌, ◌-◌, ◌<◌, ◌≤◌, min}
use native.Mathlib.Nat.{zero-add}
use native.Mathlib.Omega.{arith}
use lib.Dec.{ltb}
use lib.ListN.{length, take, drop, length-append, length-drop}
use lib.Seq.{take-append-le, drop-length}
use borrow.Author.Tests.{lt-ltb, le-ltb}
use Rattle.syntax.proofs.Bytes.{Bytes}
use Rattle.scanner.specs.declared.Fed.{Fed}
use Rattle.scanner.specs.Unit.{stamp_end, content_begin, stamp_of, runs_of, no_runs, Open, none, unit, runs_in, next, starts, next_open}
use Rattle.scanner.specs.ByteScanner.{sizing_of, ByteScanner, byte_default, Collected, collect, ByteFed, turns, byte_feed, Fragment, Feedable, byte_runs, scanned_runs}
use Rattle.scanner.specs.Classified.{ClassifiedRun, header_run, classified}
use Rattle.scanner.specs.State.{idle, scanner_of, open_of, fed_of}
use Rattle.std.proofs.lemmas.Bool.{cases_lt}
use Rattle.scanner.proofs.Cuts.{six_stamp, ordered, settled}
use Rattle.scanner.proofs.Cover.{unfinished}
use Rattle.scanner.proofs.Steps.{fed_is}
use Rattle.scanner.proofs.Collect.{sizing_at, sized_at, still_more, collect_on, collect_ends}
use Rattle.scanner.proofs.Turns.{turns_nil, one_run, pending_turns, reach_cut, behind_cut}

-- The Rust's state of a stream whose open unit has so many bytes.
unfoldable pub byte_of : Open → ByteScanner
byte_of none = byte_default
byte_of (unit u) = cond (ltb (length u) (stamp_end u)) (sizing_at 0 u) (sized_at (content_begin u - length u) (take (stamp_end u) u))

module _ (u : List ℕ) where
  byte_sizing : length u < stamp_end u → byte_of (unit u) ≡ sizing_at 0 u
  unfolding byte_of
  byte_sizing h = rw (lt-ltb (length u) (stamp_end u) h)

  byte_sized : stamp_end u ≤ length u → byte_of (unit u) ≡ sized_at (content_begin u - length u) (take (stamp_end u) u)
  unfolding byte_of
  byte_sized h = rw (le-ltb (length u) (stamp_end u) h)

-- what a payload p behind the bytes u gives
abbrev answer : List ℕ → List ℕ → ByteFed
answer u p = record { scanner = byte_of (unit (u ++ p)); runs = classified (runs_of (u ++ p) (length p)) }

module _ (u p : List ℕ) (h : Bytes (u ++ p)) where
  abbrev v : List ℕ
  v = u ++ p

  len : length v ≡ length u + length p
  len = length-append u p

  before : length v - length p ≡ length u
  before = omega (arith, len)

  -- behind the stamp's run
  sized_feed : stamp_end u ≤ length u → turns (length p) (byte_of (unit u)) 0 p ≡ answer u p
  unfolding classified runs_of
  sized_feed k =
      let s = settled u p k in
      let a : stamp_end v ≤ length u = omega (arith, s.stamp_end) in
      let r : content_begin u - length u - length p ≡ content_begin v - length v = omega (arith, s.content_begin, len) in
      let t : take (stamp_end u) u ≡ take (stamp_end v) v = sym (take-append-le (stamp_end u) u p k) ∙ ap (λ (n : ℕ). take n v) s.stamp_end in
      rw (byte_sized u k)
      (pending_turns (length p) p (content_begin u - length u) 0 (take (stamp_end u) u) (omega arith)
      ∙ rw (byte_sized v (omega (arith, len)), r, t, before, behind_cut (length u) (length p) (stamp_end v) (content_begin v) (stamp_of v) (ordered v) a, s.content_begin))

  -- before its end: the payload ends sooner, or reaches it
  abbrev turned : Collected → ℕ → ByteFed
  turned c k =
      record {
        scanner = (turns k c.scanner (0 + c.taken) (drop c.taken p)).scanner;
        runs = header_run 0 c.taken c.stamp ∷ (turns k c.scanner (0 + c.taken) (drop c.taken p)).runs;
      }

  on_feed : length v < stamp_end v → 0 < length p → (k : ℕ) → turned (collect (sizing_at 0 u) p 0) k ≡ answer u p
  unfolding classified
  on_feed a b k =
      rw (
        collect_on p u 0 0 h a,
        zero-add (length p),
        zero-add (length p),
        drop-length p,
        turns_nil k (sizing_at 0 v) (length p),
        byte_sizing v a,
        unfinished v (length p) (omega (arith, len)) a,
        one_run (header_run 0 (length p) None) b,
      )

  end_feed : length u < stamp_end v → stamp_end v ≤ length v → (k : ℕ) → length p ≤ suc k → turned (collect (sizing_at 0 u) p 0) k ≡ answer u p
  unfolding classified runs_of
  end_feed a b k l =
      let d = stamp_end v - length u in
      let n : length (drop d p) ≡ length p - d = length-drop d p in
      let r : content_begin v - stamp_end v - (length p - d) ≡ content_begin v - length v = omega (arith, ordered v, len) in
      rw (
        collect_ends p u 0 0 h a b,
        zero-add d,
        zero-add d,
        pending_turns k (drop d p) (content_begin v - stamp_end v) d (take (stamp_end v) v) (omega arith),
        n,
        r,
        byte_sized v b,
        before,
        reach_cut (length u) (length p) (stamp_end v) (content_begin v) (stamp_of v) (ordered v) a (omega (arith, len)),
        one_run (header_run 0 d (stamp_of v)) (omega arith),
      )

-- an empty payload has no runs
pub no_bytes : (v : List ℕ) → runs_of v 0 ≡ no_runs
unfolding runs_of
no_bytes v = go (cases_lt (length v) (stamp_end v))
  where
    go : (length v < stamp_end v) ⊎ (stamp_end v ≤ length v) → runs_of v 0 ≡ no_runs
    go (inl k) = unfinished v 0 (omega arith) k
    go (inr k) =
        let z : min (content_begin v - (length v - 0)) 0 ≡ 0 = omega arith in
        behind_cut (length v - 0) 0 (stamp_end v) (content_begin v) (stamp_of v) (ordered v) (omega arith) ∙ rw z

sizing_feed : (u p : List ℕ) → Bytes (u ++ p) → length u < stamp_end u → turns (length p) (sizing_at 0 u) 0 p ≡ answer u p
unfolding turns classified
sizing_feed u [] h j = rw (append-nil u, byte_sizing u j, no_bytes u)
sizing_feed u (b ∷ p) h j = go (cases_lt (length (u ++ (b ∷ p))) (stamp_end (u ++ (b ∷ p))))
  where
    go : (length (u ++ (b ∷ p)) < stamp_end (u ++ (b ∷ p))) ⊎ (stamp_end (u ++ (b ∷ p)) ≤ length (u ++ (b ∷ p)))
        → turned u (b ∷ p) h (collect (sizing_at 0 u) (b ∷ p) 0) (length p) ≡ answer u (b ∷ p)
    go (inl k) = on_feed u (b ∷ p) h k (omega arith) (length p)
    go (inr k) = end_feed u (b ∷ p) h (still_more u (b ∷ p) j) k (length p) (omega arith)

unit_feed : (u p : List ℕ) → Bytes (u ++ p) → turns (length p) (byte_of (unit u)) 0 p ≡ answer u p
unit_feed u p h = go (cases_lt (length u) (stamp_end u))
  where
    go : (length u < stamp_end u) ⊎ (stamp_end u ≤ length u) → turns (length p) (byte_of (unit u)) 0 p ≡ answer u p
    go (inl k) = rw (byte_sizing u k) (sizing_feed u p h k)
    go (inr k) = sized_feed u p h k

-- bytes of a stream's open unit
unfoldable pub BytesIn : Open → Type 0
BytesIn none = Unit {0}
BytesIn (unit u) = Bytes u

bytes_append : (u p : List ℕ) → Bytes u → Bytes p → Bytes (u ++ p)
bytes_append [] p h k i = k i
bytes_append (b ∷ u) p h k zero = h 0
bytes_append (b ∷ u) p h k (suc i) = bytes_append u p (λ j. h (suc j)) k i

bytes_next : (o : Open) (t : Bool) (p : List ℕ) → BytesIn o → Bytes p → BytesIn (next o t p)
unfolding BytesIn
bytes_next o true p h k = k
bytes_next none false p h k = tt
bytes_next (unit u) false p h k = bytes_append u p h k

byte_started : (u : List ℕ) → (byte_of (unit u)).started ≡ true
unfolding byte_of
byte_started u = go (ltb (length u) (stamp_end u))
  where
    go : (t : Bool) → (cond t (sizing_at 0 u) (sized_at (content_begin u - length u) (take (stamp_end u) u))).started ≡ true
    go true = refl
    go false = refl

-- what the Rust's scanner answers with the open unit o behind the payload
abbrev byte_answer : Open → ℕ → ByteFed
byte_answer o size = record { scanner = byte_of o; runs = classified (runs_in o size) }

none_step : (p : List ℕ) → byte_feed (byte_of none) false p ≡ byte_answer none (length p)
unfolding byte_feed byte_of classified
none_step p = refl

-- One payload: from the Rust's state of an open unit, the Rust's steps give the runs of the cuts and the state of the next open unit.
-- A start bit must stand on a nonempty payload.
pub byte_step : (o : Open) (bit : Bool) (p : List ℕ) → BytesIn o → Bytes p → (bit ≡ true → 0 < length p)
    → byte_feed (byte_of o) bit p ≡ byte_answer (next_open o bit p) (length p)
unfolding byte_feed BytesIn
byte_step o true p h k n =
    rw (lt-ltb 0 (length p) (n refl))
    (ap (λ (s : ByteScanner). turns (length p) s 0 p) (sym (byte_sizing [] (omega (arith, six_stamp [])))) ∙ unit_feed [] p k)
byte_step none false p h k n = none_step p
byte_step (unit u) false p h k n =
    ap (λ (t : Bool). cond t (turns (length p) (byte_of (unit u)) 0 p) (record { scanner = byte_of (unit u); runs = [] })) (byte_started u)
    ∙ unit_feed u p (bytes_append u p h k)

same_from : (o : Open) (fs : List Fragment) → BytesIn o → Feedable fs → byte_runs (byte_of o) fs ≡ map classified (scanned_runs (scanner_of o) fs)
unfolding byte_runs scanned_runs Feedable fed_of
same_from o [] h k = refl
same_from o (f ∷ fs) h k =
    let n = next_open o f.start f.bytes in
    ap (λ (a : ByteFed). a.runs ∷ byte_runs a.scanner fs) (byte_step o f.start f.bytes h k.0 k.1)
    ∙ ap (λ (l : List (List ClassifiedRun)). classified (runs_in n (length f.bytes)) ∷ l)
    (same_from n fs (bytes_next o (starts f.start f.bytes) f.bytes h k.0) k.2)
    ∙ sym (ap (λ (z : Fed). classified z.runs ∷ map classified (scanned_runs z.scanner fs)) (fed_is o f.start f.bytes))

-- For every such sequence the Rust's scanner and ours give the same runs.
pub same_runs : (fs : List Fragment) → Feedable fs → byte_runs byte_default fs ≡ map classified (scanned_runs idle fs)
unfolding BytesIn byte_of scanner_of
same_runs fs k = same_from none fs tt k

-- The one difference, which the replay never feeds: a start bit on an empty payload starts the Rust's scanner, and not ours.
abbrev empty_start : List Fragment
empty_start = record { start = true; bytes = [] } ∷ record { start = false; bytes = 0 ∷ [] } ∷ []

pub rust_starts : byte_runs byte_default empty_start ≡ [] ∷ (header_run 0 1 None ∷ []) ∷ []
unfolding byte_runs byte_feed turns collect sizing_of
rust_starts = refl

pub ours_does_not : scanned_runs idle empty_start ≡ no_runs ∷ no_runs ∷ []
unfolding scanned_runs idle open_of fed_of scanner_of
ours_does_not = refl
