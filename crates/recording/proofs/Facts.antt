-- What a loop over the packets of a recording needs: the facts one packet further on, and the scanners' states as the open units.
-- Assumes nothing.
use Prim.Native.Nat.{ℕ, zero, suc, ◌+◌, ◌-◌, ◌<◌, min}
use mathlib.Core.Path.{◌≡◌, refl, sym, ◌∙◌, ap, ap₂}
use mathlib.Core.List.{List, [], ◌∷◌, ◌++◌}
use mathlib.Core.Bool.{Bool, true, false, cond, ◌&&◌}
use native.Mathlib.Omega.{arith}
use native.Mathlib.Nat.{add-zero, zero-add, suc-add}
use lib.ListN.{length, get_or}
use lib.Dec.{ltb, leb, eqb}
use borrow.Author.Tests.{eq-eqb, ne_eqb, lt-leb, ltb-true}
use Rattle.std.proofs.lemmas.List.{nil_from_length}
use Rattle.std.specs.Prelude.{Option, Some, None, Result, Ok}
use Rattle.packet.specs.declared.TsPacket.{TsPacket}
use Rattle.packet.specs.declared.TsError.{TsError}
use Rattle.packet.specs.declared.TsPacketLayout.{TsPacketLayout}
use Rattle.packet.specs.Packet.{parse_of}
use Rattle.packet.specs.Layout.{layout_of}
use Rattle.scanner.specs.declared.PesScanner.{PesScanner}
use Rattle.scanner.specs.declared.Fed.{Fed}
use Rattle.scanner.specs.Unit.{Open, none, unit, next_open, runs_in, runs_of, stamp_end, content_begin, stamp_of, cut, no_runs}
use Rattle.scanner.specs.State.{idle, scanner_of, open_of, fed_of}
use Rattle.scanner.proofs.Steps.{fed_runs, fed_scanner, new_is}
use Rattle.scanner.proofs.Cover.{empty_keeps}
use Rattle.recording.specs.Read.{Streams, is_stream, Fact, unparsed, parsed, packets, packet_at, payload_in, open_behind, fact_by, opens_at, fact_at, facts_from, read_at, read_by, read_of, folded}

-- What is read, by its parts.
module _ (s : Streams) (l : List ℕ) where
  pub read_found : (y : TsPacketLayout) → layout_of l ≡ Some y → read_of s l ≡ read_at y s l
  unfolding read_by
  read_found y is = rw is

  pub read_nothing : layout_of l ≡ None → read_of s l ≡ record { size = length l; layout = None; facts = [] }
  unfolding read_by
  read_nothing is = rw is

module _ (y : TsPacketLayout) (s : Streams) (l : List ℕ) where
  pub read_parts : read_at y s l ≡ record { size = length l; layout = Some y; facts = facts_from y s l 0 (packets y l) }
  unfolding read_at
  read_parts = refl

  pub facts_length : (k n : ℕ) → length (facts_from y s l k n) ≡ n
  facts_length k zero = refl
  facts_length k (suc n) = ap suc (facts_length (suc k) n)

  pub fact_nth : (k n i : ℕ) → i < n → get_or (facts_from y s l k n) i unparsed ≡ fact_at y s l (k + i)
  fact_nth k zero i h = absurd (omega arith)
  fact_nth k (suc n) zero h = ap (fact_at y s l) (sym (add-zero k))
  fact_nth k (suc n) (suc i) h = fact_nth (suc k) n i (omega arith) ∙ ap (fact_at y s l) (let e : suc k + i ≡ k + suc i = omega arith in e)

  -- the facts of m + n packets are those of m and then those of n
  pub facts_append : (k m n : ℕ) → facts_from y s l k (m + n) ≡ facts_from y s l k m ++ facts_from y s l (k + m) n
  facts_append k zero n = rw (add-zero k, zero-add n)
  facts_append k (suc m) n =
      let e : suc k + m ≡ k + suc m = omega arith in
      rw (suc-add m n)
      (ap (λ (fs : List Fact). fact_at y s l k ∷ fs) (facts_append (suc k) m n ∙ ap (λ (i : ℕ). facts_from y s l (suc k) m ++ facts_from y s l i n) e))

  -- a fold over one packet more is its step by that packet's fact
  pub folded_more : {A : Type 0} (step : A → Fact → A) (a : A) (k n : ℕ)
      → folded step a (facts_from y s l k (suc n)) ≡ step (folded step a (facts_from y s l k n)) (fact_at y s l (k + n))
  folded_more step a k zero = ap (λ (i : ℕ). step a (fact_at y s l i)) (sym (add-zero k))
  folded_more step a k (suc n) =
      let e : suc k + n ≡ k + suc n = omega arith in
      folded_more step (step a (fact_at y s l k)) (suc k) n
      ∙ ap (λ (i : ℕ). step (folded step a (facts_from y s l k (suc n))) (fact_at y s l i)) e

  pub folded_next : {A : Type 0} (step : A → Fact → A) (a : A) (k : ℕ)
      → folded step a (facts_from y s l 0 (suc k)) ≡ step (folded step a (facts_from y s l 0 k)) (fact_at y s l k)
  folded_next step a k = folded_more step a 0 k ∙ ap (λ (i : ℕ). step (folded step a (facts_from y s l 0 k)) (fact_at y s l i)) (zero-add k)

-- The facts depend on the packets' 188 bytes alone: where these are the same of two recordings, so are they, whatever the layouts.
module _ (y z : TsPacketLayout) (a b : List ℕ) where
  opens_by_packets : (k x : ℕ) → ((i : ℕ) → i < k → packet_at y a i ≡ packet_at z b i) → opens_at y a k x ≡ opens_at z b k x
  opens_by_packets zero x same = refl
  opens_by_packets (suc k) x same =
      ap₂ (λ (o : Open) (w : List ℕ). open_behind x o w (parse_of w)) (opens_by_packets k x (λ i h. same i (omega arith))) (same k (omega arith))

  pub facts_by_packets : (s : Streams) (k n : ℕ) → ((i : ℕ) → i < k + n → packet_at y a i ≡ packet_at z b i) → facts_from y s a k n ≡ facts_from z s b k n
  facts_by_packets s k zero same = refl
  facts_by_packets s k (suc n) same = ap₂ (λ (f : Fact) (fs : List Fact). f ∷ fs) one (facts_by_packets s (suc k) n (λ i h. same i (omega arith)))
    where
      one : fact_at y s a k ≡ fact_at z s b k
      one = λ j.
          fact_by s (λ (x : ℕ). opens_by_packets (suc k) x (λ i h. same i (omega arith)) j) (same k (omega arith) j) (parse_of (same k (omega arith) j))

-- A packet by its parse: the open units and the fact behind it.
module _ (y : TsPacketLayout) (l : List ℕ) (k : ℕ) where
  pub opens_by : (p : Result TsPacket TsError) (x : ℕ) → parse_of (packet_at y l k) ≡ p → opens_at y l (suc k) x ≡ open_behind x (opens_at y l k x) (packet_at y l k) p
  opens_by p x is = ap (open_behind x (opens_at y l k x) (packet_at y l k)) is

  pub fact_by_lem : (s : Streams) (p : Result TsPacket TsError) → parse_of (packet_at y l k) ≡ p → fact_at y s l k ≡ fact_by s (opens_at y l (suc k)) (packet_at y l k) p
  fact_by_lem s p is = ap (fact_by s (opens_at y l (suc k)) (packet_at y l k)) is

-- A payload of no bytes has no runs.
no_stamp : (n s : ℕ) (x : Option ℕ) → cond (ltb n s && leb s (n + 0)) x None ≡ None
no_stamp n s x = go (ltb n s) refl
  where
    go : (t : Bool) → ltb n s ≡ t → cond (t && leb s (n + 0)) x None ≡ None
    go true e = rw (lt-leb s (n + 0) (omega (arith, ltb-true n s e)))
    go false e = refl

cut_empty : (n s t : ℕ) (x : Option ℕ) → cut n 0 s t x ≡ no_runs
unfolding cut
cut_empty n s t x =
    λ i.
    record {
      head = (let e : min 0 (s - n) ≡ 0 = omega arith in e) i;
      decode_ts = no_stamp n s x i;
      rest = (let e : min 0 (t - n) - min 0 (s - n) ≡ 0 = omega arith in e) i;
      body = (let e : 0 - min 0 (t - n) ≡ 0 = omega arith in e) i;
    }

runs_empty : (o : Open) → runs_in o 0 ≡ no_runs
unfolding runs_of
runs_empty none = refl
runs_empty (unit u) = cut_empty (length u - 0) (stamp_end u) (content_begin u) (stamp_of u)

one_choice : {A : Type 0} (t : Bool) {a b : A} → a ≡ b → cond t a b ≡ b
one_choice true e = e
one_choice false e = refl

-- Packet k is parsed as h.
module _ (y : TsPacketLayout) (l : List ℕ) (k : ℕ) (h : TsPacket) (is : parse_of (packet_at y l k) ≡ Ok h) where
  abbrev payload : List ℕ
  payload = payload_in (packet_at y l k) h

  pub opens_own : opens_at y l (suc k) h.pid ≡ next_open (opens_at y l k h.pid) h.payload_unit_start payload
  opens_own = opens_by y l k (Ok h) h.pid is ∙ rw (eq-eqb h.pid h.pid refl)

  pub opens_other : (x : ℕ) → (h.pid ≡ x → ⊥) → opens_at y l (suc k) x ≡ opens_at y l k x
  opens_other x d = opens_by y l k (Ok h) x is ∙ rw (ne_eqb h.pid x d)

  module _ (s : Streams) where
    pub fact_stream : is_stream s h.pid ≡ true → fact_at y s l k ≡ parsed h (runs_in (opens_at y l (suc k) h.pid) (length payload))
    unfolding fact_by
    fact_stream on = fact_by_lem y l k s (Ok h) is ∙ rw on

    pub fact_other : is_stream s h.pid ≡ false → fact_at y s l k ≡ parsed h no_runs
    unfolding fact_by
    fact_other off = fact_by_lem y l k s (Ok h) is ∙ rw off

    -- without a payload
    pub fact_empty : length payload ≡ 0 → fact_at y s l k ≡ parsed h no_runs
    unfolding fact_by
    fact_empty e =
        fact_by_lem y l k s (Ok h) is
        ∙ ap (parsed h) (one_choice (is_stream s h.pid) (rw e (runs_empty (opens_at y l (suc k) h.pid))))

  pub opens_empty : length payload ≡ 0 → (x : ℕ) → opens_at y l (suc k) x ≡ opens_at y l k x
  opens_empty e x =
      opens_by y l k (Ok h) x is
      ∙ one_choice (eqb h.pid x) (rw (nil_from_length payload e) (empty_keeps (opens_at y l k x) h.payload_unit_start))

  -- the scanner of its PID, fed its payload, gives the fact's runs and is the scanner of the open unit behind it
  module _ (c : PesScanner) (f : Fed) (before : c ≡ scanner_of (opens_at y l k h.pid)) (fed : f ≡ fed_of (open_of c) h.payload_unit_start payload) where
    is_fed : f ≡ fed_of (open_of (scanner_of (opens_at y l k h.pid))) h.payload_unit_start payload
    is_fed = fed ∙ ap (λ (x : PesScanner). fed_of (open_of x) h.payload_unit_start payload) before

    pub scanner_behind : f.scanner ≡ scanner_of (opens_at y l (suc k) h.pid)
    scanner_behind =
        ap (λ (x : Fed). x.scanner) is_fed ∙ fed_scanner (opens_at y l k h.pid) h.payload_unit_start payload ∙ ap scanner_of (sym opens_own)

    pub runs_fed : (s : Streams) → is_stream s h.pid ≡ true → fact_at y s l k ≡ parsed h f.runs
    runs_fed s on =
        fact_stream s on
        ∙ ap (λ (o : Open). parsed h (runs_in o (length payload))) opens_own
        ∙ ap (parsed h) (sym (ap (λ (x : Fed). x.runs) is_fed ∙ fed_runs (opens_at y l k h.pid) h.payload_unit_start payload))

-- before the first packet
pub scanner_new : (y : TsPacketLayout) (l : List ℕ) (x : ℕ) → idle ≡ scanner_of (opens_at y l 0 x)
scanner_new y l x = new_is
