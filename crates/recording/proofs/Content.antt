-- The content of a recording: which bytes it is outside the packets, and of a packet by the packet's fact.
-- Assumes nothing.
use Prim.Native.Nat.{ℕ, suc, ◌+◌, ◌-◌, ◌*◌, ◌/◌, ◌%◌, ◌<◌, ◌≤◌, min}
use mathlib.Core.Path.{◌≡◌, refl, sym, ◌∙◌, ap}
use mathlib.Core.List.{List, ◌++◌}
use mathlib.Core.Logic.{◌⊎◌, inl, inr}
use mathlib.Core.Bool.{Bool, true, false, cond, ◌&&◌, true≢false}
use native.Mathlib.Omega.{arith}
use native.Mathlib.Nat.{add-sub_cancel_left, div-eq_of_lt-le, div-lt_iff_lt-mul, add-mul-mod_self_right, mod-eq_of_lt, suc-mul, add-zero}
use native.Mathlib.Numerals.{add-one}
use lib.ListN.{length, length-append}
use lib.Dec.{ltb, leb}
use borrow.Author.Tests.{lt-ltb, le-leb, lt-leb, ltb-true, leb-true}
use Rattle.std.specs.Prelude.{Result, Ok, Err}
use Rattle.packet.specs.declared.TsPacket.{TsPacket}
use Rattle.packet.specs.declared.TsError.{TsError}
use Rattle.packet.specs.declared.TsPacketLayout.{TsPacketLayout}
use Rattle.packet.specs.Packet.{parse_of, payload_from}
use Rattle.packet.proofs.Parsed as packet-parsed
use Rattle.packet.proofs.Layouts.{window_length, nth_fits, payload_length}
use Rattle.scanner.specs.declared.Runs.{Runs}
use Rattle.scanner.specs.Unit.{Open, none, unit, next, starts, runs_in, no_runs, content_begin, content_of}
use Rattle.std.proofs.lemmas.Bool.{cases_lt}
use Rattle.scanner.proofs.Cover.{rest_ends}
use Rattle.scanner.proofs.Content.{no_lookahead}
use Rattle.recording.specs.Read.{Streams, is_stream, Fact, unparsed, parsed, packets, packet_at, payload_in, fact_by, opens_at, fact_at}
use Rattle.recording.specs.Content.{unit_rest, content_in, content_at, in_packet, content}
use Rattle.recording.proofs.Facts.{opens_own}

-- byte j of the k-th group of so many bytes
module _ (size k j : ℕ) (h : j < size) where
  pub quotient : (k * size + j) / size ≡ k
  quotient = div-eq_of_lt-le size (omega arith) (rw (add-one, suc-mul) (omega arith))

  pub remainder : (k * size + j) % size ≡ j
  remainder =
      let e : k * size + j ≡ j + k * size = omega arith in
      ap (λ (x : ℕ). x % size) e ∙ add-mul-mod_self_right j k size ∙ mod-eq_of_lt h

-- a place in a packet's 188 bytes
both_true : (a b : Bool) → a && b ≡ true → (a ≡ true) × (b ≡ true)
both_true true true h = (refl, refl)
both_true true false h = absurd (true≢false (sym h))
both_true false b h = absurd (true≢false (sym h))

pub in_packet_place : (y : TsPacketLayout) (l : List ℕ) (i : ℕ) → in_packet y l i ≡ true
    → (i / y.packet_size < packets y l) × (y.sync_offset ≤ i % y.packet_size) × (i % y.packet_size < y.sync_offset + 188)
in_packet_place y l i e =
    let p = both_true (ltb (i / y.packet_size) (packets y l)) _ e in
    let q = both_true (leb y.sync_offset (i % y.packet_size)) _ p.1 in
    (ltb-true _ _ p.0, leb-true _ _ q.0, ltb-true _ _ q.1)

module _ (y : TsPacketLayout) (s : Streams) (l : List ℕ) where
  abbrev size : ℕ
  size = y.packet_size

  abbrev off : ℕ
  off = y.sync_offset

  -- The bytes outside the packets: the prefix, the trailer, and what follows the last whole packet.
  outside : (i : ℕ) → (in_packet y l i ≡ true → ⊥) → content y s l i ≡ true
  unfolding content
  outside i d = go (in_packet y l i) refl
    where
      go : (t : Bool) → in_packet y l i ≡ t → content y s l i ≡ true
      go true e = absurd (d e)
      go false e = rw e

  pub prefix : (k j : ℕ) → j < off → off ≤ size → content y s l (k * size + j) ≡ true
  prefix k j h r =
      outside (k * size + j) (λ e. let p = in_packet_place y l (k * size + j) e in omega (arith, p.1, remainder size k j (omega arith)))

  pub trailer : (k j : ℕ) → off + 188 ≤ j → j < size → content y s l (k * size + j) ≡ true
  trailer k j a h = outside (k * size + j) (λ e. let p = in_packet_place y l (k * size + j) e in omega (arith, p.2, remainder size k j h))

  pub behind : (i : ℕ) → 0 < size → packets y l * size ≤ i → content y s l i ≡ true
  behind i p h = outside i (λ e. let b : i < packets y l * size = (div-lt_iff_lt-mul p).0 (in_packet_place y l i e).0 in omega arith)

  -- byte j of packet k
  pub inside : (k j : ℕ) → off + 188 ≤ size → k < packets y l → j < 188
      → content y s l (k * size + off + j) ≡ content_at y s l k (packets y l - suc k) j
  unfolding content
  inside k j room h b =
      let e : k * size + off + j ≡ k * size + (off + j) = omega arith in
      let c : off + j < size = omega arith in
      rw (
        e,
        quotient size k (off + j) c,
        remainder size k (off + j) c,
        lt-ltb k (packets y l) h,
        le-leb off (off + j) (omega arith),
        lt-ltb (off + j) (off + 188) (omega arith),
        add-sub_cancel_left off j,
      )

and_first : (a b : Bool) → a ≡ false → a && b ≡ false
and_first a b e = rw e

-- before the payload nothing is content
pub before_payload : (s : Streams) (opens : ℕ → Open) (rests : ℕ → List ℕ) (w : List ℕ) (p : Result TsPacket TsError) (j : ℕ) → j < payload_from p
    → content_in s opens rests w p j ≡ false
unfolding payload_from content_in
before_payload s opens rests w (Ok h) j l = and_first _ _ (lt-leb h.payload_start j l)
before_payload s opens rests w (Err (TsError.Truncated t)) j l = refl
before_payload s opens rests w (Err (TsError.BadSyncByte b)) j l = refl

-- Where content begins in a packet's 188 bytes, by its fact.
unfoldable pub content_from : Fact → ℕ
content_from unparsed = 188
content_from (parsed h r) = h.payload_start + (r.head + r.rest)

-- a payload of so many bytes is the last of the open unit's
unfoldable pub LastOf : Open → ℕ → Type 0
LastOf none len = Unit {0}
LastOf (unit u) len = len ≤ length u

last_next : (o : Open) (t : Bool) (p : List ℕ) → LastOf (next o t p) (length p)
unfolding LastOf
last_next o true p = omega arith
last_next none false p = tt
last_next (unit u) false p = omega (arith, length-append u p)

-- so is the payload of packet k of the unit behind it
pub payload_last : (y : TsPacketLayout) (l : List ℕ) (k : ℕ) (p : TsPacket) → parse_of (packet_at y l k) ≡ Ok p
    → LastOf (opens_at y l (suc k) p.pid) (length (payload_in (packet_at y l k) p))
payload_last y l k p is =
    let w = payload_in (packet_at y l k) p in
    rw (opens_own y l k p is) (last_next (opens_at y l k p.pid) (starts p.payload_unit_start w) w)

-- byte j of a packet whose payload has len bytes from start on: n bytes of the unit came before, and its content begins at its byte c
cut_at : (start len n c j : ℕ) → start ≤ j → j < start + len → leb c (n + (j - start)) ≡ leb (start + min len (c - n)) j
cut_at start len n c j a b = go (cases_lt (n + (j - start)) c)
  where
    go : (n + (j - start) < c) ⊎ (c ≤ n + (j - start)) → leb c (n + (j - start)) ≡ leb (start + min len (c - n)) j
    go (inl h) = lt-leb c (n + (j - start)) h ∙ sym (lt-leb (start + min len (c - n)) j (omega arith))
    go (inr h) = le-leb c (n + (j - start)) h ∙ sym (le-leb (start + min len (c - n)) j (omega arith))

module _ (r : List ℕ) (start len j : ℕ) (a : start ≤ j) (b : j < start + len) where
  by_runs : (o : Open) → LastOf o len → content_of o r len (j - start) ≡ leb (start + ((runs_in o len).head + (runs_in o len).rest)) j
  unfolding LastOf
  by_runs none h = sym (le-leb (start + (0 + 0)) j (omega arith))
  by_runs (unit u) h =
      no_lookahead u r len (j - start) h (omega arith)
      ∙ cut_at start len (length u - len) (content_begin u) j a b
      ∙ ap (λ (n : ℕ). leb (start + n) j) (sym (rest_ends u len h))

-- the same of a packet whose payload starts there, its PID a stream's or not
module _ (r : List ℕ) (start len j : ℕ) (b : j < 188) (fits : len ≡ 188 - start) (o : Open) (last : LastOf o len) where
  abbrev runs : Bool → Runs
  runs t = cond t (runs_in o len) no_runs

  payload_content : (t : Bool) → leb start j && cond t (content_of o r len (j - start)) true ≡ leb (start + ((runs t).head + (runs t).rest)) j
  payload_content t = go (cases_lt j start) t
    where
      go : (j < start) ⊎ (start ≤ j) → (t : Bool)
          → leb start j && cond t (content_of o r len (j - start)) true ≡ leb (start + ((runs t).head + (runs t).rest)) j
      go (inl a) t = rw (lt-leb start j a) (sym (lt-leb (start + ((runs t).head + (runs t).rest)) j (omega arith)))
      go (inr a) false = rw (le-leb start j a) (sym (le-leb (start + (0 + 0)) j (omega arith)))
      go (inr a) true = rw (le-leb start j a) (by_runs r start len j a (omega arith) o last)

-- a payload starts behind the four bytes of the header
payload_from_four : (w : List ℕ) → 4 ≤ payload_from (parse_of w)
unfolding payload_from
payload_from_four w = go (parse_of w) refl
  where
    go : (p : Result TsPacket TsError) → parse_of w ≡ p → 4 ≤ payload_from p
    go (Ok h) is = (packet-parsed.parsed w h is).start_low
    go (Err err) is = omega arith

-- The content of a whole packet is what lies behind its headers, by its fact alone.
module _ (y : TsPacketLayout) (s : Streams) (l : List ℕ) (k : ℕ) (room : y.sync_offset + 188 ≤ y.packet_size) (h : k < packets y l) where
  pub packet_long : length (packet_at y l k) ≡ 188
  packet_long = window_length l y.packet_size y.sync_offset k (nth_fits l y.packet_size y.sync_offset k h room)

  pub content_by_fact : (n j : ℕ) → j < 188 → content_at y s l k n j ≡ leb (content_from (fact_at y s l k)) j
  unfolding content_in fact_by content_from
  content_by_fact n j b = go (parse_of (packet_at y l k)) refl
    where
      go : (p : Result TsPacket TsError) → parse_of (packet_at y l k) ≡ p
          → content_in s (opens_at y l (suc k)) (unit_rest y l (suc k) n) (packet_at y l k) p j
          ≡ leb (content_from (fact_by s (opens_at y l (suc k)) (packet_at y l k) p)) j
      go (Ok p) is =
          payload_content (unit_rest y l (suc k) n p.pid) p.payload_start (length (payload_in (packet_at y l k) p)) j b
          (payload_length (packet_at y l k) p.payload_start (omega (arith, packet_long)))
          (opens_at y l (suc k) p.pid)
          (payload_last y l k p is)
          (is_stream s p.pid)
      go (Err (TsError.Truncated t)) is = sym (lt-leb 188 j b)
      go (Err (TsError.BadSyncByte c)) is = sym (lt-leb 188 j b)

-- Document 01 on the bytes of a whole packet.
module _ (y : TsPacketLayout) (s : Streams) (l : List ℕ) (k : ℕ) (room : y.sync_offset + 188 ≤ y.packet_size) (h : k < packets y l) where
  -- what comes before the payload is not content: all of a packet that does not parse or has no payload
  pub not_payload : (j : ℕ) → j < 188 → j < payload_from (parse_of (packet_at y l k)) → content y s l (k * y.packet_size + y.sync_offset + j) ≡ false
  not_payload j b a =
      inside y s l k j room h b
      ∙ before_payload s (opens_at y l (suc k)) (unit_rest y l (suc k) (packets y l - suc k)) (packet_at y l k) (parse_of (packet_at y l k)) j a

  -- so no byte of the header is, nor its sync byte
  pub header_not_content : (j : ℕ) → j < 4 → content y s l (k * y.packet_size + y.sync_offset + j) ≡ false
  header_not_content j b = not_payload j (omega arith) (omega (arith, payload_from_four (packet_at y l k)))

  pub sync_not_content : content y s l (k * y.packet_size + y.sync_offset) ≡ false
  sync_not_content = rw add-zero at (header_not_content 0 (omega arith))

  module _ (p : TsPacket) (is : parse_of (packet_at y l k) ≡ Ok p) (j : ℕ) (a : p.payload_start ≤ j) (b : j < 188) where
    abbrev mark : Bool
    mark = content y s l (k * y.packet_size + y.sync_offset + j)

    abbrev len : ℕ
    len = length (payload_in (packet_at y l k) p)

    abbrev rest : List ℕ
    rest = unit_rest y l (suc k) (packets y l - suc k) p.pid

    in_payload : mark ≡ cond (is_stream s p.pid) (content_of (opens_at y l (suc k) p.pid) rest len (j - p.payload_start)) true
    unfolding content_in
    in_payload =
        inside y s l k j room h b
        ∙ ap (λ (q : Result TsPacket TsError). content_in s (opens_at y l (suc k)) (unit_rest y l (suc k) (packets y l - suc k)) (packet_at y l k) q j) is
        ∙ rw (le-leb p.payload_start j a)

    -- payload of a PID that no stream has
    pub no_stream : is_stream s p.pid ≡ false → mark ≡ true
    no_stream e = in_payload ∙ rw e

    -- a stream's payload before its first unit
    pub before_first_unit : opens_at y l (suc k) p.pid ≡ none → mark ≡ true
    before_first_unit e = in_payload ∙ rw e (go (is_stream s p.pid))
      where
        go : (t : Bool) → cond t true true ≡ true
        go true = refl
        go false = refl

    -- a unit's bytes: by the whole unit, and by its bytes so far
    module _ (on : is_stream s p.pid ≡ true) (u : List ℕ) (e : opens_at y l (suc k) p.pid ≡ unit u) where
      pub in_unit : mark ≡ leb (content_begin (u ++ rest)) (length u - len + (j - p.payload_start))
      in_unit = in_payload ∙ rw (on, e)

      pub in_unit_so_far : mark ≡ leb (content_begin u) (length u - len + (j - p.payload_start))
      unfolding LastOf
      in_unit_so_far =
          in_unit
          ∙ no_lookahead u rest len (j - p.payload_start)
          (rw e at (payload_last y l k p is))
          (omega (arith, payload_length (packet_at y l k) p.payload_start (omega (arith, packet_long y s l k room h))))
