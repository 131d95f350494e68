-- Content does not enter what is read: two recordings that differ only in content read alike, and have their content at the same places.
-- Assumes nothing.
use Prim.Native.Nat.{ℕ, zero, suc, ◌+◌, ◌-◌, ◌*◌, ◌/◌, ◌%◌, ◌<◌, ◌≤◌}
use mathlib.Core.Path.{◌≡◌, refl, sym, ◌∙◌, ap, ap₂, subst}
use mathlib.Core.List.{List, [], ◌∷◌, append-nil}
use mathlib.Core.Logic.{◌⊎◌, inl, inr}
use mathlib.Core.Bool.{Bool, true, false, ◌&&◌}
use native.Mathlib.Omega.{arith}
use native.Mathlib.Nat.{add-sub_cancel_left}
use lib.ListN.{length, get_or, get_or-eq_default}
use lib.Seq.{get_or-drop}
use lib.Dec.{ltb, leb, eqb}
use borrow.Author.Tests.{le-leb, eqb-true, eqb-false}
use Rattle.std.specs.Prelude.{Some, Result, Ok, Err}
use Rattle.packet.specs.declared.TsPacket.{TsPacket}
use Rattle.packet.specs.declared.TsError.{TsError}
use Rattle.packet.specs.declared.TsPacketLayout.{TsPacketLayout}
use Rattle.packet.specs.Packet.{parse_of, payload_from}
use Rattle.packet.proofs.Same.{parse_same}
use Rattle.packet.proofs.Grid.{in_packet_lem}
use Rattle.packet.proofs.Layouts.{window_byte, nth_fits, payload_is, payload_length}
use Rattle.scanner.specs.Unit.{Open, none, unit, starts, next_open, onward, runs_in, content_of}
use Rattle.std.proofs.lemmas.Bool.{cases_lt}
use Rattle.scanner.proofs.Cuts.{before_less}
use Rattle.scanner.proofs.Content.{Match, match_runs, match_open}
use Rattle.recording.specs.Read.{Streams, is_stream, Fact, parsed, packets, packet_at, payload_in, fact_by, opens_at, fact_at, facts_from, read_at}
use Rattle.recording.specs.Content.{unit_rest, content_in, content_at, in_packet, content, OnlyContentAt}
use Rattle.recording.proofs.Facts.{opens_by, fact_by_lem, opens_own, opens_other, fact_stream, fact_other}
use Rattle.recording.proofs.Content.{before_payload, inside, in_packet_place, content_from, packet_long, content_by_fact}

-- units that agree before the content of what has come agree before that of the whole
match_whole : (o q : Open) (r : List ℕ) → Match o q [] → Match o q r
unfolding Match
match_whole none none r m = tt
match_whole none (unit v) r m = absurd m
match_whole (unit u) none r m = absurd m
match_whole (unit u) (unit v) r m = (m.0, λ i h c. m.1 i h (rw (append-nil u) (before_less u r i h c)))

module _ (y : TsPacketLayout) (s : Streams) (room : y.sync_offset + 188 ≤ y.packet_size) (a b : List ℕ) (only : OnlyContentAt y s a b) where
  abbrev count : ℕ
  count = packets y a

  abbrev size : ℕ
  size = y.packet_size

  abbrev off : ℕ
  off = y.sync_offset

  counts : count ≡ packets y b
  counts = ap (λ (n : ℕ). n / size) only.one_length

  module _ (k : ℕ) (h : k < count) where
    wide : length (packet_at y a k) ≡ 188
    wide = packet_long y s a k room h

    wide' : length (packet_at y b k) ≡ 188
    wide' = packet_long y s b k room (rw (← counts) h)

    -- the packets' bytes agree but for the first one's content
    bytes : (j : ℕ) → j < 188 → content_at y s a k 0 j ≡ false → get_or (packet_at y a k) j 0 ≡ get_or (packet_at y b k) j 0
    bytes j l c =
        let i : k * size + size ≤ length a = in_packet_lem (length a) size k h in
        window_byte a size off k (nth_fits a size off k h room) j l
        ∙ only.alike (k * size + off + j) (omega arith)
        (inside y s a k j room h l ∙ content_by_fact y s a k room h (count - suc k) j l ∙ sym (content_by_fact y s a k room h 0 j l) ∙ c)
        ∙ sym (window_byte b size off k (nth_fits b size off k (rw (← counts) h) room) j l)

    same_parse : parse_of (packet_at y a k) ≡ parse_of (packet_at y b k)
    same_parse = parse_same (packet_at y a k) (packet_at y b k) wide wide' all
      where
        all : (j : ℕ) → j < payload_from (parse_of (packet_at y a k)) → get_or (packet_at y a k) j 0 ≡ get_or (packet_at y b k) j 0
        all j l = go (cases_lt j 188)
          where
            go : (j < 188) ⊎ (188 ≤ j) → get_or (packet_at y a k) j 0 ≡ get_or (packet_at y b k) j 0
            go (inl c) =
                bytes j c (before_payload s (opens_at y a (suc k)) (unit_rest y a (suc k) 0) (packet_at y a k) (parse_of (packet_at y a k)) j l)
            go (inr c) =
                get_or-eq_default (packet_at y a k) 0 (omega (arith, wide)) ∙ sym (get_or-eq_default (packet_at y b k) 0 (omega (arith, wide')))

    -- packet k of both is parsed as p
    module _ (p : TsPacket) (is : parse_of (packet_at y a k) ≡ Ok p) where
      is' : parse_of (packet_at y b k) ≡ Ok p
      is' = sym same_parse ∙ is

      abbrev start : ℕ
      start = p.payload_start

      abbrev pa : List ℕ
      pa = payload_in (packet_at y a k) p

      abbrev pb : List ℕ
      pb = payload_in (packet_at y b k) p

      sizes : length pa ≡ length pb
      sizes = payload_length (packet_at y a k) start (omega (arith, wide)) ∙ sym (payload_length (packet_at y b k) start (omega (arith, wide')))

      payload_bytes : is_stream s p.pid ≡ true → (i : ℕ) → i < length pa
          → content_of (next_open (opens_at y a k p.pid) p.payload_unit_start pa) [] (length pa) i ≡ false → get_or pa i 0 ≡ get_or pb i 0
      unfolding content_in
      payload_bytes on i l c =
          rw (payload_is (packet_at y a k) start wide, payload_is (packet_at y b k) start wide', get_or-drop start (packet_at y a k) i 0, get_or-drop start (packet_at y b k) i 0)
          (bytes (start + i) (omega (arith, payload_length (packet_at y a k) start (omega (arith, wide))))
          (rw (is, le-leb start (start + i) (omega arith), on, opens_own y a k p is, add-sub_cancel_left start i) c))

      stream_next : is_stream s p.pid ≡ true → Match (opens_at y a k p.pid) (opens_at y b k p.pid) []
          → Match (opens_at y a (suc k) p.pid) (opens_at y b (suc k) p.pid) []
      stream_next on m =
          rw (opens_own y a k p is, opens_own y b k p is')
          (match_open (opens_at y a k p.pid) (opens_at y b k p.pid) p.payload_unit_start pa pb [] sizes
          (match_whole (opens_at y a k p.pid) (opens_at y b k p.pid) (onward (starts p.payload_unit_start pa) pa []) m) (payload_bytes on))

  -- the open units of the streams behind k packets agree but for content
  Same : ℕ → Type 0
  Same k = (x : ℕ) → is_stream s x ≡ true → Match (opens_at y a k x) (opens_at y b k x) []

  same_next : (k : ℕ) → k < count → Same k → Same (suc k)
  unfolding Same
  same_next k h m x on = go (parse_of (packet_at y a k)) refl
    where
      kept : opens_at y a (suc k) x ≡ opens_at y a k x → opens_at y b (suc k) x ≡ opens_at y b k x
          → Match (opens_at y a (suc k) x) (opens_at y b (suc k) x) []
      kept ea eb = rw (ea, eb) (m x on)

      go : (p : Result TsPacket TsError) → parse_of (packet_at y a k) ≡ p → Match (opens_at y a (suc k) x) (opens_at y b (suc k) x) []
      go (Err err) is =
          kept (opens_by y a k (Err err) x is) (opens_by y b k (Err err) x (sym (same_parse k h) ∙ is))
      go (Ok p) is = by_pid (eqb p.pid x) refl
        where
          by_pid : (t : Bool) → eqb p.pid x ≡ t → Match (opens_at y a (suc k) x) (opens_at y b (suc k) x) []
          by_pid true e =
              let d : p.pid ≡ x = eqb-true p.pid x e in
              subst (λ (z : ℕ). Match (opens_at y a (suc k) z) (opens_at y b (suc k) z) []) d
              (stream_next k h p is (rw (← d) at on) (rw (← d) at (m x on)))
          by_pid false e =
              kept (opens_other y a k p is x (eqb-false p.pid x e)) (opens_other y b k p (is' k h p is) x (eqb-false p.pid x e))

  same_opens : (k : ℕ) → k ≤ count → Same k
  unfolding Same Match
  same_opens zero h = λ x on. tt
  same_opens (suc k) h = same_next k h (same_opens k (omega arith))

  pub same_fact : (k : ℕ) → k < count → fact_at y s a k ≡ fact_at y s b k
  unfolding Same fact_by
  same_fact k h = go (parse_of (packet_at y a k)) refl
    where
      go : (p : Result TsPacket TsError) → parse_of (packet_at y a k) ≡ p → fact_at y s a k ≡ fact_at y s b k
      go (Err err) is =
          fact_by_lem y a k s (Err err) is ∙ sym (fact_by_lem y b k s (Err err) (sym (same_parse k h) ∙ is))
      go (Ok p) is = by_stream (is_stream s p.pid) refl
        where
          by_stream : (t : Bool) → is_stream s p.pid ≡ t → fact_at y s a k ≡ fact_at y s b k
          by_stream true on =
              fact_stream y a k p is s on
              ∙ ap (parsed p)
              (match_runs (opens_at y a (suc k) p.pid) (opens_at y b (suc k) p.pid) [] (length (pa k h p is)) (same_opens (suc k) h p.pid on)
              ∙ ap (runs_in (opens_at y b (suc k) p.pid)) (sizes k h p is))
              ∙ sym (fact_stream y b k p (is' k h p is) s on)
          by_stream false off = fact_other y a k p is s off ∙ sym (fact_other y b k p (is' k h p is) s off)

  same_facts : (k n : ℕ) → k + n ≤ count → facts_from y s a k n ≡ facts_from y s b k n
  same_facts k zero h = refl
  same_facts k (suc n) h =
      ap₂ (λ (f : Fact) (fs : List Fact). f ∷ fs) (same_fact k (omega arith)) (same_facts (suc k) n (omega arith))

  pub reads_alike_at : read_at y s a ≡ read_at y s b
  unfolding read_at
  reads_alike_at =
      λ i.
      record {
        size = only.one_length i;
        layout = Some y;
        facts = (same_facts 0 count (omega arith) ∙ ap (facts_from y s b 0) counts) i;
      }

  -- their content lies at the same places
  pub content_alike_at : (i : ℕ) → content y s a i ≡ content y s b i
  unfolding content
  content_alike_at i = go (in_packet y a i) refl
    where
      same_place : in_packet y a i ≡ in_packet y b i
      same_place = ap (λ (n : ℕ). ltb (i / size) n && (leb off (i % size) && ltb (i % size) (off + 188))) counts

      go : (t : Bool) → in_packet y a i ≡ t → content y s a i ≡ content y s b i
      go false e = rw (e, sym same_place ∙ e)
      go true e =
          let p = in_packet_place y a i e in
          let j : i % size - off < 188 = omega (arith, p.1, p.2) in
          rw (e, sym same_place ∙ e)
          (content_by_fact y s a (i / size) room p.0 (count - suc (i / size)) (i % size - off) j
          ∙ ap (λ (f : Fact). leb (content_from f) (i % size - off)) (same_fact (i / size) p.0)
          ∙ sym (content_by_fact y s b (i / size) room (rw (← counts) p.0) (packets y b - suc (i / size)) (i % size - off) j))

  pub only_content_symmetric_at : OnlyContentAt y s b a
  only_content_symmetric_at =
      record {
        one_length = sym only.one_length;
        alike = λ i h c. sym (only.alike i (omega (arith, only.one_length)) (content_alike_at i ∙ c));
      }
