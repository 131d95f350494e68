-- The two cuts of a unit and its time stamp: their order and bounds, which bytes they look at, and that they stay as more bytes come.
-- Assumes nothing.
use Rattle.std.specs.Prelude.{Some}
use mathlib.Core.Path.{◌≡◌, refl, sym, ◌∙◌, ap}
use mathlib.Core.Bool.{Bool, true, false, cond}
use mathlib.Core.List.{List, [], ◌∷◌, ◌++◌}
use mathlib.Core.Logic.{◌⊎◌, inl, inr}
use Prim.Native.Nat.{ℕ, ◌+◌, ◌/◌, ◌%◌, ◌<◌, ◌≤◌}
use native.Mathlib.Nat.{div-one}
use native.Mathlib.Omega.{arith}
use lib.Dec.{leb, eqb}
use lib.ListN.{length, get_or, get_or-append}
use borrow.Author.Tests.{eqb-true, leb-true}
use Rattle.syntax.specs.Table.{field}
use Rattle.syntax.specs.TimeStamp.{timestamp}
use Rattle.syntax.specs.Pes.{table_2_21, pts, dts}
use Rattle.syntax.proofs.Bits.{within}
use Rattle.syntax.proofs.TimeStamp.{timestamp_five}
use Rattle.syntax.proofs.Pes.{places, stream_id, pts_dts_flags as flags_read, pes_header_data_length, pts_10, dts_11}
use Rattle.pes.specs.StreamId.{has_optional_header}
use Rattle.scanner.specs.Unit.{optional_header, pts_dts_flags, header_data_length, stamp_bytes, stamp_end_by, content_begin_by, decode_ts_by, stamp_end, content_begin, stamp_of}
use Rattle.scanner.specs.declared.PesHeader.{PesHeader}
use Rattle.scanner.specs.Joined.{listed}
use Rattle.scanner.specs.State.{header_of, stamp_bytes_at}
use Rattle.std.proofs.lemmas.Bool.{cases_lt}

-- the rules on the fields
pub ordered_by : (o : Bool) (flags len : ℕ) → stamp_end_by o flags len ≤ content_begin_by o len
unfolding stamp_end_by content_begin_by
ordered_by true flags len = omega arith
ordered_by false flags len = omega arith

pub stamp_past_six : (o : Bool) (flags len : ℕ) → 6 ≤ stamp_end_by o flags len
unfolding stamp_end_by
stamp_past_six true flags len = omega arith
stamp_past_six false flags len = omega arith

pub content_within : (o : Bool) (len : ℕ) → len < 256 → content_begin_by o len ≤ 264
unfolding content_begin_by
content_within true len h = omega arith
content_within false len h = omega arith

-- a choice, arm by arm
pub cond_same : {A : Type 0} (t : Bool) {a b x y : A} → (t ≡ true → a ≡ x) → (t ≡ false → b ≡ y) → cond t a b ≡ cond t x y
cond_same true p q = p refl
cond_same false p q = q refl

-- a stamp is looked at only where the header has it
pub stamp_same : (o : Bool) (flags len p q d e : ℕ) → (o ≡ true → flags ≡ 2 → 5 ≤ len → p ≡ q) → (o ≡ true → flags ≡ 3 → 10 ≤ len → d ≡ e)
    → decode_ts_by o flags len p d ≡ decode_ts_by o flags len q e
unfolding decode_ts_by
stamp_same o flags len p q d e hp hd =
    cond_same o
    (λ t. cond_same (eqb flags 2)
    (λ f. cond_same (leb 5 len) (λ l. ap Some (hp t (eqb-true flags 2 f) (leb-true 5 len l))) (λ _. refl))
    (λ _. cond_same (eqb flags 3)
    (λ f. cond_same (leb 10 len) (λ l. ap Some (hd t (eqb-true flags 3 f) (leb-true 10 len l))) (λ _. refl))
    (λ _. refl)))
    (λ _. refl)

-- the fields of a unit by its bytes
pub id_byte : (u : List ℕ) → field table_2_21 u "stream_id" ≡ get_or u 3 0 % 256
id_byte u = (places u).stream_id ∙ within u 3 0 8 (omega arith) ∙ rw (div-one (get_or u 3 0))

pub flags_byte : (u : List ℕ) → pts_dts_flags u ≡ get_or u 7 0 / 64 % 4
flags_byte u = (places u).pts_dts_flags ∙ within u 7 0 2 (omega arith)

pub length_byte : (u : List ℕ) → header_data_length u ≡ get_or u 8 0 % 256
length_byte u = (places u).pes_header_data_length ∙ within u 8 0 8 (omega arith) ∙ rw (div-one (get_or u 8 0))

-- of bytes below 256
module _ (u : List ℕ) where
  pub optional_is : get_or u 3 0 < 256 → has_optional_header (get_or u 3 0) ≡ optional_header u
  optional_is h = ap has_optional_header (sym (stream_id u h))

  pub flags_is : get_or u 7 0 < 256 → get_or u 7 0 / 64 ≡ pts_dts_flags u
  flags_is h = sym (flags_read u h)

  pub length_is : get_or u 8 0 < 256 → get_or u 8 0 ≡ header_data_length u
  length_is h = sym (pes_header_data_length u h)

abbrev five_at : List ℕ → ℕ → List ℕ
five_at u k = get_or u k 0 ∷ get_or u (k + 1) 0 ∷ get_or u (k + 2) 0 ∷ get_or u (k + 3) 0 ∷ get_or u (k + 4) 0 ∷ []

pub pts_bytes : (u : List ℕ) → pts_dts_flags u ≡ 2 → pts u ≡ timestamp (five_at u 9)
pts_bytes u h = pts_10 u h ∙ sym (timestamp_five u 9)

pub dts_bytes : (u : List ℕ) → pts_dts_flags u ≡ 3 → dts u ≡ timestamp (five_at u 14)
dts_bytes u h = dts_11 u h ∙ sym (timestamp_five u 14)

-- so fields of two units are one where the bytes are
module _ (u v : List ℕ) where
  pub optional_same : get_or u 3 0 ≡ get_or v 3 0 → optional_header u ≡ optional_header v
  optional_same e = rw (id_byte u, id_byte v, e)

  pub flags_same : get_or u 7 0 ≡ get_or v 7 0 → pts_dts_flags u ≡ pts_dts_flags v
  flags_same e = rw (flags_byte u, flags_byte v, e)

  pub length_same : get_or u 8 0 ≡ get_or v 8 0 → header_data_length u ≡ header_data_length v
  length_same e = rw (length_byte u, length_byte v, e)

  pub five_same : (k : ℕ) → ((i : ℕ) → k ≤ i → i < k + 5 → get_or u i 0 ≡ get_or v i 0) → five_at u k ≡ five_at v k
  five_same k h =
      λ j.
      h k (omega arith) (omega arith) j
      ∷ h (k + 1) (omega arith) (omega arith) j
      ∷ h (k + 2) (omega arith) (omega arith) j
      ∷ h (k + 3) (omega arith) (omega arith) j
      ∷ h (k + 4) (omega arith) (omega arith) j
      ∷ []

-- the cuts of a unit
pub ordered : (u : List ℕ) → stamp_end u ≤ content_begin u
unfolding stamp_end content_begin
ordered u = ordered_by (optional_header u) (pts_dts_flags u) (header_data_length u)

pub six_stamp : (u : List ℕ) → 6 ≤ stamp_end u
unfolding stamp_end
six_stamp u = stamp_past_six (optional_header u) (pts_dts_flags u) (header_data_length u)

pub content_limit : (u : List ℕ) → content_begin u ≤ 264
unfolding content_begin
content_limit u = content_within (optional_header u) (header_data_length u) (rw (length_byte u) (omega arith))

-- Two units with the same parts.
pub record Parts (u v : List ℕ) : Type 0 where
  pub stamp_end : stamp_end u ≡ stamp_end v
  pub content_begin : content_begin u ≡ content_begin v
  pub stamp : stamp_of u ≡ stamp_of v

-- where a header has its PTS and where its DTS, by the end of the stamp's run
stamp_end_10 : (o : Bool) (flags len : ℕ) → o ≡ true → flags ≡ 2 → 5 ≤ len → stamp_end_by o flags len ≡ 14
unfolding stamp_end_by stamp_bytes
stamp_end_10 o flags len t f h = rw (t, f) (omega arith)

stamp_end_11 : (o : Bool) (flags len : ℕ) → o ≡ true → flags ≡ 3 → 10 ≤ len → stamp_end_by o flags len ≡ 19
unfolding stamp_end_by stamp_bytes
stamp_end_11 o flags len t f h = rw (t, f) (omega arith)

-- The parts look at byte 3 and, with an optional header, at bytes 7 and 8 and those of the stamp.
module _ (u v : List ℕ) where
  no_option : optional_header u ≡ false → optional_header v ≡ false → Parts u v
  unfolding stamp_end content_begin stamp_of stamp_end_by content_begin_by decode_ts_by
  no_option t s = record { stamp_end = rw (t, s); content_begin = rw (t, s); stamp = rw (t, s) }

  option : optional_header u ≡ true → optional_header u ≡ optional_header v → pts_dts_flags u ≡ pts_dts_flags v → header_data_length u ≡ header_data_length v
      → (pts_dts_flags u ≡ 2 → 5 ≤ header_data_length u → five_at u 9 ≡ five_at v 9)
      → (pts_dts_flags u ≡ 3 → 10 ≤ header_data_length u → five_at u 14 ≡ five_at v 14) → Parts u v
  unfolding stamp_end content_begin stamp_of
  option t o f l hp hd =
      record {
        stamp_end = rw (o, f, l);
        content_begin = rw (o, l);
        stamp =
            stamp_same (optional_header u) (pts_dts_flags u) (header_data_length u) (pts u) (pts v) (dts u) (dts v)
            (λ _ f2 l5. pts_bytes u f2 ∙ ap timestamp (hp f2 l5) ∙ sym (pts_bytes v (sym f ∙ f2)))
            (λ _ f3 l10. dts_bytes u f3 ∙ ap timestamp (hd f3 l10) ∙ sym (dts_bytes v (sym f ∙ f3)))
            ∙ rw (o, f, l);
      }

  parts_by : get_or u 3 0 ≡ get_or v 3 0 → (optional_header u ≡ true → get_or u 7 0 ≡ get_or v 7 0) → (optional_header u ≡ true → get_or u 8 0 ≡ get_or v 8 0)
      → (optional_header u ≡ true → pts_dts_flags u ≡ 2 → 5 ≤ header_data_length u → five_at u 9 ≡ five_at v 9)
      → (optional_header u ≡ true → pts_dts_flags u ≡ 3 → 10 ≤ header_data_length u → five_at u 14 ≡ five_at v 14) → Parts u v
  parts_by e3 e7 e8 hp hd = go (optional_header u) refl
    where
      go : (t : Bool) → optional_header u ≡ t → Parts u v
      go false t = no_option t (sym (optional_same u v e3) ∙ t)
      go true t = option t (optional_same u v e3) (flags_same u v (e7 t)) (length_same u v (e8 t)) (hp t) (hd t)

  -- by the bytes before the end of the stamp's run
  pub same_parts : get_or u 3 0 ≡ get_or v 3 0 → (optional_header u ≡ true → get_or u 7 0 ≡ get_or v 7 0) → (optional_header u ≡ true → get_or u 8 0 ≡ get_or v 8 0)
      → (optional_header u ≡ true → (i : ℕ) → 9 ≤ i → i < stamp_end u → get_or u i 0 ≡ get_or v i 0) → Parts u v
  unfolding stamp_end
  same_parts e3 e7 e8 es =
      parts_by e3 e7 e8
      (λ t f l. five_same u v 9 (λ i a b. es t i a (rw (stamp_end_10 _ _ _ t f l) b)))
      (λ t f l. five_same u v 14 (λ i a b. es t i (omega arith) (rw (stamp_end_11 _ _ _ t f l) b)))

  -- by the header that the scanner keeps
  pub header_parts : header_of u ≡ header_of v → Parts u v
  unfolding header_of stamp_bytes_at
  header_parts e =
      parts_by (ap (λ (h : PesHeader). h.stream_id) e)
      (λ _. ap (λ (h : PesHeader). h.flags) e)
      (λ _. ap (λ (h : PesHeader). h.header_data_length) e)
      (λ _ _ _. ap (λ (h : PesHeader). listed h.pts) e)
      (λ _ _ _. ap (λ (h : PesHeader). listed h.dts) e)

pub nine_stamp : (u : List ℕ) → optional_header u ≡ true → 9 ≤ stamp_end u
unfolding stamp_end stamp_end_by
nine_stamp u t = rw t (omega arith)

-- A stamp's run that has come to its end stays as more bytes come, and so does all else.
module _ (u r : List ℕ) where
  came : (i : ℕ) → i < length u → get_or u i 0 ≡ get_or (u ++ r) i 0
  came i h = sym (get_or-append u r 0 i h)

  pub settled : stamp_end u ≤ length u → Parts u (u ++ r)
  settled h =
      same_parts u (u ++ r)
      (came 3 (omega (arith, six_stamp u)))
      (λ t. came 7 (omega (arith, nine_stamp u t)))
      (λ t. came 8 (omega (arith, nine_stamp u t)))
      (λ t i a b. came i (omega arith))

  pub settled_back : stamp_end (u ++ r) ≤ length u → Parts (u ++ r) u
  settled_back h =
      same_parts (u ++ r) u
      (sym (came 3 (omega (arith, six_stamp (u ++ r)))))
      (λ t. sym (came 7 (omega (arith, nine_stamp (u ++ r) t))))
      (λ t. sym (came 8 (omega (arith, nine_stamp (u ++ r) t))))
      (λ t i a b. sym (came i (omega arith)))

  -- A place among the first bytes lies before their content exactly if it lies before the whole unit's.
  pub before_more : (i : ℕ) → i < length u → i < content_begin u → i < content_begin (u ++ r)
  before_more i h k = go (cases_lt i (content_begin (u ++ r)))
    where
      go : (i < content_begin (u ++ r)) ⊎ (content_begin (u ++ r) ≤ i) → i < content_begin (u ++ r)
      go (inl l) = l
      go (inr l) =
          absurd (let e : content_begin (u ++ r) ≡ content_begin u = (settled_back (omega (arith, ordered (u ++ r)))).content_begin in omega arith)

  pub before_less : (i : ℕ) → i < length u → i < content_begin (u ++ r) → i < content_begin u
  before_less i h k = go (cases_lt i (content_begin u))
    where
      go : (i < content_begin u) ⊎ (content_begin u ≤ i) → i < content_begin u
      go (inl l) = l
      go (inr l) =
          absurd (let e : content_begin u ≡ content_begin (u ++ r) = (settled (omega (arith, ordered u))).content_begin in omega arith)

-- Two units that agree before the first one's content have the same parts.
pub parts : (u v : List ℕ) → ((i : ℕ) → i < content_begin u → get_or u i 0 ≡ get_or v i 0) → Parts u v
parts u v same =
    same_parts u v
    (same 3 (omega (arith, six_stamp u, ordered u)))
    (λ t. same 7 (omega (arith, nine_stamp u t, ordered u)))
    (λ t. same 8 (omega (arith, nine_stamp u t, ordered u)))
    (λ t i a b. same i (omega (arith, ordered u)))
