-- Document 01 on the runs of a payload: none before the first start; then they touch and cover it; where they end, and which of them
-- has which stamp. Assumes nothing.
use Rattle.std.specs.Prelude.{Option, Some, None}
use mathlib.Core.Path.{◌≡◌, refl, sym, ◌∙◌, ap}
use mathlib.Core.Bool.{Bool, true, false, cond, ◌&&◌}
use mathlib.Core.List.{List, [], ◌∷◌, ◌++◌, append-nil}
use mathlib.Core.Logic.{◌⊎◌, inl, inr, ⊎_elim}
use Prim.Native.Nat.{ℕ, ◌+◌, ◌-◌, ◌^◌, ◌≤◌, ◌<◌, min}
use native.Mathlib.Nat.{zero-add}
use native.Mathlib.Omega.{arith}
use lib.Dec.{ltb, leb, eqb}
use lib.ListN.{length, length-append}
use borrow.Author.Tests.{lt-ltb, le-leb, lt-leb, ne_eqb, ltb-true, ltb-false, leb-true, eqb-true}
use Rattle.syntax.specs.TimeStamp.{timestamp}
use Rattle.syntax.proofs.Bits.{bound}
use Rattle.syntax.proofs.TimeStamp.{timestamp_places}
use Rattle.syntax.specs.Pes.{pts, dts}
use Rattle.scanner.specs.declared.Runs.{Runs}
use Rattle.scanner.specs.Unit.{optional_header, pts_dts_flags, header_data_length, stamp_bytes, stamp_end_by, content_begin_by, decode_ts_by, stamp_end, content_begin, stamp_of, cut, runs_of, no_runs, Open, none, unit, runs_in, next, next_open}
use Rattle.scanner.specs.Classified.{ClassifiedRun, header_run, payload_run, some_run, classified, Covers}
use Rattle.scanner.proofs.Cuts.{ordered, pts_bytes, dts_bytes}

-- Only the start bit on a nonempty payload opens a unit.
pub opens : (o : Open) (p : List ℕ) → 0 < length p → next_open o true p ≡ unit p
opens o p h = rw (lt-ltb 0 (length p) h)

pub no_bit : (o : Open) (p : List ℕ) → next_open o false p ≡ next o false p
no_bit o p = refl

pub empty_start_lem : (o : Open) (bit : Bool) → next_open o bit [] ≡ next o false []
empty_start_lem o true = refl
empty_start_lem o false = refl

-- A payload of no bytes leaves the open unit as it is.
pub empty_keeps : (o : Open) (bit : Bool) → next_open o bit [] ≡ o
empty_keeps o bit = empty_start_lem o bit ∙ go o
  where
    go : (o : Open) → next o false [] ≡ o
    go none = refl
    go (unit u) = ap unit (append-nil u)

-- Before the first start there are no runs.
pub no_runs_lem : (size : ℕ) → runs_in none size ≡ no_runs
no_runs_lem size = refl

-- The runs of a payload, of which the unit has its bytes from n on.
abbrev total : Runs → ℕ
total r = r.head + r.rest + r.body

cover_cut : (n size s t : ℕ) (x : Option ℕ) → s ≤ t → total (cut n size s t x) ≡ size
unfolding cut
cover_cut n size s t x h =
    let k : min size (s - n) ≤ min size (t - n) = omega arith in omega arith

-- They cover the payload.
pub covers : (u : List ℕ) (size : ℕ) → total (runs_of u size) ≡ size
unfolding runs_of
covers u size = cover_cut (length u - size) size (stamp_end u) (content_begin u) (stamp_of u) (ordered u)

-- As a list they are nonempty, touch and cover it, and are three at most.
some_covers : (r : ClassifiedRun) (a e : ℕ) (rs : List ClassifiedRun) → r.offset ≡ a → Covers (a + r.len) e rs → Covers a e (some_run r ++ rs)
unfolding Covers
some_covers r a e rs o c = go (ltb 0 r.len) refl
  where
    go : (t : Bool) → ltb 0 r.len ≡ t → Covers a e (cond t (r ∷ []) [] ++ rs)
    go true h = (o, ltb-true 0 r.len h, c)
    go false h = let z : a + r.len ≡ a = omega (arith, ltb-false 0 r.len h) in rw z at c

listed_covers : (r : Runs) → Covers 0 (total r) (classified r)
unfolding classified Covers
listed_covers r =
    some_covers (header_run 0 r.head r.decode_ts) 0 (total r) (rests ++ bodies) refl
    (some_covers (header_run r.head r.rest None) (0 + r.head) (total r) bodies (sym (zero-add r.head))
    (rw append-nil at
    (some_covers (payload_run (r.head + r.rest) r.body) (0 + r.head + r.rest) (total r) [] (ap (λ (n : ℕ). n + r.rest) (sym (zero-add r.head))) (omega arith))))
  where
    rests : List ClassifiedRun
    rests = some_run (header_run r.head r.rest None)

    bodies : List ClassifiedRun
    bodies = some_run (payload_run (r.head + r.rest) r.body)

some_one : (r : ClassifiedRun) → length (some_run r) ≤ 1
some_one r = go (ltb 0 r.len)
  where
    go : (t : Bool) → length (cond t (r ∷ []) []) ≤ 1
    go true = omega arith
    go false = omega arith

pub at_most_three : (r : Runs) → length (classified r) ≤ 3
unfolding classified
at_most_three r =
    let h = header_run 0 r.head r.decode_ts in
    let t = header_run r.head r.rest None in
    let b = payload_run (r.head + r.rest) r.body in
    simp length-append (omega (arith, some_one h, some_one t, some_one b))

pub runs_cover : (u : List ℕ) (size : ℕ) → Covers 0 size (classified (runs_of u size))
runs_cover u size = rw (covers u size) at (listed_covers (runs_of u size))

-- The cut's fields at a payload that ends before s, reaches s, or begins behind it.
module _ (n size s t : ℕ) (x : Option ℕ) where
  cut_before : n + size < s → s ≤ t → cut n size s t x ≡ record { head = size; decode_ts = None; rest = 0; body = 0 }
  unfolding cut
  cut_before h k =
      let a : min size (s - n) ≡ size = omega arith in
      let b : min size (t - n) ≡ size = omega arith in
      let d : size - size ≡ 0 = omega arith in
      rw (lt-ltb n s (omega arith), lt-leb s (n + size) h, a, b, d)

  cut_head : n < s → s ≤ n + size → (cut n size s t x).head ≡ s - n
  unfolding cut
  cut_head h k = omega arith

  cut_stamp : n < s → s ≤ n + size → (cut n size s t x).decode_ts ≡ x
  unfolding cut
  cut_stamp h k = rw (lt-ltb n s h, le-leb s (n + size) k)

  cut_header : s ≤ t → (cut n size s t x).head + (cut n size s t x).rest ≡ min size (t - n)
  unfolding cut
  cut_header h = let k : min size (s - n) ≤ min size (t - n) = omega arith in omega arith

  -- a stamp stands with a run that reaches s
  cut_stamped : (v : ℕ) → (cut n size s t x).decode_ts ≡ Some v → (n < s) × (s ≤ n + size) × (x ≡ Some v)
  unfolding cut
  cut_stamped v e = go (ltb n s) refl (leb s (n + size)) refl e
    where
      go : (a : Bool) → ltb n s ≡ a → (b : Bool) → leb s (n + size) ≡ b → cond (a && b) x None ≡ Some v
          → (n < s) × (s ≤ n + size) × (x ≡ Some v)
      go true a true b e = (ltb-true n s a, leb-true s (n + size) b, e)
      go true a false b e = cc
      go false a c b e = cc

-- The runs of a payload of so many bytes, the last of the unit u's so far.
module _ (u : List ℕ) (size : ℕ) (h : size ≤ length u) where
  abbrev before : ℕ
  before = length u - size

  -- a payload that ends before the stamp's run does: one run without a stamp
  pub unfinished : length u < stamp_end u → runs_of u size ≡ record { head = size; decode_ts = None; rest = 0; body = 0 }
  unfolding runs_of
  unfinished k = cut_before before size (stamp_end u) (content_begin u) (stamp_of u) (omega arith) (ordered u)

  -- the run that brings the header to stamp_end ends there and has the stamp
  pub ends_there : before < stamp_end u → stamp_end u ≤ length u → before + (runs_of u size).head ≡ stamp_end u
  unfolding runs_of
  ends_there a b = let e = cut_head before size (stamp_end u) (content_begin u) (stamp_of u) a (omega arith) in omega arith

  pub has_stamp : before < stamp_end u → stamp_end u ≤ length u → (runs_of u size).decode_ts ≡ stamp_of u
  unfolding runs_of
  has_stamp a b = cut_stamp before size (stamp_end u) (content_begin u) (stamp_of u) a (omega arith)

  -- no other run has one, and one that has it is not empty
  pub stamped : (v : ℕ) → (runs_of u size).decode_ts ≡ Some v → (before < stamp_end u) × (stamp_end u ≤ length u) × (stamp_of u ≡ Some v)
  unfolding runs_of
  stamped v e =
      let r = cut_stamped before size (stamp_end u) (content_begin u) (stamp_of u) v e in
      (r.0, omega (arith, r.1), r.2)

  pub stamped_nonempty : (v : ℕ) → (runs_of u size).decode_ts ≡ Some v → 0 < (runs_of u size).head
  stamped_nonempty v e = let r = stamped v e in omega (arith, ends_there r.0 r.1)

  -- the header's rest is the bytes from there up to the content, and the body what follows
  pub rest_ends : (runs_of u size).head + (runs_of u size).rest ≡ min size (content_begin u - before)
  unfolding runs_of
  rest_ends = cut_header before size (stamp_end u) (content_begin u) (stamp_of u) (ordered u)

timestamp_bound : (s : List ℕ) → timestamp s < 2 ^ 33
timestamp_bound s = rw (timestamp_places s) (omega (arith, bound s 4 3, bound s 8 15, bound s 24 15))

-- Where the stamp's run ends and content begins, and which stamp it is, by the fields.
module _ (u : List ℕ) where
  -- ids of the pes table: 6 bytes and never a stamp
  pub short_end : optional_header u ≡ false → stamp_end u ≡ 6
  unfolding stamp_end stamp_end_by
  short_end t = rw t

  pub short_content : optional_header u ≡ false → content_begin u ≡ 6
  unfolding content_begin content_begin_by
  short_content t = rw t

  pub short_stamp : optional_header u ≡ false → stamp_of u ≡ None
  unfolding stamp_of decode_ts_by
  short_stamp t = rw t

  pub long_content : optional_header u ≡ true → content_begin u ≡ 9 + header_data_length u
  unfolding content_begin content_begin_by
  long_content t = rw t

  pub end_10 : optional_header u ≡ true → pts_dts_flags u ≡ 2 → stamp_end u ≡ 9 + min (header_data_length u) 5
  unfolding stamp_end stamp_end_by stamp_bytes
  end_10 t f = rw (t, f)

  pub end_11 : optional_header u ≡ true → pts_dts_flags u ≡ 3 → stamp_end u ≡ 9 + min (header_data_length u) 10
  unfolding stamp_end stamp_end_by stamp_bytes
  end_11 t f = rw (t, f)

  pub end_else : optional_header u ≡ true → (pts_dts_flags u ≡ 2 → ⊥) → (pts_dts_flags u ≡ 3 → ⊥) → stamp_end u ≡ 9
  unfolding stamp_end stamp_end_by stamp_bytes
  end_else t a b = rw (t, ne_eqb _ _ a, ne_eqb _ _ b) (omega arith)

  -- a stamp is the PTS at flags '10' and a header length of 5 or more, or the DTS at '11' and 10 or more
  pub record Pts (v : ℕ) : Type 0 where
    pub optional : optional_header u ≡ true
    pub flags : pts_dts_flags u ≡ 2
    pub room : 5 ≤ header_data_length u
    pub value : v ≡ pts u

  pub record Dts (v : ℕ) : Type 0 where
    pub optional : optional_header u ≡ true
    pub flags : pts_dts_flags u ≡ 3
    pub room : 10 ≤ header_data_length u
    pub value : v ≡ dts u

  pub has_pts : (v : ℕ) → Pts v → stamp_of u ≡ Some v
  unfolding stamp_of decode_ts_by
  has_pts v h = rw (h.optional, h.flags, le-leb _ _ h.room, h.value)

  pub has_dts : (v : ℕ) → Dts v → stamp_of u ≡ Some v
  unfolding stamp_of decode_ts_by
  has_dts v h = rw (h.optional, h.flags, le-leb _ _ h.room, h.value)

  pub stamp_from_lem : (v : ℕ) → stamp_of u ≡ Some v → Pts v ⊎ Dts v
  unfolding stamp_of decode_ts_by
  stamp_from_lem v = go (optional_header u) refl (eqb (pts_dts_flags u) 2) refl (eqb (pts_dts_flags u) 3) refl (leb 5 (header_data_length u)) refl (leb 10 (header_data_length u)) refl
    where
      go : (o : Bool) → optional_header u ≡ o → (a : Bool) → eqb (pts_dts_flags u) 2 ≡ a → (b : Bool) → eqb (pts_dts_flags u) 3 ≡ b
          → (c : Bool) → leb 5 (header_data_length u) ≡ c → (d : Bool) → leb 10 (header_data_length u) ≡ d
          → cond o (cond a (cond c (Some (pts u)) None) (cond b (cond d (Some (dts u)) None) None)) None ≡ Some v
          → Pts v ⊎ Dts v
      go true o true a b _ true c d _ e = inl (record { optional = o; flags = eqb-true _ _ a; room = leb-true _ _ c; value = cc })
      go true o false a true b c _ true d e = inr (record { optional = o; flags = eqb-true _ _ b; room = leb-true _ _ d; value = cc })
      go true o true a b _ false c d _ e = cc
      go true o false a true b c _ false d e = cc
      go true o false a false b c _ d _ e = cc
      go false o a _ b _ c _ d _ e = cc

  -- '11' with a header length under 10 gives none, also where the PTS is there
  pub dts_cut_off : optional_header u ≡ true → pts_dts_flags u ≡ 3 → header_data_length u < 10 → stamp_of u ≡ None
  unfolding stamp_of decode_ts_by
  dts_cut_off t f h = rw (t, f, lt-leb 10 (header_data_length u) h)

  -- a stamp has 33 bits
  pub stamp_bound : (v : ℕ) → stamp_of u ≡ Some v → v < 2 ^ 33
  stamp_bound v e = ⊎_elim (λ q. rw (q.value, pts_bytes u q.flags) (timestamp_bound _)) (λ q. rw (q.value, dts_bytes u q.flags) (timestamp_bound _)) (stamp_from_lem v e)
