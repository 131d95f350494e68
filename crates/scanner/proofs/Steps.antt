-- The scanner's step on the unit that its state stands for, and on any unit that it keeps the same of.
-- Assumes nothing.
use mathlib.Core.Path.{◌≡◌, refl, sym, ◌∙◌, ap}
use mathlib.Core.Bool.{Bool, true, false, cond, ◌&&◌}
use mathlib.Core.List.{List, [], ◌++◌}
use Prim.Native.Nat.{ℕ, ◌+◌, ◌-◌, ◌<◌, ◌≤◌, min}
use native.Mathlib.Omega.{arith}
use lib.Dec.{ltb, leb}
use lib.ListN.{length, get_or, length-append}
use borrow.Author.Tests.{le-leb, le-ltb, leb-true, leb-false, ltb-false}
use Rattle.pes.specs.StreamId.{has_optional_header}
use Rattle.scanner.specs.declared.Fed.{Fed}
use Rattle.scanner.specs.declared.PesHeader.{PesHeader}
use Rattle.scanner.specs.declared.PesScanner.{PesScanner}
use Rattle.scanner.specs.declared.UnitCuts.{UnitCuts}
use Rattle.scanner.specs.Unit.{optional_header, pts_dts_flags, header_data_length, stamp_end, content_begin, stamp_of, stamp_end_by, content_begin_by, cut, runs_of, Open, none, unit, runs_in, starts, next_open}
use Rattle.scanner.specs.State.{stamp_bytes_at, header_of, header_limit, idle, in_content, in_header, only_body, unfed_runs, scanner_of, unit_with, open_of, fed_of}
use Rattle.scanner.specs.Joined.{decode_ts_in, cuts_by, kept_from, begun_at}
use Rattle.scanner.proofs.Kept.{length_with, keeps}
use Rattle.scanner.proofs.Cuts.{optional_is, flags_is, length_is, pts_bytes, dts_bytes, stamp_same, ordered, content_limit, content_within, settled, header_parts}

-- the cuts by the header's bytes are the unit's
module _ (u : List ℕ) (h3 : get_or u 3 0 < 256) (h7 : get_or u 7 0 < 256) (h8 : get_or u 8 0 < 256) where
  stamp_is : decode_ts_in (optional_header u) (pts_dts_flags u) (header_of u) ≡ stamp_of u
  unfolding decode_ts_in stamp_of header_of stamp_bytes_at
  stamp_is =
      rw (length_is u h8)
      (stamp_same (optional_header u) (pts_dts_flags u) (header_data_length u) _ _ _ _ (λ _ f _. sym (pts_bytes u f)) (λ _ f _. sym (dts_bytes u f)))

  pub cuts_are : cuts_by (header_of u) ≡ record { stamp_end = stamp_end u; content_begin = content_begin u; stamp = stamp_of u }
  unfolding cuts_by stamp_end content_begin header_of
  cuts_are =
      rw (optional_is u h3, flags_is u h7)
      λ i.
      record {
        stamp_end = stamp_end_by (optional_header u) (pts_dts_flags u) (length_is u h8 i);
        content_begin = content_begin_by (optional_header u) (length_is u h8 i);
        stamp = stamp_is i;
      }

-- an empty unit
abbrev opened : PesScanner
opened = record { count = 0; started = true; header = header_of [] }

-- the step of a unit goes by its count of bytes and by the header of what it is with the payload
abbrev pub step_by : UnitCuts → ℕ → PesHeader → List ℕ → Fed
step_by c n h p =
    record {
      runs = cut n (length p) c.stamp_end c.content_begin c.stamp;
      scanner = kept_from (n + length p) c.content_begin h;
    }

abbrev pub step : ℕ → PesHeader → List ℕ → Fed
step n h p = step_by (cuts_by h) n h p

module _ (u p : List ℕ) where
  before_is : length (u ++ p) - length p ≡ length u
  before_is = omega (arith, length-append u p)

  pub step_is : get_or (u ++ p) 3 0 < 256 → get_or (u ++ p) 7 0 < 256 → get_or (u ++ p) 8 0 < 256
      → step (length u) (header_of (u ++ p)) p ≡ fed_of (unit u) false p
  unfolding fed_of runs_of scanner_of kept_from
  step_is h3 h7 h8 = rw (cuts_are (u ++ p) h3 h7 h8, before_is, length-append u p)

  -- a unit whose content has begun
  pub through : content_begin u ≤ length u → fed_of (unit u) false p ≡ record { runs = only_body (length p); scanner = in_content }
  unfolding fed_of runs_of scanner_of cut
  through h =
      let t : content_begin u ≡ content_begin (u ++ p) = (settled u p (omega (arith, ordered u))).content_begin in
      let o = ordered (u ++ p) in
      let s : stamp_end (u ++ p) - length u ≡ 0 = omega arith in
      let z : content_begin (u ++ p) - length u ≡ 0 = omega arith in
      let m : min (length p) 0 ≡ 0 = omega arith in
      let b : length p - 0 ≡ length p = omega arith in
      rw (
        before_is,
        s,
        z,
        m,
        b,
        le-ltb (length u) (stamp_end (u ++ p)) (omega arith),
        le-leb (content_begin (u ++ p)) (length (u ++ p)) (omega (arith, length-append u p)),
      )

-- The state before a payload: the step from there needs no start bit.
pub begun_is : (s : PesScanner) (bit : Bool) (p : List ℕ) → fed_of (open_of (begun_at s bit (length p))) false p ≡ fed_of (open_of s) bit p
unfolding begun_at fed_of open_of unit_with
begun_is s bit p = go (bit && ltb 0 (length p)) refl
  where
    go : (t : Bool) → bit && ltb 0 (length p) ≡ t → fed_of (open_of (cond t opened s)) false p ≡ fed_of (open_of s) bit p
    go true e = rw e
    go false e = rw e

pub taken : (n : ℕ) (h j : PesHeader) (p : List ℕ) → j ≡ header_of (unit_with n h ++ p) → j.stream_id < 256 → j.flags < 256
    → j.header_data_length < 256 → step n j p ≡ fed_of (unit (unit_with n h)) false p
unfolding header_of
taken n h j p e h3 h7 h8 =
    ap (λ (x : PesHeader). step n x p) e
    ∙ ap (λ (m : ℕ). step m (header_of (unit_with n h ++ p)) p) (sym (length_with n h))
    ∙ step_is (unit_with n h) p
    (rw (ap (λ (x : PesHeader). x.stream_id) e) at h3)
    (rw (ap (λ (x : PesHeader). x.flags) e) at h7)
    (rw (ap (λ (x : PesHeader). x.header_data_length) e) at h8)

past_limit : (n : ℕ) (h : PesHeader) (p : List ℕ) → 264 ≤ n
    → fed_of (unit (unit_with n h)) false p ≡ record { runs = only_body (length p); scanner = in_content }
past_limit n h p k = through (unit_with n h) p (omega (arith, length_with n h, content_limit (unit_with n h)))

pub begin_limit : (h : PesHeader) → h.header_data_length < 256 → (cuts_by h).content_begin ≤ 264
unfolding cuts_by
begin_limit h k = content_within (has_optional_header h.stream_id) h.header_data_length k

open_is : (s : PesScanner) → s.started ≡ true → open_of s ≡ unit (unit_with s.count s.header)
unfolding open_of
open_is s t = rw t

none_is : (s : PesScanner) → s.started ≡ false → open_of s ≡ none
unfolding open_of
none_is s t = rw t

module _ (s x : PesScanner) (bit : Bool) (p : List ℕ) (e : s ≡ begun_at x bit (length p)) where
  from_begun : fed_of (open_of s) false p ≡ fed_of (open_of x) bit p
  from_begun = ap (λ (y : PesScanner). fed_of (open_of y) false p) e ∙ begun_is x bit p

  pub fed_open : s.started ≡ true → fed_of (unit (unit_with s.count s.header)) false p ≡ fed_of (open_of x) bit p
  fed_open t = ap (λ (o : Open). fed_of o false p) (sym (open_is s t)) ∙ from_begun

  pub fed_past : s.started ≡ true → 264 ≤ s.count → record { runs = only_body (length p); scanner = in_content } ≡ fed_of (open_of x) bit p
  fed_past t k = sym (past_limit s.count s.header p k) ∙ fed_open t

  pub fed_none : s.started ≡ false → record { runs = only_body 0; scanner = idle } ≡ fed_of (open_of x) bit p
  unfolding fed_of scanner_of
  fed_none t = ap (λ (o : Open). fed_of o false p) (sym (none_is s t)) ∙ from_begun

-- Units of one length that have the same header with the payload make the same step.
same_step : (u v p : List ℕ) → length u ≡ length v → header_of (u ++ p) ≡ header_of (v ++ p) → fed_of (unit u) false p ≡ fed_of (unit v) false p
unfolding fed_of runs_of scanner_of
same_step u v p l e =
    let q = header_parts (u ++ p) (v ++ p) e in
    let m : length (u ++ p) ≡ length (v ++ p) = length-append u p ∙ ap (λ (k : ℕ). k + length p) l ∙ sym (length-append v p) in
    rw (q.stamp_end, q.content_begin, q.stamp, m, e)

at_start : (o q : Open) (bit : Bool) (p : List ℕ) → starts bit p ≡ true → fed_of o bit p ≡ fed_of q bit p
unfolding fed_of
at_start o q bit p e = rw e

no_start : (o : Open) (bit : Bool) (p : List ℕ) → starts bit p ≡ false → fed_of o bit p ≡ fed_of o false p
unfolding fed_of
no_start o bit p e = rw e

kept_none : (p : List ℕ) → fed_of (open_of (scanner_of none)) false p ≡ fed_of none false p
unfolding open_of scanner_of idle
kept_none p = refl

kept_unit : (u p : List ℕ) → fed_of (open_of (scanner_of (unit u))) false p ≡ fed_of (unit u) false p
unfolding open_of scanner_of in_content
kept_unit u p = go (leb (content_begin u) (length u)) refl
  where
    go : (t : Bool) → leb (content_begin u) (length u) ≡ t
        → fed_of (open_of (cond t in_content (record { count = length u; started = true; header = header_of u }))) false p ≡ fed_of (unit u) false p
    go true e = past_limit 264 (header_of []) p (omega arith) ∙ sym (through u p (leb-true _ _ e))
    go false e = same_step (unit_with (length u) (header_of u)) u p (length_with (length u) (header_of u)) (keeps u p)

-- What is kept of an open unit makes the unit's own step: this is what a caller uses.
pub fed_is : (o : Open) (bit : Bool) (p : List ℕ) → fed_of (open_of (scanner_of o)) bit p ≡ fed_of o bit p
fed_is o bit p = go (starts bit p) refl
  where
    started : (o : Open) → fed_of (open_of (scanner_of o)) false p ≡ fed_of o false p
    started none = kept_none p
    started (unit u) = kept_unit u p

    go : (t : Bool) → starts bit p ≡ t → fed_of (open_of (scanner_of o)) bit p ≡ fed_of o bit p
    go true e = at_start (open_of (scanner_of o)) o bit p e
    go false e = no_start (open_of (scanner_of o)) bit p e ∙ started o ∙ sym (no_start o bit p e)

-- The same by its parts, and the state before the first unit.
pub fed_runs : (o : Open) (bit : Bool) (p : List ℕ) → (fed_of (open_of (scanner_of o)) bit p).runs ≡ runs_in (next_open o bit p) (length p)
unfolding fed_of
fed_runs o bit p = ap (λ (f : Fed). f.runs) (fed_is o bit p)

pub fed_scanner : (o : Open) (bit : Bool) (p : List ℕ) → (fed_of (open_of (scanner_of o)) bit p).scanner ≡ scanner_of (next_open o bit p)
unfolding fed_of
fed_scanner o bit p = ap (λ (f : Fed). f.scanner) (fed_is o bit p)

pub new_is : idle ≡ scanner_of none
unfolding scanner_of
new_is = refl

-- A scanner that is in no header takes a payload that starts no unit as content, or as nothing before the first unit, and stays as it is.
pub unfed_is : (o : Open) (p : List ℕ) → in_header (scanner_of o) ≡ false
    → fed_of (open_of (scanner_of o)) false p ≡ record { runs = unfed_runs (scanner_of o) (length p); scanner = scanner_of o }
unfolding in_header unfed_runs fed_of open_of scanner_of idle in_content
unfed_is none p e = refl
unfed_is (unit u) p e = go (leb (content_begin u) (length u)) refl e
  where
    kept : Bool → PesScanner
    kept t = cond t in_content (record { count = length u; started = true; header = header_of u })

    go : (t : Bool) → leb (content_begin u) (length u) ≡ t → in_header (kept t) ≡ false
        → fed_of (open_of (kept t)) false p ≡ record { runs = unfed_runs (kept t) (length p); scanner = kept t }
    go true b e = past_limit header_limit (header_of []) p (omega arith)
    go false b e = absurd (omega (arith, leb-false (content_begin u) (length u) b, ltb-false (length u) header_limit e, content_limit u))

pub unfed_empty : (s : PesScanner) → unfed_runs s 0 ≡ only_body 0
unfolding unfed_runs
unfed_empty s = go s.started
  where
    go : (b : Bool) → only_body (cond b 0 0) ≡ only_body 0
    go true = refl
    go false = refl
