-- The words of the report when their loop ends. Assumes nothing.
use Prim.Native.Nat.{ℕ, ◌+◌, ◌*◌, ◌≤◌, ◌<◌}
use mathlib.Core.Path.{◌≡◌, refl, ap, ◌∙◌}
use mathlib.Core.List.{List, [], ◌∷◌, flat_map, append-nil}
use native.Mathlib.Omega.{arith}
use borrow.Author.Tests.{eq-eqb, ne_eqb}
use lib.ListN.{length, take, get_or, set, replicate, drop_of_length-le}
use lib.Ieee.{Float, is_nan, to_bits, of_bits}
use lib.Seq.{sets, sets-eq, length-sets, take_all}
use Rattle.report.specs.declared.violation.ViolationFields.{ViolationFields}
use Rattle.report.specs.declared.ViolationLine.{ViolationLine}
use Rattle.report.specs.declared.TStdReport.{TStdReport}
use Rattle.report.specs.Violation.{fields_of}
use Rattle.report.specs.Report.{unused_line}
use Rattle.words.specs.Bits.{bits_of}
use Rattle.words.specs.Report.{figure_word, fields_words, line_words, report_words, report_after}
use borrow.Rule.Slice.PartMut.{put_mid}
use Rattle.words.proofs.Stores.{Written, written_next, flat_length, sets_five}

pub line_size : (bits : Float → ℕ) (l : ViolationLine) → length (line_words bits l) ≡ 5
unfolding line_words fields_words
line_size bits l = refl

-- the five words of a line, stored one by one
module _ (bits : Float → ℕ) (l : ViolationLine) (ws : List ℕ) (at : ℕ) where
  abbrev fs : ViolationFields
  fs = fields_of l.violation

  abbrev whole : List ℕ
  whole = set (set (set ws at fs.kind) (at + 1) fs.pid) (at + 2) fs.limit

  pub line_stored : set (set whole (at + 3) (bits fs.decode_time)) (at + 4) (figure_word bits fs.figure) ≡ sets ws at (line_words bits l)
  unfolding line_words fields_words
  line_stored = sets_five ws at fs.kind fs.pid fs.limit (bits fs.decode_time) (figure_word bits fs.figure)

-- the first four words stored
abbrev headed : List ℕ → (a b c d : ℕ) → List ℕ
headed l a b c d = set (set (set (set l 0 a) 1 b) 2 c) 3 d

module _ (l : List ℕ) (a b c d : ℕ) (size : length l ≡ 324) where
  headed_size : length (headed l a b c d) ≡ 324
  headed_size = length-sets l 0 (a ∷ b ∷ c ∷ d ∷ []) ∙ size

  headed_front : take 4 (headed l a b c d) ≡ a ∷ b ∷ c ∷ d ∷ []
  headed_front = ap (λ (r : List ℕ). take 4 r) (sets-eq (a ∷ b ∷ c ∷ d ∷ []) l 0 (omega arith))

  lines_end : (bits : Float → ℕ) (lines : List ViolationLine) (ws : List ℕ) (i : ℕ) → length lines ≡ 64 → Written (line_words bits) 5 4 lines (headed l a b c d) ws i → i ≡ 64 → ws ≡ a ∷ b ∷ c ∷ d ∷ flat_map (line_words bits) lines
  lines_end bits lines ws i many p last =
      let none : length (headed l a b c d) ≤ 4 + 5 * 64 = omega (arith, headed_size) in
      rw last at p.done
      ∙ rw (drop_of_length-le (headed l a b c d) none, take_all 64 lines (omega (arith, many)), headed_front, append-nil (a ∷ b ∷ c ∷ d ∷ flat_map (line_words bits) lines))

module _ (bits : Float → ℕ) (r : TStdReport) (l : List ℕ) (size : length l ≡ 324) (seconds : ℕ) (told : seconds ≡ bits r.modelled_seconds) where
  abbrev begun : List ℕ
  begun = headed l r.violation_events r.pcr_samples seconds r.violation_count

  pub line_next : (ws v : List ℕ) (i at k : ℕ) (d : ViolationLine) → i < 64 → length r.violations ≡ 64 → at ≡ 4 + 5 * i → k ≡ 5 → v ≡ line_words bits (get_or r.violations i d) → Written (line_words bits) 5 4 r.violations begun ws i → Written (line_words bits) 5 4 r.violations begun (put_mid at k ws v) (i + 1)
  line_next ws v i at k d h many a n is p =
      let room = headed_size l r.violation_events r.pcr_samples seconds r.violation_count size in
      written_next (line_words bits) 5 4 (line_size bits) r.violations begun ws i d (omega arith) (omega arith) p at k v a n is

  pub report_ends : (ws : List ℕ) (i : ℕ) → length r.violations ≡ 64 → Written (line_words bits) 5 4 r.violations begun ws i → i ≡ 64 → ws ≡ report_words bits r
  unfolding report_words
  report_ends ws i many p last = rw (← told) (lines_end l _ _ _ _ size bits r.violations ws i many p last)

-- ---- words of another length stay
module _ (bits : Float → ℕ) (r : TStdReport) (ws : List ℕ) where
  pub other_length : (length ws ≡ 324 → ⊥) → ws ≡ report_after bits r ws
  unfolding report_after
  other_length h = rw (ne_eqb (length ws) 324 h)

  pub that_length : length ws ≡ 324 → report_words bits r ≡ report_after bits r ws
  unfolding report_after
  that_length h = rw (eq-eqb (length ws) 324 h)

-- ---- what the words are
pub report_length : (bits : Float → ℕ) (r : TStdReport) → length r.violations ≡ 64 → length (report_words bits r) ≡ 324
unfolding report_words
report_length bits r many = rw (flat_length (line_words bits) 5 (line_size bits) r.violations, many)

-- a line that is not in use
pub unused_words : line_words bits_of unused_line ≡ replicate 5 0
unfolding line_words fields_words fields_of figure_word bits_of is_nan to_bits of_bits
unused_words = refl
