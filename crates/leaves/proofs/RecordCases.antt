-- The cases of a line recorded in words. Assumes nothing.
use Rattle.std.proofs.Common.{◌≡◌, ℕ, Ok, Err, ◌∙◌, true, false, List, length, eq-eqb, ne_eqb, sym}
use lib.Ieee.{binary64, to_bits}
use Rattle.error.specs.declared.Refusal.{Refusal}
use Rattle.error.specs.Code.{code_of}
use Rattle.report.specs.declared.Recorded.{Recorded}
use Rattle.report.specs.Record.{recorded}
use Rattle.words.specs.Report.{report_after}
use Rattle.words.proofs.Report.{that_length}
use Rattle.leaves.specs.Record.{report_at, violation_at, are_words, record_leaf, record_of, Records}

module _ (ws line : List ℕ) where
  none : are_words ws line ≡ false → (n : ℕ) → n ≡ (code_of Refusal.WorkTooShort).number → Records ws line n ws
  unfolding record_of
  none e n h = record { is = rw e h; holds = rw e }

  pub other_report : (length ws ≡ 324 → ⊥) → (n : ℕ) → n ≡ (code_of Refusal.WorkTooShort).number → Records ws line n ws
  other_report e = none (rw (ne_eqb (length ws) 324 e))

  pub other_line : length ws ≡ 324 → (length line ≡ 5 → ⊥) → (n : ℕ) → n ≡ (code_of Refusal.WorkTooShort).number → Records ws line n ws
  other_line e f = none (rw (eq-eqb (length ws) 324 e, ne_eqb (length line) 5 f))

  module _ (e : length ws ≡ 324) (f : length line ≡ 5) (r : Recorded) (is : r ≡ recorded (report_at ws) (violation_at line 0)) where
    both : are_words ws line ≡ true
    both = rw (eq-eqb (length ws) 324 e, eq-eqb (length line) 5 f)

    pub records_done : r.answer ≡ Ok tt → (ws' : List ℕ) → ws' ≡ report_after (to_bits binary64) r.report ws → Records ws line 0 ws'
    unfolding record_of record_leaf
    records_done d ws' h = record { is = rw (both, ← is, d); holds = rw (both, ← is, d) (h ∙ sym (that_length (to_bits binary64) r.report ws e)) }

    pub records_refused : (x : Refusal) → r.answer ≡ Err x → (n : ℕ) → n ≡ (code_of x).number → Records ws line n ws
    unfolding record_of record_leaf
    records_refused x d n h = record { is = rw (both, ← is, d) h; holds = rw (both, ← is, d) }
