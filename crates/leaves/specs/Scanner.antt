-- `PesScanner::feed` on a state in words: count, whether a unit is open, bytes 3, 7 and 8 of the unit, the five of the PTS, the
-- five of the DTS. A word of the state counts modulo the size of its field.
use Rattle.std.specs.Prelude.{◌≡◌, ℕ, ◌+◌, ◌%◌, cond, List, [], ◌∷◌, length, ◌==◌, nat_le, slice_index}
use Rattle.scanner.specs.declared.Runs.{Runs}
use Rattle.scanner.specs.declared.StampBytes.{StampBytes}
use Rattle.scanner.specs.declared.PesScanner.{PesScanner}
use Rattle.scanner.specs.declared.Fed.{Fed}
use Rattle.scanner.specs.State.{open_of, fed_of}
use Rattle.leaves.specs.Leaves.{stored, flag_word, word_of}

abbrev pub byte_in : List ℕ → ℕ → ℕ
byte_in s i = slice_index s i % 256

unfoldable pub stamp_in : List ℕ → ℕ → StampBytes
stamp_in s i = record { b0 = byte_in s i; b1 = byte_in s (i + 1); b2 = byte_in s (i + 2); b3 = byte_in s (i + 3); b4 = byte_in s (i + 4) }

unfoldable pub scanner_at : List ℕ → PesScanner
scanner_at s =
    record {
      count = slice_index s 0 % 65536;
      started = (slice_index s 1 == 1);
      header =
          record { stream_id = byte_in s 2; flags = byte_in s 3; header_data_length = byte_in s 4; pts = stamp_in s 5; dts = stamp_in s 10 };
    }

unfoldable pub scanner_words : PesScanner → List ℕ
scanner_words s =
    s.count ∷ flag_word s.started
    ∷ s.header.stream_id ∷ s.header.flags ∷ s.header.header_data_length
    ∷ s.header.pts.b0 ∷ s.header.pts.b1 ∷ s.header.pts.b2 ∷ s.header.pts.b3 ∷ s.header.pts.b4
    ∷ s.header.dts.b0 ∷ s.header.dts.b1 ∷ s.header.dts.b2 ∷ s.header.dts.b3 ∷ s.header.dts.b4 ∷ []

unfoldable pub run_words : Runs → List ℕ
run_words r = r.head ∷ word_of r.decode_ts ∷ r.rest ∷ r.body ∷ []

abbrev pub fed_from : (state payload : List ℕ) (start : ℕ) → Fed
fed_from state payload start = fed_of (open_of (scanner_at state)) (start == 1) payload

-- a state of fewer than 15 words is none, and nothing is stored
pub record Feeds (state payload : List ℕ) (start : ℕ) (out state' out' : List ℕ) : Type 0 where
  pub state_holds : state' ≡ stored (scanner_words (fed_from state payload start).scanner) state
  pub out_holds : out' ≡ cond (nat_le 15 (length state)) (stored (run_words (fed_from state payload start).runs) out) out
