-- What private functions of the scanner answer: bytes of a unit that are kept or come with the payload, and the stamp of a header's
-- bytes. No public contract cites these.
use Rattle.std.specs.Prelude.{ℕ, ◌+◌, ◌-◌, ◌/◌, List, [], ◌∷◌, Bool, true, cond, ◌&&◌, get_or, ltb, leb, Option, None}
use Rattle.syntax.specs.TimeStamp.{timestamp}
use Rattle.scanner.specs.declared.StampBytes.{StampBytes}
use Rattle.scanner.specs.declared.PesHeader.{PesHeader}
use Rattle.pes.specs.StreamId.{has_optional_header}
use Rattle.scanner.specs.declared.UnitCuts.{UnitCuts}
use Rattle.scanner.specs.declared.PesScanner.{PesScanner}
use Rattle.scanner.specs.Unit.{stamp_end_by, content_begin_by, decode_ts_by}
use Rattle.scanner.specs.State.{header_of, in_content}

unfoldable pub byte_at : ℕ → ℕ → ℕ → List ℕ → ℕ
byte_at kept n i p = cond (ltb i n) kept (get_or p (i - n) 0)

unfoldable pub stamp_at : StampBytes → ℕ → ℕ → List ℕ → StampBytes
stamp_at f n i p =
    record {
      b0 = byte_at f.b0 n i p;
      b1 = byte_at f.b1 n (i + 1) p;
      b2 = byte_at f.b2 n (i + 2) p;
      b3 = byte_at f.b3 n (i + 3) p;
      b4 = byte_at f.b4 n (i + 4) p;
    }

abbrev pub listed : StampBytes → List ℕ
listed b = b.b0 ∷ b.b1 ∷ b.b2 ∷ b.b3 ∷ b.b4 ∷ []

unfoldable pub decode_ts_in : Bool → ℕ → PesHeader → Option ℕ
decode_ts_in optional flags h =
    decode_ts_by optional flags h.header_data_length (timestamp (listed h.pts)) (timestamp (listed h.dts))

unfoldable pub stamp_here : ℕ → ℕ → ℕ → Option ℕ → Option ℕ
stamp_here n size s stamp = cond (ltb n s && leb s (n + size)) stamp None

unfoldable pub cuts_by : PesHeader → UnitCuts
cuts_by h =
    record {
      stamp_end = stamp_end_by (has_optional_header h.stream_id) (h.flags / 64) h.header_data_length;
      content_begin = content_begin_by (has_optional_header h.stream_id) h.header_data_length;
      stamp = decode_ts_in (has_optional_header h.stream_id) (h.flags / 64) h;
    }

-- what is kept of a unit of e bytes whose content begins at t
unfoldable pub kept_from : ℕ → ℕ → PesHeader → PesScanner
kept_from e t h = cond (leb t e) in_content (record { count = e; started = true; header = h })

unfoldable pub begun_at : PesScanner → Bool → ℕ → PesScanner
begun_at s bit size = cond (bit && ltb 0 size) (record { count = 0; started = true; header = header_of [] }) s
