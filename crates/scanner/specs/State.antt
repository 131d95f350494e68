-- What the scanner keeps of a stream's open unit, and its step: the runs of a payload, and what is kept behind it.
use Rattle.std.specs.Prelude.{ℕ, ◌+◌, List, [], ◌∷◌, ◌++◌, Bool, true, false, cond, ◌&&◌, length, get_or, take, replicate, ltb, leb, None}
use Rattle.scanner.specs.declared.Runs.{Runs}
use Rattle.scanner.specs.declared.StampBytes.{StampBytes}
use Rattle.scanner.specs.declared.PesHeader.{PesHeader}
use Rattle.scanner.specs.declared.PesScanner.{PesScanner}
use Rattle.scanner.specs.declared.Fed.{Fed}
use Rattle.scanner.specs.Unit.{content_begin, Open, none, unit, runs_in, next_open}

-- the bytes of a unit's header that decide its runs: 3, 7 and 8, 9 to 13, and 14 to 18
unfoldable pub stamp_bytes_at : List ℕ → ℕ → StampBytes
stamp_bytes_at u i = record { b0 = get_or u i 0; b1 = get_or u (i + 1) 0; b2 = get_or u (i + 2) 0; b3 = get_or u (i + 3) 0; b4 = get_or u (i + 4) 0 }

unfoldable pub header_of : List ℕ → PesHeader
header_of u =
    record {
      stream_id = get_or u 3 0;
      flags = get_or u 7 0;
      header_data_length = get_or u 8 0;
      pts = stamp_bytes_at u 9;
      dts = stamp_bytes_at u 14;
    }

-- no content begins behind byte 9 + 255
abbrev pub header_limit : ℕ
header_limit = 264

-- before the first unit, and in a unit whose content has begun
unfoldable pub idle : PesScanner
idle = record { count = 0; started = false; header = header_of [] }

unfoldable pub in_content : PesScanner
in_content = record { count = header_limit; started = true; header = header_of [] }

-- a unit is open, and its content has not begun
unfoldable pub in_header : PesScanner → Bool
in_header s = s.started && ltb s.count header_limit

-- a payload of content alone
abbrev pub only_body : ℕ → Runs
only_body n = record { head = 0; decode_ts = None; rest = 0; body = n }

-- the runs of n bytes that start no unit and have no header bytes: content, or none before the first unit
unfoldable pub unfed_runs : PesScanner → ℕ → Runs
unfed_runs s n = only_body (cond s.started n 0)

-- what is kept of an open unit: its count of bytes and those bytes, up to its content
unfoldable pub scanner_of : Open → PesScanner
scanner_of none = idle
scanner_of (unit u) =
    cond (leb (content_begin u) (length u)) in_content (record { count = length u; started = true; header = header_of u })

-- the header's bytes at their places, 0 at the others
abbrev pub placed : PesHeader → List ℕ
placed h =
    0 ∷ 0 ∷ 0 ∷ h.stream_id ∷ 0 ∷ 0 ∷ 0 ∷ h.flags ∷ h.header_data_length
    ∷ h.pts.b0 ∷ h.pts.b1 ∷ h.pts.b2 ∷ h.pts.b3 ∷ h.pts.b4
    ∷ h.dts.b0 ∷ h.dts.b1 ∷ h.dts.b2 ∷ h.dts.b3 ∷ h.dts.b4 ∷ []

-- a unit of n bytes with that header, and the open unit that a state stands for
unfoldable pub unit_with : ℕ → PesHeader → List ℕ
unit_with n h = take n (placed h ++ replicate n 0)

unfoldable pub open_of : PesScanner → Open
open_of s = cond s.started (unit (unit_with s.count s.header)) none

-- the scanner's step
unfoldable pub fed_of : Open → Bool → List ℕ → Fed
fed_of o bit p = record { runs = runs_in (next_open o bit p) (length p); scanner = scanner_of (next_open o bit p) }
