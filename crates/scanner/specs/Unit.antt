-- A PES unit of a stream by its bytes (H.222.0, table 2-21; document 01, scanner): where the run of its time stamp ends, where its
-- content begins, its time stamp, and the runs of a payload. A byte that has not come yet reads as 0.
use Rattle.std.specs.Prelude.{ℕ, ◌+◌, ◌-◌, min, List, [], ◌++◌, Bool, true, false, cond, ◌&&◌, length, ltb, leb, eqb, Option, Some, None}
use Rattle.syntax.specs.Table.{field}
use Rattle.syntax.specs.Pes.{table_2_21, pts, dts}
use Rattle.pes.specs.StreamId.{has_optional_header}
use Rattle.scanner.specs.declared.Runs.{Runs}

-- the fields that decide: whether the optional header is there, PTS_DTS_flags and PES_header_data_length
abbrev pub optional_header : List ℕ → Bool
optional_header u = has_optional_header (field table_2_21 u "stream_id")

abbrev pub pts_dts_flags : List ℕ → ℕ
pts_dts_flags u = field table_2_21 u "PTS_DTS_flags"

abbrev pub header_data_length : List ℕ → ℕ
header_data_length u = field table_2_21 u "PES_header_data_length"

-- the bytes of time stamps that PTS_DTS_flags announces: 5 at '10', 10 at '11', else none
unfoldable pub stamp_bytes : ℕ → ℕ
stamp_bytes flags = cond (eqb flags 2) 5 (cond (eqb flags 3) 10 0)

-- the rules on those fields: the two cuts of a unit, and its time stamp
unfoldable pub stamp_end_by : Bool → ℕ → ℕ → ℕ
stamp_end_by optional flags len = cond optional (9 + min len (stamp_bytes flags)) 6

unfoldable pub content_begin_by : Bool → ℕ → ℕ
content_begin_by optional len = cond optional (9 + len) 6

unfoldable pub decode_ts_by : Bool → ℕ → ℕ → ℕ → ℕ → Option ℕ
decode_ts_by optional flags len p d =
    cond optional
    (cond (eqb flags 2) (cond (leb 5 len) (Some p) None)
    (cond (eqb flags 3) (cond (leb 10 len) (Some d) None) None))
    None

-- the same of a unit's bytes
unfoldable pub stamp_end : List ℕ → ℕ
stamp_end u = stamp_end_by (optional_header u) (pts_dts_flags u) (header_data_length u)

unfoldable pub content_begin : List ℕ → ℕ
content_begin u = content_begin_by (optional_header u) (header_data_length u)

unfoldable pub stamp_of : List ℕ → Option ℕ
stamp_of u = decode_ts_by (optional_header u) (pts_dts_flags u) (header_data_length u) (pts u) (dts u)

-- the runs of so many bytes behind the first n of a unit, cut at its bytes s and t; the stamp goes with the run that reaches s
unfoldable pub cut : ℕ → ℕ → ℕ → ℕ → Option ℕ → Runs
cut n size s t stamp =
    record {
      head = min size (s - n);
      decode_ts = cond (ltb n s && leb s (n + size)) stamp None;
      rest = min size (t - n) - min size (s - n);
      body = size - min size (t - n);
    }

-- the runs of a payload of so many bytes, the last of the unit's so far
unfoldable pub runs_of : List ℕ → ℕ → Runs
runs_of u size = cut (length u - size) size (stamp_end u) (content_begin u) (stamp_of u)

abbrev pub no_runs : Runs
no_runs = record { head = 0; decode_ts = None; rest = 0; body = 0 }

-- a stream's open unit, by its bytes so far
pub data Open : Type 0 where
  none : Open
  unit : List ℕ → Open

abbrev pub runs_in : Open → ℕ → Runs
runs_in none size = no_runs
runs_in (unit u) size = runs_of u size

-- only the payload unit start bit on a nonempty payload starts a unit
abbrev pub starts : Bool → List ℕ → Bool
starts bit p = bit && ltb 0 (length p)

-- the open unit behind a payload that starts one or goes on with the one that is open
abbrev pub next : Open → Bool → List ℕ → Open
next o true p = unit p
next none false p = none
next (unit u) false p = unit (u ++ p)

abbrev pub next_open : Open → Bool → List ℕ → Open
next_open o bit p = next o (starts bit p) p

-- Content (document 01). What the unit's following payloads add does not begin with one that starts another.
abbrev pub onward : Bool → List ℕ → List ℕ → List ℕ
onward true p r = []
onward false p r = p ++ r

-- byte i of a payload of so many bytes, the last of the open unit's so far, with r yet to come: content before the first unit, and from
-- content_begin of the whole unit on
abbrev pub content_of : Open → List ℕ → ℕ → ℕ → Bool
content_of none r size i = true
content_of (unit u) r size i = leb (content_begin (u ++ r)) (length u - size + i)
