-- Worked recordings at the three layouts, and the marks of content at the ends of each part of theirs (document 01).
use Rattle.std.specs.Prelude.{ℕ, ◌+◌, ◌*◌, List, [], ◌∷◌, ◌++◌, Bool, true, false, ◌&&◌, replicate}
use Rattle.std.specs.Bool.{beq}
use Rattle.recording.specs.Read.{Streams}
use Rattle.recording.specs.Content.{content_of_found}

-- Packets of PID 257, the only stream: `first` starts a unit with a PES header of 14 bytes; `further` goes on with a unit; `short` starts a unit
-- of 8 bytes, and `across` goes on with its byte 8, which is 5; `without` has an adaptation field of 2 bytes and no payload; the adaptation
-- field of `overlong` is longer than the packet. `other` is of a PID that no stream has.
abbrev pub streams : Streams
streams = record { pids = 257 ∷ [] }

abbrev pub first : List ℕ
first =
    0x47 ∷ 0x41 ∷ 0x01 ∷ 0x10
    ∷ 0x00 ∷ 0x00 ∷ 0x01 ∷ 0xE0 ∷ 0x00 ∷ 0x00 ∷ 0x80 ∷ 0x80 ∷ 0x05 ∷ 0x21 ∷ 0x00 ∷ 0x05 ∷ 0xBF ∷ 0x21
    ∷ replicate 170 0xAA

abbrev pub further : List ℕ
further = 0x47 ∷ 0x01 ∷ 0x01 ∷ 0x11 ∷ replicate 184 0xBB

abbrev pub short : List ℕ
short =
    0x47 ∷ 0x41 ∷ 0x01 ∷ 0x30 ∷ 175 ∷ 0x00
    ∷ replicate 174 0xFF ++ (0x00 ∷ 0x00 ∷ 0x01 ∷ 0xE0 ∷ 0x00 ∷ 0x00 ∷ 0x80 ∷ 0x80 ∷ [])

abbrev pub across : List ℕ
across = 0x47 ∷ 0x01 ∷ 0x01 ∷ 0x12 ∷ 0x05 ∷ replicate 183 0xBB

abbrev pub without : List ℕ
without = 0x47 ∷ 0x01 ∷ 0x01 ∷ 0x20 ∷ 1 ∷ 0x00 ∷ replicate 182 0xCC

abbrev pub overlong : List ℕ
overlong = 0x47 ∷ 0x01 ∷ 0x01 ∷ 0x30 ∷ 200 ∷ 0x00 ∷ replicate 182 0xDD

abbrev pub other : List ℕ
other = 0x47 ∷ 0x1F ∷ 0xFF ∷ 0x10 ∷ replicate 184 0xEE

-- whether a byte is content, counted within each group of packet_size bytes
pub record Mark : Type 0 where
  pub packet : ℕ
  pub byte : ℕ
  pub mark : Bool

abbrev pub at : ℕ → ℕ → Bool → Mark
at k j m = record { packet = k; byte = j; mark = m }

pub record Example : Type 0 where
  pub size : ℕ
  pub recording : List ℕ
  pub marks : List Mark

abbrev pub with188 : Example
with188 =
    record {
      size = 188;
      recording = further ++ short ++ short ++ across ++ first ++ further ++ without ++ overlong ++ other ++ (0x47 ∷ 0x00 ∷ []);
      marks =
          at 0 3 false ∷ at 0 4 true ∷ at 0 187 true
          ∷ at 1 180 false ∷ at 1 187 false ∷ at 2 180 false ∷ at 2 187 false
          ∷ at 3 3 false ∷ at 3 4 false ∷ at 3 9 false ∷ at 3 10 true ∷ at 3 187 true
          ∷ at 4 0 false ∷ at 4 17 false ∷ at 4 18 true ∷ at 4 187 true
          ∷ at 5 3 false ∷ at 5 4 true ∷ at 5 187 true
          ∷ at 6 6 false ∷ at 6 187 false ∷ at 7 4 false ∷ at 7 187 false
          ∷ at 8 3 false ∷ at 8 4 true ∷ at 8 187 true
          ∷ at 9 0 true ∷ at 9 1 true
          ∷ [];
    }

abbrev pub with192 : Example
with192 =
    record {
      size = 192;
      recording = replicate 4 0x11 ++ first ++ replicate 4 0x22 ++ further;
      marks =
          at 0 0 true ∷ at 0 3 true ∷ at 0 4 false ∷ at 0 21 false ∷ at 0 22 true ∷ at 0 191 true
          ∷ at 1 0 true ∷ at 1 3 true ∷ at 1 4 false ∷ at 1 7 false ∷ at 1 8 true ∷ at 1 191 true
          ∷ [];
    }

-- the last 190 bytes are no whole packet of 204
abbrev pub with204 : Example
with204 =
    record {
      size = 204;
      recording = first ++ replicate 16 0x33 ++ overlong ++ replicate 16 0x44 ++ first ++ (0x55 ∷ 0x55 ∷ []);
      marks =
          at 0 0 false ∷ at 0 17 false ∷ at 0 18 true ∷ at 0 187 true ∷ at 0 188 true ∷ at 0 203 true
          ∷ at 1 0 false ∷ at 1 187 false ∷ at 1 188 true ∷ at 1 203 true
          ∷ at 2 0 true ∷ at 2 189 true
          ∷ [];
    }

abbrev pub examples : List Example
examples = with188 ∷ with192 ∷ with204 ∷ []

abbrev pub marks_hold : List ℕ → ℕ → List Mark → Bool
marks_hold l size [] = true
marks_hold l size (m ∷ ms) = beq (content_of_found streams l (m.packet * size + m.byte)) m.mark && marks_hold l size ms

abbrev pub all_hold : List Example → Bool
all_hold [] = true
all_hold (e ∷ es) = marks_hold e.recording e.size e.marks && all_hold es
