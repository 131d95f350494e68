-- Content as document 01 has it ('Content, for the blind comparison'), read off the recording, its layout and the stream PIDs; when two
-- recordings differ only in content; and a recording with its content zeroed.
use Rattle.std.specs.Prelude.{ℕ, zero, suc, ◌+◌, ◌-◌, ◌/◌, ◌%◌, ◌<◌, ◌≡◌, List, [], ◌∷◌, Bool, true, false, cond, ◌&&◌, length, get_or, ltb, leb, eqb, Option, Some, None, Result, Ok, Err}
use Rattle.packet.specs.declared.TsPacket.{TsPacket}
use Rattle.packet.specs.declared.TsError.{TsError}
use Rattle.packet.specs.declared.TsPacketLayout.{TsPacketLayout}
use Rattle.packet.specs.Packet.{parse_of}
use Rattle.packet.specs.Layout.{layout_of}
use Rattle.scanner.specs.Unit.{Open, starts, onward, content_of}
use Rattle.recording.specs.Read.{Streams, is_stream, packets, packet_at, payload_in, opens_at}

-- what a packet adds to a unit of PID x that is open before it, where r is what the later ones add: 'up to the next such one of its PID'
abbrev pub unit_rest_by : ℕ → List ℕ → Result TsPacket TsError → List ℕ → List ℕ
unit_rest_by x w (Ok h) r = cond (eqb h.pid x) (onward (starts h.payload_unit_start (payload_in w h)) (payload_in w h) r) r
unit_rest_by x w (Err e) r = r

-- byte j of a packet's 188, by the open units of the PIDs behind it and what these have yet to come. 'Nothing in an unparsed packet's 188
-- bytes is content'; in a parsed one, of its payload: all where no stream has the PID or no unit of it has begun, else the unit's content
unfoldable pub content_in : Streams → (ℕ → Open) → (ℕ → List ℕ) → List ℕ → Result TsPacket TsError → ℕ → Bool
content_in s opens rests w (Ok h) j =
    leb h.payload_start j
    && cond (is_stream s h.pid) (content_of (opens h.pid) (rests h.pid) (length (payload_in w h)) (j - h.payload_start)) true
content_in s opens rests w (Err e) j = false

module _ (y : TsPacketLayout) where
  -- what n packets from k on add to a unit of PID x
  abbrev pub unit_rest : List ℕ → ℕ → ℕ → ℕ → List ℕ
  unit_rest l k zero x = []
  unit_rest l k (suc n) x = unit_rest_by x (packet_at y l k) (parse_of (packet_at y l k)) (unit_rest l (suc k) n x)

  -- byte j of packet k is content, with n packets behind it
  abbrev pub content_at : Streams → List ℕ → ℕ → ℕ → ℕ → Bool
  content_at s l k n j = content_in s (opens_at y l (suc k)) (unit_rest l (suc k) n) (packet_at y l k) (parse_of (packet_at y l k)) j

  -- byte i of the recording lies in the 188 bytes of a whole packet
  abbrev pub in_packet : List ℕ → ℕ → Bool
  in_packet l i =
      ltb (i / y.packet_size) (packets y l)
      && (leb y.sync_offset (i % y.packet_size) && ltb (i % y.packet_size) (y.sync_offset + 188))

  -- byte i of the recording is content; so is 'the 192 prefix, 204 trailer and what follows the recording's last whole packet'
  unfoldable pub content : Streams → List ℕ → ℕ → Bool
  content s l i =
      cond (in_packet l i)
      (content_at s l (i / y.packet_size) (packets y l - suc (i / y.packet_size)) (i % y.packet_size - y.sync_offset))
      true

-- the same at the layout that is found; without one there is no content
unfoldable pub content_by : Option TsPacketLayout → Streams → List ℕ → ℕ → Bool
content_by (Some y) s l i = content y s l i
content_by None s l i = false

abbrev pub content_of_found : Streams → List ℕ → ℕ → Bool
content_of_found s l i = content_by (layout_of l) s l i

-- one length, and one byte at each place that isn't marked
pub record AgreeOutside (marked : ℕ → Bool) (a b : List ℕ) : Type 0 where
  pub one_length : length a ≡ length b
  pub alike : (i : ℕ) → i < length a → marked i ≡ false → get_or a i 0 ≡ get_or b i 0

-- 'Two recordings differ only in content if they agree at each place that isn't content in the first': at a given layout, and at the one
-- that is found of both
abbrev pub OnlyContentAt : TsPacketLayout → Streams → List ℕ → List ℕ → Type 0
OnlyContentAt y s a b = AgreeOutside (content y s a) a b

pub record OnlyContent (s : Streams) (a b : List ℕ) : Type 0 where
  pub one_layout : layout_of a ≡ layout_of b
  pub agree : AgreeOutside (content_of_found s a) a b

-- zero at each marked place, all else kept
unfoldable pub zeroed_where : (ℕ → Bool) → List ℕ → List ℕ
zeroed_where marked [] = []
zeroed_where marked (b ∷ l) = cond (marked 0) 0 b ∷ zeroed_where (λ (i : ℕ). marked (suc i)) l

abbrev pub zeroed : Streams → List ℕ → List ℕ
zeroed s l = zeroed_where (content_of_found s l) l
