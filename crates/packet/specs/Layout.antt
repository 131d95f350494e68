-- The physical layout of a recording, and the 188 bytes of its packets (document 01, `detect_packet_layout`).
use Rattle.std.specs.Prelude.{ℕ, zero, suc, ◌+◌, ◌*◌, ◌/◌, min, List, [], Bool, true, cond, ◌&&◌, length, get_or, take, drop, leb, eqb, Option, Some, None}
use Rattle.packet.specs.declared.TsPacketLayout.{TsPacketLayout}

-- each of the first n packets has the sync byte at its place
abbrev pub in_sync : List ℕ → ℕ → ℕ → ℕ → Bool
in_sync l size off zero = true
in_sync l size off (suc n) = in_sync l size off n && eqb (get_or l (n * size + off) 0) 0x47

-- up to eight whole packets are looked at, and two are needed
unfoldable pub on_grid : List ℕ → ℕ → ℕ → Bool
on_grid l size off = leb 2 (length l / size) && in_sync l size off (min (length l / size) 8)

abbrev pub layout : ℕ → ℕ → TsPacketLayout
layout size off = record { packet_size = size; sync_offset = off }

unfoldable pub layout_of : List ℕ → Option TsPacketLayout
layout_of l =
    cond (on_grid l 188 0) (Some (layout 188 0))
    (cond (on_grid l 192 4) (Some (layout 192 4))
    (cond (on_grid l 204 0) (Some (layout 204 0)) None))

-- the 188 bytes of packet k; none where the recording ends sooner
unfoldable pub window_of : List ℕ → ℕ → ℕ → ℕ → List ℕ
window_of l size off k = cond (leb (k * size + off + 188) (length l)) (take 188 (drop (k * size + off) l)) []
