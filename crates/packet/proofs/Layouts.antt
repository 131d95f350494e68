-- What a layout that is found has, and the windows and payloads of packets.
-- Assumes nothing.
use Prim.Native.Nat.{ℕ, ◌+◌, ◌-◌, ◌*◌, ◌/◌, ◌<◌, ◌≤◌, min}
use mathlib.Core.Path.{◌≡◌, refl, sym, ◌∙◌}
use mathlib.Core.Bool.{Bool, true, false, cond, true≢false}
use mathlib.Core.List.{List, []}
use native.Mathlib.Nat.{suc-mul}
use native.Mathlib.Numerals.{add-one}
use native.Mathlib.Omega.{arith}
use lib.Dec.{eqb, leb}
use lib.ListN.{length, get_or, take, drop, length-take, length-drop}
use lib.Seq.{get_or-take, get_or-drop, take_all}
use Rattle.std.proofs.lemmas.Bool.{and_parts}
use Rattle.std.proofs.lemmas.Option.{none-some}
use borrow.Author.Tests.{eqb-true, eqb-false, leb-true, le-leb, lt-leb}
use Rattle.packet.specs.declared.TsPacketLayout.{TsPacketLayout}
use Rattle.std.specs.Prelude.{Some, None}
use Rattle.packet.specs.Layout.{in_sync, on_grid, layout, layout_of, window_of}
use Rattle.packet.specs.Packet.{payload_of}
use Rattle.packet.proofs.Grid.{sync_not, in_packet_lem}

-- each packet of a grid in sync has the sync byte
sync_at : (l : List ℕ) (size off n k : ℕ) → in_sync l size off n ≡ true → k < n → get_or l (k * size + off) 0 ≡ 0x47
sync_at l size off n k h b = go (eqb (get_or l (k * size + off) 0) 0x47) refl
  where
    go : (t : Bool) → eqb (get_or l (k * size + off) 0) 0x47 ≡ t → get_or l (k * size + off) 0 ≡ 0x47
    go true e = eqb-true (get_or l (k * size + off) 0) 0x47 e
    go false e = absurd (true≢false (sym h ∙ sync_not l size off k n b (eqb-false (get_or l (k * size + off) 0) 0x47 e)))

-- the size and the offset of the three layouts
pub data Known : TsPacketLayout → Type 0 where
  standard : Known (layout 188 0)
  prefixed : Known (layout 192 4)
  trailer : Known (layout 204 0)

pub record Fits (l : List ℕ) (size off : ℕ) : Type 0 where
  pub two : 2 ≤ length l / size
  pub synced : (k : ℕ) → k < min (length l / size) 8 → get_or l (k * size + off) 0 ≡ 0x47

grid_fits : (l : List ℕ) (size off : ℕ) → on_grid l size off ≡ true → Fits l size off
unfolding on_grid
grid_fits l size off e =
    let a = and_parts (leb 2 (length l / size)) (in_sync l size off (min (length l / size) 8)) e in
    record {
      two = leb-true 2 (length l / size) a.0;
      synced = λ k b. sync_at l size off (min (length l / size) 8) k a.1 b;
    }

pub record Found (l : List ℕ) (y : TsPacketLayout) : Type 0 where
  pub known : Known y
  pub fits : Fits l y.packet_size y.sync_offset

pub found : (l : List ℕ) (y : TsPacketLayout) → layout_of l ≡ Some y → Found l y
unfolding layout_of
found l y is = go (on_grid l 188 0) (on_grid l 192 4) (on_grid l 204 0) refl refl refl is
  where
    one : (size off : ℕ) → on_grid l size off ≡ true → Known (layout size off) → layout size off ≡ y → Found l y
    one size off e k p = rw (sym p) (record { known = k; fits = grid_fits l size off e })

    go : (a b c : Bool) → on_grid l 188 0 ≡ a → on_grid l 192 4 ≡ b → on_grid l 204 0 ≡ c
        → cond a (Some (layout 188 0)) (cond b (Some (layout 192 4)) (cond c (Some (layout 204 0)) None))
        ≡ Some y
        → Found l y
    go true b c ea eb ec p = one 188 0 ea standard (cc)
    go false true c ea eb ec p = one 192 4 eb prefixed (cc)
    go false false true ea eb ec p = one 204 0 ec trailer (cc)
    go false false false ea eb ec p = absurd (none-some y p)

-- each of the three holds a packet behind its offset
pub known_room : {y : TsPacketLayout} → Known y → y.sync_offset + 188 ≤ y.packet_size
known_room standard = omega arith
known_room prefixed = omega arith
known_room trailer = omega arith

pub known_size : {y : TsPacketLayout} → Known y → (188 ≤ y.packet_size) × (y.packet_size ≤ 204)
known_size standard = (omega arith, omega arith)
known_size prefixed = (omega arith, omega arith)
known_size trailer = (omega arith, omega arith)

module _ (l : List ℕ) (size off k : ℕ) where
  pub window_none : length l < k * size + off + 188 → window_of l size off k ≡ []
  unfolding window_of
  window_none h = rw (lt-leb (k * size + off + 188) (length l) h)

  module _ (fits : k * size + off + 188 ≤ length l) where
    pub window_is : window_of l size off k ≡ take 188 (drop (k * size + off) l)
    unfolding window_of
    window_is = rw (le-leb (k * size + off + 188) (length l) fits)

    pub window_length : length (window_of l size off k) ≡ 188
    window_length = rw (window_is, length-take 188 (drop (k * size + off) l), length-drop (k * size + off) l) (omega arith)

    pub window_byte : (j : ℕ) → j < 188 → get_or (window_of l size off k) j 0 ≡ get_or l (k * size + off + j) 0
    window_byte j h = rw (window_is, get_or-take 188 (drop (k * size + off) l) j 0 h) (get_or-drop (k * size + off) l j 0)

  -- a whole packet holds its window
  pub packet_fits : (k + 1) * size ≤ length l → off + 188 ≤ size → k * size + off + 188 ≤ length l
  packet_fits h r =
      let e : (k + 1) * size ≡ k * size + size = rw (add-one k) (suc-mul k size) in
      omega arith

  pub nth_fits : k < length l / size → off + 188 ≤ size → k * size + off + 188 ≤ length l
  nth_fits h r = omega (arith, in_packet_lem (length l) size k h)

-- the payload of 188 bytes
pub payload_is : (w : List ℕ) (start : ℕ) → length w ≡ 188 → payload_of w start ≡ drop start w
unfolding payload_of
payload_is w start e = take_all (188 - start) (drop start w) (rw (length-drop start w, e) (omega arith))

pub payload_length : (w : List ℕ) (start : ℕ) → 188 ≤ length w → length (payload_of w start) ≡ 188 - start
unfolding payload_of
payload_length w start h = rw (length-take (188 - start) (drop start w), length-drop start w) (omega arith)
