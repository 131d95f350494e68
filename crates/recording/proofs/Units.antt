-- The rest of a unit that content is judged by: with it the open unit is the whole one, up to the next start of its PID.
-- Assumes nothing.
use Prim.Native.Nat.{ℕ, zero, suc, ◌+◌, ◌<◌, ◌≤◌}
use mathlib.Core.Path.{◌≡◌, refl, sym, ◌∙◌, ap}
use mathlib.Core.List.{List, [], ◌++◌, append-nil, append_assoc}
use mathlib.Core.Bool.{Bool, true, false, cond, ◌&&◌, true≢false}
use native.Mathlib.Omega.{arith}
use native.Mathlib.Nat.{add-zero}
use lib.Dec.{eqb}
use Rattle.std.specs.Prelude.{Result, Ok, Err}
use Rattle.packet.specs.declared.TsPacket.{TsPacket}
use Rattle.packet.specs.declared.TsError.{TsError}
use Rattle.packet.specs.declared.TsPacketLayout.{TsPacketLayout}
use Rattle.packet.specs.Packet.{parse_of}
use Rattle.scanner.specs.Unit.{Open, unit, starts, next, onward}
use Rattle.recording.specs.Read.{packet_at, payload_in, open_behind, opens_at}
use Rattle.recording.specs.Content.{unit_rest_by, unit_rest}

-- a packet starts a unit of PID x, and what one that doesn't adds to the open unit
unfoldable pub starts_unit : ℕ → List ℕ → Result TsPacket TsError → Bool
starts_unit x w (Ok h) = eqb h.pid x && starts h.payload_unit_start (payload_in w h)
starts_unit x w (Err err) = false

added_by : ℕ → List ℕ → Result TsPacket TsError → List ℕ
added_by x w (Ok h) = cond (eqb h.pid x) (payload_in w h) []
added_by x w (Err err) = []

module _ (x : ℕ) (w : List ℕ) where
  pub rest_ends : (p : Result TsPacket TsError) (r : List ℕ) → starts_unit x w p ≡ true → unit_rest_by x w p r ≡ []
  unfolding starts_unit
  rest_ends (Err err) r e = absurd (true≢false (sym e))
  rest_ends (Ok h) r e = go (eqb h.pid x) (starts h.payload_unit_start (payload_in w h)) e
    where
      go : (a t : Bool) → a && t ≡ true → cond a (onward t (payload_in w h) r) r ≡ []
      go true true e = refl
      go true false e = absurd (true≢false (sym e))
      go false t e = absurd (true≢false (sym e))

  rest_goes_on : (p : Result TsPacket TsError) (r : List ℕ) → starts_unit x w p ≡ false → unit_rest_by x w p r ≡ added_by x w p ++ r
  unfolding starts_unit added_by
  rest_goes_on (Err err) r e = refl
  rest_goes_on (Ok h) r e = go (eqb h.pid x) (starts h.payload_unit_start (payload_in w h)) e
    where
      go : (a t : Bool) → a && t ≡ false → cond a (onward t (payload_in w h) r) r ≡ cond a (payload_in w h) [] ++ r
      go true true e = absurd (true≢false e)
      go true false e = refl
      go false t e = refl

  open_goes_on : (p : Result TsPacket TsError) (u : List ℕ) → starts_unit x w p ≡ false → open_behind x (unit u) w p ≡ unit (u ++ added_by x w p)
  unfolding starts_unit added_by
  open_goes_on (Err err) u e = ap unit (sym (append-nil u))
  open_goes_on (Ok h) u e = go (eqb h.pid x) (starts h.payload_unit_start (payload_in w h)) e
    where
      go : (a t : Bool) → a && t ≡ false → cond a (next (unit u) t (payload_in w h)) (unit u) ≡ unit (u ++ cond a (payload_in w h) [])
      go true true e = absurd (true≢false e)
      go true false e = refl
      go false t e = ap unit (sym (append-nil u))

module _ (y : TsPacketLayout) (l : List ℕ) (x : ℕ) where
  pub whole_unit : (k n : ℕ) (u : List ℕ) → opens_at y l k x ≡ unit u
      → ((i : ℕ) → k ≤ i → i < k + n → starts_unit x (packet_at y l i) (parse_of (packet_at y l i)) ≡ false)
      → opens_at y l (k + n) x ≡ unit (u ++ unit_rest y l k n x)
  whole_unit k zero u e h = rw (add-zero k, append-nil u) e
  whole_unit k (suc n) u e h =
      let w = packet_at y l k in
      let f : starts_unit x w (parse_of w) ≡ false = h k (omega arith) (omega arith) in
      let c : suc k + n ≡ k + suc n = omega arith in
      ap (λ (i : ℕ). opens_at y l i x) (sym c)
      ∙ whole_unit (suc k) n (u ++ added_by x w (parse_of w))
      (ap (λ (o : Open). open_behind x o w (parse_of w)) e ∙ open_goes_on x w (parse_of w) u f) (λ i a b. h i (omega arith) (omega arith))
      ∙ ap unit
      (append_assoc u (added_by x w (parse_of w)) (unit_rest y l (suc k) n x)
      ∙ ap (λ (r : List ℕ). u ++ r) (sym (rest_goes_on x w (parse_of w) (unit_rest y l (suc k) n x) f)))
