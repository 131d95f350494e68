-- Packets behind one another: how many lie in a recording, and how far the search for the next field has come. Assumes nothing.
use Rattle.std.specs.Prelude.{None}
use Prim.Native.Nat.{ℕ, ◌+◌, ◌*◌, ◌≤◌, ◌<◌}
use mathlib.Core.Path.{◌≡◌, refl}
use mathlib.Core.Bool.{Bool, true, false}
use mathlib.Core.List.{List}
use native.Mathlib.Omega.{arith}
use lib.Dec.{eqb}
use lib.ListN.{take, drop}
use borrow.Author.Tests.{eqb-true, eqb-false}
use Rattle.packet.specs.Packet.{parse_of}
use Rattle.packet.specs.declared.TsPacketLayout.{TsPacketLayout}
use Rattle.packet.proofs.Grid.{step_on}
use Rattle.packet.proofs.Layouts.{window_is}
use Rattle.recording.specs.Read.{packet_at}
use Rattle.arrival.specs.Samples.{field_on}
use Rattle.arrival_clock.specs.Stretch.{Whole, NoFieldOn}

-- the search, before packet `next` at its place: there is no field from packet k on
module _ (pcrPid : ℕ) (y : TsPacketLayout) (l : List ℕ) (k : ℕ) where
  pub record Searched (next place : ℕ) : Type 0 where
    pub onward : k ≤ next
    pub place_is : place ≡ next * y.packet_size + y.sync_offset
    pub none_yet : NoFieldOn pcrPid y l k next

  pub search_starts : Searched k (k * y.packet_size + y.sync_offset)
  search_starts = record { onward = omega arith; place_is = refl; none_yet = λ i from before. absurd (omega arith) }

  pub search_on : {end next place : ℕ} → Whole y l end → Searched next place → next < end
      → field_on pcrPid (parse_of (take 188 (drop place l))) ≡ None → Searched (next + 1) (place + y.packet_size)
  search_on {next = next} {place = place} whole s inside none =
      record { onward = omega (arith, s.onward); place_is = step_on next y.packet_size y.sync_offset place s.place_is; none_yet = each }
    where
      here : field_on pcrPid (parse_of (packet_at y l next)) ≡ None
      here = rw (window_is l y.packet_size y.sync_offset next (whole.inside next inside)) (rw s.place_is at none)

      each : NoFieldOn pcrPid y l k (next + 1)
      each i from before = go (eqb i next) refl
        where
          go : (t : Bool) → eqb i next ≡ t → field_on pcrPid (parse_of (packet_at y l i)) ≡ None
          go true e = rw (eqb-true i next e) here
          go false e = s.none_yet i from (omega (arith, eqb-false i next e))
