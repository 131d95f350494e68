-- What holds of every fact that is read: the bounds of a parsed packet and of its runs, and how many facts there are.
-- Assumes nothing.
use Prim.Native.Nat.{ℕ, zero, suc, ◌+◌, ◌-◌, ◌*◌, ◌^◌, ◌<◌, ◌≤◌}
use mathlib.Core.Path.{◌≡◌, refl}
use mathlib.Core.List.{List, [], ◌∷◌}
use mathlib.Core.Logic.{◌⊎◌, inl, inr}
use mathlib.Core.Bool.{Bool, true, false, cond}
use native.Mathlib.Omega.{arith}
use native.Mathlib.Nat.{mul-le-mul_left, div-mul-le_self}
use lib.ListN.{length}
use Rattle.std.proofs.lemmas.Option.{none-some}
use Rattle.std.specs.Prelude.{Option, Some, None, Result, Ok, Err}
use Rattle.packet.specs.declared.TsPacket.{TsPacket}
use Rattle.packet.specs.declared.TsError.{TsError}
use Rattle.packet.specs.declared.TsPacketLayout.{TsPacketLayout}
use Rattle.packet.specs.Packet.{parse_of}
use Rattle.packet.specs.Layout.{layout_of}
use Rattle.packet.proofs.Parsed as packet-parsed
use Rattle.packet.proofs.Layouts.{payload_length}
use Rattle.scanner.specs.declared.Runs.{Runs}
use Rattle.scanner.specs.Unit.{Open, none, unit, runs_in, no_runs}
use Rattle.scanner.proofs.Cover.{covers, stamped, stamped_nonempty, stamp_bound}
use Rattle.recording.specs.Read.{Streams, is_stream, Fact, unparsed, parsed, Read, packets, packet_at, payload_in, fact_by, opens_at, fact_at, facts_from, read_at, read_by, read_of}
use Rattle.recording.proofs.Facts.{facts_length}
use Rattle.recording.proofs.Content.{LastOf, payload_last, packet_long}
use Rattle.recording.proofs.OnlyContent.{found_room}

-- the runs of a payload of so many bytes: none, or they cover it; a time stamp has 33 bits and stands with a run that is not empty
pub record RunsHold (r : Runs) (len : ℕ) : Type 0 where
  pub cover : (r ≡ no_runs) ⊎ (r.head + r.rest + r.body ≡ len)
  pub fit : r.head + r.rest + r.body ≤ len
  pub stamp : (v : ℕ) → r.decode_ts ≡ Some v → (0 < r.head) × (v < 2 ^ 33)

no_runs_hold : (len : ℕ) → RunsHold no_runs len
no_runs_hold len =
    record { cover = inl refl; fit = omega arith; stamp = λ v e. absurd (none-some v e) }

runs_hold : (o : Open) (len : ℕ) → LastOf o len → RunsHold (runs_in o len) len
unfolding LastOf
runs_hold none len h = no_runs_hold len
runs_hold (unit u) len h =
    record {
      cover = inr (covers u len);
      fit = omega (arith, covers u len);
      stamp = λ v e. (stamped_nonempty u len h v e, stamp_bound u v (stamped u len h v e).2);
    }

unfoldable pub FactHolds : Fact → Type 0
FactHolds unparsed = Unit {0}
FactHolds (parsed h r) = packet-parsed.Parsed h × RunsHold r (188 - h.payload_start)

unfoldable pub FactsHold : List Fact → Type 0
FactsHold [] = Unit {0}
FactsHold (f ∷ fs) = FactHolds f × FactsHold fs

module _ (y : TsPacketLayout) (s : Streams) (l : List ℕ) (room : y.sync_offset + 188 ≤ y.packet_size) where
  pub fact_holds : (k : ℕ) → k < packets y l → FactHolds (fact_at y s l k)
  unfolding FactHolds fact_by
  fact_holds k h = go (parse_of (packet_at y l k)) refl
    where
      go : (p : Result TsPacket TsError) → parse_of (packet_at y l k) ≡ p → FactHolds (fact_by s (opens_at y l (suc k)) (packet_at y l k) p)
      go (Err err) is = tt
      go (Ok p) is = (packet-parsed.parsed (packet_at y l k) p is, by_stream (is_stream s p.pid))
        where
          len : length (payload_in (packet_at y l k) p) ≡ 188 - p.payload_start
          len = payload_length (packet_at y l k) p.payload_start (omega (arith, packet_long y s l k room h))

          by_stream : (t : Bool)
              → RunsHold (cond t (runs_in (opens_at y l (suc k) p.pid) (length (payload_in (packet_at y l k) p))) no_runs) (188 - p.payload_start)
          by_stream true = rw (← len) (runs_hold (opens_at y l (suc k) p.pid) (length (payload_in (packet_at y l k) p)) (payload_last y l k p is))
          by_stream false = no_runs_hold (188 - p.payload_start)

  pub facts_hold : (k n : ℕ) → k + n ≤ packets y l → FactsHold (facts_from y s l k n)
  unfolding FactsHold
  facts_hold k zero h = tt
  facts_hold k (suc n) h = (fact_holds k (omega arith), facts_hold (suc k) n (omega arith))

  -- 188 bytes of the recording for each fact
  pub facts_fit : length (read_at y s l).facts * 188 ≤ length l
  unfolding read_at
  facts_fit =
      rw (facts_length y s l 0 (packets y l))
      (let a : packets y l * 188 ≤ packets y l * y.packet_size = mul-le-mul_left (packets y l) (omega arith) in
      omega (arith, div-mul-le_self (length l) y.packet_size))

-- The same of the layout that is found.
pub record ReadHolds (r : Read) : Type 0 where
  pub facts : FactsHold r.facts
  pub fit : length r.facts * 188 ≤ r.size

pub read_holds_at : (y : TsPacketLayout) (s : Streams) (l : List ℕ) → y.sync_offset + 188 ≤ y.packet_size → ReadHolds (read_at y s l)
unfolding read_at
read_holds_at y s l room = record { facts = facts_hold y s l room 0 (packets y l) (omega arith); fit = facts_fit y s l room }

pub read_holds : (s : Streams) (l : List ℕ) → ReadHolds (read_of s l)
unfolding read_by FactsHold
read_holds s l = go (layout_of l) refl
  where
    go : (d : Option TsPacketLayout) → layout_of l ≡ d → ReadHolds (read_by d s l)
    go (Some y) is = read_holds_at y s l (found_room l y is)
    go None is = record { facts = tt; fit = omega arith }
