-- A stream's transport buffer with its scanner: both behind a packet, and what the packet delivers.
use Rattle.std.specs.Prelude.{ℕ, Bool, cond, List, eqb, Float, Option, Some, None}
use Rattle.ieee.specs.Binary64.{◌⊕◌, ◌⊗◌, ◌⊘◌, -∞, 188f}
use Rattle.packet.specs.Packet.{payload_of}
use Rattle.scanner.specs.declared.PesScanner.{PesScanner}
use Rattle.scanner.specs.State.{open_of, fed_of}
use Rattle.arrival.specs.declared.RateInterval.{RateInterval}
use Rattle.arrival.specs.Times.{decode_time_or_zero}
use Rattle.fifo.specs.declared.FluidFifo.{FluidFifo}
use Rattle.branch.specs.declared.Delivered.{Delivered}
use Rattle.transport.specs.declared.Arrived.{Arrived}
use Rattle.transport.specs.Arrive.{float, arrive}

pub record Transport : Type 0 where
  pub tb : FluidFifo
  pub scanner : PesScanner

pub record Passed : Type 0 where
  pub transport : Transport
  pub delivered : Delivered

-- `frac` by the packet's span
abbrev pub byte_time : Float → Float → ℕ → Float
byte_time t0 span k = t0 ⊕ span ⊗ float k ⊘ 188f

-- `stamp_time` with an answer for every interval; the two are equal under document 01's limits
abbrev pub stamp_answer : RateInterval → Option ℕ → Float
stamp_answer i None = -∞
stamp_answer i (Some raw) = decode_time_or_zero i raw

-- the answer of `arrive` with the scanner
abbrev pub arrived_with : PesScanner → Arrived → Passed
arrived_with s x = record { transport = record { tb = x.tb; scanner = s }; delivered = x.delivered }

-- a packet: its bytes, where its payload begins, payload_unit_start_indicator, when it comes, and the interval of its end
-- the scanner is fed the payload; one that begins at 188 has no bytes and leaves it as it is
unfoldable pub arrived_of : Transport → List ℕ → ℕ → Bool → Float → Float → RateInterval → Passed
arrived_of t w start bit t0 u i =
    let fed = fed_of (open_of t.scanner) bit (payload_of w start) in
    arrived_with (cond (eqb start 188) t.scanner fed.scanner)
    (arrive t.tb start fed.runs t0 u (stamp_answer i fed.runs.decode_ts))
