-- A packet's payload and its runs: how long they are, and a payload without bytes. Assumes nothing.
use mathlib.Core.Path.{◌≡◌}
use mathlib.Core.Bool.{Bool}
use mathlib.Core.List.{List}
use Prim.Native.Nat.{ℕ, ◌+◌, ◌-◌, ◌≤◌}
use native.Mathlib.Omega.{arith}
use lib.ListN.{length, drop, length-take, length-drop}
use Rattle.packet.specs.Packet.{payload_of}
use Rattle.scanner.specs.declared.Runs.{Runs}
use Rattle.scanner.specs.Unit.{Open, none, unit, runs_in, next_open}
use Rattle.scanner.specs.State.{fed_of}
use Rattle.scanner.proofs.Cover.{empty_keeps, covers}

abbrev total : Runs → ℕ
total r = r.head + r.rest + r.body

total_in : (o : Open) (size : ℕ) → total (runs_in o size) ≤ size
total_in none size = omega arith
total_in (unit u) size = omega (arith, covers u size)

pub within : (o : Open) (bit : Bool) (p : List ℕ) → total (fed_of o bit p).runs ≤ length p
unfolding fed_of
within o bit p = total_in (next_open o bit p) (length p)

pub payload_end : (w : List ℕ) (start : ℕ) → length (payload_of w start) ≤ 188 - start
unfolding payload_of
payload_end w start = rw (length-take (188 - start) (drop start w)) (omega arith)

pub payload_length : (w : List ℕ) (start : ℕ) → length w ≤ 188 → length (payload_of w start) ≡ length w - start
unfolding payload_of
payload_length w start h = simp (length-take, length-drop) (omega arith)

-- a payload that begins at 188 has no bytes and leaves the open unit as it is
pub next_empty : (o : Open) (bit : Bool) (w : List ℕ) → next_open o bit (payload_of w 188) ≡ o
unfolding payload_of
next_empty o bit w = empty_keeps o bit
