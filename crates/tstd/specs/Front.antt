-- The system chain as the code holds it: before any packet, and behind one.
use Rattle.ieee.specs.Binary64.{188f}
use Rattle.arrival.specs.declared.PacketArrival.{PacketArrival}
use Rattle.branch.specs.declared.Run.{Run}
use Rattle.branch.specs.SysBranch.{new_sys, rsys_of, push_sys}
use Rattle.fifo.specs.FluidFifo.{new, pushed}
use Rattle.tstd.specs.declared.front.SystemChain.{SystemChain}

-- its transport buffer, of 1,000,000 bit/s, and Bsys behind it
unfoldable pub new_system : SystemChain
new_system = record { tb = new 1000000; branch = new_sys }

abbrev pub system_run : SystemChain → PacketArrival → Run
system_run s a =
    record { t0 = (pushed s.tb a.t0 a.t1 188f).start; t1 = (pushed s.tb a.t0 a.t1 188f).end; bytes = 188f }

unfoldable pub system_pushed : SystemChain → PacketArrival → SystemChain
system_pushed s a =
    record { tb = (pushed s.tb a.t0 a.t1 188f).fifo; branch = push_sys s.branch (system_run s a) (rsys_of a.cursor.interval.rate) }
