-- What a packet delivers from the transport buffer TBn: its header and adaptation bytes, then each run of its payload go through the buffer
-- (the Rust's loop over packets in `analyze_tstd`, for one stream).
use Rattle.std.specs.Prelude.{ℕ, ◌+◌, Bool, cond, eqb, leb, pos, Float, Option, Some, None}
use Rattle.std.specs.Float.{binary64}
use Rattle.std.specs.Float.Ieee.{of_int}
use Rattle.ieee.specs.Binary64.{◌⊕◌, ◌⊖◌, ◌⊗◌, ◌⊘◌, -∞, 0f, 188f}
use Rattle.scanner.specs.declared.Runs.{Runs}
use Rattle.arrival.specs.declared.RateInterval.{RateInterval}
use Rattle.arrival.specs.Times.{decode_time}
use Rattle.fifo.specs.declared.FluidFifo.{FluidFifo}
use Rattle.fifo.specs.FluidFifo.{pushed}
use Rattle.branch.specs.declared.Run.{Run}
use Rattle.branch.specs.declared.Delivered.{Delivered}
use Rattle.transport.specs.declared.Through.{Through}
use Rattle.transport.specs.declared.Arrived.{Arrived}

abbrev pub float : ℕ → Float
float n = of_int binary64 (pos n)

-- when byte k of a packet arrives, whose bytes come from t0 to t1
unfoldable pub frac : Float → Float → ℕ → Float
frac t0 t1 k = t0 ⊕ (t1 ⊖ t0) ⊗ float k ⊘ 188f

abbrev pub no_run : Run
no_run = record { t0 = 0f; t1 = 0f; bytes = 0f }

-- a run of len bytes goes through the transport buffer; one of no bytes is none
unfoldable pub through : FluidFifo → Float → Float → ℕ → Through
through tb from to len =
    cond (eqb len 0) (record { tb = tb; run = no_run })
    (record {
      tb = (pushed tb from to (float len)).fifo;
      run = record { t0 = (pushed tb from to (float len)).start; t1 = (pushed tb from to (float len)).end; bytes = float len };
    })

-- the decode time of a stamp by the interval of the packet's end; -∞ for none
abbrev pub stamp_time : RateInterval → Option ℕ → Float
stamp_time i None = -∞
stamp_time i (Some raw) = decode_time i raw

abbrev pub nothing : Delivered
nothing = record { decode_time = -∞; first_input_time = 0f; head = no_run; rest = no_run; body = no_run }

-- the runs of a payload that begins at byte a, one behind the other
-- tb: the buffer behind the header bytes; at: when a byte of the packet comes; decode: the stamp's time
module _ (tb : FluidFifo) (a : ℕ) (r : Runs) (at : ℕ → Float) (decode : Float) where
  abbrev b : ℕ
  b = a + r.head

  abbrev c : ℕ
  c = b + r.rest

  abbrev head : Through
  head = through tb (at a) (at b) r.head

  abbrev rest : Through
  rest = through head.tb (at b) (at c) r.rest

  abbrev body : Through
  body = through rest.tb (at c) (at (c + r.body)) r.body

  abbrev pub delivery : Arrived
  delivery =
      record {
        tb = body.tb;
        delivered = record {
          decode_time = decode;
          first_input_time = at a;
          head = head.run;
          rest = rest.run;
          body = body.run;
        };
      }

-- header and adaptation bytes, then each run; an empty payload goes in as 188
-- a: where the payload begins; decode: the stamp's time
unfoldable pub arrive : FluidFifo → ℕ → Runs → Float → Float → Float → Arrived
arrive tb a r t0 t1 decode =
    cond (eqb a 188) (record { tb = (pushed tb t0 t1 188f).fifo; delivered = nothing })
    (delivery (pushed tb t0 (frac t0 t1 a) (float a)).fifo a r (frac t0 t1) decode)

-- the runs of a payload that begins at byte a lie in the packet
unfoldable pub fits_in : ℕ → Runs → Bool
fits_in a r = leb (a + r.head + r.rest + r.body) 188

-- `arrive` for any runs: those that do not lie in the packet change and deliver nothing
unfoldable pub arrive_in : FluidFifo → ℕ → Runs → Float → Float → Float → Arrived
arrive_in tb a r t0 t1 decode = cond (fits_in a r) (arrive tb a r t0 t1 decode) (record { tb = tb; delivered = nothing })
