-- The Rust's own scanner (tstd.rs, `PesScanner::feed`), step by step: header bytes are collected one at a time until the header's length
-- is known. The definition of the runs by two cuts gives the same answers (proofs/Bytewise.antt).
use Rattle.std.specs.Prelude.{ℕ, zero, suc, ◌+◌, ◌-◌, ◌/◌, ◌<◌, min, ◌≡◌, List, [], ◌∷◌, ◌++◌, Bool, true, false, cond, ◌&&◌, length, get_or, take, drop, ltb, leb, eqb, Option, Some, None}
use Rattle.syntax.specs.TimeStamp.{timestamp}
use Rattle.pes.specs.StreamId.{has_optional_header}
use Rattle.scanner.specs.declared.Runs.{Runs}
use Rattle.scanner.specs.declared.PesScanner.{PesScanner}
use Rattle.scanner.specs.Classified.{ClassifiedRun, header_run, payload_run}
use Rattle.scanner.specs.State.{open_of, fed_of}

pub record ByteScanner : Type 0 where
  pub header_pending : ℕ
  pub header_buf : List ℕ
  pub sizing : Bool
  pub started : Bool

-- `PesScanner::default()`, and the state that a start sets
abbrev pub byte_default : ByteScanner
byte_default = record { header_pending = 0; header_buf = []; sizing = false; started = false }

abbrev pub byte_start : ByteScanner
byte_start = record { header_pending = 0; header_buf = []; sizing = true; started = true }

-- what the collected bytes say once one more is there: collect on, or header_pending and decode_ts
pub data Sizing : Type 0 where
  continue : Sizing
  resolved : ℕ → Option ℕ → Sizing

abbrev pub ts_want : ℕ → ℕ
ts_want top = cond (eqb top 2) 5 (cond (eqb top 3) 10 0)

-- `read_ts33` of five collected bytes, as crate pes has it
abbrev pub ts33_at : List ℕ → ℕ → ℕ
ts33_at buf k = timestamp (take 5 (drop k buf))

abbrev pub ts_coded : List ℕ → ℕ → ℕ → Option ℕ
ts_coded buf top len =
    cond (eqb top 2 && leb 5 len) (Some (ts33_at buf 9)) (cond (eqb top 3 && leb 10 len) (Some (ts33_at buf 14)) None)

unfoldable pub sizing_of : List ℕ → Sizing
sizing_of buf =
    cond (ltb (length buf) 6) continue
    (cond (has_optional_header (get_or buf 3 0))
    (cond (ltb (length buf) 9) continue
    (cond (ltb (length buf) (9 + min (get_or buf 8 0) (ts_want (get_or buf 7 0 / 64)))) continue
    (resolved (9 + get_or buf 8 0 - length buf) (ts_coded buf (get_or buf 7 0 / 64) (get_or buf 8 0)))))
    (resolved 0 None))

-- the inner loop, over what is left of the payload: the state behind it, the bytes it took and its decode_ts
pub record Collected : Type 0 where
  pub scanner : ByteScanner
  pub taken : ℕ
  pub stamp : Option ℕ

abbrev pub collecting : ByteScanner → List ℕ → ByteScanner
collecting s buf = record { header_pending = s.header_pending; header_buf = buf; sizing = true; started = s.started }

abbrev pub sized_to : ByteScanner → List ℕ → ℕ → ByteScanner
sized_to s buf k = record { header_pending = k; header_buf = buf; sizing = false; started = s.started }

abbrev pub after_byte : Sizing → Collected → (ℕ → Option ℕ → Collected) → Collected
after_byte continue c d = c
after_byte (resolved k ts) c d = d k ts

unfoldable pub collect : ByteScanner → List ℕ → ℕ → Collected
collect s [] n = record { scanner = s; taken = n; stamp = None }
collect s (b ∷ p) n =
    after_byte (sizing_of (s.header_buf ++ (b ∷ [])))
    (collect (collecting s (s.header_buf ++ (b ∷ []))) p (suc n))
    (λ k ts. record { scanner = sized_to s (s.header_buf ++ (b ∷ [])) k; taken = suc n; stamp = ts })

-- the outer loop from a position on, over what is left of the payload; each turn takes a byte or more, so as many turns as bytes do
pub record ByteFed : Type 0 where
  pub scanner : ByteScanner
  pub runs : List ClassifiedRun

abbrev pub pushed : ClassifiedRun → ByteFed → ByteFed
pushed r f = record { scanner = f.scanner; runs = r ∷ f.runs }

abbrev pub pending : ByteScanner → ℕ → ByteScanner
pending s n = record { header_pending = n; header_buf = s.header_buf; sizing = s.sizing; started = s.started }

unfoldable pub turns : ℕ → ByteScanner → ℕ → List ℕ → ByteFed
turns zero s pos p = record { scanner = s; runs = [] }
turns (suc k) s pos [] = record { scanner = s; runs = [] }
turns (suc k) s pos (b ∷ p) =
    let c = collect s (b ∷ p) 0 in
    let n = min s.header_pending (length (b ∷ p)) in
    cond s.sizing
    (pushed (header_run pos c.taken c.stamp) (turns k c.scanner (pos + c.taken) (drop c.taken (b ∷ p))))
    (cond (ltb 0 s.header_pending)
    (pushed (header_run pos n None) (turns k (pending s (s.header_pending - n)) (pos + n) (drop n (b ∷ p))))
    (pushed (payload_run pos (length (b ∷ p))) (turns k s (pos + length (b ∷ p)) [])))

unfoldable pub byte_feed : ByteScanner → Bool → List ℕ → ByteFed
byte_feed s pusi p =
    cond (cond pusi byte_start s).started (turns (length p) (cond pusi byte_start s) 0 p) (record { scanner = s; runs = [] })

-- a payload as the replay feeds it, with its payload unit start bit
pub record Fragment : Type 0 where
  pub start : Bool
  pub bytes : List ℕ

-- a sequence of payloads of bytes in which no start bit stands on an empty one
unfoldable pub Feedable : List Fragment → Type 0
Feedable [] = Unit {0}
Feedable (f ∷ fs) = ((i : ℕ) → get_or f.bytes i 0 < 256) × (f.start ≡ true → 0 < length f.bytes) × Feedable fs

-- the runs of a sequence of payloads, by the Rust's steps and by ours
unfoldable pub byte_runs : ByteScanner → List Fragment → List (List ClassifiedRun)
byte_runs s [] = []
byte_runs s (f ∷ fs) = (byte_feed s f.start f.bytes).runs ∷ byte_runs (byte_feed s f.start f.bytes).scanner fs

unfoldable pub scanned_runs : PesScanner → List Fragment → List Runs
scanned_runs s [] = []
scanned_runs s (f ∷ fs) = (fed_of (open_of s) f.start f.bytes).runs ∷ scanned_runs (fed_of (open_of s) f.start f.bytes).scanner fs
