-- The runs of a payload as the Rust lists them (tstd.rs, `ClassifiedRun`).
use Rattle.std.specs.Prelude.{ℕ, ◌+◌, ◌<◌, ◌≡◌, List, [], ◌∷◌, ◌++◌, cond, ltb, Option, None}
use Rattle.scanner.specs.declared.Runs.{Runs}

pub data ByteClass : Type 0 where
  Header : ByteClass
  Payload : ByteClass

pub record ClassifiedRun : Type 0 where
  pub offset : ℕ
  pub len : ℕ
  pub class : ByteClass
  pub decode_ts : Option ℕ

abbrev pub header_run : ℕ → ℕ → Option ℕ → ClassifiedRun
header_run pos n ts = record { offset = pos; len = n; class = Header; decode_ts = ts }

abbrev pub payload_run : ℕ → ℕ → ClassifiedRun
payload_run pos n = record { offset = pos; len = n; class = Payload; decode_ts = None }

-- the list of runs that are given by their lengths: one of no bytes is none
abbrev pub some_run : ClassifiedRun → List ClassifiedRun
some_run r = cond (ltb 0 r.len) (r ∷ []) []

unfoldable pub classified : Runs → List ClassifiedRun
classified r =
    some_run (header_run 0 r.head r.decode_ts)
    ++ (some_run (header_run r.head r.rest None) ++ some_run (payload_run (r.head + r.rest) r.body))

-- runs that are nonempty, touch, and cover the bytes from a to e
unfoldable pub Covers : ℕ → ℕ → List ClassifiedRun → Type 0
Covers a e [] = a ≡ e
Covers a e (r ∷ rs) = (r.offset ≡ a) × (0 < r.len) × Covers (a + r.len) e rs
