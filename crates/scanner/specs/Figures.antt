-- The payloads of document 01 at a start, and their runs.
use Rattle.std.specs.Prelude.{ℕ, List, [], ◌∷◌, Some, None}
use Rattle.scanner.specs.declared.Runs.{Runs}

pub record Figure : Type 0 where
  pub payload : List ℕ
  pub runs : Runs

abbrev payload_with : ℕ → List ℕ
payload_with n = 0x00 ∷ 0x00 ∷ 0x01 ∷ 0xE0 ∷ 0x00 ∷ 0x00 ∷ 0x80 ∷ 0x80 ∷ n ∷ 0x21 ∷ 0x00 ∷ 0x05 ∷ 0xBF ∷ 0x21 ∷ 0xAA ∷ 0xBB ∷ []

abbrev pub figures : List Figure
figures =
    record { payload = payload_with 5; runs = record { head = 14; decode_ts = Some 90000; rest = 0; body = 2 } }
    ∷ record { payload = payload_with 4; runs = record { head = 13; decode_ts = None; rest = 0; body = 3 } }
    ∷ []
