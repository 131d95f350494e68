-- The ways that a parse goes, by the fields of the tables.
-- Assumes nothing.
use Prim.Native.Nat.{ℕ, ◌+◌, ◌≤◌, ◌<◌}
use mathlib.Core.Path.{◌≡◌, refl}
use mathlib.Core.List.{List}
use mathlib.Core.Bool.{Bool, true, false}
use lib.Dec.{eqb, ltb}
use lib.ListN.{length, take, drop}
use borrow.Author.Tests.{lt-ltb, le-ltb, ltb-true, ltb-false}
use Rattle.syntax.specs.Table.{field}
use Rattle.syntax.specs.Packet.{table_2_2}
use Rattle.std.specs.Prelude.{None}
use Rattle.std.specs.Prelude.{Ok, Err}
use Rattle.packet.specs.declared.TsError.{TsError}
use Rattle.packet.specs.AdaptationField.{cut, field_of}
use Rattle.packet.specs.Packet.{has_adaptation_field, packet_of, with_field, field_length, parse_of}

module _ (w : List ℕ) where
  abbrev sync : Bool
  sync = eqb (field table_2_2 w "sync_byte") 0x47

  abbrev control : Bool
  control = has_adaptation_field (field table_2_2 w "adaptation_field_control")

  pub truncated : length w < 188 → parse_of w ≡ Err (TsError.Truncated (cut (length w) 188))
  unfolding parse_of
  truncated l = rw (lt-ltb (length w) 188 l)

  module _ (long : 188 ≤ length w) where
    pub bad_sync : sync ≡ false → parse_of w ≡ Err (TsError.BadSyncByte (field table_2_2 w "sync_byte"))
    unfolding parse_of
    bad_sync s = rw (le-ltb (length w) 188 long, s)

    module _ (s : sync ≡ true) where
      pub bare : control ≡ false → parse_of w ≡ Ok (packet_of w None 4)
      unfolding parse_of
      bare c = rw (le-ltb (length w) 188 long, s, c)

      pub overlong : control ≡ true → ltb 188 (4 + field_length w) ≡ true → parse_of w ≡ Err (TsError.Truncated (cut 184 (field_length w)))
      unfolding parse_of
      overlong c o = rw (le-ltb (length w) 188 long, s, c, o)

      pub fitting : control ≡ true → ltb 188 (4 + field_length w) ≡ false
          → parse_of w ≡ with_field w (4 + field_length w) (field_of (take (field_length w) (drop 4 w)))
      unfolding parse_of
      fitting c o = rw (le-ltb (length w) 188 long, s, c, o)

  -- one of them is taken
  pub data Way : Type 0 where
    is_truncated : length w < 188 → Way
    is_bad_sync : 188 ≤ length w → sync ≡ false → Way
    is_bare : 188 ≤ length w → sync ≡ true → control ≡ false → Way
    is_overlong : 188 ≤ length w → sync ≡ true → control ≡ true → ltb 188 (4 + field_length w) ≡ true → Way
    is_fitting : 188 ≤ length w → sync ≡ true → control ≡ true → ltb 188 (4 + field_length w) ≡ false → Way

  pub way : Way
  way = go (ltb (length w) 188) sync control (ltb 188 (4 + field_length w)) refl refl refl refl
    where
      go : (l s c o : Bool) → ltb (length w) 188 ≡ l → sync ≡ s → control ≡ c → ltb 188 (4 + field_length w) ≡ o → Way
      go true s c o el es ec eo = is_truncated (ltb-true (length w) 188 el)
      go false false c o el es ec eo = is_bad_sync (ltb-false (length w) 188 el) es
      go false true false o el es ec eo = is_bare (ltb-false (length w) 188 el) es ec
      go false true true true el es ec eo = is_overlong (ltb-false (length w) 188 el) es ec eo
      go false true true false el es ec eo = is_fitting (ltb-false (length w) 188 el) es ec eo
