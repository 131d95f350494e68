-- Eight bits in two's complement: a byte that is read as signed. Assumes nothing.
use Prim.Native.Nat.{ℕ, suc, ◌-◌, ◌<◌, ◌≤◌}
use mathlib.Core.Path.{◌≡◌, refl}
use mathlib.Core.Bool.{Bool, true, false, cond}
use native.Mathlib.Omega.{arith}
use lib.Dec.{ltb}
use lib.IntN.{pos, negsuc}
use mir.Val.{to_z}
use mir.Syntax.{w8}
use mir.Facts.{to_z_pos, to_z-neg}
use borrow.Author.Tests.{ltb-true, ltb-false}
use Rattle.packet.specs.AdaptationField.{tcimsbf8}

pub signed_byte : (b : ℕ) → b < 256 → to_z w8 b ≡ tcimsbf8 b
unfolding tcimsbf8
signed_byte b h = go (ltb b 128) refl
  where
    go : (t : Bool) → ltb b 128 ≡ t → to_z w8 b ≡ cond t (pos b) (negsuc (255 - b))
    go true e = to_z_pos w8 (ltb-true b 128 e)
    go false e =
        let l : 128 ≤ b = ltb-false b 128 e in
        let k : 255 - b < 128 = omega arith in
        let p : 256 - suc (255 - b) ≡ b = omega arith in
        rw p at (to_z-neg w8 (255 - b) k)
