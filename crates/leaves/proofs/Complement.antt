-- A signed number of 64 bits as its word, and one of 8 as its byte. Assumes nothing.
use Rattle.std.proofs.Common.{◌≡◌, ◌%◌, ◌^◌, ◌<◌, ℤ, pos, negsuc, refl, arith, w8, w64, SFits, of_z}
use Rattle.leaves.specs.Leaves.{twos_complement}

pub complement : (x : ℤ) → of_z w64 x ≡ twos_complement x
unfolding twos_complement
complement (pos n) = refl
complement (negsuc n) = omega arith

pub narrow : (x : ℤ) → SFits w8 x → of_z w8 x ≡ twos_complement x % 256
unfolding twos_complement
narrow (pos n) f = let s : n < 2 ^ 7 = f.sfits in omega arith
narrow (negsuc n) f = let s : n < 2 ^ 7 = f.sfits in omega arith
