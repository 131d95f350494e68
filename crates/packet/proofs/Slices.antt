-- The elements of a slice of u8 are bytes. Assumes nothing.
use Prim.Native.Nat.{ℕ}
use mathlib.Core.List.{List}
use lib.ListN.{get_or}
use mir.Val.{Fits}
use mir.Syntax.{w8}
use Rattle.syntax.proofs.Bytes.{Bytes}

pub of_slice : (s : List ℕ) → ((i : ℕ) → Fits w8 (get_or s i 0)) → Bytes s
of_slice s h i = (h i).fits
