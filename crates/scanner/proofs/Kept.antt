-- The bytes of the unit that a state stands for, with a payload behind them: those kept, then the payload's.
-- Assumes nothing.
use mathlib.Core.Path.{◌≡◌, refl, sym, ◌∙◌, ap}
use mathlib.Core.List.{List, ◌++◌}
use mathlib.Core.Logic.{◌⊎◌, inl, inr}
use Prim.Native.Nat.{ℕ, ◌+◌, ◌-◌, ◌<◌, ◌≤◌}
use native.Mathlib.Omega.{arith}
use lib.ListN.{length, get_or, replicate, length-take, length-replicate, get_or-append}
use lib.Seq.{get_or-append-add, get_or-take}
use borrow.Author.Tests.{lt-ltb, le-ltb}
use Rattle.std.proofs.lemmas.Bool.{cases_lt}
use Rattle.scanner.specs.declared.StampBytes.{StampBytes}
use Rattle.scanner.specs.declared.PesHeader.{PesHeader}
use Rattle.scanner.specs.Joined.{byte_at, stamp_at}
use Rattle.scanner.specs.State.{stamp_bytes_at, header_of, placed, unit_with}

-- a byte behind the first list
pub byte_past : (u p : List ℕ) (i : ℕ) → length u ≤ i → get_or (u ++ p) i 0 ≡ get_or p (i - length u) 0
byte_past u p i h =
    let e : i ≡ length u + (i - length u) = omega arith in
    ap (λ (k : ℕ). get_or (u ++ p) k 0) e ∙ get_or-append-add u p (i - length u) 0

-- byte i of a unit that goes on, of which byte i is kept
pub byte_joined : (u p : List ℕ) (i x : ℕ) → (i < length u → get_or u i 0 ≡ x) → byte_at x (length u) i p ≡ get_or (u ++ p) i 0
unfolding byte_at
byte_joined u p i x e = go (cases_lt i (length u))
  where
    go : (i < length u) ⊎ (length u ≤ i) → byte_at x (length u) i p ≡ get_or (u ++ p) i 0
    go (inl h) = rw (lt-ltb _ _ h) (sym (get_or-append u p 0 i h ∙ e h))
    go (inr h) = rw (le-ltb _ _ h) (sym (byte_past u p i h))

pub length_with : (n : ℕ) (h : PesHeader) → length (unit_with n h) ≡ n
unfolding unit_with
length_with n h = simp (length-take, length-replicate) (omega arith)

module _ (n : ℕ) (h : PesHeader) (p : List ℕ) where
  kept_byte : (i x : ℕ) → get_or (placed h ++ replicate n 0) i 0 ≡ x → byte_at x n i p ≡ get_or (unit_with n h ++ p) i 0
  unfolding unit_with
  kept_byte i x e =
      rw (length_with n h) at (byte_joined (unit_with n h) p i x (λ k. get_or-take n (placed h ++ replicate n 0) i 0 (rw (length_with n h) at k) ∙ e))

  kept_id : byte_at h.stream_id n 3 p ≡ get_or (unit_with n h ++ p) 3 0
  kept_id = kept_byte 3 h.stream_id refl

  kept_flags : byte_at h.flags n 7 p ≡ get_or (unit_with n h ++ p) 7 0
  kept_flags = kept_byte 7 h.flags refl

  kept_length : byte_at h.header_data_length n 8 p ≡ get_or (unit_with n h ++ p) 8 0
  kept_length = kept_byte 8 h.header_data_length refl

  -- the five bytes of a stamp from byte i on
  kept_stamp : (b : StampBytes) (i : ℕ) → get_or (placed h ++ replicate n 0) i 0 ≡ b.b0 → get_or (placed h ++ replicate n 0) (i + 1) 0 ≡ b.b1
      → get_or (placed h ++ replicate n 0) (i + 2) 0 ≡ b.b2 → get_or (placed h ++ replicate n 0) (i + 3) 0 ≡ b.b3
      → get_or (placed h ++ replicate n 0) (i + 4) 0 ≡ b.b4 → stamp_at b n i p ≡ stamp_bytes_at (unit_with n h ++ p) i
  unfolding stamp_at stamp_bytes_at
  kept_stamp b i e0 e1 e2 e3 e4 =
      λ j.
      record {
        b0 = kept_byte i b.b0 e0 j;
        b1 = kept_byte (i + 1) b.b1 e1 j;
        b2 = kept_byte (i + 2) b.b2 e2 j;
        b3 = kept_byte (i + 3) b.b3 e3 j;
        b4 = kept_byte (i + 4) b.b4 e4 j;
      }

  -- the header of the unit with the payload, byte by byte
  pub joined_is : (record {
    stream_id = byte_at h.stream_id n 3 p;
    flags = byte_at h.flags n 7 p;
    header_data_length = byte_at h.header_data_length n 8 p;
    pts = stamp_at h.pts n 9 p;
    dts = stamp_at h.dts n 14 p;
  }) ≡ header_of (unit_with n h ++ p)
  unfolding header_of
  joined_is =
      λ j.
      record {
        stream_id = kept_id j;
        flags = kept_flags j;
        header_data_length = kept_length j;
        pts = kept_stamp h.pts 9 refl refl refl refl refl j;
        dts = kept_stamp h.dts 14 refl refl refl refl refl j;
      }

-- A unit that goes on has the header of what is kept of it with the payload.
module _ (u p : List ℕ) where
  came : (i : ℕ) → byte_at (get_or u i 0) (length u) i p ≡ get_or (u ++ p) i 0
  came i = byte_joined u p i (get_or u i 0) (λ _. refl)

  stamp_came : (i : ℕ) → stamp_at (stamp_bytes_at u i) (length u) i p ≡ stamp_bytes_at (u ++ p) i
  unfolding stamp_at stamp_bytes_at
  stamp_came i = λ j. record { b0 = came i j; b1 = came (i + 1) j; b2 = came (i + 2) j; b3 = came (i + 3) j; b4 = came (i + 4) j }

  pub keeps : header_of (unit_with (length u) (header_of u) ++ p) ≡ header_of (u ++ p)
  unfolding header_of
  keeps =
      sym (joined_is (length u) (header_of u) p)
      ∙ λ j. record { stream_id = came 3 j; flags = came 7 j; header_data_length = came 8 j; pts = stamp_came 9 j; dts = stamp_came 14 j }
