-- A part that is stored is what is read again, and nothing else changed. Assumes nothing.
use Prim.Native.Nat.{ℕ, ◌+◌, ◌*◌, ◌/◌, ◌%◌, ◌<◌}
use native.Mathlib.Omega.{arith}
use native.Mathlib.Nat.{div-add-mod'}
use mathlib.Core.Path.{◌≡◌, refl, ◌∙◌}
use mathlib.Core.Bool.{Bool, true, false, cond}
use mathlib.Core.List.{List}
use lib.ListN.{length}
use lib.Dec.{eqb, ltb}
use lib.Ieee.{Float, nan}
use borrow.Author.Tests.{lt-ltb}
use Rattle.fifo.specs.declared.FluidFifo.{FluidFifo}
use Rattle.branch.specs.declared.main_branch.MainBranch.{MainBranch}
use Rattle.branch.specs.declared.video_branch.VideoBranch.{VideoBranch}
use Rattle.scanner.specs.declared.PesScanner.{PesScanner}
use Rattle.std.specs.Prelude.{Option, Some, None}
use Rattle.branch.specs.declared.AccessUnit.{AccessUnit}
use Rattle.std.specs.Float.Ieee.{ne}
use Rattle.ieee.specs.Binary64.{ -∞}
use Rattle.branch.specs.Units.{open_of}
use Rattle.rows.specs.Rows.{Kept, Told, main_again, video_again, held, tb_floats, main_floats, main_counts, video_floats, video_counts, scanner_bytes, tb_in, main_in, video_in, scanner_in, read_tb, read_main, read_video, read_scanner, stored_tb, stored_main_floats, stored_main_counts, stored_video_floats, stored_video_counts, stored_scanner, OnlyTb, OnlyPart, OnlyMain, OnlyVideo, OnlyScanner}
use Rattle.branch.specs.Stores.{store_from}
use Rattle.branch.proofs.Stores.{stores_length, stores_other, stores_at}

-- ---- a read of one of the eight chains

module _ (i : ℕ) (h : i < 8) where
  pub tb_read : (l : List Float) → read_tb l i ≡ tb_in l i
  unfolding read_tb
  tb_read l = rw (lt-ltb i 8 h)

  pub main_read : (l : List Float) (n : List ℕ) → read_main l n i ≡ main_in l n i
  unfolding read_main
  main_read l n = rw (lt-ltb i 8 h)

  pub video_read : (l : List Float) (n : List ℕ) → read_video l n i ≡ video_in l n i
  unfolding read_video
  video_read l n = rw (lt-ltb i 8 h)

  pub scanner_read : (l : List ℕ) → read_scanner l i ≡ scanner_in l i
  unfolding read_scanner
  scanner_read l = rw (lt-ltb i 8 h)

-- ---- what is read behind a store

two_bytes : (n : ℕ) → n % 256 + 256 * (n / 256) ≡ n
two_bytes n = omega (arith, div-add-mod' n 256)

flagged : (x : Bool) → eqb (cond x 1 0) 1 ≡ x
flagged true = refl
flagged false = refl

-- an open unit that is told is read again, and so is none
pub unit_told : (o : Option AccessUnit) → Told o → open_of (held o) ≡ o
unfolding held open_of ne
unit_told None t = refl
unit_told (Some u) t = rw t refl

told_by : (u : AccessUnit) (x : Bool) → ne u.decode_time -∞ ≡ x → Told (cond x (Some u) None)
told_by u true e = e
told_by u false e = tt

-- what open_of makes of a unit is told
pub told : (u : AccessUnit) → Told (open_of u)
unfolding open_of
told u = told_by u (ne u.decode_time -∞) refl

module _ (i : ℕ) (h : i < 8) where
  pub tb_here : (t : FluidFifo) (l : List Float) → length l ≡ 256 → tb_in (stored_tb l i t) i ≡ t
  unfolding tb_in stored_tb
  tb_here t l n =
      let at = stores_at nan l (32 * i) 0 (tb_floats t) (omega arith) in
      rw (lt-ltb i 8 h) (rw (at 0 (omega arith), at 1 (omega arith), at 2 (omega arith), at 3 (omega arith), at 4 (omega arith)) refl)

  pub main_stored : (b : MainBranch) (l : List Float) (m : List ℕ) → length l ≡ 256 → length m ≡ 128 → main_in (stored_main_floats l i b) (stored_main_counts m i b) i ≡ main_again b
  unfolding main_in stored_main_floats stored_main_counts
  main_stored b l m n n' =
      let at = stores_at nan l (32 * i) 5 (main_floats b) (omega arith) in
      let of = stores_at 0 m (16 * i) 0 (main_counts b) (omega arith) in
      rw (lt-ltb i 8 h) (rw (of 0 (omega arith), of 1 (omega arith), of 2 (omega arith), of 3 (omega arith), of 4 (omega arith), at 0 (omega arith), at 1 (omega arith), at 2 (omega arith), at 3 (omega arith), at 4 (omega arith), at 5 (omega arith), at 6 (omega arith), at 7 (omega arith)) refl)

  pub main_here : (b : MainBranch) (l : List Float) (m : List ℕ) → Told b.units.open_au → length l ≡ 256 → length m ≡ 128 → main_in (stored_main_floats l i b) (stored_main_counts m i b) i ≡ b
  main_here b l m t n n' = main_stored b l m n n' ∙ rw (unit_told b.units.open_au t) refl

  pub video_stored : (b : VideoBranch) (l : List Float) (m : List ℕ) → length l ≡ 256 → length m ≡ 128 → video_in (stored_video_floats l i b) (stored_video_counts m i b) i ≡ video_again b
  unfolding video_in stored_video_floats stored_video_counts
  video_stored b l m n n' =
      let at = stores_at nan l (32 * i) 13 (video_floats b) (omega arith) in
      let of = stores_at 0 m (16 * i) 5 (video_counts b) (omega arith) in
      rw (lt-ltb i 8 h) (rw (of 0 (omega arith), of 1 (omega arith), of 2 (omega arith), of 3 (omega arith), of 4 (omega arith), of 5 (omega arith), of 6 (omega arith), at 0 (omega arith), at 1 (omega arith), at 2 (omega arith), at 3 (omega arith), at 4 (omega arith), at 5 (omega arith), at 6 (omega arith), at 7 (omega arith), at 8 (omega arith), at 9 (omega arith), at 10 (omega arith), at 11 (omega arith), at 12 (omega arith), at 13 (omega arith), at 14 (omega arith)) refl)

  pub video_here : (b : VideoBranch) (l : List Float) (m : List ℕ) → Told b.units.open_au → length l ≡ 256 → length m ≡ 128 → video_in (stored_video_floats l i b) (stored_video_counts m i b) i ≡ b
  video_here b l m t n n' = video_stored b l m n n' ∙ rw (unit_told b.units.open_au t) refl

  pub scanner_here : (s : PesScanner) (l : List ℕ) → length l ≡ 128 → scanner_in (stored_scanner l i s) i ≡ s
  unfolding scanner_in stored_scanner
  scanner_here s l n =
      let at = stores_at 0 l (16 * i) 0 (scanner_bytes s) (omega arith) in
      rw (lt-ltb i 8 h)
      (rw (at 0 (omega arith), at 1 (omega arith), at 2 (omega arith), at 3 (omega arith), at 4 (omega arith), at 5 (omega arith), at 6 (omega arith), at 7 (omega arith), at 8 (omega arith), at 9 (omega arith), at 10 (omega arith), at 11 (omega arith), at 12 (omega arith), at 13 (omega arith), at 14 (omega arith), at 15 (omega arith), two_bytes s.count, flagged s.started) refl)

-- ---- what a store leaves, of any chain

stores_kept : {A : Type 0} (d : A) (w : List A) (p k : ℕ) (xs : List A) (lo hi : ℕ) → p + k ≡ lo → p + k + length xs ≡ hi → Kept d lo hi w (store_from w p k xs)
stores_kept d w p k xs lo hi a b = rw (← a, ← b) (record { size = stores_length d w p k xs; same = λ i h. stores_other d w p k xs i h })

-- a store that takes place, or none
kept_by : {A : Type 0} {d : A} {lo hi : ℕ} {l v : List A} (t : Bool) → Kept d lo hi l v → Kept d lo hi l (cond t v l)
kept_by true k = k
kept_by false k = record { size = refl; same = λ i h. refl }

-- floats and counts that are both stored, or neither
part_only : (f k : ℕ) (xs : List Float) (ys : List ℕ) (i : ℕ) (l : List Float) (n : List ℕ) →
    OnlyPart f (f + length xs) k (k + length ys) i l (cond (ltb i 8) (store_from l (32 * i) f xs) l) n (cond (ltb i 8) (store_from n (16 * i) k ys) n)
part_only f k xs ys i l n =
    record {
      floats = kept_by (ltb i 8) (stores_kept nan l (32 * i) f xs _ _ refl (omega arith));
      counts = kept_by (ltb i 8) (stores_kept 0 n (16 * i) k ys _ _ refl (omega arith));
    }

module _ (i : ℕ) where
  pub tb_only : (t : FluidFifo) (l : List Float) → OnlyTb i l (stored_tb l i t)
  unfolding stored_tb
  tb_only t l = kept_by (ltb i 8) (stores_kept nan l (32 * i) 0 (tb_floats t) _ _ (omega arith) (omega arith))

  pub main_only : (b : MainBranch) (l : List Float) (n : List ℕ) → OnlyMain i l (stored_main_floats l i b) n (stored_main_counts n i b)
  unfolding stored_main_floats stored_main_counts
  main_only b l n = part_only 5 0 (main_floats b) (main_counts b) i l n

  pub video_only : (b : VideoBranch) (l : List Float) (n : List ℕ) → OnlyVideo i l (stored_video_floats l i b) n (stored_video_counts n i b)
  unfolding stored_video_floats stored_video_counts
  video_only b l n = part_only 13 5 (video_floats b) (video_counts b) i l n

  pub scanner_only : (s : PesScanner) (l : List ℕ) → OnlyScanner i l (stored_scanner l i s)
  unfolding stored_scanner
  scanner_only s l = kept_by (ltb i 8) (stores_kept 0 l (16 * i) 0 (scanner_bytes s) _ _ (omega arith) (omega arith))
