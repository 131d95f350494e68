-- A recording with its content zeroed: its length, its layout and what is read of it stay.
-- Assumes nothing.
use Prim.Native.Nat.{ℕ, zero, suc, ◌+◌, ◌*◌, ◌/◌, ◌<◌, min}
use mathlib.Core.Path.{◌≡◌, refl, sym, ◌∙◌, ap}
use mathlib.Core.List.{List, [], ◌∷◌}
use mathlib.Core.Bool.{Bool, true, false, cond, ◌&&◌, and-false, true≢false}
use native.Mathlib.Omega.{arith}
use lib.ListN.{length, get_or}
use lib.Dec.{eqb, leb}
use Rattle.std.specs.Prelude.{Some, None}
use Rattle.packet.specs.Layout.{in_sync, on_grid, layout, layout_of}
use Rattle.packet.proofs.Grid.{sync_more, grid_is}
use Rattle.packet.proofs.Layouts.{Fits, found}
use Rattle.recording.specs.Read.{Streams, read_of}
use Rattle.recording.specs.Content.{content_by, content_of_found, AgreeOutside, OnlyContent, zeroed_where, zeroed}
use Rattle.recording.proofs.Content.{sync_not_content}
use Rattle.recording.proofs.OnlyContent.{reads_alike, found_room}

pub zeroed_length : (marked : ℕ → Bool) (l : List ℕ) → length (zeroed_where marked l) ≡ length l
unfolding zeroed_where
zeroed_length marked [] = refl
zeroed_length marked (b ∷ l) = ap suc (zeroed_length (λ (i : ℕ). marked (suc i)) l)

pub zeroed_byte : (marked : ℕ → Bool) (l : List ℕ) (i : ℕ) → get_or (zeroed_where marked l) i 0 ≡ cond (marked i) 0 (get_or l i 0)
unfolding zeroed_where
zeroed_byte marked [] i = go (marked i)
  where
    go : (t : Bool) → ◌≡◌ {A = ℕ} 0 (cond t 0 0)
    go true = refl
    go false = refl
zeroed_byte marked (b ∷ l) zero = refl
zeroed_byte marked (b ∷ l) (suc i) = zeroed_byte (λ (i : ℕ). marked (suc i)) l i

module _ (marked : ℕ → Bool) (l : List ℕ) where
  abbrev copy : List ℕ
  copy = zeroed_where marked l

  pub zeroed_agrees : AgreeOutside marked l copy
  zeroed_agrees = record { one_length = sym (zeroed_length marked l); alike = λ i h m. sym (zeroed_byte marked l i ∙ rw m) }

  -- zero is no sync byte: a layout test that failed fails still, whatever is marked
  no_sync : (i : ℕ) → eqb (get_or l i 0) 0x47 ≡ false → eqb (get_or copy i 0) 0x47 ≡ false
  no_sync i e = rw (zeroed_byte marked l i) (go (marked i))
    where
      go : (t : Bool) → eqb (cond t 0 (get_or l i 0)) 0x47 ≡ false
      go true = refl
      go false = e

  out_of_sync : (size off n : ℕ) → in_sync l size off n ≡ false → in_sync copy size off n ≡ false
  out_of_sync size off zero e = e
  out_of_sync size off (suc n) e = go (in_sync l size off n) refl (eqb (get_or l (n * size + off) 0) 0x47) refl (out_of_sync size off n)
    where
      go : (t : Bool) → in_sync l size off n ≡ t → (u : Bool) → eqb (get_or l (n * size + off) 0) 0x47 ≡ u
          → (in_sync l size off n ≡ false → in_sync copy size off n ≡ false) → in_sync copy size off (suc n) ≡ false
      go false a u b ih = rw (ih a)
      go true a false b ih = rw (no_sync (n * size + off) b) (and-false (in_sync copy size off n))
      go true a true b ih = absurd (let z : ◌≡◌ {A = Bool} true false = rw (a, b) at e in true≢false z)

  pub failed_stays : (size off : ℕ) → on_grid l size off ≡ false → on_grid copy size off ≡ false
  unfolding on_grid
  failed_stays size off e = rw (zeroed_length marked l) (go (leb 2 (length l / size)) e)
    where
      go : (t : Bool) → t && in_sync l size off (min (length l / size) 8) ≡ false → t && in_sync copy size off (min (length l / size) 8) ≡ false
      go true e = out_of_sync size off (min (length l / size) 8) e
      go false e = refl

  -- one that passed passes still if no sync byte was marked
  in_sync_lem : (size off n : ℕ) → ((k : ℕ) → k < n → get_or copy (k * size + off) 0 ≡ 0x47) → in_sync copy size off n ≡ true
  in_sync_lem size off zero h = refl
  in_sync_lem size off (suc n) h = sync_more copy size off n (in_sync_lem size off n (λ k b. h k (omega arith))) (h n (omega arith))

  pub passed_stays : (size off : ℕ) → Fits l size off → ((k : ℕ) → k < length l / size → marked (k * size + off) ≡ false) → on_grid copy size off ≡ true
  passed_stays size off fits clear =
      sym
      (grid_is copy size off (rw (zeroed_length marked l) fits.two)
      (in_sync_lem size off (min (length copy / size) 8)
      (λ k b.
      let c : k < min (length l / size) 8 = rw (zeroed_length marked l) at b in
      zeroed_byte marked l (k * size + off) ∙ rw (clear k (omega arith)) (fits.synced k c))))

-- a layout by its tests
module _ (l : List ℕ) where
  by_188 : on_grid l 188 0 ≡ true → layout_of l ≡ Some (layout 188 0)
  unfolding layout_of
  by_188 a = rw a

  by_192 : on_grid l 188 0 ≡ false → on_grid l 192 4 ≡ true → layout_of l ≡ Some (layout 192 4)
  unfolding layout_of
  by_192 a b = rw (a, b)

  by_204 : on_grid l 188 0 ≡ false → on_grid l 192 4 ≡ false → on_grid l 204 0 ≡ true → layout_of l ≡ Some (layout 204 0)
  unfolding layout_of
  by_204 a b c = rw (a, b, c)

  by_none : on_grid l 188 0 ≡ false → on_grid l 192 4 ≡ false → on_grid l 204 0 ≡ false → layout_of l ≡ None
  unfolding layout_of
  by_none a b c = rw (a, b, c)

-- The copy with its content zeroed.
module _ (s : Streams) (l : List ℕ) where
  found_stays : (size off : ℕ) → layout_of l ≡ Some (layout size off) → on_grid (zeroed s l) size off ≡ true
  unfolding content_by
  found_stays size off e =
      passed_stays (content_of_found s l) l size off (found l (layout size off) e).fits
      (λ k b. rw e (sync_not_content (layout size off) s l k (found_room l (layout size off) e) b))

  pub layout_stays : layout_of (zeroed s l) ≡ layout_of l
  layout_stays = go (on_grid l 188 0) (on_grid l 192 4) (on_grid l 204 0) refl refl refl
    where
      failed : (size off : ℕ) → on_grid l size off ≡ false → on_grid (zeroed s l) size off ≡ false
      failed = failed_stays (content_of_found s l) l

      go : (p q r : Bool) → on_grid l 188 0 ≡ p → on_grid l 192 4 ≡ q → on_grid l 204 0 ≡ r → layout_of (zeroed s l) ≡ layout_of l
      go true q r a b c = by_188 (zeroed s l) (found_stays 188 0 (by_188 l a)) ∙ sym (by_188 l a)
      go false true r a b c = by_192 (zeroed s l) (failed 188 0 a) (found_stays 192 4 (by_192 l a b)) ∙ sym (by_192 l a b)
      go false false true a b c =
          by_204 (zeroed s l) (failed 188 0 a) (failed 192 4 b) (found_stays 204 0 (by_204 l a b c)) ∙ sym (by_204 l a b c)
      go false false false a b c = by_none (zeroed s l) (failed 188 0 a) (failed 192 4 b) (failed 204 0 c) ∙ sym (by_none l a b c)

  pub zeroed_only_content : OnlyContent s l (zeroed s l)
  zeroed_only_content = record { one_layout = sym layout_stays; agree = zeroed_agrees (content_of_found s l) l }

  pub zeroed_alike : read_of s (zeroed s l) ≡ read_of s l
  zeroed_alike = sym (reads_alike s l (zeroed s l) zeroed_only_content)
