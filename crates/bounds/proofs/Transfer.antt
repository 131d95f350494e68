-- A transfer keeps the bounds of `TransferIn`. EBn's count may fall by a byte more with each transfer, but not with one that moves half a byte. Assumes nothing.
use mathlib.Core.Bool.{Bool, cond, false, true}
use mathlib.Core.List.{List, [], ◌++◌, ◌∷◌}
use mathlib.Core.Logic.{◌⊎◌, inl, inr}
use mathlib.Core.Path.{◌≡◌, refl, subst}
use Prim.Native.Nat.{◌*◌, ◌+◌, ◌<◌, ◌^◌, ◌≤◌, suc, zero-le, ℕ}
use native.Mathlib.Nat.{add-le-add, le-add_right, le_refl, le_trans, mul-le-mul_right, zero-mul}
use native.Mathlib.Omega.{arith}
use lib.Dec.{T, lit<, lit≤}
use lib.Ieee.{Float, add, binary64, eq, fits, le, lt, neg, of_bits, sub}
use lib.Ieee.Fits.{add-fits}
use lib.ListN.{length}
use Rattle.ieee.specs.Binary64.{0f, ◌⊕◌, ◌⊖◌}
use Rattle.ieee.specs.Interval.{In, minus, plain, zero_float}
use Rattle.ieee.specs.MaxMin.{max_of}
use Rattle.ieee.specs.Progress.{Over, place, take_advance}
use Rattle.ieee.specs.Units.{neg_units, pos_units, ulp}
use Rattle.ieee.proofs.Interval.{add_in, in_finite, sub_in, widen, widen_high, widen_low}
use Rattle.ieee.proofs.Progress.{place_le, place_lt, place_mono}
use Rattle.ieee.proofs.Sign.{add_ge}
use Rattle.ieee.proofs.Units.{add_units, le→units, units→low}
use Rattle.ieee.proofs.MaxMin.{max_keeps}
use Rattle.branch.specs.VideoBranch.{Transfer, eb_in_after, header_bytes, marks_left, moved, transfer}
use Rattle.branch.specs.declared.HeaderMark.{HeaderMark}
use Rattle.bounds.specs.Events.{eb_loss_limit}
use Rattle.bounds.specs.Marks.{MarkIs, Marked, a_mark, no_marks}
use Rattle.bounds.specs.Runs.{byte_limit}
use Rattle.bounds.specs.Video.{EbCount, TransferIn, eb_in_limit, eb_peak_limit, transfer_limit, turn_limit}
use Rattle.bounds.proofs.EbIn.{eb_high, eb_low, eb_next_in}
use Rattle.bounds.proofs.Header.{PartialSum, Summed, summed}
use Rattle.bounds.proofs.Rate.{neg_units_zero}
use Rattle.bounds.proofs.TurnParts.{moved_is}

-- ---- the marks that are left
lowered : {N : ℕ} {ms : List HeaderMark} {lo : ℕ} → Marked N ms lo → Marked N ms 0
lowered no_marks = no_marks
lowered (a_mark a k h t q l) = a_mark a k zero-le t q l

pick_marks : (N : ℕ) (ms ns : List HeaderMark) (b c : Bool) → Marked N ms 0 → Marked N ns 0 → Marked N (cond b ms (cond c ns ms)) 0
pick_marks N ms ns true c p q = p
pick_marks N ms ns false true p q = q
pick_marks N ms ns false false p q = p

pub marks_kept : (N : ℕ) (ms : List HeaderMark) (end : Float) → Marked N ms 0 → Marked N (marks_left ms end) 0
unfolding marks_left
marks_kept N [] end p = p
marks_kept N (m ∷ ms) end (a_mark a k h t q l) =
    pick_marks N (m ∷ ms) (marks_left ms end) (le end (m.threshold ⊖ m.bytes)) (le m.threshold end) (a_mark a k h t q l) (marks_kept N ms end (lowered l))

pick_length : (n : ℕ) (ms ns : List HeaderMark) (b c : Bool) → length ms ≤ n → length ns ≤ n → length (cond b ms (cond c ns ms)) ≤ n
pick_length n ms ns true c p q = p
pick_length n ms ns false true p q = q
pick_length n ms ns false false p q = p

pub marks_fewer : (n : ℕ) (ms : List HeaderMark) (end : Float) → length ms ≤ n → length (marks_left ms end) ≤ n
unfolding marks_left
marks_fewer n [] end p = p
marks_fewer n (m ∷ ms) end p = pick_length n (m ∷ ms) (marks_left ms end) (le end (m.threshold ⊖ m.bytes)) (le m.threshold end) p (marks_fewer n ms end (less (length ms) n p))
  where
    less : (k n : ℕ) → suc k ≤ n → k ≤ n
    less k n h = omega arith

-- ---- marks up to a larger end, and one more mark at the end
pub marked_mono : {N N' : ℕ} {ms : List HeaderMark} {lo : ℕ} → N ≤ N' → Marked N ms lo → Marked N' ms lo
marked_mono h no_marks = no_marks
marked_mono h (a_mark a k l t q p) = a_mark a k l (le_trans t h) q (marked_mono h p)

pub marked_append : {N : ℕ} {m : HeaderMark} (k : ℕ) (ms : List HeaderMark) {lo : ℕ} → lo ≤ N → Marked N ms lo → MarkIs m N k → Marked (N + k) (ms ++ (m ∷ [])) lo
marked_append {N} k [] h no_marks q = a_mark N k h (le_refl (N + k)) q no_marks
marked_append {N} k (x ∷ ms) h (a_mark a j l t p ps) q = a_mark a j l (le_trans t (le-add_right N k)) p (marked_append k ms t ps q)

-- ---- EBn's count
pub eb_in : (n e : ℕ) (f : Transfer) → TransferIn n e f → e ≤ turn_limit → In (minus eb_loss_limit) f.eb_in (plain eb_in_limit)
eb_in n e f q h =
    let few : place 0 1 f.transferred + e ≤ eb_loss_limit = le_trans (add-le-add (place_le 0 1 transfer_limit q.transferred) h) (lit≤ tt) in
    record {
      low_finite = tt;
      high_finite = tt;
      low = units→low binary64 eb_loss_limit f.eb_in q.eb_finite q.eb_fits (le_trans q.eb_low (add-le-add (mul-le-mul_right (2 ^ 1074) few) (le_refl (pos_units binary64 f.eb_in))));
      high = q.eb_high;
    }

pub eb_held : (n e : ℕ) (f : Transfer) → TransferIn n e f → e ≤ turn_limit → EbCount f.eb_in
unfolding le lt eq
eb_held n e f q h = widen (minus (2 ^ 32)) (plain (2 ^ 32)) (eb_in n e f q h) tt

zero_start : (g D : ℕ) → 0 + g ≤ g + 0 * D
zero_start g D = omega (arith, zero-mul D)

size_chain : (gr gs ge gb oz os ob D F X : ℕ) → gr + gs ≤ ge + D → ge + os + ob ≤ gs + gb + oz + F → oz ≡ 0 → D + F ≤ X → gr ≤ gb + X
size_chain gr gs ge gb oz os ob D F X a b c d = omega arith

module _ (n e : ℕ) (f : Transfer) (size b : Float) (q : TransferIn n e f) (hn : n ≤ byte_limit) (he : e ≤ turn_limit) (iz : In (plain 1) size (plain (2 ^ 30))) (fz : T (fits binary64 size))
    (ib : In zero_float b (plain (2 ^ 34))) (fb : T (fits binary64 b))
    (k : T (le b (size ⊖ (f.eb_in ⊖ f.eb_removed)))) (top : T (le (f.transferred ⊕ b) (plain transfer_limit))) where
  end_in : In zero_float (f.transferred ⊕ b) (plain transfer_limit)
  unfolding add le lt eq
  end_in =
      let z = add_in binary64 zero_float (plain (2 ^ 35)) q.transferred ib tt in
      record { low_finite = tt; high_finite = tt; low = z.low; high = top }

  abbrev sum : Float
  sum = header_bytes f.marks f.transferred (f.transferred ⊕ b) 0f

  begins : PartialSum transfer_limit (ulp binary64 27) f.transferred (f.transferred ⊕ b) 0 0f 0
  unfolding of_bits pos_units neg_units fits le lt eq
  begins =
      record {
        mark = pos_units binary64 f.transferred;
        at = inl (le_refl (pos_units binary64 f.transferred));
        top = flat (pos_units binary64 f.transferred) (pos_units binary64 (f.transferred ⊕ b)) (neg_units binary64 f.transferred) (neg_units binary64 (f.transferred ⊕ b))
            (neg_units_zero f.transferred (in_finite q.transferred) q.transferred.low) (neg_units_zero (f.transferred ⊕ b) (in_finite end_in) end_in.low)
            (le→units binary64 f.transferred (f.transferred ⊕ b) (in_finite q.transferred) (in_finite end_in) q.transferred_fits (add-fits binary64 f.transferred b) (add_ge binary64 f.transferred b (in_finite q.transferred) (in_finite ib) q.transferred_fits ib.low));
        sum = zero_start (pos_units binary64 f.transferred) (ulp binary64 27 + ulp binary64 27);
        h_in = record { low_finite = tt; high_finite = tt; low = tt; high = tt };
        h_fits = tt;
      }
    where
      flat : (x y ox oy : ℕ) → ox ≡ 0 → oy ≡ 0 → x + oy ≤ y + ox → x ≤ y
      flat x y ox oy a b h = omega arith

  the_sum : Summed transfer_limit 27 byte_limit tt (lit< tt) (lit≤ tt) f.transferred (f.transferred ⊕ b) q.transferred end_in q.transferred_fits (add-fits binary64 f.transferred b) sum
  the_sum =
      summed transfer_limit 27 byte_limit tt (lit< tt) (lit≤ tt) f.transferred (f.transferred ⊕ b) q.transferred end_in q.transferred_fits (add-fits binary64 f.transferred b)
      f.marks 0 0 0f
      (marked_mono (less n hn) q.marks) (none_more (length f.marks) n q.few hn) begins
    where
      none_more : (l n : ℕ) → l ≤ n → n ≤ 2 ^ 24 → 0 + l ≤ 2 ^ 24
      none_more l n h g = omega arith

      less : (n : ℕ) → n ≤ 2 ^ 24 → n ≤ 2 ^ 25 + 1
      less n h = omega arith

  sum_size : pos_units binary64 sum ≤ pos_units binary64 b + (2 ^ 1073 + 2 ^ 1057)
  unfolding le lt eq
  sum_size =
      let u = add_units binary64 36 transfer_limit (2 ^ 34) (widen_low (minus transfer_limit) q.transferred tt) (widen_low (minus (2 ^ 34)) ib tt) q.transferred_fits fb tt in
      size_chain (pos_units binary64 sum) (pos_units binary64 f.transferred) (pos_units binary64 (f.transferred ⊕ b)) (pos_units binary64 b) (neg_units binary64 (f.transferred ⊕ b))
      (neg_units binary64 f.transferred) (neg_units binary64 b)
      (byte_limit * (ulp binary64 27 + ulp binary64 27)) (ulp binary64 36) (2 ^ 1073 + 2 ^ 1057) the_sum.size u.high_end
      (neg_units_zero (f.transferred ⊕ b) (in_finite end_in) end_in.low) (lit≤ tt)

  sum_in : In zero_float sum (plain (2 ^ 35))
  unfolding le lt eq
  sum_in = widen_high (plain (2 ^ 35)) the_sum.r_in tt

  next_in_lem : In (minus (2 ^ 37)) (f.eb_in ⊕ (b ⊖ sum)) (plain (2 ^ 37))
  next_in_lem =
      eb_next_in f.eb_in f.eb_removed size b sum 0 (place 0 1 f.transferred + e) (eb_held n e f q he) q.removed iz ib sum_in q.eb_fits q.removed_fits fz fb the_sum.r_fits

  next_high : T (le (f.eb_in ⊕ (b ⊖ sum)) (plain eb_in_limit))
  next_high =
      eb_high f.eb_in f.eb_removed size b sum 0 (place 0 1 f.transferred + e) (eb_held n e f q he) q.removed iz ib sum_in q.eb_fits q.removed_fits fz fb the_sum.r_fits k
      q.removed_high

  peak_in : In zero_float (max_of f.eb_peak ((f.eb_in ⊕ (b ⊖ sum)) ⊖ f.eb_removed)) (plain eb_peak_limit)
  unfolding sub add neg le lt eq
  peak_in =
      let n : In (minus (2 ^ 37)) (f.eb_in ⊕ (b ⊖ sum)) (plain eb_in_limit) = record { low_finite = tt; high_finite = tt; low = next_in_lem.low; high = next_high } in
      max_keeps q.peak (sub_in binary64 (minus (2 ^ 38)) (plain eb_peak_limit) n q.removed tt)

  eb_less : neg_units binary64 (f.eb_in ⊕ (b ⊖ sum)) ≤ (place 0 1 f.transferred + e + 1) * 2 ^ 1074 + pos_units binary64 (f.eb_in ⊕ (b ⊖ sum))
  eb_less =
      eb_low f.eb_in f.eb_removed size b sum (2 ^ 1073 + 2 ^ 1057) (place 0 1 f.transferred + e) (eb_held n e f q he) q.removed iz ib sum_in q.eb_fits q.removed_fits fz fb
      the_sum.r_fits sum_size (lit≤ tt) q.eb_low

  moved_keeps : (e' : ℕ) → place 0 1 f.transferred + e + 1 ≤ place 0 1 (f.transferred ⊕ b) + e' → TransferIn n e' (moved f b)
  unfolding moved eb_in_after
  moved_keeps e' step =
      record {
        marks = marks_kept n f.marks _ q.marks;
        few = marks_fewer n f.marks _ q.few;
        transferred = end_in;
        transferred_fits = add-fits binary64 f.transferred b;
        eb_finite = in_finite next_in_lem;
        eb_fits = add-fits binary64 f.eb_in (b ⊖ sum);
        eb_low = le_trans eb_less (add-le-add (mul-le-mul_right (2 ^ 1074) step) (le_refl (pos_units binary64 (f.eb_in ⊕ (b ⊖ sum)))));
        eb_high = next_high;
        removed = q.removed;
        removed_high = q.removed_high;
        removed_fits = q.removed_fits;
        peak = peak_in;
      }

  place_up : place 0 1 f.transferred ≤ place 0 1 (f.transferred ⊕ b)
  unfolding le lt eq
  place_up =
      place_mono 0 1 (f.transferred ⊕ b) (widen_low (minus 0) q.transferred tt) (in_finite end_in)
      (add_ge binary64 f.transferred b (in_finite q.transferred) (in_finite ib) q.transferred_fits ib.low)

-- one turn more
pub looser : {n : ℕ} {f : Transfer} (e e' : ℕ) → e ≤ e' → TransferIn n e f → TransferIn n e' f
looser {n} {f} e e' h q =
    record {
      marks = q.marks;
      few = q.few;
      transferred = q.transferred;
      transferred_fits = q.transferred_fits;
      eb_finite = q.eb_finite;
      eb_fits = q.eb_fits;
      eb_low = le_trans q.eb_low (add-le-add (mul-le-mul_right (2 ^ 1074) (add-le-add (le_refl (place 0 1 f.transferred)) h)) (le_refl (pos_units binary64 f.eb_in)));
      eb_high = q.eb_high;
      removed = q.removed;
      removed_high = q.removed_high;
      removed_fits = q.removed_fits;
      peak = q.peak;
    }

transfer_by : (n e : ℕ) (f : Transfer) (b : Float) (c : Bool) → le b 0f ≡ c → TransferIn n e f → (le b 0f ≡ false → TransferIn n e (moved f b)) → TransferIn n e (transfer f b)
unfolding transfer
transfer_by n e f b true h q p = simp h q
transfer_by n e f b false h q p = simp h (p h)

-- a transfer of at most EBn's room that stays within transfer_limit: one turn more
module _ (n e : ℕ) (f : Transfer) (size b : Float) (q : TransferIn n e f) (hn : n ≤ byte_limit) (he : e ≤ turn_limit) (iz : In (plain 1) size (plain (2 ^ 30))) (fz : T (fits binary64 size))
    (ib : In zero_float b (plain (2 ^ 34))) (fb : T (fits binary64 b))
    (k : T (le b (size ⊖ (f.eb_in ⊖ f.eb_removed)))) (top : T (le (f.transferred ⊕ b) (plain transfer_limit))) where
  pub transfer_keeps : TransferIn n (e + 1) (transfer f b)
  transfer_keeps =
      transfer_by n (e + 1) f b (le b 0f) refl (looser e (e + 1) (le-add_right e 1) q)
      (λ (h : le b 0f ≡ false). moved_keeps n e f size b q hn he iz fz ib fb k top (e + 1) (step _ _ e (place_up n e f size b q hn he iz fz ib fb k top)))
    where
      step : (x y e : ℕ) → x ≤ y → x + e + 1 ≤ y + (e + 1)
      step x y e h = omega arith

  -- and no turn more, where half a byte has moved
  pub transfer_moves : Over f.transferred take_advance (transfer f b).transferred → TransferIn n e (transfer f b)
  unfolding le lt eq
  transfer_moves o =
      transfer_by n e f b (le b 0f) refl q
      (λ (h : le b 0f ≡ false). moved_keeps n e f size b q hn he iz fz ib fb k top e
      (step _ _ e (place_lt 0 1 take_advance (widen_low (minus 0) q.transferred tt) tt (subst (λ (y : Float). Over f.transferred take_advance y) (moved_is f b h) o))))
    where
      step : (x y e : ℕ) → x < y → x + e + 1 ≤ y + e
      step x y e h = omega arith

  pub transfer_either : (e' : ℕ) → e ≤ e' → Over f.transferred take_advance (transfer f b).transferred ⊎ (e + 1 ≤ e') → TransferIn n e' (transfer f b)
  transfer_either e' h (inl o) = looser e e' h (transfer_moves o)
  transfer_either e' h (inr l) = looser (e + 1) e' l transfer_keeps
