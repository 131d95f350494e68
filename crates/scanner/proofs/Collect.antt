-- The inner loop of the Rust's scanner: it collects a header's bytes up to the end of the stamp's run.
-- Assumes nothing.
use Rattle.std.specs.Prelude.{Option, Some, None}
use mathlib.Core.Path.{◌≡◌, refl, sym, ◌∙◌, ap}
use mathlib.Core.Bool.{Bool, true, false, cond, ◌&&◌}
use mathlib.Core.List.{List, [], ◌∷◌, ◌++◌, append-nil, append_assoc}
use mathlib.Core.Logic.{◌⊎◌, inl, inr}
use Prim.Native.Nat.{ℕ, suc, ◌+◌, ◌-◌, ◌/◌, ◌<◌, ◌≤◌, min}
use native.Mathlib.Nat.{add-zero}
use native.Mathlib.Omega.{arith}
use lib.Dec.{ltb, leb, eqb}
use lib.ListN.{length, get_or, take, drop, length-append, get_or-append, get_or-eq_default}
use lib.Seq.{take-append_seam}
use borrow.Author.Tests.{lt-ltb, le-ltb, eqb-true}
use Rattle.syntax.specs.TimeStamp.{timestamp}
use Rattle.syntax.specs.Pes.{pts, dts}
use Rattle.syntax.proofs.Bits.{bits_take}
use Rattle.syntax.proofs.Bytes.{Bytes}
use Rattle.syntax.proofs.TimeStamp.{timestamp_places}
use Rattle.syntax.proofs.Pes.{pts_10, dts_11}
use Rattle.scanner.specs.Unit.{optional_header, pts_dts_flags, header_data_length, stamp_bytes, stamp_end_by, decode_ts_by, stamp_end, content_begin, stamp_of}
use Rattle.scanner.specs.ByteScanner.{ts_want, ts33_at, ts_coded, Sizing, continue, resolved, sizing_of, ByteScanner, Collected, after_byte, collect}
use Rattle.std.proofs.lemmas.Bool.{cases_lt}
use Rattle.scanner.proofs.Cuts.{optional_is, flags_is, length_is, six_stamp, nine_stamp, settled, settled_back}
use Rattle.scanner.proofs.Cover.{short_end, short_content, short_stamp, long_content}

ts33_is : (w : List ℕ) (k : ℕ) → ts33_at w k ≡ timestamp (drop k w)
ts33_is w k =
    timestamp_places (take 5 (drop k w))
    ∙ rw (bits_take (drop k w) 5 4 3 (omega arith), bits_take (drop k w) 5 8 15 (omega arith), bits_take (drop k w) 5 24 15 (omega arith))
    (sym (timestamp_places (drop k w)))

-- the Rust's match with guards is the choice of the rule
coded : (f l p d x y : ℕ) → (f ≡ 2 → p ≡ x) → (f ≡ 3 → d ≡ y)
    → cond (eqb f 2 && leb 5 l) (Some p) (cond (eqb f 3 && leb 10 l) (Some d) None) ≡ decode_ts_by true f l x y
unfolding decode_ts_by
coded f l p d x y hp hd = go (eqb f 2) refl (eqb f 3) refl (leb 5 l) (leb 10 l)
  where
    go : (a : Bool) → eqb f 2 ≡ a → (b : Bool) → eqb f 3 ≡ b → (c e : Bool)
        → cond (a && c) (Some p) (cond (b && e) (Some d) None)
        ≡ cond a (cond c (Some x) None) (cond b (cond e (Some y) None) None)
    go true a true b c e = absurd (omega (arith, eqb-true f 2 a, eqb-true f 3 b))
    go true a false b true e = ap Some (hp (eqb-true f 2 a))
    go true a false b false e = refl
    go false a true b c true = ap Some (hd (eqb-true f 3 b))
    go false a true b c false = refl
    go false a false b c e = refl

-- What the collected bytes say: on up to the end of the stamp's run, and there the rest of the header and the stamp.
module _ (w : List ℕ) (h : Bytes w) where
  abbrev said : Sizing
  said = cond (ltb (length w) (stamp_end w)) continue (resolved (content_begin w - length w) (stamp_of w))

  want_is : optional_header w ≡ true → 9 + min (get_or w 8 0) (ts_want (get_or w 7 0 / 64)) ≡ stamp_end w
  unfolding stamp_end stamp_end_by stamp_bytes
  want_is t = rw (t, flags_is w (h 7), length_is w (h 8))

  coded_is : optional_header w ≡ true → ts_coded w (get_or w 7 0 / 64) (get_or w 8 0) ≡ stamp_of w
  unfolding stamp_of
  coded_is t =
      rw (t, flags_is w (h 7), length_is w (h 8))
      (coded (pts_dts_flags w) (header_data_length w) (ts33_at w 9) (ts33_at w 14) (pts w) (dts w)
      (λ f. ts33_is w 9 ∙ sym (pts_10 w f))
      (λ f. ts33_is w 14 ∙ sym (dts_11 w f)))

  pub sizing_is : sizing_of w ≡ said
  unfolding sizing_of
  sizing_is = go (cases_lt (length w) 6)
    where
      long : 9 ≤ length w → optional_header w ≡ true → sizing_of w ≡ said
      long k t =
          let c : 9 + get_or w 8 0 ≡ content_begin w = ap (λ (n : ℕ). 9 + n) (length_is w (h 8)) ∙ sym (long_content w t) in
          rw (le-ltb (length w) 6 (omega arith), optional_is w (h 3), t, le-ltb (length w) 9 k)
          λ i. cond (ltb (length w) (want_is t i)) continue (resolved (c i - length w) (coded_is t i))

      fixed : 6 ≤ length w → (t : Bool) → optional_header w ≡ t → (length w < 9) ⊎ (9 ≤ length w) → sizing_of w ≡ said
      fixed k false t _ =
          let z : 6 - length w ≡ 0 = omega arith in
          rw (le-ltb (length w) 6 k, optional_is w (h 3), t, short_end w t, short_content w t, short_stamp w t, z, le-ltb (length w) 6 k)
      fixed k true t (inl j) =
          rw (le-ltb (length w) 6 k, optional_is w (h 3), t, lt-ltb (length w) 9 j, lt-ltb (length w) (stamp_end w) (omega (arith, nine_stamp w t)))
      fixed k true t (inr j) = long j t

      go : (length w < 6) ⊎ (6 ≤ length w) → sizing_of w ≡ said
      go (inl k) = rw (lt-ltb (length w) 6 k, lt-ltb (length w) (stamp_end w) (omega (arith, six_stamp w)))
      go (inr k) = fixed k (optional_header w) refl (cases_lt (length w) 9)

says_on : (w : List ℕ) → Bytes w → length w < stamp_end w → sizing_of w ≡ continue
says_on w h k = sizing_is w h ∙ rw (lt-ltb (length w) (stamp_end w) k)

says_end : (w : List ℕ) → Bytes w → stamp_end w ≤ length w → sizing_of w ≡ resolved (content_begin w - length w) (stamp_of w)
says_end w h k = sizing_is w h ∙ rw (le-ltb (length w) (stamp_end w) k)

-- the first bytes of a list of bytes
bytes_first : (u p : List ℕ) → Bytes (u ++ p) → Bytes u
bytes_first u p h i = go (cases_lt i (length u))
  where
    go : (i < length u) ⊎ (length u ≤ i) → get_or u i 0 < 256
    go (inl k) = rw (sym (get_or-append u p 0 i k)) (h i)
    go (inr k) = rw (get_or-eq_default u 0 k) (omega arith)

-- The inner loop from a state that has collected u, with q pending.
abbrev pub sizing_at : ℕ → List ℕ → ByteScanner
sizing_at q u = record { header_pending = q; header_buf = u; sizing = true; started = true }

abbrev pub sized_at : ℕ → List ℕ → ByteScanner
sized_at q u = record { header_pending = q; header_buf = u; sizing = false; started = true }

-- one byte more
abbrev more : List ℕ → ℕ → List ℕ
more u b = u ++ (b ∷ [])

joins : (u : List ℕ) (b : ℕ) (p : List ℕ) → more u b ++ p ≡ u ++ (b ∷ p)
joins u b p = append_assoc u (b ∷ []) p

longer : (u : List ℕ) (b : ℕ) → length (more u b) ≡ length u + 1
longer u b = length-append u (b ∷ [])

module _ (q : ℕ) (u : List ℕ) (b : ℕ) (p : List ℕ) (n : ℕ) where
  stepped : Sizing → Collected
  stepped z =
      after_byte z (collect (sizing_at q (more u b)) p (suc n)) (λ k ts. record { scanner = sized_at k (more u b); taken = suc n; stamp = ts })

  byte_on : sizing_of (more u b) ≡ continue → collect (sizing_at q u) (b ∷ p) n ≡ collect (sizing_at q (more u b)) p (suc n)
  unfolding collect stepped
  byte_on e = ap stepped e

  byte_end : (k : ℕ) (ts : Option ℕ) → sizing_of (more u b) ≡ resolved k ts
      → collect (sizing_at q u) (b ∷ p) n ≡ record { scanner = sized_at k (more u b); taken = suc n; stamp = ts }
  unfolding collect stepped
  byte_end k ts e = ap stepped e

-- a run that is not at its end is not so earlier
still : (w p : List ℕ) → length w < stamp_end (w ++ p) → length w < stamp_end w
still w p k = go (cases_lt (length w) (stamp_end w))
  where
    go : (length w < stamp_end w) ⊎ (stamp_end w ≤ length w) → length w < stamp_end w
    go (inl j) = j
    go (inr j) = absurd (let e : stamp_end w ≡ stamp_end (w ++ p) = (settled w p j).stamp_end in omega arith)

pub still_more : (w p : List ℕ) → length w < stamp_end w → length w < stamp_end (w ++ p)
still_more w p k = go (cases_lt (length w) (stamp_end (w ++ p)))
  where
    go : (length w < stamp_end (w ++ p)) ⊎ (stamp_end (w ++ p) ≤ length w) → length w < stamp_end (w ++ p)
    go (inl j) = j
    go (inr j) = absurd (let e : stamp_end (w ++ p) ≡ stamp_end w = (settled_back w p j).stamp_end in omega arith)

-- a payload that ends before the stamp's run does
pub collect_on : (p u : List ℕ) (n q : ℕ) → Bytes (u ++ p) → length (u ++ p) < stamp_end (u ++ p)
    → collect (sizing_at q u) p n ≡ record { scanner = sizing_at q (u ++ p); taken = n + length p; stamp = None }
unfolding collect
collect_on [] u n q h k = rw (append-nil u, add-zero n)
collect_on (b ∷ p) u n q h k =
    let a = joins u b p in
    let h' : Bytes (more u b ++ p) = rw a h in
    let k' : length (more u b ++ p) < stamp_end (more u b ++ p) = rw a k in
    let s : suc n + length p ≡ n + suc (length p) = omega arith in
    byte_on q u b p n (says_on (more u b) (bytes_first (more u b) p h') (still (more u b) p (omega (arith, length-append (more u b) p))))
    ∙ collect_on p (more u b) (suc n) q h' k'
    ∙ rw (a, s)

-- a payload in which it ends: the loop's answer for a unit v whose first m bytes were there
abbrev pub ended : ℕ → ℕ → List ℕ → Collected
ended n m v =
    record { scanner = sized_at (content_begin v - stamp_end v) (take (stamp_end v) v); taken = n + (stamp_end v - m); stamp = stamp_of v }

end_step_lem : (p u : List ℕ) (b n q : ℕ) → Bytes (more u b ++ p) → length u < stamp_end (more u b ++ p)
    → (length (more u b) < stamp_end (more u b ++ p) → collect (sizing_at q (more u b)) p (suc n) ≡ ended (suc n) (length (more u b)) (more u b ++ p))
    → collect (sizing_at q u) (b ∷ p) n ≡ ended n (length u) (more u b ++ p)
end_step_lem p u b n q h k later = go (cases_lt (length (more u b)) (stamp_end (more u b)))
  where
    go : (length (more u b) < stamp_end (more u b)) ⊎ (stamp_end (more u b) ≤ length (more u b))
        → collect (sizing_at q u) (b ∷ p) n ≡ ended n (length u) (more u b ++ p)
    go (inl j) =
        let m : length (more u b) < stamp_end (more u b ++ p) = still_more (more u b) p j in
        let t : suc n + (stamp_end (more u b ++ p) - length (more u b)) ≡ n + (stamp_end (more u b ++ p) - length u) = omega (arith, longer u b) in
        byte_on q u b p n (says_on (more u b) (bytes_first (more u b) p h) j) ∙ later m ∙ rw t
    go (inr j) =
        let s = settled (more u b) p j in
        let e : stamp_end (more u b ++ p) ≡ length (more u b) = omega (arith, longer u b, s.stamp_end) in
        let t : n + (length (more u b) - length u) ≡ suc n = omega (arith, longer u b) in
        byte_end q u b p n (content_begin (more u b) - length (more u b)) (stamp_of (more u b)) (says_end (more u b) (bytes_first (more u b) p h) j)
        ∙ rw (s.content_begin, s.stamp, e, take-append_seam (more u b) p, t)

pub collect_ends : (p u : List ℕ) (n q : ℕ) → Bytes (u ++ p) → length u < stamp_end (u ++ p) → stamp_end (u ++ p) ≤ length (u ++ p)
    → collect (sizing_at q u) p n ≡ ended n (length u) (u ++ p)
collect_ends [] u n q h k l = absurd (omega (arith, ap length (append-nil u)))
collect_ends (b ∷ p) u n q h k l =
    let a = joins u b p in
    let h' : Bytes (more u b ++ p) = rw a h in
    let l' : stamp_end (more u b ++ p) ≤ length (more u b ++ p) = rw a l in
    rw (← a) (end_step_lem p u b n q h' (rw a k) (λ m. collect_ends p (more u b) (suc n) q h' m l'))
