-- The clock built sample by sample in lent work is `build` of the samples, and the pass over packets builds that of their
-- samples.
use Rattle.std.proofs.Common.{◌≡◌, ℕ, zero, suc, ◌+◌, ◌-◌, ◌*◌, ◌^◌, ◌<◌, ◌≤◌, Bool, true, false, cond, ◌||◌, eqb, ltb, leb, List, [], ◌∷◌, ◌++◌, length, get_or, set, refl, ap, ◌∙◌, append_assoc, append-nil, add-one, arith, length-set, get_or-set_other, get_or-set_same, le-ltb, lt-ltb, ne_eqb, le-leb, leb-false, leb-true, None, Some, Result, Ok, Err, is_some}
use lib.Ieee.{Float, nan, lt}
use Rattle.ieee.specs.Binary64.{1000f, 1000000000f}
use Rattle.error.specs.declared.Refusal.{Refusal}
use Rattle.clock.specs.Pcr.{pcr_modulus}
use Rattle.arrival.specs.declared.RateInterval.{RateInterval}
use Rattle.arrival.specs.declared.Sample.{Sample}
use Rattle.arrival.specs.declared.Anchor.{Anchor}
use Rattle.arrival.specs.declared.Closed.{Closed}
use Rattle.arrival.specs.declared.ClockBuild.{ClockBuild}
use Rattle.arrival.specs.ArrivalClock.{Built, anchor_at, interval_at, stepped, restarted, step_to, rate_to, close, and_then, build_from, build}
use Rattle.arrival.specs.Work.{holds, interval_in, intervals_in}
use Rattle.arrival.specs.Pass.{no_sample, Building, store_times, store_places, counted_with, counted, closed_by, in_range, take_sample, take_samples, answer_of, unless_refused, built_by, built_in}
use Rattle.arrival.proofs.Cursors.{Room, holds_room, room_holds}

-- ---- stores side by side
module _ {A : Type 0} (l : List A) (p : ℕ) (a b d : A) where
  abbrev pair : List A
  pair = set (set l p a) (p + 1) b

  module _ (h : p + 1 < length l) where
    pair_first : get_or pair p d ≡ a
    pair_first = get_or-set_other (set l p a) (p + 1) p b d (λ e. omega arith) ∙ get_or-set_same l p a d (omega arith)

    pair_second : get_or pair (p + 1) d ≡ b
    pair_second = get_or-set_same (set l p a) (p + 1) b d (simp length-set h)

  pair_other : (q : ℕ) → q < p → get_or pair q d ≡ get_or l q d
  pair_other q g = get_or-set_other (set l p a) (p + 1) q b d (λ e. omega arith) ∙ get_or-set_other l p q a d (λ e. omega arith)

-- ---- an interval stored behind those that stand
module _ (times : List Float) (places : List ℕ) (k : ℕ) (i : RateInterval) where
  abbrev times' : List Float
  times' = store_times times k i

  abbrev places' : List ℕ
  places' = store_places places k i

  store_room : (depth : ℕ) → Room depth times places → Room depth times' places'
  unfolding store_times store_places
  store_room depth r = record { of_times = simp length-set r.of_times; of_places = simp length-set r.of_places }

  abbrev two : List Float
  two = pair times (3 * k) i.start_time i.rate nan

  time_before : (q : ℕ) → q < 3 * k + 2 → get_or (set two (3 * k + 2) i.pts_offset) q nan ≡ get_or two q nan
  time_before q h = get_or-set_other two (3 * k + 2) q i.pts_offset nan (λ e. omega arith)

  module _ (t : 3 * k + 2 < length times) (p : 2 * k + 1 < length places) where
    stored_last : interval_in times' places' k ≡ i
    unfolding interval_in store_times store_places
    stored_last =
        rw (
          time_before (3 * k) (omega arith),
          pair_first times (3 * k) i.start_time i.rate nan (omega arith),
          time_before (3 * k + 1) (omega arith),
          pair_second times (3 * k) i.start_time i.rate nan (omega arith),
          get_or-set_same two (3 * k + 2) i.pts_offset nan (simp length-set t),
          pair_first places (2 * k) i.start_pos i.pcr_ref_90k 0 p,
          pair_second places (2 * k) i.start_pos i.pcr_ref_90k 0 p,
        )

    time_kept : (q : ℕ) → q < 3 * k → get_or times' q nan ≡ get_or times q nan
    unfolding store_times
    time_kept q h = time_before q (omega arith) ∙ pair_other times (3 * k) i.start_time i.rate nan q h

    place_kept : (q : ℕ) → q < 2 * k → get_or places' q 0 ≡ get_or places q 0
    unfolding store_places
    place_kept q h = pair_other places (2 * k) i.start_pos i.pcr_ref_90k 0 q h

    stored_other : (j : ℕ) → j < k → interval_in times' places' j ≡ interval_in times places j
    unfolding interval_in
    stored_other j h =
        rw (time_kept (3 * j) (omega arith), time_kept (3 * j + 1) (omega arith), time_kept (3 * j + 2) (omega arith), place_kept (2 * j) (omega arith), place_kept (2 * j + 1) (omega arith))

    pub store_adds : (m j : ℕ) → j + m ≡ k → intervals_in times' places' j (suc m) ≡ intervals_in times places j m ++ (i ∷ [])
    unfolding intervals_in
    store_adds zero j e = let h : j ≡ k = omega arith in rw (h, stored_last)
    store_adds (suc m) j e = rw (stored_other j (omega arith), store_adds m (j + 1) (omega arith))

-- ---- samples that are only counted
-- each sample has ticks of a raw PCR
abbrev pub Low : List Sample → Type 0
Low [] = Unit {0}
Low (s ∷ ss) = (s.ticks < 2 ^ 42) × Low ss

module _ (depth : ℕ) where
  -- nothing but the count changes any more
  pub record Frozen (w : Building) : Type 0 where
    pub some : 0 < w.build.samples
    pub shut : (is_some w.build.refusal || leb depth w.build.samples) ≡ true
    pub low : w.build.anchor.extended < 2 ^ 63
    pub room : holds depth w.times w.places ≡ true

  abbrev pub grown : ℕ → Building → Building
  grown n w = record { build = record { samples = w.build.samples + n; anchor = w.build.anchor; refusal = w.build.refusal }; times = w.times; places = w.places }

  in_range_of : (b : ClockBuild) (s : Sample) → s.ticks < 2 ^ 42 → b.samples < 2 ^ 63 → b.anchor.extended < 2 ^ 63 → in_range b s ≡ true
  unfolding in_range
  in_range_of b s h g l = rw (lt-ltb s.ticks (2 ^ 63) (omega arith), lt-ltb b.samples (2 ^ 63) g, lt-ltb b.anchor.extended (2 ^ 63) l)

  still : (r : Bool) (n : ℕ) → (r || leb depth n) ≡ true → (r || leb depth (n + 1)) ≡ true
  still true n h = refl
  still false n h = le-leb depth (n + 1) (omega (arith, leb-true depth n h))

  count_one : (w : Building) (s : Sample) → Frozen w → s.ticks < 2 ^ 42 → w.build.samples < 2 ^ 63 → take_sample depth w s ≡ grown 1 w
  unfolding take_sample
  count_one w s f h g =
      rw (in_range_of w.build s h g f.low, f.room, ne_eqb w.build.samples 0 (λ e. omega (arith, f.some)), f.shut)

  count_all : (ss : List Sample) (w : Building) → Frozen w → Low ss → w.build.samples + length ss < 2 ^ 63 → take_samples depth w ss ≡ grown (length ss) w
  unfolding take_samples
  count_all [] w f l h = let e : w.build.samples + 0 ≡ w.build.samples = omega arith in rw e
  count_all (s ∷ ss) w f l h =
      let e : w.build.samples + 1 + length ss ≡ w.build.samples + suc (length ss) = omega arith in
      rw (count_one w s f l.0 (omega arith))
      (count_all ss (grown 1 w) (record { some = omega (arith, f.some); shut = still (is_some w.build.refusal) w.build.samples f.shut; low = f.low; room = f.room }) l.1 (omega arith)
      ∙ rw e)

-- ---- samples that build
-- intervals in front of those that are built
abbrev prepended : List RateInterval → Built → Built
prepended is (Ok js) = Ok (is ++ js)
prepended is (Err r) = Err r

prepended_nil : (b : Built) → prepended [] b ≡ b
prepended_nil (Ok js) = refl
prepended_nil (Err r) = refl

prepended_then : (is : List RateInterval) (i : RateInterval) (b : Built) → prepended (is ++ (i ∷ [])) b ≡ prepended is (and_then i b)
prepended_then is i (Ok js) = ap Ok (append_assoc is (i ∷ []) js)
prepended_then is i (Err r) = refl

-- the anchor is one wrap and a raw PCR further at most
abbrev Follows : ℕ → Result Closed Refusal → Type 0
Follows top (Ok c) = c.anchor.extended ≤ top
Follows top (Err r) = Unit {0}

close_follows : (n : ℕ) (a : Anchor) (s : Sample) (top : ℕ) → s.ticks ≤ top → a.extended + pcr_modulus ≤ top → Follows top (close n a s)
unfolding close
close_follows n a s top h g = by s.marked (eqb n 1) (eqb (step_to a s) 0) (lt (rate_to a s) 1000f || lt 1000000000f (rate_to a s))
  where
    by : (m o z r : Bool)
        → Follows top
        (cond m (cond o (Err (Refusal.DiscontinuityBeforeRate n)) (Ok (record { interval = interval_at a a.rate; anchor = restarted a s })))
        (cond z (Err (Refusal.RepeatedPcr n))
        (cond r (Err (Refusal.RateOutsideLimits n)) (Ok (record { interval = interval_at a (rate_to a s); anchor = stepped a s })))))
    by true true z r = tt
    by true false z r = h
    by false o true r = tt
    by false o false true = tt
    by false o false false = omega arith

module _ (depth : ℕ) where
  -- number 8, then 5, then what is built
  abbrev outcome : ℕ → Built → Built
  outcome n b = cond (ltb depth n) (Err (Refusal.ClockFull depth)) (cond (ltb n 2) (Err Refusal.TooFewPcrs) b)

  built_is : (w : Building) → built_in depth w ≡ outcome w.build.samples (built_by (unless_refused w.build.refusal (w.build.samples - 1)) w)
  unfolding answer_of
  built_is w = by (ltb depth w.build.samples) (ltb w.build.samples 2)
    where
      by : (t u : Bool)
          → built_by (cond t (Err (Refusal.ClockFull depth)) (cond u (Err Refusal.TooFewPcrs) (unless_refused w.build.refusal (w.build.samples - 1)))) w
          ≡ cond t (Err (Refusal.ClockFull depth)) (cond u (Err Refusal.TooFewPcrs) (built_by (unless_refused w.build.refusal (w.build.samples - 1)) w))
      by true u = refl
      by false true = refl
      by false false = refl

  full : (n : ℕ) (b c : Built) → depth < n → outcome n b ≡ outcome n c
  full n b c h = rw (lt-ltb depth n h)

  -- k + 1 samples have come, and `is` are the intervals that they closed
  pub record Standing (k : ℕ) (is : List RateInterval) (w : Building) : Type 0 where
    pub count : w.build.samples ≡ k + 1
    pub few : k ≤ 2 ^ 20
    pub accepted : w.build.refusal ≡ None
    pub low : w.build.anchor.extended ≤ (k + 1) * 2 ^ 42
    pub room : holds depth w.times w.places ≡ true
    pub stand : intervals_in w.times w.places 0 k ≡ is

  Builds-to : ℕ → List RateInterval → Building → List Sample → Type 0
  Builds-to k is w ss = built_in depth (take_samples depth w ss) ≡ outcome (k + 1 + length ss) (prepended is (build_from (k + 1) w.build.anchor ss))

  module _ (shallow : depth ≤ 2 ^ 20) (k : ℕ) (is : List RateInterval) (w : Building) (st : Standing k is w) where
    at_end : Builds-to k is w []
    unfolding Builds-to take_samples build_from
    at_end =
        let e : k + 1 + 0 ≡ k + 1 = omega arith in
        let m : k + 1 - 1 ≡ k = omega arith in
        built_is w ∙ rw (st.count, st.accepted, e, m, st.stand, append-nil)

    module _ (s : Sample) (ss : List Sample) (l : s.ticks < 2 ^ 42) (ls : Low ss) (small : k + 1 + suc (length ss) < 2 ^ 63) where
      past_depth : leb depth (k + 1) ≡ true → Builds-to k is w (s ∷ ss)
      unfolding Builds-to
      past_depth h =
          ap (built_in depth) (count_all depth (s ∷ ss) w (record { some = omega (arith, st.count); shut = rw (st.accepted, st.count) h; low = omega (arith, st.low, st.few); room = st.room }) (l, ls) (rw st.count small))
          ∙ built_is (grown depth (suc (length ss)) w)
          ∙ rw st.count (full _ _ _ (omega (arith, leb-true depth (k + 1) h)))

      taking : leb depth (k + 1) ≡ false → take_sample depth w s ≡ closed_by w (close (k + 1) w.build.anchor s)
      unfolding take_sample
      taking h =
          rw (in_range_of depth w.build s l (omega (arith, st.count)) (omega (arith, st.low, st.few)), st.room, ne_eqb w.build.samples 0 (λ e. omega (arith, st.count)), st.accepted, st.count, h)

      follows : Follows ((k + 1 + 1) * 2 ^ 42) (close (k + 1) w.build.anchor s)
      follows = close_follows (k + 1) w.build.anchor s ((k + 1 + 1) * 2 ^ 42) (omega arith) (omega (arith, st.low))

      refusing : leb depth (k + 1) ≡ false → {r : Refusal} → close (k + 1) w.build.anchor s ≡ Err r → Builds-to k is w (s ∷ ss)
      unfolding Builds-to take_samples closed_by build_from
      refusing h {r} e =
          let v : Building = record { build = counted_with w.build w.build.anchor (Some r); times = w.times; places = w.places } in
          let t : take_sample depth w s ≡ v = taking h ∙ rw (e, st.count) in
          let n : k + 1 + 1 + length ss ≡ k + 1 + suc (length ss) = omega arith in
          ap (λ (x : Building). built_in depth (take_samples depth x ss)) t
          ∙ ap (built_in depth) (count_all depth ss v (record { some = omega (arith, st.count); shut = refl; low = omega (arith, st.low, st.few); room = st.room }) ls (omega (arith, st.count)))
          ∙ built_is (grown depth (length ss) v)
          ∙ rw (st.count, n, e)

      closing : leb depth (k + 1) ≡ false → {i : RateInterval} {a : Anchor} → close (k + 1) w.build.anchor s ≡ Ok (record { interval = i; anchor = a })
          → ((v : Building) → Standing (k + 1) (is ++ (i ∷ [])) v → Builds-to (k + 1) (is ++ (i ∷ [])) v ss) → Builds-to k is w (s ∷ ss)
      unfolding Builds-to take_samples closed_by build_from
      closing h {i} {a} e again =
          let v : Building = record { build = counted_with w.build a w.build.refusal; times = store_times w.times k i; places = store_places w.places k i } in
          let m : w.build.samples - 1 ≡ k = omega (arith, st.count) in
          let t : take_sample depth w s ≡ v = taking h ∙ rw (e, m) in
          let n : k + 1 + 1 + length ss ≡ k + 1 + suc (length ss) = omega arith in
          let d = leb-false depth (k + 1) h in
          let r = holds_room depth w.times w.places st.room in
          let far : Follows ((k + 1 + 1) * 2 ^ 42) (Ok (record { interval = i; anchor = a })) = rw e at follows in
          let stand : intervals_in (store_times w.times k i) (store_places w.places k i) 0 (k + 1) ≡ is ++ (i ∷ []) =
          rw add-one (store_adds w.times w.places k i (omega (arith, r.of_times)) (omega (arith, r.of_places)) k 0 (omega arith) ∙ ap (λ (js : List RateInterval). js ++ (i ∷ [])) st.stand) in
          ap (λ (x : Building). built_in depth (take_samples depth x ss)) t
          ∙ again v (record { count = ap (λ (x : ℕ). x + 1) st.count; few = omega arith; accepted = st.accepted; low = far; room = room_holds depth _ _ (store_room w.times w.places k i depth r); stand = stand })
          ∙ rw (n, e, prepended_then)

  module _ (shallow : depth ≤ 2 ^ 20) where
    builds : (ss : List Sample) (k : ℕ) (is : List RateInterval) (w : Building) → Standing k is w → Low ss → k + 1 + length ss < 2 ^ 63 → Builds-to k is w ss
    builds [] k is w st l small = at_end shallow k is w st
    builds (s ∷ ss) k is w st l small =
        by (λ js v f. builds ss (k + 1) js v f l.1 (omega arith)) (leb depth (k + 1)) refl (close (k + 1) w.build.anchor s) refl
      where
        by : ((js : List RateInterval) (v : Building) → Standing (k + 1) js v → Builds-to (k + 1) js v ss) → (b : Bool) → leb depth (k + 1) ≡ b
            → (x : Result Closed Refusal) → close (k + 1) w.build.anchor s ≡ x → Builds-to k is w (s ∷ ss)
        by again true h x e = past_depth shallow k is w st s ss l.0 l.1 small h
        by again false h (Err r) e = refusing shallow k is w st s ss l.0 l.1 small h e
        by again false h (Ok c) e = closing shallow k is w st s ss l.0 l.1 small h e (again (is ++ (c.interval ∷ [])))

    -- from no sample on
    module _ (times : List Float) (places : List ℕ) (h : holds depth times places ≡ true) where
      abbrev empty : Building
      empty = record { build = no_sample; times = times; places = places }

      first_sample : (s : Sample) → s.ticks < 2 ^ 42 → take_sample depth empty s ≡ counted empty (anchor_at s)
      unfolding take_sample
      first_sample s l = rw (in_range_of depth no_sample s l (omega arith) (omega arith), h)

      pub samples_build : (ss : List Sample) → Low ss → length ss < 2 ^ 63 → built_in depth (take_samples depth empty ss) ≡ build depth ss
      unfolding take_samples build answer_of intervals_in Builds-to
      samples_build [] l small = rw (le-ltb depth 0 (omega arith))
      samples_build (s ∷ ss) l small =
          let n : 1 + length ss ≡ suc (length ss) = omega arith in
          let begun : Standing 0 [] (counted empty (anchor_at s)) = record { count = refl; few = omega arith; accepted = refl; low = omega (arith, l.0); room = h; stand = refl } in
          ap (λ (x : Building). built_in depth (take_samples depth x ss)) (first_sample s l.0)
          ∙ builds ss 0 [] (counted empty (anchor_at s)) begun l.1 (omega arith)
          ∙ rw (n, prepended_nil)
