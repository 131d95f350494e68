-- A profile is read by its words that count alone; and a count above its limit is number 1 whether it is refused here or by
-- the replay. Assumes nothing.
use Prim.Native.Nat.{ℕ, ◌≤◌, ◌<◌}
use mathlib.Core.Path.{◌≡◌, refl, sym, ap, ◌∙◌}
use mathlib.Core.Bool.{Bool, true, false, cond, ◌&&◌}
use mathlib.Core.List.{List}
use native.Mathlib.Omega.{arith}
use lib.ListN.{length, get_or}
use Rattle.std.specs.Prelude.{Ok, Err}
use Rattle.std.specs.List.{list_all, range_with_len}
use Rattle.std.proofs.lemmas.List.Folds.{list_all-map}
use lib.Dec.{eqb, leb}
use borrow.Author.Tests.{eqb-false, leb-true}
use Rattle.error.specs.declared.Refusal.{Refusal}
use Rattle.profile.specs.declared.model.TStdBranch.TheVariants.{Main, Video}
use Rattle.profile.specs.declared.config.TStdConfig.{TStdConfig}
use Rattle.profile.specs.declared.limits.Limits.{Limits}
use Rattle.profile.specs.declared.work.WorkSize.{WorkSize}
use Rattle.profile.specs.Range.{max_streams, max_system_pids}
use Rattle.profile.specs.Work.{check_of}
use Rattle.std.proofs.lemmas.Bool.{and_parts}
use Rattle.profile.proofs.Within.{limits_within}
use Rattle.profile.proofs.Sizes.{check_outside}
use Rattle.words.specs.Config.{profile_len, slot_word, system_word, pid_fits, slot_fits, slots_fit, system_fits, profile_fits, branch_of, stream_at, slot_streams, slot_pids, config_at, config_of}
use Rattle.words.specs.Counted.{SlotAlike, Alike}
use Rattle.words.proofs.UpTo.{map_alike}
use Rattle.words.proofs.Profile.{Fits, never_true, fits}

-- ---- a count above its limit
module _ (ws : List ℕ) where
  refused : (Fits ws → ⊥) → config_of ws ≡ Err Refusal.OutsideLimits
  unfolding config_of
  refused h = rw (never_true (profile_fits ws) (λ e. h (fits ws e)))

  pub streams_above : max_streams < get_or ws 1 0 → config_of ws ≡ Err Refusal.OutsideLimits
  streams_above h = refused (λ f. omega (arith, f.streams))

  pub system_above : max_system_pids < get_or ws 2 0 → config_of ws ≡ Err Refusal.OutsideLimits
  system_above h = refused (λ f. omega (arith, f.system))

module _ (limits : Limits) (c : TStdConfig) (lent : WorkSize) (recording : ℕ) where
  pub replay_streams_above : max_streams < c.stream_count → check_of limits c lent recording ≡ Err Refusal.OutsideLimits
  replay_streams_above h =
      check_outside limits c lent recording (never_true _ (λ e. omega (arith, (limits_within limits c e).stream_count)))

  pub replay_system_above : max_system_pids < c.system_count → check_of limits c lent recording ≡ Err Refusal.OutsideLimits
  replay_system_above h =
      check_outside limits c lent recording (never_true _ (λ e. omega (arith, (limits_within limits c e).system_count)))

-- ---- the words that count
all_alike : (p q : ℕ → Bool) (n : ℕ) → ((i : ℕ) → i < n → p i ≡ q i) → list_all p (range_with_len 0 n) ≡ list_all q (range_with_len 0 n)
all_alike p q n h =
    sym (list_all-map (λ (b : Bool). b) p (range_with_len 0 n))
    ∙ ap (list_all (λ (b : Bool). b)) (map_alike p q n h)
    ∙ list_all-map (λ (b : Bool). b) q (range_with_len 0 n)

and_alike : (a b c : Bool) → (a ≡ true → b ≡ c) → a && b ≡ a && c
and_alike true b c h = h refl
and_alike false b c h = refl

cond_alike : {A : Type 0} (t : Bool) (x y z : A) → (t ≡ true → x ≡ y) → cond t x z ≡ cond t y z
cond_alike true x y z h = h refl
cond_alike false x y z h = refl

branch_alike : (k a b c d e : ℕ) → ((k ≡ 0 → ⊥) → b ≡ d) → ((k ≡ 0 → ⊥) → c ≡ e) → branch_of k a b c ≡ branch_of k a d e
unfolding branch_of
branch_alike k a b c d e f g = by_kind (eqb k 0) refl
  where
    by_kind : (t : Bool) → eqb k 0 ≡ t → cond t (Main a) (Video a b c) ≡ cond t (Main a) (Video a d e)
    by_kind true h = refl
    by_kind false h = rw (f (eqb-false k 0 h), g (eqb-false k 0 h))

module _ (ws vs : List ℕ) (i : ℕ) (s : SlotAlike ws vs i) where
  slot_fits_alike : slot_fits ws i ≡ slot_fits vs i
  unfolding slot_fits
  slot_fits_alike = rw (s.pid, s.kind)

  stream_alike : stream_at ws i ≡ stream_at vs i
  unfolding stream_at
  stream_alike =
      rw (branch_alike (slot_word ws i 2) (slot_word ws i 3) (slot_word ws i 4) (slot_word ws i 5) (slot_word vs i 4) (slot_word vs i 5) s.second s.third, s.pid, s.rx, s.kind, s.first)

module _ (ws vs : List ℕ) (a : Alike ws vs) where
  pcr : get_or ws 0 0 ≡ get_or vs 0 0
  pcr = a.head 0 (omega arith)

  streams : get_or ws 1 0 ≡ get_or vs 1 0
  streams = a.head 1 (omega arith)

  system : get_or ws 2 0 ≡ get_or vs 2 0
  system = a.head 2 (omega arith)

  slots_fit_alike : get_or ws 1 0 ≤ max_streams → slots_fit ws (get_or ws 1 0) ≡ slots_fit vs (get_or ws 1 0)
  unfolding slots_fit
  slots_fit_alike h =
      all_alike (slot_fits ws) (slot_fits vs) (get_or ws 1 0) (λ i l. slot_fits_alike ws vs i (a.slots i (omega arith) l))

  system_fits_alike : get_or ws 2 0 ≤ max_system_pids → system_fits ws (get_or ws 2 0) ≡ system_fits vs (get_or ws 2 0)
  unfolding system_fits
  system_fits_alike h =
      all_alike (λ (i : ℕ). pid_fits (system_word ws i)) (λ (i : ℕ). pid_fits (system_word vs i)) (get_or ws 2 0) (λ i l. ap pid_fits (a.system i (omega arith) l))

  config_alike : Fits ws → config_at ws ≡ config_at vs
  unfolding config_at slot_streams slot_pids
  config_alike f =
      let n = f.streams in
      let m = f.system in
      rw (map_alike (stream_at ws) (stream_at vs) (get_or ws 1 0) (λ i l. stream_alike ws vs i (a.slots i (omega arith) l)), map_alike (system_word ws) (system_word vs) (get_or ws 2 0) (λ i l. a.system i (omega arith) l), pcr, streams, system, a.head 3 (omega arith), a.head 4 (omega arith))

  abbrev tests : Bool
  tests = eqb (length ws) profile_len && leb (get_or ws 1 0) max_streams && leb (get_or ws 2 0) max_system_pids

  counts : tests ≡ true → (get_or ws 1 0 ≤ max_streams) × (get_or ws 2 0 ≤ max_system_pids)
  counts e =
      let two = (and_parts (eqb (length ws) profile_len && leb (get_or ws 1 0) max_streams) (leb (get_or ws 2 0) max_system_pids) e).0 in
      (leb-true (get_or ws 1 0) max_streams (and_parts (eqb (length ws) profile_len) (leb (get_or ws 1 0) max_streams) two).1, leb-true (get_or ws 2 0) max_system_pids (and_parts (eqb (length ws) profile_len && leb (get_or ws 1 0) max_streams) (leb (get_or ws 2 0) max_system_pids) e).1)

  fits_alike : profile_fits ws ≡ profile_fits vs
  unfolding profile_fits
  fits_alike =
      let n = get_or ws 1 0 in
      let m = get_or ws 2 0 in
      let front = tests && pid_fits (get_or ws 0 0) in
      let slots = and_alike front (slots_fit ws n) (slots_fit vs n) (λ e. slots_fit_alike (counts (and_parts tests (pid_fits (get_or ws 0 0)) e).0).0) in
      let pids = and_alike (front && slots_fit vs n) (system_fits ws m) (system_fits vs m) (λ e. system_fits_alike (counts (and_parts tests (pid_fits (get_or ws 0 0)) (and_parts front (slots_fit vs n) e).0).0).1) in
      ap (λ (b : Bool). b && system_fits ws m) slots ∙ pids ∙ rw (a.size, pcr, streams, system)

  -- slots past the counts, and the two spare words of a main stream, are not looked at
  pub read_alike : config_of ws ≡ config_of vs
  unfolding config_of
  read_alike =
      cond_alike (profile_fits ws) (Ok (config_at ws)) (Ok (config_at vs)) (Err Refusal.OutsideLimits) (λ e. ap Ok (config_alike (fits ws e)))
      ∙ rw fits_alike
