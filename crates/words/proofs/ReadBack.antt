-- A configuration is read back from the words that a caller writes for it. Assumes nothing.
use Prim.Native.Nat.{ℕ, zero, suc, ◌+◌, ◌*◌, ◌≤◌, ◌<◌}
use mathlib.Core.Path.{◌≡◌, refl, sym, ap, ◌∙◌}
use mathlib.Core.Bool.{true, ◌&&◌}
use mathlib.Core.List.{List, [], ◌∷◌, ◌++◌, map, flat_map, append_assoc}
use native.Mathlib.Nat.{add_assoc, mul-suc, mul-zero, zero-add}
use native.Mathlib.Omega.{arith}
use lib.ListN.{length, take, get_or, length-append, get_or-append}
use lib.Seq.{length-take-le, get_or-take, get_or-append-add}
use lib.Dec.{leb}
use Rattle.std.specs.Prelude.{Ok}
use Rattle.std.specs.List.{range_with_len}
use Rattle.std.proofs.lemmas.List.FromFn.{fill_by_all}
use borrow.Author.Tests.{le-leb}
use Rattle.profile.specs.declared.model.TStdBranch.{TStdBranch}
use Rattle.profile.specs.declared.model.TStdBranch.TheVariants.{Main, Video}
use Rattle.profile.specs.declared.config.TStdStream.{TStdStream}
use Rattle.profile.specs.declared.config.TStdConfig.{TStdConfig}
use Rattle.profile.specs.Config.{unused_stream}
use Rattle.std.proofs.lemmas.Bool.{and_from}
use Rattle.words.specs.Config.{profile_len, slot_word, system_word, pid_fits, slot_fits, slots_fit, system_fits, profile_fits, branch_of, stream_at, slot_streams, slot_pids, config_at, config_of}
use Rattle.words.specs.Profile.{branch_words, stream_words, profile_words, Plain}
use Rattle.words.proofs.UpTo.{map_alike, passes_all}
use Rattle.words.proofs.Stores.{flat_length}
use Rattle.words.proofs.Profile.{by_slots}

branch_size : (b : TStdBranch) → length (branch_words b) ≡ 4
unfolding branch_words
branch_size (Main size) = refl
branch_size (Video rbx mb eb) = refl

stream_size : (s : TStdStream) → length (stream_words s) ≡ 6
unfolding stream_words
stream_size s = ap (λ (n : ℕ). suc (suc n)) (branch_size s.model.branch)

-- word k of element i, where each has w words
flat_at : {A : Type 0} (f : A → List ℕ) (w : ℕ) → ((a : A) → length (f a) ≡ w) → (l : List A) (rest : List ℕ) (d : A) (i k : ℕ) → i < length l → k < w → get_or (flat_map f l ++ rest) (w * i + k) 0 ≡ get_or (f (get_or l i d)) k 0
unfolding flat_map
flat_at f w sized [] rest d i k h j = absurd (omega arith)
flat_at f w sized (a ∷ l) rest d zero k h j =
    rw (mul-zero w, zero-add k, append_assoc (f a) (flat_map f l) rest)
    (get_or-append (f a) (flat_map f l ++ rest) 0 k (rw (sized a) j))
flat_at f w sized (a ∷ l) rest d (suc i) k h j =
    let past : w * suc i + k ≡ length (f a) + (w * i + k) = omega (arith, mul-suc w i, sized a) in
    rw (past, append_assoc (f a) (flat_map f l) rest)
    (get_or-append-add (f a) (flat_map f l ++ rest) (w * i + k) 0 ∙ flat_at f w sized l rest d i k (omega arith) j)

branch_back : (b : TStdBranch) → branch_of (get_or (branch_words b) 0 0) (get_or (branch_words b) 1 0) (get_or (branch_words b) 2 0) (get_or (branch_words b) 3 0) ≡ b
unfolding branch_of branch_words
branch_back (Main size) = refl
branch_back (Video rbx mb eb) = refl

kind_most : (b : TStdBranch) → get_or (branch_words b) 0 0 ≤ 1
unfolding branch_words
kind_most (Main size) = omega arith
kind_most (Video rbx mb eb) = omega arith

map_get_or : {A : Type 0} (l : List A) (d : A) (n : ℕ) → n ≤ length l → map (λ (i : ℕ). get_or l i d) (range_with_len 0 n) ≡ take n l
map_get_or l d n h =
    sym (fill_by_all (λ (i : ℕ). get_or l i d) (take n l) n d (length-take-le n l h) (λ k j. get_or-take n l k d j))

module _ (c : TStdConfig) (p : Plain c) where
  abbrev ws : List ℕ
  ws = profile_words c

  slot_at : (i k : ℕ) → i < 8 → k < 6 → slot_word ws i k ≡ get_or (stream_words (get_or c.streams i unused_stream)) k 0
  unfolding profile_words
  slot_at i k h j =
      let head = c.pcr_pid ∷ c.stream_count ∷ c.system_count ∷ c.queue_depth ∷ c.clock_depth ∷ [] in
      rw (add_assoc 5 (6 * i) k, append_assoc head (flat_map stream_words c.streams) c.system_pids)
      (get_or-append-add head (flat_map stream_words c.streams ++ c.system_pids) (6 * i + k) 0
      ∙ flat_at stream_words 6 stream_size c.streams c.system_pids unused_stream i k (omega (arith, p.slots)) j)

  size : length ws ≡ profile_len
  unfolding profile_words
  size =
      let head = c.pcr_pid ∷ c.stream_count ∷ c.system_count ∷ c.queue_depth ∷ c.clock_depth ∷ [] in
      omega (arith, length-append (head ++ flat_map stream_words c.streams) c.system_pids, length-append head (flat_map stream_words c.streams), flat_length stream_words 6 stream_size c.streams, p.slots, p.system_slots)

  system_at : (i : ℕ) → system_word ws i ≡ get_or c.system_pids i 0
  unfolding profile_words
  system_at i =
      let head = c.pcr_pid ∷ c.stream_count ∷ c.system_count ∷ c.queue_depth ∷ c.clock_depth ∷ [] in
      let front = head ++ flat_map stream_words c.streams in
      let long : length front ≡ 53 = omega (arith, length-append head (flat_map stream_words c.streams), flat_length stream_words 6 stream_size c.streams, p.slots) in
      ap (λ (n : ℕ). get_or (front ++ c.system_pids) (n + i) 0) (sym long) ∙ get_or-append-add front c.system_pids i 0

  module _ (i : ℕ) (h : i < 8) where
    abbrev s : TStdStream
    s = get_or c.streams i unused_stream

    stream_at_lem : stream_at ws i ≡ s
    unfolding stream_at stream_words
    stream_at_lem =
        rw (slot_at i 0 h (omega arith), slot_at i 1 h (omega arith), slot_at i 2 h (omega arith), slot_at i 3 h (omega arith), slot_at i 4 h (omega arith), slot_at i 5 h (omega arith), branch_back s.model.branch)

    slot_fits_lem : s.pid < 65536 → slot_fits ws i ≡ true
    unfolding slot_fits stream_words
    slot_fits_lem l =
        rw (slot_at i 0 h (omega arith), slot_at i 2 h (omega arith))
        (and_from (leb s.pid 65535) (leb (get_or (branch_words s.model.branch) 0 0) 1) (le-leb s.pid 65535 (omega arith)) (le-leb (get_or (branch_words s.model.branch) 0 0) 1 (kind_most s.model.branch)))

  slots_fit_lem : slots_fit ws c.stream_count ≡ true
  unfolding slots_fit
  slots_fit_lem =
      passes_all (slot_fits ws) c.stream_count (λ i l. slot_fits_lem i (omega (arith, p.streams)) (p.pids i l))

  system_fits_lem : system_fits ws c.system_count ≡ true
  unfolding system_fits
  system_fits_lem =
      passes_all (λ (i : ℕ). pid_fits (system_word ws i)) c.system_count (λ i l. rw (system_at i) (le-leb (get_or c.system_pids i 0) 65535 (omega (arith, p.system_pids i l))))

  profile_fits_lem : profile_fits ws ≡ true
  unfolding profile_words
  profile_fits_lem =
      sym (by_slots ws size p.streams p.system)
      ∙ and_from (pid_fits c.pcr_pid && slots_fit ws c.stream_count) (system_fits ws c.system_count)
      (and_from (pid_fits c.pcr_pid) (slots_fit ws c.stream_count) (le-leb c.pcr_pid 65535 (omega (arith, p.pcr))) slots_fit_lem)
      system_fits_lem

  config_back : config_at ws ≡ c
  unfolding config_at slot_streams slot_pids profile_words
  config_back =
      let streams = map_alike (stream_at ws) (λ (i : ℕ). get_or c.streams i unused_stream) c.stream_count (λ i l. stream_at_lem i (omega (arith, p.streams))) in
      let pids = map_alike (system_word ws) (λ (i : ℕ). get_or c.system_pids i 0) c.system_count (λ i l. system_at i) in
      rw (streams, pids, map_get_or c.streams unused_stream c.stream_count (omega (arith, p.streams, p.slots)), map_get_or c.system_pids 0 c.system_count (omega (arith, p.system, p.system_slots)), ← p.unused, ← p.system_unused)

  pub read_back : config_of (profile_words c) ≡ Ok c
  unfolding config_of
  read_back = rw (profile_fits_lem, config_back)
