-- The words of a profile: what it says that they fit, slot by slot, and how the tests in order find it. Assumes nothing.
use Prim.Native.Nat.{ℕ, ◌+◌, ◌*◌, ◌≤◌, ◌<◌}
use mathlib.Core.Path.{◌≡◌, refl, sym, ap, ◌∙◌}
use mathlib.Core.Bool.{Bool, true, false, ◌&&◌}
use mathlib.Core.List.{List}
use native.Mathlib.Nat.{add-zero}
use native.Mathlib.Omega.{arith}
use lib.ListN.{length, get_or}
use lib.Dec.{eqb, leb}
use borrow.Author.Tests.{eqb-true, leb-true, eq-eqb, ne_eqb, le-leb}
use Rattle.std.proofs.lemmas.Bool.{and_parts, and_from}
use Rattle.std.specs.Prelude.{Option, Some, None}
use Rattle.std.specs.Option.{ok_or}
use Rattle.error.specs.declared.Refusal.{Refusal}
use Rattle.profile.specs.declared.config.TStdConfig.{TStdConfig}
use Rattle.profile.specs.Range.{max_streams, max_system_pids}
use Rattle.words.specs.Config.{profile_len, slot_word, pid_fits, slot_fits, slots_fit, system_fits, profile_fits, branch_of, stream_at, config_at, config_of, SomeIf}

-- what a profile that fits has
pub record Fits (ws : List ℕ) : Type 0 where
  pub size : length ws ≡ profile_len
  pub streams : get_or ws 1 0 ≤ max_streams
  pub system : get_or ws 2 0 ≤ max_system_pids
  pub pcr : get_or ws 0 0 < 65536
  pub slots : slots_fit ws (get_or ws 1 0) ≡ true
  pub pids : system_fits ws (get_or ws 2 0) ≡ true

pub never_true : (b : Bool) → (b ≡ true → ⊥) → b ≡ false
never_true true h = absurd (h refl)
never_true false h = refl

pub and_no : (a : Bool) {b : Bool} → b ≡ false → a && b ≡ false
and_no true e = e
and_no false e = refl

module _ (ws : List ℕ) (i : ℕ) where
  first : slot_word ws i 0 ≡ get_or ws (5 + 6 * i) 0
  first = ap (λ (n : ℕ). get_or ws n 0) (add-zero (5 + 6 * i))

  slot_fits_lem : leb (get_or ws (5 + 6 * i) 0) 65535 && leb (get_or ws (5 + 6 * i + 2) 0) 1 ≡ slot_fits ws i
  unfolding slot_fits
  slot_fits_lem = ap (λ (n : ℕ). leb n 65535 && leb (slot_word ws i 2) 1) (sym first)

  pub no_pid : pid_fits (get_or ws (5 + 6 * i) 0) ≡ false → slot_fits ws i ≡ false
  no_pid e = sym slot_fits_lem ∙ rw e refl

  pub no_kind : leb (get_or ws (5 + 6 * i + 2) 0) 1 ≡ false → slot_fits ws i ≡ false
  no_kind e = sym slot_fits_lem ∙ and_no (pid_fits (get_or ws (5 + 6 * i) 0)) e

  pub slot_both : pid_fits (get_or ws (5 + 6 * i) 0) ≡ true → leb (get_or ws (5 + 6 * i + 2) 0) 1 ≡ true → slot_fits ws i ≡ true
  slot_both p k = sym slot_fits_lem ∙ and_from (pid_fits (get_or ws (5 + 6 * i) 0)) (leb (get_or ws (5 + 6 * i + 2) 0) 1) p k

  pub stream_is : record { pid = get_or ws (5 + 6 * i) 0; model = record { rx_bps = slot_word ws i 1; branch = branch_of (slot_word ws i 2) (slot_word ws i 3) (slot_word ws i 4) (slot_word ws i 5) } } ≡ stream_at ws i
  unfolding stream_at
  stream_is =
      ap
      (λ (n : ℕ). record { pid = n; model = record { rx_bps = slot_word ws i 1; branch = branch_of (slot_word ws i 2) (slot_word ws i 3) (slot_word ws i 4) (slot_word ws i 5) } })
      (sym first)

module _ (ws : List ℕ) where
  pub fits : profile_fits ws ≡ true → Fits ws
  unfolding profile_fits
  fits e =
      let a = eqb (length ws) 69 in
      let b = leb (get_or ws 1 0) 8 in
      let d = leb (get_or ws 2 0) 16 in
      let f = leb (get_or ws 0 0) 65535 in
      let g = slots_fit ws (get_or ws 1 0) in
      let five = (and_parts (a && b && d && f && g) (system_fits ws (get_or ws 2 0)) e).0 in
      let four = (and_parts (a && b && d && f) g five).0 in
      let three = (and_parts (a && b && d) f four).0 in
      let two = (and_parts (a && b) d three).0 in
      record {
        size = eqb-true (length ws) 69 (and_parts a b two).0;
        streams = leb-true (get_or ws 1 0) 8 (and_parts a b two).1;
        system = leb-true (get_or ws 2 0) 16 (and_parts (a && b) d three).1;
        pcr = let p = leb-true (get_or ws 0 0) 65535 (and_parts (a && b && d) f four).1 in omega arith;
        slots = (and_parts (a && b && d && f) g five).1;
        pids = (and_parts (a && b && d && f && g) (system_fits ws (get_or ws 2 0)) e).1;
      }

  pub no_pcr : pid_fits (get_or ws 0 0) ≡ false → profile_fits ws ≡ false
  no_pcr e = never_true (profile_fits ws) (λ t. let p = le-leb (get_or ws 0 0) 65535 (omega (arith, (fits t).pcr)) in cc)

  pub no_streams : leb (get_or ws 1 0) 8 && slots_fit ws (get_or ws 1 0) ≡ false → profile_fits ws ≡ false
  no_streams e =
      never_true (profile_fits ws) (λ t. let p = and_from (leb (get_or ws 1 0) 8) (slots_fit ws (get_or ws 1 0)) (le-leb (get_or ws 1 0) 8 (fits t).streams) (fits t).slots in cc)

  pub no_system : leb (get_or ws 2 0) 16 && system_fits ws (get_or ws 2 0) ≡ false → profile_fits ws ≡ false
  no_system e =
      never_true (profile_fits ws) (λ t. let p = and_from (leb (get_or ws 2 0) 16) (system_fits ws (get_or ws 2 0)) (le-leb (get_or ws 2 0) 16 (fits t).system) (fits t).pids in cc)

  pub other_length : (length ws ≡ 69 → ⊥) → false ≡ profile_fits ws
  unfolding profile_fits
  other_length h = rw (ne_eqb (length ws) 69 h)

  module _ (size : length ws ≡ 69) where
    pub by_slots : get_or ws 1 0 ≤ 8 → get_or ws 2 0 ≤ 16 → leb (get_or ws 0 0) 65535 && slots_fit ws (get_or ws 1 0) && system_fits ws (get_or ws 2 0) ≡ profile_fits ws
    unfolding profile_fits
    by_slots n m = rw (eq-eqb (length ws) 69 size, le-leb (get_or ws 1 0) 8 n, le-leb (get_or ws 2 0) 16 m)

    pub all_fit : pid_fits (get_or ws 0 0) ≡ true → leb (get_or ws 1 0) 8 && slots_fit ws (get_or ws 1 0) ≡ true → leb (get_or ws 2 0) 16 && system_fits ws (get_or ws 2 0) ≡ true → profile_fits ws ≡ true
    all_fit p s q =
        let n = and_parts (leb (get_or ws 1 0) 8) (slots_fit ws (get_or ws 1 0)) s in
        let m = and_parts (leb (get_or ws 2 0) 16) (system_fits ws (get_or ws 2 0)) q in
        sym (by_slots (leb-true (get_or ws 1 0) 8 n.0) (leb-true (get_or ws 2 0) 16 m.0))
        ∙ and_from (pid_fits (get_or ws 0 0) && slots_fit ws (get_or ws 1 0)) (system_fits ws (get_or ws 2 0))
        (and_from (pid_fits (get_or ws 0 0)) (slots_fit ws (get_or ws 1 0)) p n.1)
        m.1

  -- what reading the words gives, or the refusal
  pub told : (r : Option TStdConfig) → SomeIf (profile_fits ws) (config_at ws) r → ok_or r Refusal.OutsideLimits ≡ config_of ws
  unfolding config_of
  told None h = rw h refl
  told (Some c) h = rw (h.0, h.1) refl
