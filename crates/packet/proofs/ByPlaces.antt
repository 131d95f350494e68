-- The definitions of the adaptation field by the bytes and places that the code keeps.
-- Assumes nothing.
use Prim.Native.Nat.{ℕ, ◌+◌, ◌-◌, ◌*◌, ◌/◌, ◌%◌, ◌^◌, ◌≤◌, ◌<◌}
use Prim.Native.String.{String}
use mathlib.Core.Path.{◌≡◌, refl, sym, ap, ap₂, ◌∙◌}
use mathlib.Core.List.{List}
use mathlib.Core.Bool.{Bool, true, false, cond, false≢true, true≢false}
use native.Mathlib.Omega.{arith}
use native.Mathlib.Nat.{sub-zero, div-one}
use lib.Dec.{eqb, ltb}
use lib.ListN.{length, get_or}
use borrow.Author.Tests.{lt-ltb, le-ltb, ne_eqb}
use Rattle.syntax.specs.Bits.{bits}
use Rattle.syntax.specs.Table.{field, offset}
use Rattle.syntax.specs.AdaptationField.{has_flags, table_2_6, dts_next_au}
use Rattle.syntax.specs.TimeStamp.{stamp33}
use Rattle.syntax.proofs.Bits.{byte, within}
use Rattle.syntax.proofs.Bytes.{Bytes}
use Rattle.syntax.proofs.AdaptationField as laws
use Rattle.packet.specs.AdaptationField.{cut, read, is_set, place, extended, wants, room_of, data_room, extension_room, extension_fields_room, extension_end, extension_of, adaptation_field_of, field_room, tcimsbf8}
use Rattle.packet.specs.Places.{Flagged, Placed, Extended, clock_at, private_data_at, ltw_at, splice_at}
use Rattle.packet.specs.declared.Places.{Places}
use Rattle.packet.specs.declared.Truncated.{Truncated}
use Rattle.packet.specs.declared.ClockReference.{ClockReference}
use Rattle.packet.specs.declared.PrivateData.{PrivateData}
use Rattle.packet.specs.declared.Ltw.{Ltw}
use Rattle.packet.specs.declared.SeamlessSplice.{SeamlessSplice}
use Rattle.std.specs.Prelude.{Option, Some, None, Result, Ok, Err, is_some, IfSome, IsErrAnd, ⊤}
use Rattle.std.specs.Result.{result_and}
use Rattle.std.proofs.lemmas.Result.{err_from_is_err_and}
use Rattle.packet.proofs.Fields as fields

-- a choice by another test, and what it gives where the test holds
pub same_choice : {A : Type 0} (p q : Bool) (x y z : A) → p ≡ q → (p ≡ true → x ≡ y) → cond p x z ≡ cond q y z
same_choice true true x y z e h = h refl
same_choice true false x y z e h = absurd (true≢false e)
same_choice false true x y z e h = absurd (false≢true e)
same_choice false false x y z e h = refl

byte_of : (o a : ℕ) → o ≡ 8 * a → o / 8 ≡ a
byte_of o a e = omega arith

-- what `then` gives
pub then_is : {A : Type 0} (on : Bool) (r : Option A) (v : A) → is_some r ≡ on → IfSome r (λ x. x ≡ v) → r ≡ cond on (Some v) None
then_is true (Some x) v e p = ap Some p
then_is true None v e p = absurd (false≢true e)
then_is false (Some x) v e p = absurd (true≢false e)
then_is false None v e p = refl

-- what a `?` hands on
pub handed_on : {T E : Type 0} (r : Result T E) {e : E} → IsErrAnd r (λ x. x ≡ e) → r ≡ Err e
handed_on r p =
    let q = err_from_is_err_and r p in
    q.1 ∙ ap Err q.2

-- nothing else is asked
and_done : (r : Result ⊤ Truncated) → result_and r (Ok tt) ≡ r
and_done (Ok x) = refl
and_done (Err t) = refl

-- a demand by another test, place and count, before what else is asked
wants_by : (limit a b n m : ℕ) (p q : Bool) (rest : Result ⊤ Truncated) → p ≡ q → (p ≡ true → a ≡ b) → (p ≡ true → n ≡ m)
    → wants limit p a n rest ≡ result_and (wants limit q b m (Ok tt)) rest
unfolding wants
wants_by limit a b n m true true rest e f g = rw (f refl, g refl) (go (ltb limit (b + m)))
  where
    go : (t : Bool) → cond {A = Result ⊤ Truncated} t (Err (cut (limit - b) m)) rest ≡ result_and (cond {A = Result ⊤ Truncated} t (Err (cut (limit - b) m)) (Ok tt)) rest
    go true = refl
    go false = refl
wants_by limit a b n m true false rest e f g = absurd (true≢false e)
wants_by limit a b n m false true rest e f g = absurd (false≢true e)
wants_by limit a b n m false false rest e f g = refl

pub no_wants : (limit a n : ℕ) (p : Bool) (rest : Result ⊤ Truncated) → p ≡ false → wants limit p a n rest ≡ rest
unfolding wants
no_wants limit a n p rest e = rw e

module _ (s : List ℕ) (h : Bytes s) where
  -- the byte of flags
  module _ (f : ℕ) (k : Flagged s f) where
    pub has_flags_lem : has_flags (field table_2_6 s) ≡ true
    has_flags_lem = laws.has_flags_lem s (h 0) k.some

    -- bit a of it
    flag_bit : (a : ℕ) {v : ℕ} → v ≡ cond (has_flags (field table_2_6 s)) (bits s (8 + a) 1) 0 → a < 8 → eqb v 1 ≡ eqb (f / 2 ^ (7 - a) % 2) 1
    flag_bit a e l = rw k.flags (ap (λ (x : ℕ). eqb x 1) (laws.flag_byte s a e has_flags_lem l))

    discontinuity_on : is_set s "discontinuity_indicator" ≡ eqb (f / 128 % 2) 1
    discontinuity_on = flag_bit 0 (laws.discontinuity_indicator s) (omega arith)

    random_access_on : is_set s "random_access_indicator" ≡ eqb (f / 64 % 2) 1
    random_access_on = flag_bit 1 (laws.random_access_indicator s) (omega arith)

    priority_on : is_set s "elementary_stream_priority_indicator" ≡ eqb (f / 32 % 2) 1
    priority_on = flag_bit 2 (laws.elementary_stream_priority_indicator s) (omega arith)

    pub pcr_on : is_set s "PCR_flag" ≡ eqb (f / 16 % 2) 1
    pcr_on = flag_bit 3 (laws.pcr_flag s) (omega arith)

    pub opcr_on : is_set s "OPCR_flag" ≡ eqb (f / 8 % 2) 1
    opcr_on = flag_bit 4 (laws.opcr_flag s) (omega arith)

    pub countdown_on : is_set s "splicing_point_flag" ≡ eqb (f / 4 % 2) 1
    countdown_on = flag_bit 5 (laws.splicing_point_flag s) (omega arith)

    pub private_on : is_set s "transport_private_data_flag" ≡ eqb (f / 2 % 2) 1
    private_on = flag_bit 6 (laws.transport_private_data_flag s) (omega arith)

    pub extension_on : is_set s "adaptation_field_extension_flag" ≡ eqb (f % 2) 1
    extension_on = flag_bit 7 (laws.adaptation_field_extension_flag s) (omega arith) ∙ rw (div-one f)

    module _ (p : Places) (at : Placed s p) where
      pub private_count : is_set s "transport_private_data_flag" ≡ true → read s "transport_private_data_length" ≡ get_or s p.private_length 0
      private_count on = fields.private_length s on ∙ rw (at.private on) (byte s p.private_length (h p.private_length))

      private_start : is_set s "transport_private_data_flag" ≡ true → place s "private_data_byte" ≡ p.private_length + 1
      private_start on =
          byte_of (offset table_2_6 s "private_data_byte") (p.private_length + 1) (fields.private_bytes s on ∙ rw (at.private on) (omega arith))

      pub room_by : room_of s
          ≡ result_and (wants (length s) (eqb (f / 16 % 2) 1) 2 6 (Ok tt))
          (result_and (wants (length s) (eqb (f / 8 % 2) 1) p.opcr 6 (Ok tt))
          (result_and (wants (length s) (eqb (f / 4 % 2) 1) p.splice_countdown 1 (Ok tt))
          (result_and (wants (length s) (eqb (f / 2 % 2) 1) p.private_length 1 (Ok tt))
          (result_and (wants (length s) (eqb (f / 2 % 2) 1) (p.private_length + 1) (get_or s p.private_length 0) (Ok tt))
          (extension_room s)))))
      unfolding room_of data_room
      room_by =
          rw (
            wants_by (length s) (place s "program_clock_reference_base") 2 6 6 (is_set s "PCR_flag") (eqb (f / 16 % 2) 1) _ pcr_on
                (λ on. byte_of (offset table_2_6 s "program_clock_reference_base") 2 (fields.at_pcr s has_flags_lem h on)) (λ on. refl),
            wants_by (length s) (place s "original_program_clock_reference_base") p.opcr 6 6 (is_set s "OPCR_flag") (eqb (f / 8 % 2) 1) _ opcr_on
                (λ on. byte_of (offset table_2_6 s "original_program_clock_reference_base") p.opcr (at.opcr on)) (λ on. refl),
            wants_by (length s) (place s "splice_countdown") p.splice_countdown 1 1 (is_set s "splicing_point_flag") (eqb (f / 4 % 2) 1) _
                countdown_on (λ on. byte_of (offset table_2_6 s "splice_countdown") p.splice_countdown (at.splice on)) (λ on. refl),
            wants_by (length s) (place s "transport_private_data_length") p.private_length 1 1 (is_set s "transport_private_data_flag")
                (eqb (f / 2 % 2) 1) _ private_on
                (λ on. byte_of (offset table_2_6 s "transport_private_data_length") p.private_length (at.private on)) (λ on. refl),
            wants_by (length s) (place s "private_data_byte") (p.private_length + 1) (read s "transport_private_data_length")
                (get_or s p.private_length 0) (is_set s "transport_private_data_flag") (eqb (f / 2 % 2) 1) _ private_on private_start private_count,
          )

      -- a clock reference that is there from byte a on, by its flag and the place that the table gives it
      clock : (b e o : ℕ) (on : Bool) (a : ℕ) → b ≡ cond on (bits s o 33) 0 → e ≡ cond on (bits s (o + 39) 9) 0 → on ≡ true → o ≡ 8 * a
          → ◌≡◌ {A = Option ClockReference} (Some (record { base = b; extension = e })) (Some (clock_at s a))
      clock b e o on a eb ee set q = rw (eb, ee, set, q)

      private_data : {a b n m : ℕ} → a ≡ b → n ≡ m → ◌≡◌ {A = Option PrivateData} (Some (record { start = a; len = n })) (Some (record { start = b; len = m }))
      private_data e f = λ i. Some (record { start = e i; len = f i })

      pub field_by : adaptation_field_of s
          ≡ record {
            length = get_or s 0 0;
            discontinuity_indicator = eqb (f / 128 % 2) 1;
            random_access_indicator = eqb (f / 64 % 2) 1;
            elementary_stream_priority_indicator = eqb (f / 32 % 2) 1;
            pcr =
                cond (eqb (f / 16 % 2) 1) (Some (clock_at s 2))
                None;
            opcr =
                cond (eqb (f / 8 % 2) 1)
                (Some (clock_at s p.opcr))
                None;
            splice_countdown =
                cond (eqb (f / 4 % 2) 1) (Some (tcimsbf8 (bits s (8 * p.splice_countdown) 8)))
                None;
            transport_private_data =
                cond (eqb (f / 2 % 2) 1) (Some (private_data_at s p.private_length))
                None;
            adaptation_field_extension =
                cond (is_set s "adaptation_field_extension_flag") (Some (extension_of s)) None;
          }
      unfolding adaptation_field_of
      field_by =
          λ i.
          record {
            length = (laws.adaptation_field_length s ∙ byte s 0 (h 0)) i;
            discontinuity_indicator = discontinuity_on i;
            random_access_indicator = random_access_on i;
            elementary_stream_priority_indicator = priority_on i;
            pcr =
                same_choice (is_set s "PCR_flag") (eqb (f / 16 % 2) 1) _ _ None pcr_on
                (λ on. clock _ _ _ _ 2 (laws.program_clock_reference_base s) (laws.program_clock_reference_extension s) on (fields.pcr_place s has_flags_lem h))
                i;
            opcr =
                same_choice (is_set s "OPCR_flag") (eqb (f / 8 % 2) 1) _ _ None opcr_on
                (λ on. clock _ _ _ _ p.opcr (laws.original_program_clock_reference_base s) (laws.original_program_clock_reference_extension s) on
                (sym (fields.opcr_offset s on) ∙ at.opcr on)) i;
            splice_countdown =
                same_choice (is_set s "splicing_point_flag") (eqb (f / 4 % 2) 1) _ _ None countdown_on
                (λ on. ap (λ (v : ℕ). Some (tcimsbf8 v)) (fields.countdown_read s on ∙ ap (λ (o : ℕ). bits s o 8) (at.splice on)))
                i;
            transport_private_data =
                same_choice (is_set s "transport_private_data_flag") (eqb (f / 2 % 2) 1) _ _ None private_on
                (λ on. private_data (private_start on) (fields.private_length s on ∙ ap (λ (o : ℕ). bits s o 8) (at.private on))) i;
            adaptation_field_extension =
                cond (is_set s "adaptation_field_extension_flag") (Some (extension_of s)) None;
          }

  -- without an extension there is nothing to test
  pub no_extension_room : is_set s "adaptation_field_extension_flag" ≡ false → extension_room s ≡ Ok tt
  unfolding extension_room extension_fields_room wants
  no_extension_room e = rw e

  -- the extension that begins at byte d, with its count of bytes and its byte of flags g
  module _ (d : ℕ) (x : Extended s d) where
    abbrev count : ℕ
    count = get_or s d 0

    count_read : read s "adaptation_field_extension_length" ≡ count
    count_read = fields.extension_length s x.set d x.place ∙ byte s d (h d)

    flags_start : place s "ltw_flag" ≡ d + 1
    flags_start = byte_of (offset table_2_6 s "ltw_flag") (d + 1) (fields.ltw_flag_offset s x.set d x.place ∙ omega arith)

    end_is : extension_end s ≡ d + 1 + count
    end_is = ap₂ ◌+◌ flags_start count_read

    pub extension_room_by : extension_room s
        ≡ result_and (wants (length s) true d 1 (Ok tt)) (result_and (wants (length s) true (d + 1) count (Ok tt)) (extension_fields_room s))
    unfolding extension_room
    extension_room_by =
        rw (
          wants_by (length s) (place s "adaptation_field_extension_length") d 1 1 (is_set s "adaptation_field_extension_flag") true _ x.set
              (λ on. byte_of (offset table_2_6 s "adaptation_field_extension_length") d x.place) (λ on. refl),
          wants_by (length s) (place s "ltw_flag") (d + 1) (read s "adaptation_field_extension_length") count
              (is_set s "adaptation_field_extension_flag") true _ x.set (λ on. flags_start) (λ on. count_read),
        )

    -- one of length 0 has no flags
    unflagged : count ≡ 0 → (n : String) → extended s n ≡ false
    unflagged z n = rw (x.set, count_read, z)

    pub empty_extension : count ≡ 0
        → extension_of s
        ≡ record {
          length = 0;
          ltw = None;
          piecewise_rate = None;
          seamless_splice = None;
        }
    unfolding extension_of
    empty_extension z =
        rw (unflagged z "ltw_flag", unflagged z "piecewise_rate_flag", unflagged z "seamless_splice_flag", count_read, z)

    pub empty_room : count ≡ 0 → extension_fields_room s ≡ Ok tt
    unfolding extension_fields_room wants
    empty_room z = rw (unflagged z "ltw_flag", unflagged z "piecewise_rate_flag", unflagged z "seamless_splice_flag")

    module _ (some : 0 < count) (g : ℕ) (flags : g ≡ get_or s (d + 1) 0) where
      flagged : (n : String) (a : ℕ) → a + 1 ≤ 8 → read s n ≡ bits s (8 * (d + 1) + a) 1 → is_set s n ≡ eqb (g / 2 ^ (8 - a - 1) % 2) 1
      flagged n a l e = rw flags (ap (λ (v : ℕ). eqb v 1) (e ∙ within s (d + 1) a 1 l))

      pub ltw_on : is_set s "ltw_flag" ≡ eqb (g / 128 % 2) 1
      ltw_on = flagged "ltw_flag" 0 (omega arith) (fields.ltw_flag s x.set d x.place ∙ ap (λ (o : ℕ). bits s o 1) (omega arith))

      pub rate_on : is_set s "piecewise_rate_flag" ≡ eqb (g / 64 % 2) 1
      rate_on = flagged "piecewise_rate_flag" 1 (omega arith) (fields.rate_flag s x.set d x.place ∙ ap (λ (o : ℕ). bits s o 1) (omega arith))

      pub splice_on : is_set s "seamless_splice_flag" ≡ eqb (g / 32 % 2) 1
      splice_on = flagged "seamless_splice_flag" 2 (omega arith) (fields.splice_flag s x.set d x.place ∙ ap (λ (o : ℕ). bits s o 1) (omega arith))

      extended_is : (n : String) → extended s n ≡ is_set s n
      extended_is n = rw (x.set, count_read, lt-ltb 0 count some)

      module _ (rate splice : ℕ) (rate-is : rate ≡ cond (eqb (g / 128 % 2) 1) (d + 2 + 2) (d + 2))
          (splice-is : splice ≡ cond (eqb (g / 64 % 2) 1) (rate + 3) rate) where
        at_rate_lem : fields.at_rate s x.set d x.place ≡ rate
        at_rate_lem = rw (ltw_on, rate-is)

        at_splice_lem : fields.at_splice s x.set d x.place ≡ splice
        at_splice_lem = rw (at_rate_lem, rate_on, splice-is)

        pub extension_fields_room_by : (end : ℕ) → end ≡ d + 1 + count → extension_fields_room s
            ≡ result_and (wants end (eqb (g / 128 % 2) 1) (d + 2) 2 (Ok tt))
            (result_and (wants end (eqb (g / 64 % 2) 1) rate 3 (Ok tt)) (wants end (eqb (g / 32 % 2) 1) splice 5 (Ok tt)))
        unfolding extension_fields_room
        extension_fields_room_by end e =
            rw (
              end_is,
              ← e,
              extended_is "ltw_flag",
              extended_is "piecewise_rate_flag",
              extended_is "seamless_splice_flag",
              wants_by end (place s "ltw_valid_flag") (d + 2) 2 2 (is_set s "ltw_flag") (eqb (g / 128 % 2) 1) _ ltw_on
                  (λ on. byte_of (offset table_2_6 s "ltw_valid_flag") (d + 2) (fields.ltw_offset s x.set d x.place on)) (λ on. refl),
              wants_by end (place s "piecewise_rate") rate 3 3 (is_set s "piecewise_rate_flag") (eqb (g / 64 % 2) 1) _ rate_on
                  (λ on. inside (offset table_2_6 s "piecewise_rate") rate (fields.rate_offset s x.set d x.place on ∙ rw at_rate_lem)) (λ on. refl),
              wants_by end (place s "splice_type") splice 5 5 (is_set s "seamless_splice_flag") (eqb (g / 32 % 2) 1) _ splice_on
                  (λ on. byte_of (offset table_2_6 s "splice_type") splice (fields.splice_offset s x.set d x.place on ∙ rw at_splice_lem)) (λ on. refl),
              and_done (wants end (eqb (g / 32 % 2) 1) splice 5 (Ok tt)),
            )
          where
            inside : (o a : ℕ) → o ≡ 8 * a + 2 → o / 8 ≡ a
            inside o a e = omega arith

        ltw_by : cond {A = Option Ltw} (extended s "ltw_flag") (Some (record { valid = is_set s "ltw_valid_flag"; offset = read s "ltw_offset" })) None
            ≡ cond (eqb (g / 128 % 2) 1) (Some (ltw_at s (d + 2))) None
        ltw_by =
            rw (extended_is "ltw_flag")
            (same_choice (is_set s "ltw_flag") (eqb (g / 128 % 2) 1) _ _ _ ltw_on
            (λ on i. Some (record { valid = eqb (fields.ltw_valid s x.set d x.place on i) 1; offset = fields.ltw_read s x.set d x.place on i })))

        rate_by : cond (extended s "piecewise_rate_flag") (Some (read s "piecewise_rate")) None
            ≡ cond (eqb (g / 64 % 2) 1) (Some (bits s (8 * rate + 2) 22)) None
        rate_by =
            rw (extended_is "piecewise_rate_flag")
            (same_choice (is_set s "piecewise_rate_flag") (eqb (g / 64 % 2) 1) _ _ _ rate_on
            (λ on. ap Some (fields.rate_read s x.set d x.place on ∙ rw at_rate_lem)))

        splice_by : cond {A = Option SeamlessSplice} (extended s "seamless_splice_flag") (Some (record { splice_type = read s "splice_type"; dts_next_au = dts_next_au s })) None
            ≡ cond (eqb (g / 32 % 2) 1)
            (Some (splice_at s splice))
            None
        unfolding dts_next_au stamp33
        splice_by =
            rw (extended_is "seamless_splice_flag")
            (same_choice (is_set s "seamless_splice_flag") (eqb (g / 32 % 2) 1) _ _ _ splice_on
            (λ on. rw (
              fields.splice_type s x.set d x.place on,
              fields.dts_high s x.set d x.place on,
              fields.dts_middle s x.set d x.place on,
              fields.dts_low s x.set d x.place on,
              at_splice_lem,
            )))

        pub extension_by : extension_of s
            ≡ record {
              length = count;
              ltw =
                  cond (eqb (g / 128 % 2) 1) (Some (ltw_at s (d + 2))) None;
              piecewise_rate =
                  cond (eqb (g / 64 % 2) 1) (Some (bits s (8 * rate + 2) 22)) None;
              seamless_splice =
                  cond (eqb (g / 32 % 2) 1)
                  (Some (splice_at s splice))
                  None;
            }
        unfolding extension_of
        extension_by =
            λ i. record { length = count_read i; ltw = ltw_by i; piecewise_rate = rate_by i; seamless_splice = splice_by i }

  -- the places, each by the one before it
  pub placed : (f : ℕ) (k : Flagged s f) (p : Places) → p.opcr ≡ cond (eqb (f / 16 % 2) 1) (2 + 6) 2
      → p.splice_countdown ≡ cond (eqb (f / 8 % 2) 1) (p.opcr + 6) p.opcr
      → p.private_length ≡ cond (eqb (f / 4 % 2) 1) (p.splice_countdown + 1) p.splice_countdown
      → p.extension ≡ cond (eqb (f / 2 % 2) 1) (p.private_length + (1 + get_or s p.private_length 0)) p.private_length
      → p.opcr ≤ 8 → p.splice_countdown ≤ 14 → p.private_length ≤ 15 → p.extension ≤ 271 → Placed s p
  placed f k p e1 e2 e3 e4 l1 l2 l3 l4 =
      let long = has_flags_lem f k in
      let a1 : fields.at_opcr s long h ≡ p.opcr = rw (pcr_on f k) (sym e1) in
      let a2 : fields.at_countdown s long h ≡ p.splice_countdown = rw (a1, opcr_on f k) (sym e2) in
      let a3 : fields.at_private s long h ≡ p.private_length = rw (a2, countdown_on f k) (sym e3) in
      let a4 : fields.at_extension s long h ≡ p.extension = rw (a3, private_on f k) (sym e4) in
      record {
        opcr = λ on. fields.at_opcr_lem s long h on ∙ rw a1;
        splice = λ on. fields.at_countdown_lem s long h on ∙ rw a2;
        private = λ on. fields.at_private_lem s long h on ∙ rw a3;
        extension = λ on. fields.at_extension_lem s long h on ∙ rw a4;
        opcr_near = l1;
        splice_near = l2;
        private_near = l3;
        extension_near = l4;
      }

  no_room : is_set s "PCR_flag" ≡ false → is_set s "OPCR_flag" ≡ false → is_set s "splicing_point_flag" ≡ false
      → is_set s "transport_private_data_flag" ≡ false → is_set s "adaptation_field_extension_flag" ≡ false → room_of s ≡ Ok tt
  unfolding room_of data_room wants
  no_room a b c d e = rw (a, b, c, d) (no_extension_room e)

  -- a field with no part but a PCR, and room for that
  pub pcr_room : (f : ℕ) → Flagged s f → f % 16 ≡ 0 → 8 ≤ length s → room_of s ≡ Ok tt
  unfolding room_of data_room wants
  pcr_room f k z l =
      rw (
        wants_by (length s) (place s "program_clock_reference_base") 2 6 6 (is_set s "PCR_flag") (is_set s "PCR_flag") _ refl
            (λ on. byte_of (offset table_2_6 s "program_clock_reference_base") 2 (fields.at_pcr s (has_flags_lem f k) h on)) (λ on. refl),
        no_wants (length s) _ 6 _ _ (opcr_on f k ∙ ne_eqb (f / 8 % 2) 1 (λ e. omega arith)),
        no_wants (length s) _ 1 _ _ (countdown_on f k ∙ ne_eqb (f / 4 % 2) 1 (λ e. omega arith)),
        no_wants (length s) _ 1 _ _ none,
        no_wants (length s) _ _ _ _ none,
        no_extension_room (extension_on f k ∙ ne_eqb (f % 2) 1 (λ e. omega arith)),
        enough (is_set s "PCR_flag"),
      )
    where
      none : is_set s "transport_private_data_flag" ≡ false
      none = private_on f k ∙ ne_eqb (f / 2 % 2) 1 (λ e. omega arith)

      enough : (q : Bool) → wants (length s) q 2 6 (Ok tt) ≡ Ok tt
      enough true = rw (le-ltb (length s) 8 l)
      enough false = refl

  -- the length byte
  length_is : read s "adaptation_field_length" ≡ get_or s 0 0
  length_is = laws.adaptation_field_length s ∙ byte s 0 (h 0)

  -- a field of length 0 has no flags
  module _ (z : get_or s 0 0 ≡ 0) where
    zero_length : read s "adaptation_field_length" ≡ 0
    zero_length = length_is ∙ z

    short : has_flags (field table_2_6 s) ≡ false
    short = rw zero_length

    pub empty_field_room : field_room s ≡ Ok tt
    unfolding field_room
    empty_field_room =
        no_wants (length s) 0 2 (ltb 0 (read s "adaptation_field_length")) (room_of s) short
        ∙ no_room (fields.no_pcr s short) (fields.no_opcr s short) (fields.no_splicing s short) (fields.no_private s short) (fields.no_extension s short)

    pub empty_field : adaptation_field_of s
        ≡ record {
          length = 0;
          discontinuity_indicator = false;
          random_access_indicator = false;
          elementary_stream_priority_indicator = false;
          pcr = None;
          opcr = None;
          splice_countdown = None;
          transport_private_data = None;
          adaptation_field_extension = None;
        }
    unfolding adaptation_field_of
    empty_field =
        rw (
          zero_length,
          fields.no_discontinuity s short,
          fields.no_random_access s short,
          fields.no_priority s short,
          fields.no_pcr s short,
          fields.no_opcr s short,
          fields.no_splicing s short,
          fields.no_private s short,
          fields.no_extension s short,
        )

  module _ (some : 0 < get_or s 0 0) where
    long : ltb 0 (read s "adaptation_field_length") ≡ true
    long = rw length_is (lt-ltb 0 (get_or s 0 0) some)

    pub short_field_room : length s < 2 → field_room s ≡ Err (cut (length s) 2)
    unfolding field_room wants
    short_field_room l = rw (long, lt-ltb (length s) 2 l, sub-zero (length s))

    pub flagged_field_room : 2 ≤ length s → field_room s ≡ room_of s
    unfolding field_room wants
    flagged_field_room l = rw (long, le-ltb (length s) 2 l)
