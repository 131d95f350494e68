-- A parse in words, as the comparison names them: 8 of the header, 10 of the adaptation field and 8 of its extension. A value of
-- an optional part is told as the number above it, and 0 where the part is not there; flags stand from the greatest weight on.
use Rattle.std.specs.Prelude.{ℕ, ◌+◌, ◌-◌, ◌*◌, ◌%◌, ◌^◌, ℤ, List, [], ◌∷◌, replicate, Option, Some, None, is_some, Result, Ok, Err}
use Rattle.packet.specs.declared.ClockReference.{ClockReference}
use Rattle.packet.specs.declared.PrivateData.{PrivateData}
use Rattle.packet.specs.declared.Ltw.{Ltw}
use Rattle.packet.specs.declared.SeamlessSplice.{SeamlessSplice}
use Rattle.packet.specs.declared.AdaptationFieldExtension.{AdaptationFieldExtension}
use Rattle.packet.specs.declared.AdaptationField.{AdaptationField}
use Rattle.packet.specs.declared.TsPacket.{TsPacket}
use Rattle.packet.specs.declared.TsError.{TsError}
use Rattle.leaves.specs.Leaves.{Leaf, flag_word, plus_one, word_of, twos_complement}

unfoldable pub clock_words : Option ClockReference → ℕ × ℕ
clock_words (Some c) = (plus_one c.base, plus_one c.extension)
clock_words None = (0, 0)

-- the eight bits of the countdown
unfoldable pub countdown_word : Option ℤ → ℕ
countdown_word (Some n) = plus_one (twos_complement n % 256)
countdown_word None = 0

-- the data's place in the packet, whose header has four bytes, and their length as it is
unfoldable pub private_words : Option PrivateData → ℕ × ℕ
private_words (Some d) = ((d.start + 5) % 2 ^ 64, d.len)
private_words None = (0, 0)

unfoldable pub ltw_words : Option Ltw → ℕ × ℕ
ltw_words (Some l) = (plus_one (flag_word l.valid), plus_one l.offset)
ltw_words None = (0, 0)

unfoldable pub splice_words : Option SeamlessSplice → ℕ × ℕ
splice_words (Some s) = (plus_one s.splice_type, plus_one s.dts_next_au)
splice_words None = (0, 0)

unfoldable pub present_extension : AdaptationFieldExtension → List ℕ
present_extension e =
    1 ∷ e.length
    ∷ (4 * flag_word (is_some e.ltw) + 2 * flag_word (is_some e.piecewise_rate) + flag_word (is_some e.seamless_splice))
    ∷ (ltw_words e.ltw).0 ∷ (ltw_words e.ltw).1
    ∷ word_of e.piecewise_rate
    ∷ (splice_words e.seamless_splice).0 ∷ (splice_words e.seamless_splice).1 ∷ []

unfoldable pub extension_words : Option AdaptationFieldExtension → List ℕ
extension_words (Some e) = present_extension e
extension_words None = replicate 8 0

unfoldable pub field_flags : AdaptationField → ℕ
field_flags f =
    128 * flag_word f.discontinuity_indicator
    + 64 * flag_word f.random_access_indicator
    + 32 * flag_word f.elementary_stream_priority_indicator
    + 16 * flag_word (is_some f.pcr)
    + 8 * flag_word (is_some f.opcr)
    + 4 * flag_word (is_some f.splice_countdown)
    + 2 * flag_word (is_some f.transport_private_data)
    + flag_word (is_some f.adaptation_field_extension)

unfoldable pub present_field : AdaptationField → List ℕ
present_field f =
    1 ∷ f.length ∷ field_flags f
    ∷ (clock_words f.pcr).0 ∷ (clock_words f.pcr).1
    ∷ (clock_words f.opcr).0 ∷ (clock_words f.opcr).1
    ∷ countdown_word f.splice_countdown
    ∷ (private_words f.transport_private_data).0 ∷ (private_words f.transport_private_data).1
    ∷ extension_words f.adaptation_field_extension

unfoldable pub field_words : Option AdaptationField → List ℕ
field_words (Some f) = present_field f
field_words None = replicate 18 0

unfoldable pub packet_words : TsPacket → List ℕ
packet_words p =
    p.pid
    ∷ flag_word p.payload_unit_start ∷ flag_word p.transport_error ∷ flag_word p.transport_priority
    ∷ p.transport_scrambling_control ∷ p.continuity_counter
    ∷ p.payload_start ∷ (188 - p.payload_start)
    ∷ field_words p.adaptation_field

-- 0 and the packet; 1, what is there and what is needed; 2 and the byte that is no sync byte
unfoldable pub parse_leaf : Result TsPacket TsError → Leaf
parse_leaf (Ok p) = record { number = 0; words = packet_words p }
parse_leaf (Err (TsError.Truncated t)) = record { number = 1; words = t.have ∷ t.need ∷ [] }
parse_leaf (Err (TsError.BadSyncByte b)) = record { number = 2; words = b ∷ [] }
