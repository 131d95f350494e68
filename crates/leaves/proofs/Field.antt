-- The lengths of the words of an adaptation field and of its extension. Assumes nothing.
use Rattle.std.proofs.Common.{◌≡◌, length, refl, Option, Some, None}
use Rattle.packet.specs.declared.AdaptationFieldExtension.{AdaptationFieldExtension}
use Rattle.packet.specs.declared.AdaptationField.{AdaptationField}
use Rattle.leaves.specs.Packet.{present_extension, extension_words, present_field, field_words}

pub extension_length : (x : Option AdaptationFieldExtension) → length (extension_words x) ≡ 8
unfolding extension_words present_extension
extension_length (Some e) = refl
extension_length None = refl

pub field_length : (x : Option AdaptationField) → length (field_words x) ≡ 18
unfolding field_words present_field
field_length (Some f) = rw (extension_length f.adaptation_field_extension)
field_length None = refl
