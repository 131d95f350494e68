-- The laws of the summary: how violations of a slot merge, the keys that can occur, and that the report made from the slots is the one that recording
-- every event makes.
pub mod Merge
pub mod Shared
pub mod OfKind
pub mod Next
pub mod Keys
pub mod Order
pub mod Lines
pub mod Reached
pub mod Agree
pub mod Summed
