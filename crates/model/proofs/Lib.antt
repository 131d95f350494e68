-- What is proved of the replay's definition.
pub mod Refusals
