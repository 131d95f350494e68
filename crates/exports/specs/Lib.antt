-- What a call of the C boundary answers.
pub mod Exports
