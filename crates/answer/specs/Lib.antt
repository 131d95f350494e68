-- What a replay answers.
pub mod Answer
