-- The replay on what a caller lends.
pub mod Analyze
pub mod Answers
pub mod Chains
