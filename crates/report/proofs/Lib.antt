-- The laws of violations and of the report, which callers cite.
pub mod Keys
pub mod Merge
pub mod Tags
pub mod Lines
pub mod Commute
pub mod Search
pub mod Fold
pub mod Example
