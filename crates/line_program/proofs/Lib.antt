-- The laws of the line program.
pub mod Line
