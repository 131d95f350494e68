-- The output of the line program.
pub mod Output
