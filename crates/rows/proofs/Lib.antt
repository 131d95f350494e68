-- What is stored and read of the rows.
pub mod Parts
pub mod Views
