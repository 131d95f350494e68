-- What it is for a chain of the replay to be within bounds, as records over the definitions of `model`.
pub mod Times
pub mod Chain
pub mod Loops
