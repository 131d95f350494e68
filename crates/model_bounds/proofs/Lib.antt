-- The laws of a chain's bounds: its parts, and then the chain. Callers cite Chain, Times and Loops.
pub mod Open
pub mod Steps
pub mod MainStep
pub mod VideoStep
pub mod Times
pub mod Arrive
pub mod Chain
pub mod Loops
