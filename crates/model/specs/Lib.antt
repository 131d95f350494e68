-- The definition of the replay, and of a chain of it.
pub mod Chain
pub mod Replay
