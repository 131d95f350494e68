-- The laws of pass 2, and of the replay around it.
pub mod Rest
pub mod ChainIs
pub mod Buffers
pub mod Owning
pub mod Skipping
pub mod Rows
pub mod Cleared
pub mod Going
pub mod Steps
pub mod Turns
pub mod Scanned
pub mod Moves
pub mod Looping
pub mod Ending
pub mod Sound
pub mod Core
