-- The laws of the replay's events. Callers cite Sound.
pub mod Cases
pub mod Busy
pub mod Events
pub mod MainEvents
pub mod VideoEvents
pub mod Chain
pub mod Streams
pub mod Legal
pub mod Sound
pub mod Replays
