-- The words of the C boundary.
pub mod Bits
pub mod Config
pub mod Counted
pub mod Profile
pub mod Row
pub mod Report
pub mod Answer
