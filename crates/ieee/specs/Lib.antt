-- Definitions that contracts and bounds mention.
pub mod Binary64
pub mod MaxMin
pub mod Value
pub mod Interval
pub mod Rounding
pub mod Whole
pub mod Progress
pub mod Units
