-- The definitions of the profile.
pub mod Range
pub mod Model
pub mod Config
pub mod Limits
pub mod Work
pub mod Owner
pub mod Figures
