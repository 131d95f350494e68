-- The laws of the profile.
pub mod Ranges
pub mod Search
pub mod Copies
pub mod Within
pub mod Sizes
pub mod Ownership
pub mod Figures
