-- The bounds of the branches, as records over the definitions of `branch`.
pub mod Runs
pub mod Events
pub mod Units
pub mod Marks
pub mod Video
pub mod Main
pub mod Sys
pub mod Figures
