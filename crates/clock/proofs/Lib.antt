-- The laws of `clock`: of `nearest`, the search, the extended timestamp, the PCR step, and the figures.
pub mod Nearest
pub mod Search
pub mod Extend
pub mod Step
pub mod Figures
