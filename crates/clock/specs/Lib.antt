-- The definitions of `clock`: timestamps, PCRs, and document 01's figures.
pub mod Timestamp
pub mod Pcr
pub mod Figures
