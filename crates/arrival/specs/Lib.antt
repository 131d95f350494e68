-- The definitions of `arrival`: the clock from its samples, times on it, the samples of a recording, the intervals and their
-- building in lent work, the bounds of the clock's figures, and document 01's figures.
pub mod ArrivalClock
pub mod Times
pub mod Samples
pub mod Work
pub mod Pass
pub mod Bounds
pub mod Figures
