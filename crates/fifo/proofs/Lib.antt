-- The laws of the FIFO.
pub mod Stretch
pub mod Figures
pub mod Bounds
