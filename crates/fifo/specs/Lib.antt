-- The definitions of the FIFO, document 01's figures for it, and the bounds of its figures.
pub mod FluidFifo
pub mod Figures
pub mod Bounds
