-- The laws of `arrival_clock`. Callers cite Clock (the answer and the work) and Facts (the samples by what is read of a recording);
-- the others serve the proofs.
pub mod Absent
pub mod Stretch
pub mod Turns
pub mod Clock
pub mod Facts
