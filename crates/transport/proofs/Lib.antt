-- The laws of `transport`. Callers cite Arrivals; Payloads and Ways serve the proofs.
pub mod Payloads
pub mod Ways
pub mod Arrivals
