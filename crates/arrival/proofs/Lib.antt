-- The laws of `arrival`. Callers cite Covering (the cursor and the packets' times), Answers and Frame (pass 1 and its work),
-- Within and DecodeTimes (bounds), and Passing (packets that do not speak of the clock); the others serve the proofs.
pub mod Cursors
pub mod Covering
pub mod Stamps
pub mod Taking
pub mod Passing
pub mod Build
pub mod Packets
pub mod Frame
pub mod Quotients
pub mod Rates
pub mod Within
pub mod DecodeTimes
pub mod Answers
pub mod Figures
