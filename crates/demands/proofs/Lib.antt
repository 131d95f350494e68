-- The laws of the replay's definition. Callers cite Refused (each number and acceptance, both ways), Accepted and Loops; Runs and Ends have the bounds
-- of any state that a replay reaches.
pub mod Clock
pub mod Ends
pub mod Passes
pub mod Ways
pub mod Refused
pub mod Found
pub mod State
pub mod Runs
pub mod Violations
pub mod Keys
pub mod Accepted
pub mod Loops
