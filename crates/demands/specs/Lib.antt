-- The conditions under which a replay is refused, what holds of its state, and what is asked of an accepted one.
pub mod Refused
pub mod State
pub mod Accepted
pub mod Leak
