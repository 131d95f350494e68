-- The definitions of the summary: the violation of an event, the report made from the slots, and the keys that can occur.
pub mod Violation
pub mod Summary
pub mod Keys
pub mod Next
