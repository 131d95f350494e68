-- The definitions of the report: violations, the report and recording.
pub mod Violation
pub mod Keys
pub mod Report
pub mod Record
pub mod Example
