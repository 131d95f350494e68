-- The text of an answer, and a text in the memory that a caller lends.
pub mod Decimal
pub mod Text
pub mod Written
pub mod Example
