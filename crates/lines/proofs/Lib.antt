-- The laws of texts that are written, and of decimal digits.
pub mod Written
pub mod Decimal
pub mod Lines
pub mod Fields
pub mod Example
