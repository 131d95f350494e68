-- The laws of `header`.
pub mod Headers
