-- The definition of `header`: what a replay asks of every packet's header.
pub mod Header
