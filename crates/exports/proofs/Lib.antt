-- The laws of the boundary.
pub mod Order
pub mod Steps
pub mod Content
